use Rattle.uca_key.proofs.Common.{◌≡◌, append_assoc, append-nil, arith}
use Rattle.uca_key.proofs.PlacingLemmas.{PutsAt-more}
use Rattle.uca_key.proofs.packed_levels.put_other_levels.Goals as goal

pub returns-then-last-eq2 : goal.returns-then-last-eq2
returns-then-last-eq2 c = rw c.if-last-eq2.true (simp append-nil c.put_later-next.ensures)

pub returns-then-last-eq3 : goal.returns-then-last-eq3
returns-then-last-eq3 c =
    let two = PutsAt-more _ _ _ _ _ _ _ _ c.requires.size c.put_later-next.ensures c.put_later-next-2.ensures in
    rw c.if-last-eq3.true (simp append-nil two)

pub returns-then-last-eq4 : goal.returns-then-last-eq4
returns-then-last-eq4 c =
    let two = PutsAt-more _ _ _ _ _ _ _ _ c.requires.size c.put_later-next.ensures c.put_later-next-2.ensures in
    let three = PutsAt-more _ _ _ _ _ _ _ _ c.requires.size two c.put_later-next-3.ensures in
    rw c.if-last-eq4.true (simp (append-nil, ← append_assoc) three)

pub returns : goal.returns
returns c =
    let two = PutsAt-more _ _ _ _ _ _ _ _ c.requires.size c.put_later-next.ensures c.put_later-next-2.ensures in
    let three = PutsAt-more _ _ _ _ _ _ _ _ c.requires.size two c.put_later-next-3.ensures in
    let four = PutsAt-more _ _ _ _ _ _ _ _ c.requires.size three c.put_later.ensures in
    let last : c.args.last ≡ 5 = omega (arith, c.requires.from, c.requires.to, c.if-last-eq2.false, c.if-last-eq3.false, c.if-last-eq4.false) in
    rw last (simp (append-nil, ← append_assoc) four)
