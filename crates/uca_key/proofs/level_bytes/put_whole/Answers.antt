use Rattle.uca_key.proofs.Common.{List, ℕ, refl, sym, append-nil, arith, Element, level_bytes, all_own}
use Rattle.uca_key.proofs.PlacingLemmas.{IsPutting-ends, IsPutting-more}
use Rattle.uca_key.proofs.level_bytes.put_whole.Goals as goal

pub put_few-next-requires-clause-room : goal.put_few-next-requires-clause-room
put_few-next-requires-clause-room c = omega (arith, c.fours.invariant.room, c.split_at.ensures.front_len, c.split_at.ensures.back_len)

pub fours-smaller : goal.fours-smaller
fours-smaller c = omega (arith, c.split_at.ensures.front_len, c.split_at.ensures.back_len, c.fours-test.true)

pub put_each-requires-2-clause-room : goal.put_each-requires-2-clause-room
put_each-requires-2-clause-room c = c.fours.invariant.room

pub returns : goal.returns
returns c =
    let bytes : List Element → List ℕ = λ es. level_bytes (all_own c.args.v es) c.args.level in
    IsPutting-ends c.args.at c.put_each-2.result c.args.out.now c.put_each-2.new.out (bytes c.args.elements.now) _
    (IsPutting-more c.args.at c.fours.next c.args.out.now c.fours.out _ _ c.fours.invariant.puts c.put_each-2.result c.put_each-2.new.out (bytes c.fours.left.now) _ c.requires.size (sym (append-nil (bytes c.fours.left.now))) c.put_each-2.ensures.puts)
    refl
