use Rattle.uca_table.proofs.Common.{◌≡◌, ◌+◌, ℕ, Bool, cond, take, sym, ap, ◌∙◌, arith, take_more, greatest, common_steps}
use Rattle.uca_table.proofs.WalkLemmas.{longest_match_len-stops}
use Rattle.uca_table.proofs.matching.longest_match.Goals as goal
use Rattle.uca_table.proofs.matching.longest_match.Goals.{then-is_found, else-is_found}

pub returns-then-not-append-clause-path : goal.returns-then-not-append-clause-path
returns-then-not-append-clause-path g c =
    c.loop-c.invariant.found
    ∙ ap (λ n. take n c.args.text.now) (longest_match_len-stops (g.P.Growing.is_key (g.P.Growing.set c.args.none)) c.args.text.now (g.P.Growing.path c.loop-c.points) c.loop-c.c-index c.c-item.result (omega (arith, c.loop-c-test.true)) c.loop-c.invariant.path c.c-item.is
    (λ key begins. ap (λ s. g.P.Growing.is_key s key) (sym c.loop-c.invariant.set) ∙ c.append.ensures.none c.if-not-append.true key begins))

-- the greatest number that passes a test, up to one number more
greatest-next : (p : ℕ → Bool) (i : ℕ) → greatest p (i + 1) ≡ cond (p (i + 1)) (i + 1) (greatest p i)
greatest-next p i = grind (arith, common_steps)

pub loop-c-preserved : goal.loop-c-preserved
loop-c-preserved g c = grind (arith, common_steps, take_more, then-is_found, greatest-next, else-is_found)
