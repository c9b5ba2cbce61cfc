use Rattle.std.proofs.Common.{◌≡◌, ℕ, ◌-◌, length, take, drop, arith, ◌∙◌, ap, ne_eqb, nat_lt, ◌&&◌, rules}
use Rattle.uca_io.specs.Counts.{counted}
use Rattle.std.proofs.lemmas.List.{take_all, length-drop}
use Rattle.uca_io.proofs.WriteLemmas.{Appends-next}
use Rattle.uca_io.proofs.writing.write_whole.Goals as goal

pub loop-at-preserved : goal.loop-at-preserved
loop-at-preserved g c =
    let bs = c.args.bytes.now in let at : ℕ = c.loop-at.at in
    let rest : take (length bs - at) (drop at bs) ≡ drop at bs = take_all (length bs - at) (drop at bs) (omega (arith, length-drop {A = ℕ})) in
    let some : length (take (length bs - at) (drop at bs)) ≡ length bs - at = ap length rest ∙ length-drop at bs in
    record {
      within = omega (arith, some, c.in-Ok.ensures.bound);
      front = Appends-next _ _ _ bs _ at c.in-Ok.n rest c.loop-at.invariant.front c.in-Ok.ensures.bytes;
      failures = c.in-Ok.ensures.failures ∙ c.loop-at.invariant.failures;
      zeros = c.in-Ok.ensures.zeros ∙ ap (λ b. counted (b && nat_lt 0 (length (take (length bs - at) (drop at bs)))) (g.W.Writer.state c.loop-at.w).zeros) (ne_eqb c.in-Ok.n 0 c.in-Ok.n-test.1) ∙ c.loop-at.invariant.zeros;
    }

pub returns-in-Err : goal.returns-in-Err
returns-in-Err g c = search rules
