use Rattle.std.proofs.Common.{◌≡◌, Bool, true, false, ◌==◌, get_or, inl, inr, sym, arith}
use Rattle.std.proofs.lemmas.Bool.{cases_Bool}
use Rattle.std.proofs.lemmas.List.Sums.{position_or_len_is}
use Rattle.uca_io.proofs.lines.place_of.Goals as goal

false-from_not : (b : Bool) → ¬ (b ≡ true) → b ≡ false
false-from_not b other = elim (cases_Bool b) [ inl e ↦ absurd (other e) | inr e ↦ e ]

pub returns-in-Some-clause-value : goal.returns-in-Some-clause-value
returns-in-Some-clause-value c =
    let text = c.args.text.now in
    sym (position_or_len_is (λ b. b == c.args.byte) text c.in-Some.at 0 (omega (arith, c.in-Some.ensures.0.high))
    (λ k low. false-from_not (get_or text k 0 == c.args.byte) (c.in-Some.ensures.0.before k (omega arith) low)) (λ _. c.in-Some.ensures.1))

pub returns-in-None-clause-value : goal.returns-in-None-clause-value
returns-in-None-clause-value c =
    let text = c.args.text.now in
    sym (position_or_len_is (λ b. b == c.args.byte) text _ 0 (omega arith)
    (λ k low. false-from_not (get_or text k 0 == c.args.byte) (c.in-None.ensures k (omega arith) low)) (λ low. absurd (omega arith)))
