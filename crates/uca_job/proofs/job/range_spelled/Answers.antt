use Rattle.std.proofs.Common.{arith, ◌≡◌, ◌≢◌, ◌∙◌, ℕ, List, [], ◌∷◌, Bool, true, false, Some, None, ap, refl, sym}
use Rattle.std.proofs.lemmas.Str.Pattern.{split_once_first, strip_prefix_char}
use Rattle.std.specs.Prelude.{option_and_then}
use Rattle.std.specs.List.{after_first, before_first}
use Rattle.uca_io.specs.Digits.{code_point}
use Rattle.uca_job.specs.CommandLine.{after_stop, both, is_stop}
use Rattle.uca_job.proofs.job.range_spelled.Goals as goal

-- nothing follows a full stop where none comes first
after_stop-none : (bs : List ℕ) → ((rest : List ℕ) → bs ≢ 0x2E ∷ rest) → after_stop bs ≡ None
after_stop-none [] none = refl
after_stop-none (b ∷ bs) none = go (is_stop b) refl
  where
    go : (stop : Bool) → is_stop b ≡ stop → after_stop (b ∷ bs) ≡ None
    go false e = rw e refl
    go true e = absurd (none bs (ap (λ x. x ∷ bs) (grind (arith, e))))

pub returns-in_err-last : goal.returns-in_err-last
returns-in_err-last c =
    let value = c.args.value.now in
    let rest = c.in_ok-first.rest.now in
    let none = strip_prefix_char 0x2E rest None c.in_err-last.ensures.cases (omega arith) in
    let split = split_once_first 0x2E value (Some (c.in_ok-first.first, c.in_ok-first.rest)) c.in_ok-first.ensures.cases (omega arith) in
    let after : after_stop (after_first is_stop value) ≡ None = ap after_stop (sym split.2) ∙ after_stop-none rest none in
    c.from_residual-in_err-last.ensures ∙ sym (ap (option_and_then (λ last. both (code_point (before_first is_stop value)) (code_point last))) after)
