use Rattle.std.proofs.Common.{◌≡◌, [], ◌∷◌, ◌++◌, chars, encode_utf8, sym, ap, subst, ◌∙◌}
use Rattle.std.proofs.lemmas.Str.{chars_past_char}
use Rattle.uca_model.specs.SafeText.{IsSafe}
use Rattle.uca_match.proofs.TextLemmas.{IsSafe-rest}
use Rattle.uca_match.proofs.stretch.put_implicit.Goals as goal

pub returns-clause-safe : goal.returns-clause-safe
returns-clause-safe c =
    let step : c.args.text.now ≡ encode_utf8 c.in_ok-c.c ++ c.as_str.result.now = sym c.chars-left.ensures.rest ∙ c.in_ok-c.ensures.steps.0 ∙ ap (λ u. encode_utf8 c.in_ok-c.c ++ u) (sym c.as_str.ensures) in
    IsSafe-rest (c.in_ok-c.c ∷ []) (chars c.as_str.result.now) (subst IsSafe (chars_past_char c.args.text.now c.as_str.result.now c.in_ok-c.c c.utf8.text step) c.requires.safe)
