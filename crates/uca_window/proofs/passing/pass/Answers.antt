use Rattle.std.proofs.Common.{not, ap, sym, ◌∙◌}
use Rattle.std.specs.List.{prefix_len}
use Rattle.std.specs.Str.Iter.{chars_rest}
use Rattle.uca_window.specs.Passing.{is_stop}
use Rattle.uca_window.proofs.PassedCharacters.{edge, passes-some}
use Rattle.uca_window.proofs.passing.pass.Goals as goal

pub split_at-requires : goal.split_at-requires
split_at-requires c = edge c.args.text.now _ (c.passed_len-passed.ensures ∙ ap (prefix_len (λ b. not (is_stop b))) c.as_bytes.ensures.value)

pub returns-in-Some : goal.returns-in-Some
returns-in-Some c =
    passes-some _ c.split_at.result.0.now c.split_at.result.1.now (chars_rest c.next_back.new.self) _ c.args.last c.in-Some.end c.split_at.ensures.front c.split_at.ensures.back c.utf8.text
    (c.passed_len-passed.ensures ∙ ap (prefix_len (λ b. not (is_stop b))) c.as_bytes.ensures.value) (sym c.chars.ensures.rest ∙ c.in-Some.ensures.steps)
