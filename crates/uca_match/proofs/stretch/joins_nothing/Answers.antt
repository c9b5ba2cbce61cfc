use Rattle.std.proofs.Common.{sym, ◌∙◌, inr, chars}
use Rattle.std.proofs.lemmas.Str.{chars_past_char}
use Rattle.std.specs.Str.Iter.{chars_rest}
use Rattle.uca_match.proofs.stretch.joins_nothing.Goals as goal

pub returns-in-Some : goal.returns-in-Some
returns-in-Some c = λ apart. inr (record {
  c = c.in-Some.c;
  later = chars (chars_rest c.next.new.self);
  same = chars_past_char _ _ _ c.utf8.text (sym c.chars.ensures.rest ∙ c.in-Some.ensures.steps.0);
  apart = c.joins_nothing.ensures apart;
})
