use Rattle.std.proofs.Common.{length, chars, IsUtf8, sym, subst, ap, ◌∙◌, arith}
use Rattle.std.proofs.lemmas.Str.{IsCharBoundary-from_drop}
use Rattle.uca_window.specs.PassageSource.{StandsIn}
use Rattle.uca_window.proofs.SourceLemmas.{IsCutBack, cut_back}
use Rattle.uca_window.proofs.passage_source.after_last.Goals as goal

pub split_at-requires : goal.split_at-requires
split_at-requires c = IsCharBoundary-from_drop c.args.text.now _ (omega arith) (subst IsUtf8 (sym c.requires.stands.bytes) c.requires.stands.utf8)

pub split_at-requires-2 : goal.split_at-requires-2
split_at-requires-2 c =
    (cut_back _ c.args.rest.now _ _ _ _ c.requires.stands c.requires.some (c.chars-front.ensures.rest ∙ c.split_at.ensures.front) c.next_back-last.ensures.steps c.as_str.ensures c.utf8.text c.as_str.utf8).boundary

back : (c : goal.After-chars) → IsCutBack c.args.text.now c.args.rest.now c.as_str.result.now
back c = cut_back _ c.args.rest.now _ _ _ _ c.requires.stands c.requires.some (c.chars-front.ensures.rest ∙ c.split_at.ensures.front) c.next_back-last.ensures.steps c.as_str.ensures c.utf8.text c.as_str.utf8

pub returns-clause-stands : goal.returns-clause-stands
returns-clause-stands c = subst (StandsIn _) (sym (c.chars.ensures.rest ∙ c.split_at-2.ensures.back)) (back c).stands

pub returns-clause-one_more : goal.returns-clause-one_more
returns-clause-one_more c = ap (λ b. length (chars b)) (c.chars.ensures.rest ∙ c.split_at-2.ensures.back) ∙ (back c).one_more
