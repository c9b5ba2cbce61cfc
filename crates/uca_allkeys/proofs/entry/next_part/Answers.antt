use Rattle.std.proofs.Common.{arith, sym, ◌∷◌, take, ap, ◌∙◌, List, ℕ}
use Rattle.std.specs.List.{slice_split}
use Rattle.uca_model.specs.TableText.{is_right_bracket}
use Rattle.uca_io.proofs.WordLemmas.{split_first, split_none}
use Rattle.uca_allkeys.proofs.entry.next_part.Goals as goal

pub returns-then-end-text : goal.returns-then-end-text
returns-then-end-text c =
    let text = c.args.text.now in
    (split_first is_right_bracket text c.place_of-end.result c.place_of-end.ensures.value c.if-end-text.true ∙ ap (λ (xs : List ℕ). take c.place_of-end.result text ∷ slice_split is_right_bracket xs) (sym c.from_place.ensures.value), omega (arith, c.from_place.ensures.len))

pub returns-else-end-text : goal.returns-else-end-text
returns-else-end-text c = split_none is_right_bracket c.args.text.now (omega (arith, c.place_of-end.ensures.value))
