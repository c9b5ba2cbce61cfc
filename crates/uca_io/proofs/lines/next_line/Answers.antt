use Rattle.std.proofs.Common.{◌∷◌, ◌++◌, List, ℕ, take, sym, ap, ◌∙◌, arith, subst}
use Rattle.std.proofs.lemmas.List.{take_all}
use Rattle.uca_io.specs.Lines.{line_feed, IsOpen}
use Rattle.uca_io.proofs.LineLemmas.{first_feed, open_front}
use Rattle.uca_io.proofs.lines.next_line.Goals as goal

pub returns-then-end-text : goal.returns-then-end-text
returns-then-end-text c =
    let text = c.args.text.now in
    let end : ℕ = c.place_of-end.result in (
      first_feed text end c.place_of-end.ensures.value c.if-end-text.true ∙ ap (λ (xs : List ℕ). take end text ++ line_feed ∷ xs) (sym c.from_place.ensures.value),
      (open_front text end c.place_of-end.ensures.value c.place_of-end.ensures.within, omega (arith, c.from_place.ensures.len)),
    )

pub returns-else-end-text : goal.returns-else-end-text
returns-else-end-text c =
    let text = c.args.text.now in
    let end : ℕ = c.place_of-end.result in
    subst IsOpen (take_all end text (omega arith)) (open_front text end c.place_of-end.ensures.value c.place_of-end.ensures.within)
