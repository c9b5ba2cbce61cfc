use Rattle.std.proofs.Common.{All, chars, sym, subst, ◌∙◌, arith}
use Rattle.std.specs.Char.{IsScalar}
use Rattle.uca_weights.specs.declared.settings.Settings.{Settings}
use Rattle.uca_window.specs.Passage.{text_of}
use Rattle.uca_levels.proofs.ReadsLemmas.{from_ne, from_not_ne}
use Rattle.uca_levels.proofs.WithoutFront.{scalars-text}
use Rattle.uca_handle.proofs.LevelSteps.{orders-last, decides-here, none-next}
use Rattle.uca_handle.proofs.levels.decide.Goals as goal

pub returns-then-is_ne : goal.returns-then-is_ne
returns-then-is_ne c =
    let of_a : All IsScalar (text_of c.args.a.now) = subst (λ bs. All IsScalar (chars bs)) c.as_str-text_a.ensures.text (scalars-text _ c.as_str-text_a.utf8) in
    let of_b : All IsScalar (text_of c.args.b.now) = subst (λ bs. All IsScalar (chars bs)) c.as_str-text_b.ensures.text (scalars-text _ c.as_str-text_b.utf8) in
    let upto : Settings = record { strength = c.strength_of.result; weighting = c.args.s.weighting } in
    let same = c.compare-order.ensures ∙ orders-last c.args.t.now upto _ _ c.longest-longest.ensures.valid of_a of_b _ c.loop-level.invariant c.strength_of.ensures in
    let here = decides-here c.args.t.now c.args.s _ _ c.longest-longest.ensures.valid of_a of_b _ c.loop-level.invariant (omega arith) c.compare-order.result same (from_ne _ (sym c.is_ne.ensures ∙ c.if-is_ne.true)) in
    record { order = here.0; level = here.1 }

pub loop-level-preserved : goal.loop-level-preserved
loop-level-preserved c =
    let of_a : All IsScalar (text_of c.args.a.now) = subst (λ bs. All IsScalar (chars bs)) c.as_str-text_a.ensures.text (scalars-text _ c.as_str-text_a.utf8) in
    let of_b : All IsScalar (text_of c.args.b.now) = subst (λ bs. All IsScalar (chars bs)) c.as_str-text_b.ensures.text (scalars-text _ c.as_str-text_b.utf8) in
    let upto : Settings = record { strength = c.strength_of.result; weighting = c.args.s.weighting } in
    let same = c.compare-order.ensures ∙ orders-last c.args.t.now upto _ _ c.longest-longest.ensures.valid of_a of_b _ c.loop-level.invariant c.strength_of.ensures in
    none-next c.args.t.now c.args.s.weighting _ _ _ c.loop-level.invariant (sym same ∙ from_not_ne _ (sym c.is_ne.ensures ∙ c.if-is_ne.false))
