use Rattle.std.proofs.Common.{◌≡◌, ℕ, List, chars, ap, ap₂, ◌∙◌}
use Rattle.uca_model.specs.SortKey.{key_order, sort_key}
use Rattle.uca_model.specs.Source.{SourceState}
use Rattle.uca_levels.proofs.WithoutFront.{keys-left, left-safe, scalars-text}
use Rattle.uca_levels.proofs.text_order.order_by_sources.Goals as goal

pub of_safe-requires : goal.of_safe-requires
of_safe-requires c = (left-safe _ _ _ _ _ c.without_front.ensures c.requires.safe_a c.requires.safe_b).0

pub of_safe-requires-2 : goal.of_safe-requires-2
of_safe-requires-2 c = (left-safe _ _ _ _ _ c.without_front.ensures c.requires.safe_a c.requires.safe_b).1

pub returns : goal.returns
returns c =
    let t = c.args.t.now in
    let s = c.args.s in
    let of_x : c.new-left.result.text ≡ _ = ap (λ (w : SourceState). w.text) c.new-left.ensures.value ∙ ap chars c.of_safe.ensures in
    let of_y : c.new-right.result.text ≡ _ = ap (λ (w : SourceState). w.text) c.new-right.ensures.value ∙ ap chars c.of_safe-2.ensures in
    c.compare_sources.ensures.order ∙ ap₂ (λ (u v : List ℕ). key_order (sort_key t s u) (sort_key t s v)) of_x of_y
    ∙ keys-left t s (chars c.args.a.now) (chars c.args.b.now) _ _ c.longest-longest.ensures.valid (scalars-text c.args.a.now c.utf8.a) (scalars-text c.args.b.now c.utf8.b) c.without_front.ensures
