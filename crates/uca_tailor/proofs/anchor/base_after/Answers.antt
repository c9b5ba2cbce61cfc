use Rattle.std.proofs.Common.{◌≡◌, ℕ, ◌+◌, ◌<◌, true, false, List, [], ◌∷◌, ◌++◌, length, map, drop, get_or, Bool, sym, ap, subst, ◌∙◌, inl, inr, append_assoc, append-nil, drop_of_length-le}
use Rattle.std.proofs.lemmas.Bool.{cases_Bool}
use Rattle.std.proofs.lemmas.List.{drop_more}
use Rattle.std.proofs.lemmas.List.Folds.{list_any_at}
use Rattle.std.specs.List.{list_any}
use Rattle.uca_weights.specs.declared.element.Element.{Element}
use Rattle.uca_weights.specs.Element.{weight}
use Rattle.uca_model.specs.Gap.{cannot_move, with_gap}
use Rattle.uca_tailor.proofs.anchor.base_after.Goals as goal

-- a test that no element passes fails at each
none_at : (p : Element → Bool) (es : List Element) (i : ℕ) (d : Element) → list_any p es ≡ false → i < length es → p (get_or es i d) ≡ false
none_at p es i d none inside = elim (cases_Bool (p (get_or es i d))) [
  | inl is ↦ absurd (let clash : list_any p es ≡ true = list_any_at p es i d inside is in cc)
  | inr other ↦ other
]

pub with_gap-requires-clause-free : goal.with_gap-requires-clause-free
with_gap-requires-clause-free c =
    let level : ℕ = c.args.level in let before : List Element = c.args.before.now in
    let none : Element = record { starred = false; l1 = 0; l2 = 0; l3 = 0 } in
    let free : list_any (cannot_move level c.weight-w.result) before ≡ false = subst (λ w. list_any (cannot_move level w) before ≡ false) (sym c.weight-w.ensures) c.requires.free in
    none_at (cannot_move level c.weight-w.result) before c.loop-element.element-index none free c.loop-element-test.true

pub loop-element-preserved : goal.loop-element-preserved
loop-element-preserved c =
    let i : ℕ = c.loop-element.element-index in let before : List Element = c.args.before.now in let base : List Element = c.loop-element.base.items in
    let moved : Element → Element = with_gap c.args.level (weight c.args.level c.args.last) in
    let next : c.with_gap.result ≡ moved (get_or before i _) = c.with_gap.ensures ∙ ap (λ w. with_gap c.args.level w (get_or before i _)) c.weight-w.ensures in
    ap (λ es. es ++ map moved (drop (i + 1) before)) c.in_ok-push.ensures.items
    ∙ append_assoc base (c.with_gap.result ∷ []) (map moved (drop (i + 1) before))
    ∙ ap (λ e. base ++ (e ∷ map moved (drop (i + 1) before))) next
    ∙ ap (λ es. base ++ map moved es) (sym (drop_more before i _ c.loop-element-test.true))
    ∙ c.loop-element.invariant

pub returns : goal.returns
returns c =
    let before : List Element = c.args.before.now in let base : List Element = c.loop-element.base.items in
    let moved : Element → Element = with_gap c.args.level (weight c.args.level c.args.last) in
    let all : base ≡ map moved before = sym (append-nil base) ∙ ap (λ es. base ++ map moved es) (sym (drop_of_length-le before c.loop-element-test.false)) ∙ c.loop-element.invariant in
    c.in_ok-push-2.ensures.items ∙ ap (λ es. es ++ (c.raised.result ∷ [])) all ∙ ap (λ e. map moved before ++ (e ∷ [])) c.raised.ensures
