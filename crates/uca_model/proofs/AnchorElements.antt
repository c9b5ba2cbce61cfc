-- What holds of each element of a list holds of its anchor.
use Rattle.std.proofs.Common.{◌≡◌, ℕ, suc, zero, ◌≤◌, ◌<◌, Bool, true, false, cond, ◌||◌, ◌==◌, List, [], ◌∷◌, nat_le, nat_lt, Option, Some, None, refl, sym, subst, arith}
use Rattle.std.proofs.lemmas.Bool.Decides.{nat_tests}
use Rattle.std.specs.FinMap.{values}
use Rattle.std.specs.List.{list_any}
use Rattle.std.specs.Option.{option_map_or}
use Rattle.uca_weights.specs.declared.element.Element.{Element}
use Rattle.uca_weights.specs.Element.{weight}
use Rattle.uca_model.specs.Table.{ElementTable}
use Rattle.uca_model.specs.Gap.{cannot_move, max_weight}
use Rattle.uca_model.specs.Tailoring.{small_weight, high_reset, full, Anchor, alone, preceded_by, anchor_of, least, is_high, is_full, fault_at}

none_some : {A : Type 0} (b : Bool) (x : A) (o : Option A) → cond b (Some x) o ≡ None → (b ≡ false) × (o ≡ None)
none_some true x o e = absurd (cc)
none_some false x o e = (refl, e)

not_below : (a b : ℕ) → nat_lt a b ≡ false → b ≤ a
not_below a b e = grind (arith, nat_tests)

pub or_false : (a b : Bool) → (a || b) ≡ false → (a ≡ false) × (b ≡ false)
or_false true b e = (e, absurd (cc))
or_false false b e = (refl, e)

-- what it takes that a relation has no fault at a level
pub record IsFree (level w : ℕ) (t : ElementTable) (anchor : List Element) : Type 0 where
  pub large : least level ≤ w
  pub low : list_any is_high anchor ≡ false
  pub below_top : (w == max_weight level) ≡ false
  pub anchor_can_move : list_any (cannot_move level w) anchor ≡ false
  pub table_can_move : list_any (list_any (cannot_move level w)) (values t.entries) ≡ false

pub is_free : (level w : ℕ) (t : ElementTable) (anchor : List Element) → fault_at level w t anchor ≡ None → IsFree level w t anchor
is_free level w t anchor e =
    let small = none_some (nat_lt w (least level)) small_weight _ e in
    let high = none_some (list_any is_high anchor) high_reset _ small.1 in
    let full = none_some (is_full level w t anchor) (full level) None high.1 in
    let one = or_false _ _ full.0 in
    let two = or_false _ _ one.0 in
    record { large = not_below _ _ small.0; low = high.0; below_top = two.0; anchor_can_move = two.1; table_can_move = one.1 }

false_or : (a b : Bool) → a ≡ false → b ≡ false → (a || b) ≡ false
false_or a b p q = rw (p, q) refl

here : (p : Element → Bool) (x : Element) (b : Bool) (a : Anchor) → p x ≡ false → cond b None (Some (alone x)) ≡ Some a → (list_any p a.before ≡ false) × (p a.last ≡ false)
here p x true a px e = absurd (cc)
here p x false a px e = let is : alone x ≡ a = cc in subst (λ z. (list_any p z.before ≡ false) × (p z.last ≡ false)) is (refl, px)

anchor_step : (p : Element → Bool) (level : ℕ) (x : Element) (o : Option Anchor) (a : Anchor) → p x ≡ false
    → option_map_or (λ z. Some (preceded_by x z)) o (cond (weight level x == 0) None (Some (alone x))) ≡ Some a
    → ((b : Anchor) → o ≡ Some b → (list_any p b.before ≡ false) × (p b.last ≡ false)) → (list_any p a.before ≡ false) × (p a.last ≡ false)
anchor_step p level x None a px e more = here p x (weight level x == 0) a px e
anchor_step p level x (Some b) a px e more =
    let is : preceded_by x b ≡ a = cc in
    let f = more b refl in
    subst (λ z. (list_any p z.before ≡ false) × (p z.last ≡ false)) is (false_or _ _ px f.0, f.1)

-- what no element of a list passes, none of an anchor of it does
pub any_anchor : (p : Element → Bool) (level : ℕ) (es : List Element) (a : Anchor) → anchor_of level es ≡ Some a → list_any p es ≡ false → (list_any p a.before ≡ false) × (p a.last ≡ false)
any_anchor p level [] a e h = absurd (cc)
any_anchor p level (x ∷ es) a e h = let b = or_false (p x) (list_any p es) h in anchor_step p level x (anchor_of level es) a b.0 e (λ z is. any_anchor p level es z is b.1)

below_first : (x : ℕ) → nat_le 32768 x ≡ false → x < 65535
below_first x h = grind (arith, nat_tests)

below_other : (x : ℕ) → x < 65536 → (x == 65535) ≡ false → x < 65535
below_other x h e = grind (arith, nat_tests)

pub below_top : (level w : ℕ) (e : Element) → 1 ≤ level → level ≤ 3 → w ≡ weight level e → w < 65536 → is_high e ≡ false → (w == max_weight level) ≡ false → w < 65535
below_top zero w e p q is f h t = absurd (omega arith)
below_top (suc zero) w e p q is f h t = subst (λ x. x < 65535) (sym is) (below_first e.l1 h)
below_top (suc (suc zero)) w e p q is f h t = below_other w f t
below_top (suc (suc (suc zero))) w e p q is f h t = below_other w f t
below_top (suc (suc (suc (suc n)))) w e p q is f h t = absurd (omega arith)
