-- What a code has of a weight after another, most of which is the same.
use Rattle.uca_key.proofs.Common.{◌≡◌, ℕ, ◌+◌, ◌%◌, ◌==◌, ◌||◌, ◌≤◌, ◌<◌, Bool, false, cond, max, nat_le, fold, List, [], ◌∷◌, ◌++◌, length, get_or, refl, sym, ap, ap₂, subst, ◌∙◌, arith, cases_lt, eqb-false, or_parts, nat_tests, common_steps, sum_by-cons, list_any, sum_by, PrimaryCode, anchor_of, begins_slot, is_common, is_single, page_of, past, slot, AreCodes, IsCodeOf, IsMadeOf, IsNext, is_named}
use Rattle.uca_key.specs.declared.weight_codes.Parts.{Parts}
use Rattle.uca_key.specs.declared.weight_codes.WeightCode.{WeightCode}
use Rattle.uca_key.proofs.MaskLemmas.{bit-is}
use Rattle.uca_key.proofs.PackedSlots.{slot-next}
use mir.Val.{bool_byte}

-- a weight more
pub codes-more : (k : PrimaryCode) (w : ℕ) (c : WeightCode) (items after : List WeightCode) → length items ≡ w → after ≡ items ++ c ∷ [] → AreCodes k w items → IsCodeOf k w c → AreCodes k (w + 1) after
codes-more k w c items after size made each last x d within = grind (arith, common_steps, cases_lt)

-- none at first
pub no-codes : (k : PrimaryCode) (items : List WeightCode) → AreCodes k 0 items
no-codes k items w d within = absurd (omega arith)

-- ---- the slot

-- by how much it is greater where one begins
pub next-slot : (k : PrimaryCode) (p : Parts) (w number : ℕ) (b : Bool) → IsMadeOf k p → w + 1 < 65536 → b ≡ ((w + 1) % 256 == 0 || get_or p.commons.now w false || get_or p.commons.now (w + 1) false)
    → number ≡ slot k w → number + bool_byte b ≡ slot k (w + 1)
next-slot k p w number b made within apart here = grind (arith, common_steps, bit-is, slot-next)

-- ---- a weight after another, neither of which is named

-- a weight that is neither raises the leads of both, or of none
one-past : (w s : ℕ) → (s == w) ≡ false → (s == w + 1) ≡ false → past (w + 1) s ≡ past w s
one-past w s before after = let x : s ≡ w → ⊥ = eqb-false s w before in let y : s ≡ w + 1 → ⊥ = eqb-false s (w + 1) after in grind (arith, nat_tests)

all-past : (w : ℕ) (ss : List ℕ) → list_any (λ c. c == w) ss ≡ false → list_any (λ c. c == w + 1) ss ≡ false → sum_by (past (w + 1)) ss ≡ sum_by (past w) ss
all-past w [] before after = refl
all-past w (s ∷ ss) before after =
    let b = or_parts (s == w) (list_any (λ c. c == w) ss) before in let a = or_parts (s == w + 1) (list_any (λ c. c == w + 1) ss) after in
    sum_by-cons (past (w + 1)) s ss ∙ ap₂ (λ x y. x + y) (one-past w s b.0 a.0) (all-past w ss b.1 a.1) ∙ sym (sum_by-cons (past w) s ss)

one-page : (w : ℕ) → ((w + 1) % 256 == 0) ≡ false → page_of (w + 1) ≡ page_of w
one-page w inside = let x : (w + 1) % 256 ≡ 0 → ⊥ = eqb-false ((w + 1) % 256) 0 inside in grind (arith, nat_tests)

-- one weight more of those up to another
abbrev up_to : ℕ → ℕ → ℕ → ℕ
up_to w best a = cond (nat_le a w) (max best a) best

one-step : (w best a : ℕ) → (a == w + 1) ≡ false → up_to (w + 1) best a ≡ up_to w best a
one-step w best a after = let y : a ≡ w + 1 → ⊥ = eqb-false a (w + 1) after in grind (arith, nat_tests)

one-greatest : (w best : ℕ) (ws : List ℕ) → list_any (λ c. c == w + 1) ws ≡ false → fold (up_to (w + 1)) best ws ≡ fold (up_to w) best ws
one-greatest w best [] after = refl
one-greatest w best (a ∷ ws) after =
    let parts = or_parts (a == w + 1) (list_any (λ c. c == w + 1) ws) after in
    ap (λ b. fold (up_to (w + 1)) b ws) (one-step w best a parts.0) ∙ one-greatest w (up_to w best a) ws parts.1

-- the window after a weight is that after another, if they are alike
next-same : (k : PrimaryCode) (w x n : ℕ) → is_single k w ≡ is_single k x → anchor_of k w ≡ anchor_of k x → IsNext k x n → IsNext k w n
next-same k w x n single same next = grind (arith, common_steps)

-- ---- all of it

-- a weight after another, where both are neither common nor named
pub record AreAlike (k : PrimaryCode) (w : ℕ) : Type 0 where
  pub inside : ((w + 1) % 256 == 0) ≡ false
  pub here : is_named k w ≡ false
  pub there : is_named k (w + 1) ≡ false

-- what the code has of it, but for the slot and whether it is common
alike-code : (k : PrimaryCode) (w : ℕ) (c after : WeightCode) → AreAlike k w → IsCodeOf k w c → after.slot ≡ slot k (w + 1) → after.common ≡ is_common k (w + 1) → after.lead ≡ c.lead → after.single ≡ c.single → after.next ≡ c.next
    → IsCodeOf k (w + 1) after
alike-code k w c after alike code at common lead single next =
    let here = or_parts (is_single k w) _ alike.here in let there = or_parts (is_single k (w + 1)) _ alike.there in
    let alone : is_single k (w + 1) ≡ is_single k w = there.0 ∙ sym here.0 in
    record {
      slot = at;
      common = common;
      lead = lead ∙ code.lead ∙ sym (ap₂ (λ a b. 1 + a + b) (one-page w alike.inside) (all-past w k.singles here.0 there.0));
      most = subst (λ n. n ≤ 135) (sym lead) code.most;
      single = single ∙ code.single ∙ sym alone;
      next = next-same k (w + 1) w after.next alone (one-greatest w 0 k.anchors there.1) (subst (λ n. IsNext k w n) (sym next) code.next);
    }

-- flags that no slot or code begins where there is none
abbrev pub no_flag : List Bool → ℕ → Bool
no_flag flags w = (w + 1) % 256 == 0 || get_or flags w false || get_or flags (w + 1) false

pub no-flags : (flags : List Bool) (w : ℕ) → no_flag flags w ≡ false → (((w + 1) % 256 == 0) ≡ false) × ((get_or flags w false ≡ false) × (get_or flags (w + 1) false ≡ false))
no-flags flags w none = grind (arith, common_steps, or_parts)

-- where neither is named
pub next-code : (k : PrimaryCode) (p : Parts) (w : ℕ) (c after : WeightCode) → IsMadeOf k p → w + 1 < 65536 → no_flag p.named.now w ≡ false → IsCodeOf k w c
    → after.slot ≡ slot k (w + 1) → after.common ≡ get_or p.commons.now (w + 1) false → after.lead ≡ c.lead → after.single ≡ c.single → after.next ≡ c.next → IsCodeOf k (w + 1) after
next-code k p w c after made within none code at common lead single next =
    let flags = no-flags p.named.now w none in
    let alike : AreAlike k w = record { inside = flags.0; here = sym (made.named w (omega arith)) ∙ flags.1.0; there = sym (made.named (w + 1) within) ∙ flags.1.1 } in
    alike-code k w c after alike code at (common ∙ made.commons (w + 1) within) lead single next

-- where neither is named or common: it is the same
pub same-code : (k : PrimaryCode) (p : Parts) (w : ℕ) (c : WeightCode) → IsMadeOf k p → w + 1 < 65536 → no_flag p.any.now w ≡ false → IsCodeOf k w c → IsCodeOf k (w + 1) c
same-code k p w c made within none code =
    let flags = no-flags p.any.now w none in
    let here = or_parts (is_named k w) (is_common k w) (sym (made.any w (omega arith)) ∙ flags.1.0) in
    let there = or_parts (is_named k (w + 1)) (is_common k (w + 1)) (sym (made.any (w + 1) within) ∙ flags.1.1) in
    let alike : AreAlike k w = record { inside = flags.0; here = here.0; there = there.0 } in
    let none_begins : begins_slot k w ≡ false = ap₂ (λ x y. x || is_common k w || y) flags.0 there.1 ∙ ap (λ x. x || false) here.1 in
    let after : slot k (w + 1) ≡ slot k w + 0 = slot-next k w ∙ ap (λ b. slot k w + cond b 1 0) none_begins in
    let still : slot k (w + 1) ≡ slot k w = omega (arith, after) in
    alike-code k w c c alike code (code.slot ∙ sym still) (code.common ∙ here.1 ∙ sym there.1) refl refl refl
