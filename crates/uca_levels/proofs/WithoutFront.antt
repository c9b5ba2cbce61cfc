-- Two texts without a common front have the order of the whole texts.
use Rattle.std.proofs.Common.{◌≡◌, ℕ, zero, suc, ◌+◌, ◌≤◌, Bool, ◌&&◌, List, [], ◌∷◌, ◌++◌, All, length, take, drop, chars, encode_utf8, IsUtf8, refl, sym, ap, ap₂, subst, ◌∙◌, arith, inl, inr, append-nil}
use Rattle.std.proofs.lemmas.Bool.{cases_Bool, cond-true, cond-false}
use Rattle.std.proofs.lemmas.List.Sums.{AllPass-from_list_all}
use Rattle.std.proofs.lemmas.List.{length-take, nil_from_length, take-append-drop, take_all}
use Rattle.std.proofs.lemmas.Str.{IsCharBoundary-from_take, IsCharBoundary-start, IsUtf8-take, chars-nil, chars_past_char, scalars-chars}
use Rattle.std.proofs.lemmas.List.Elements.{All-drop}
use Rattle.std.proofs.Math.Seq.{drop-append_seam}
use Rattle.std.specs.Char.{IsScalar}
use Rattle.std.specs.List.{list_all}
use Rattle.std.specs.Str.{IsCharBoundary}
use Rattle.std.specs.declared.cmp.Ordering.{Ordering}
use Rattle.std.specs.declared.cmp.Ordering.TheVariants.{Equal}
use lib.Utf8.{scalar, scalars}
use Rattle.unicode_normalization.specs.Forms.{nfd}
use Rattle.unicode_normalization.proofs.OrderLemmas.{canonical_order-nil}
use Rattle.uca_weights.specs.declared.settings.Settings.{Settings}
use Rattle.uca_weights.specs.declared.settings.Variable.{Variable}
use Rattle.uca_weights.specs.Settings.{levels}
use Rattle.uca_model.specs.Table.{ElementTable, IsTable}
use Rattle.uca_weights.specs.VariableWeighting.{weighted}
use Rattle.uca_model.specs.CollationElements.{elements}
use Rattle.uca_model.specs.LevelWeights.{level_list, level_weights}
use Rattle.uca_model.specs.DecidingLevel.{OrdersLevel, key_from, list_order}
use Rattle.uca_model.specs.SafeText.{IsSafe}
use Rattle.uca_model.specs.SortKey.{key_order, sort_key}
use Rattle.uca_model.proofs.LevelLemmas.{levels-within, sort_key-levels}
use Rattle.uca_model.proofs.EquivalenceLemmas.{level-orders, order-itself}
use Rattle.uca_model.proofs.SafeLemmas.{nfd-is}
use Rattle.uca_model.proofs.StandAloneLemmas.{elements_none}
use Rattle.uca_model.proofs.SafeCutLemmas.{IsCut-from, level_list-cut}
use Rattle.uca_match.specs.JoinsNothing.{JoinsNothing}
use Rattle.uca_match.proofs.TextLemmas.{IsSafe-rest, elements-after, elements-apart, parts-at}
use Rattle.uca_levels.specs.Reads.{InStep}
use Rattle.uca_levels.specs.WithoutFront.{MayFollow, IsApart, AreLeft, AreWithoutFront, AreApart}
use Rattle.uca_levels.proofs.CommonFront.{common-fewer}
use Rattle.uca_levels.proofs.PrimarySteps.{primaries-both}
use Rattle.uca_levels.proofs.ReadsLemmas.{InStep-orders}
use Rattle.std.proofs.lemmas.Grind.{common_steps}

-- ---- level lists

pub no_list : (t : ElementTable) (v : Variable) (level : ℕ) → level_list t v [] level ≡ []
no_list t v level = grind (arith, common_steps, cases_Bool, cond-true, nfd-is, canonical_order-nil, cond-false, elements_none)

lists-follow : (t : ElementTable) (v : Variable) (front left : List ℕ) (level : ℕ) → IsTable t → MayFollow t left → level_list t v (front ++ left) level ≡ level_list t v front level ++ level_list t v left level
lists-follow t v front [] level valid may = grind (arith, common_steps, append-nil, no_list)
lists-follow t v front (c ∷ later) level valid may = level_list-cut t v front later c valid (IsCut-from t c may) level

lists-apart : (t : ElementTable) (v : Variable) (front left : List ℕ) → IsApart t front left → level_list t v (front ++ left) 1 ≡ level_list t v front 1 ++ level_list t v left 1
lists-apart t v front left apart = ap (λ l. level_weights 1 (weighted v l)) apart ∙ primaries-both v (elements t (nfd front)) (elements t (nfd left))

-- where the lists are in two parts there, those of the front are the same in both texts
in-step : (Follows : List ℕ → List ℕ → Type 0) (t : ElementTable) (v : Variable) (a b x y : List ℕ) (level : ℕ) → ((front left : List ℕ) → Follows front left → level_list t v (front ++ left) level ≡ level_list t v front level ++ level_list t v left level)
    → AreLeft Follows a b x y → InStep (level_list t v a level) (level_list t v b level) (level_list t v x level) (level_list t v y level)
in-step Follows t v a b x y level parts h =
    elim h.follow [
      | inl none ↦ record { front = []; first = rw h.first (rw none refl); second = rw h.second (rw none refl) }
      | inr both ↦ record { front = level_list t v h.front level; first = rw h.first (parts h.front x both.0); second = rw h.second (parts h.front y both.1) }
    ]

pub in-step-apart : (t : ElementTable) (v : Variable) (a b x y : List ℕ) → AreApart t a b x y → InStep (level_list t v a 1) (level_list t v b 1) (level_list t v x 1) (level_list t v y 1)
in-step-apart t v a b x y h = in-step (IsApart t) t v a b x y 1 (lists-apart t v) h

-- what is left of the texts decides
pub orders-left : (t : ElementTable) (v : Variable) (a b x y : List ℕ) (level : ℕ) (o : Ordering) → IsTable t → AreWithoutFront t a b x y
    → OrdersLevel level (level_list t v x level) (level_list t v y level) o → OrdersLevel level (level_list t v a level) (level_list t v b level) o
orders-left t v a b x y level o valid h orders =
    InStep-orders level _ _ _ _ o (in-step (λ front left. MayFollow t left) t v a b x y level (λ front left may. lists-follow t v front left level valid may) h) orders

-- ---- keys

-- the characters of a text are scalar values
pub scalars-text : (bytes : List ℕ) → IsUtf8 bytes → All IsScalar (chars bytes)
scalars-text bytes utf8 = λ k d low. AllPass-from_list_all scalar (chars bytes) (as_list_all (chars bytes) ∙ scalars-chars bytes utf8) k d low
  where
    as_list_all : (cs : List ℕ) → list_all scalar cs ≡ scalars cs
    as_list_all [] = refl
    as_list_all (c ∷ cs) = ap (λ (b : Bool). scalar c && b) (as_list_all cs)

-- a later text of scalar values
scalars-after : (front left text : List ℕ) → text ≡ front ++ left → All IsScalar text → All IsScalar left
scalars-after front left text e scalars =
    subst (All IsScalar) (drop-append_seam front left) (All-drop IsScalar (length front) (front ++ left) (subst (All IsScalar) e scalars))

-- keys whose levels are in the same order
same-keys : (n level : ℕ) (la lb lx ly : ℕ → List ℕ) → level + n ≤ 5
    → ((k : ℕ) → level ≤ k → k ≤ level + n → OrdersLevel k (lx k) (ly k) (list_order (lx k) (ly k)) × OrdersLevel k (la k) (lb k) (list_order (lx k) (ly k)))
    → key_order (key_from n level lx) (key_from n level ly) ≡ key_order (key_from n level la) (key_from n level lb)
same-keys zero level la lb lx ly inside orders = grind (arith, common_steps)
same-keys (suc n) level la lb lx ly inside orders = grind (arith, common_steps, same-keys n (level + 1) la lb lx ly (omega arith) (λ k low top. orders k (omega arith) (omega arith)))

-- what is left of the texts has the order of their keys
pub keys-left : (t : ElementTable) (s : Settings) (a b x y : List ℕ) → IsTable t → All IsScalar a → All IsScalar b → AreWithoutFront t a b x y
    → key_order (sort_key t s x) (sort_key t s y) ≡ key_order (sort_key t s a) (sort_key t s b)
keys-left t s a b x y valid of_a of_b h =
    let few : levels s.strength ≤ 5 = (levels-within s.strength).1 in
    ap₂ key_order (sort_key-levels t s x) (sort_key-levels t s y)
    ∙ same-keys _ 1 (level_list t _ a) (level_list t _ b) (level_list t _ x) (level_list t _ y) (omega arith)
    (λ k low top. (
    let here = level-orders t s x y valid (scalars-after h.front x a h.first of_a) (scalars-after h.front y b h.second of_b) k low (omega arith) in
    (here, orders-left t _ a b x y k _ valid h here)))
    ∙ sym (ap₂ key_order (sort_key-levels t s a) (sort_key-levels t s b))

-- ---- safe texts

pub left-safe : (Follows : List ℕ → List ℕ → Type 0) (a b x y : List ℕ) → AreLeft Follows a b x y → IsSafe a → IsSafe b → IsSafe x × IsSafe y
left-safe Follows a b x y h safe_a safe_b = (IsSafe-rest h.front x (rw (← h.first) safe_a), IsSafe-rest h.front y (rw (← h.second) safe_b))

-- a text is safe from each place on
pub safe-from : (m : ℕ) (text : List ℕ) → IsSafe text → IsSafe (drop m text)
safe-from m text safe = IsSafe-rest (take m text) (drop m text) (rw take-append-drop safe)

-- ---- equal texts

-- texts that have all their bytes in common
pub equal-texts : (t : ElementTable) (s : Settings) (a b : List ℕ) (n : ℕ) → n ≡ length a → n ≡ length b → take n a ≡ take n b → key_order (sort_key t s (chars a)) (sort_key t s (chars b)) ≡ Equal
equal-texts t s a b n all_a all_b same =
    let equal : a ≡ b = sym (take_all n a (omega (arith, all_a))) ∙ same ∙ take_all n b (omega (arith, all_b)) in
    rw equal (order-itself (sort_key t s (chars b)))

-- ---- their bytes

-- what is left from a place on, up to which the bytes are the same
pub left-at : (Follows : List ℕ → List ℕ → Type 0) (a b x y : List ℕ) (at : ℕ) → IsUtf8 a → IsUtf8 b → IsCharBoundary a at → IsCharBoundary b at → take at a ≡ take at b → x ≡ drop at a → y ≡ drop at b
    → Follows (chars (take at a)) (chars x) → Follows (chars (take at a)) (chars y) → AreLeft Follows (chars a) (chars b) (chars x) (chars y)
left-at Follows a b x y at utf8_a utf8_b inside_a inside_b same of_a of_b may_a may_b = grind (arith, common_steps, parts-at)

-- the same where both join nothing that comes before them
pub apart-at : (t : ElementTable) (a b x y : List ℕ) (at : ℕ) → IsUtf8 a → IsUtf8 b → IsCharBoundary a at → IsCharBoundary b at → take at a ≡ take at b → x ≡ drop at a → y ≡ drop at b
    → JoinsNothing t (chars x) → JoinsNothing t (chars y) → AreApart t (chars a) (chars b) (chars x) (chars y)
apart-at t a b x y at utf8_a utf8_b in_a in_b same of_a of_b joins_a joins_b =
    left-at (IsApart t) a b x y at utf8_a utf8_b in_a in_b same of_a of_b (elements-apart t _ _ joins_a) (elements-apart t _ _ joins_b)

-- a character of the second text begins or ends where one of the first does, since the bytes before it are the same
pub same-boundary : (a b : List ℕ) (at : ℕ) → IsUtf8 a → IsUtf8 b → IsCharBoundary a at → take at a ≡ take at b → IsCharBoundary b at
same-boundary a b at utf8_a utf8_b in_a same =
    let short : at ≤ length b = omega (arith, in_a.0, ap length same, length-take at a, length-take at b) in
    IsCharBoundary-from_take b at utf8_b short (subst IsUtf8 same (IsUtf8-take a at utf8_a in_a))

-- what the functions of `cut` use
pub ruleset cuts = (common_steps, same-boundary, common-fewer, IsCharBoundary-start, elements-apart, elements-after, nil_from_length, chars-nil, encode_utf8, chars_past_char)
