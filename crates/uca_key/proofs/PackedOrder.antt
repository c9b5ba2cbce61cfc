-- The byte order of packed keys is the order of their levels, as that of sort keys is.
use Rattle.uca_key.proofs.Common.{◌≡◌, ℕ, zero, suc, ◌-◌, ◌≤◌, ◌<◌, List, [], ◌∷◌, ◌++◌, flat_map, take, refl, sym, ap, ap₂, ◌∙◌, arith, append_assoc, append-nil, Ordering, concat, ordering_then, nfd, Settings, Primary, Secondary, Tertiary, Quaternary, Identical, Variable, levels, weighted, ElementTable, elements, list_order, BeginsWith, level_list, code_point_bytes, key_order, OrdersLevel-points, then_equal, HasWeights, HasWeights-IsTable, PrimaryCode, code_of, primary_level, start, common_weight, runs_after, packed_levels, EquivalentTextsHaveOnePackedKey, PackedKeysFollowKeys, PackedKeysGrowByLevels, PackedKeysTellTextsApart, common_steps}
use Rattle.uca_key.specs.PackedKey.{packed_key, packed_key_by}
use Rattle.std.proofs.lemmas.Map.Lookups.{exact_bytes}
use Rattle.uca_weights.specs.declared.settings.Strength.{Strength}
use Rattle.uca_key.proofs.KeyOrder.{ordered_from, same_order, sort_key-ordered}
use Rattle.uca_key.proofs.PackedLetters.{is-code}
use Rattle.uca_key.proofs.PackedLevels.{primary_order}
use Rattle.uca_key.proofs.PackedRuns.{runs_order}

-- the order of a level
abbrev decided : ElementTable → Variable → List ℕ → List ℕ → ℕ → Ordering
decided t v a b level = list_order (level_list t v a level) (level_list t v b level)

-- the order of keys that are made of such levels by any code
packed_levels-ordered : (k : PrimaryCode) (t : ElementTable) (s : Settings) (a b : List ℕ) → HasWeights t s a → HasWeights t s b → (strength : Strength)
    → key_order (concat (take (levels strength) (packed_levels k (weighted s.weighting (elements t (nfd a))) (nfd a)))) (concat (take (levels strength) (packed_levels k (weighted s.weighting (elements t (nfd b))) (nfd b))))
    ≡ ordered_from (levels strength - 1) 1 (level_list t s.weighting a) (level_list t s.weighting b)
packed_levels-ordered k t s a b p q = by_strength
  where
    first : (r u : List ℕ) → key_order (primary_level k (start k) (level_list t s.weighting a 1) ++ r) (primary_level k (start k) (level_list t s.weighting b 1) ++ u) ≡ ordering_then (decided t s.weighting a b 1) (key_order r u)
    first r u = primary_order k (is-code k) (start k) (level_list t s.weighting a 1) (level_list t s.weighting b 1) r u (p.weights 1 (omega arith) (omega arith)) (q.weights 1 (omega arith) (omega arith))

    later : (level : ℕ) → 1 ≤ level → level < 5 → (r u : List ℕ)
        → key_order (runs_after (common_weight level) 0 (level_list t s.weighting a level) ++ r) (runs_after (common_weight level) 0 (level_list t s.weighting b level) ++ u) ≡ ordering_then (decided t s.weighting a b level) (key_order r u)
    later level low high r u = runs_order (common_weight level) 0 (level_list t s.weighting a level) (level_list t s.weighting b level) r u (omega arith) (p.weights level low high) (q.weights level low high)

    last : (level : ℕ) → 1 ≤ level → level < 5
        → key_order (runs_after (common_weight level) 0 (level_list t s.weighting a level) ++ []) (runs_after (common_weight level) 0 (level_list t s.weighting b level) ++ []) ≡ decided t s.weighting a b level
    last level low high = later level low high [] [] ∙ sym (then_equal (decided t s.weighting a b level))

    points_last : key_order (flat_map code_point_bytes (nfd a) ++ []) (flat_map code_point_bytes (nfd b) ++ []) ≡ list_order (nfd a) (nfd b)
    points_last = ap₂ key_order (append-nil (flat_map code_point_bytes (nfd a))) (append-nil (flat_map code_point_bytes (nfd b))) ∙ (OrdersLevel-points (nfd a) (nfd b) p.points q.points).last

    by_strength : (strength : Strength) → key_order (concat (take (levels strength) (packed_levels k (weighted s.weighting (elements t (nfd a))) (nfd a)))) (concat (take (levels strength) (packed_levels k (weighted s.weighting (elements t (nfd b))) (nfd b))))
        ≡ ordered_from (levels strength - 1) 1 (level_list t s.weighting a) (level_list t s.weighting b)
    by_strength Primary = first [] [] ∙ sym (then_equal (decided t s.weighting a b 1))
    by_strength Secondary = first _ _ ∙ ap (ordering_then (decided t s.weighting a b 1)) (last 2 (omega arith) (omega arith))
    by_strength Tertiary = first _ _ ∙ ap (ordering_then (decided t s.weighting a b 1)) (later 2 (omega arith) (omega arith) _ _ ∙ ap (ordering_then (decided t s.weighting a b 2)) (last 3 (omega arith) (omega arith)))
    by_strength Quaternary =
        first _ _ ∙ ap (ordering_then (decided t s.weighting a b 1)) (later 2 (omega arith) (omega arith) _ _ ∙ ap (ordering_then (decided t s.weighting a b 2)) (later 3 (omega arith) (omega arith) _ _ ∙ ap (ordering_then (decided t s.weighting a b 3)) (last 4 (omega arith) (omega arith))))
    by_strength Identical =
        first _ _ ∙ ap (ordering_then (decided t s.weighting a b 1)) (later 2 (omega arith) (omega arith) _ _ ∙ ap (ordering_then (decided t s.weighting a b 2)) (later 3 (omega arith) (omega arith) _ _
        ∙ ap (ordering_then (decided t s.weighting a b 3)) (later 4 (omega arith) (omega arith) _ _ ∙ ap (ordering_then (decided t s.weighting a b 4)) points_last)))

-- the order of packed keys
packed_key-ordered : (t : ElementTable) (s : Settings) (a b : List ℕ) → HasWeights t s a → HasWeights t s b
    → key_order (packed_key t s a) (packed_key t s b) ≡ ordered_from (levels s.strength - 1) 1 (level_list t s.weighting a) (level_list t s.weighting b)
unfolding packed_key packed_key_by
packed_key-ordered t s a b p q = packed_levels-ordered (code_of t) t s a b p q s.strength

pub packed_follow : PackedKeysFollowKeys
packed_follow t s a b table of_a of_b =
    let p = HasWeights-IsTable t s a table of_a in let q = HasWeights-IsTable t s b table of_b in
    packed_key-ordered t s a b p q ∙ sym (sort_key-ordered t s a b p q)

pub packed_apart : PackedKeysTellTextsApart
packed_apart t s a b table of_a of_b = grind (arith, common_steps, packed_follow, exact_bytes, same_order)

-- the first pieces, one after the other, begin with fewer of them
begins-take : (m n : ℕ) (ls : List (List ℕ)) → m ≤ n → BeginsWith (concat (take n ls)) (concat (take m ls))
begins-take zero n ls few = record { rest = concat (take n ls); parts = refl }
begins-take (suc m) zero ls few = absurd (omega arith)
begins-take (suc m) (suc n) [] few = record { rest = []; parts = refl }
begins-take (suc m) (suc n) (x ∷ xs) few = grind (arith, common_steps, append_assoc, begins-take m n xs (omega arith))

pub packed_grow : PackedKeysGrowByLevels
unfolding packed_key packed_key_by
packed_grow t v low high text fewer = begins-take (levels low) (levels high) (packed_levels (code_of t) (weighted v (elements t (nfd text))) (nfd text)) fewer

pub packed_equivalent : EquivalentTextsHaveOnePackedKey
unfolding packed_key packed_key_by
packed_equivalent t s a b same = ap (λ (xs : List ℕ). concat (take (levels s.strength) (packed_levels (code_of t) (weighted s.weighting (elements t xs)) xs))) same
