-- The levels of a packed key one after the other.
use Rattle.uca_key.proofs.Common.{arith, ◌∷◌, ◌≡◌, ℕ, suc, ◌+◌, ◌-◌, ◌^◌, ◌<◌, List, [], ◌++◌, length, take, refl, ap, append-nil, concat, nfd, Settings, Primary, Secondary, Tertiary, Quaternary, Identical, Variable, levels, weighted, ElementTable, elements, level_weights, PrimaryCode, code_of, primary_level, start, later_levels, packed_later, packed_levels, PutsAt, levels-within, common_steps}
use Rattle.uca_key.specs.PackedKey.{packed_key, packed_key_by, packed_prefix}
use Rattle.uca_weights.specs.declared.settings.Strength.{Strength}
use Rattle.uca_key.proofs.PackedLevels.{level-front}
use Rattle.uca_key.proofs.PlacingLemmas.{IsPutting-ends, IsPutting-more, IsPutting-start, PutsAt-more}

-- a packed key level by level
pub packed-levels : (k : PrimaryCode) (t : ElementTable) (s : Settings) (text : List ℕ)
    → packed_key_by k t s text ≡ primary_level k (start k) (level_weights 1 (weighted s.weighting (elements t (nfd text)))) ++ later_levels (levels s.strength - 1) 2 (weighted s.weighting (elements t (nfd text))) (nfd text)
unfolding packed_key_by
packed-levels k t s text = of_strength s.strength
  where
    ws : List (List ℕ)
    ws = weighted s.weighting (elements t (nfd text))

    of_strength : (strength : Strength) → concat (take (levels strength) (packed_levels k ws (nfd text))) ≡ primary_level k (start k) (level_weights 1 ws) ++ later_levels (levels strength - 1) 2 ws (nfd text)
    of_strength Primary = refl
    of_strength Secondary = refl
    of_strength Tertiary = refl
    of_strength Quaternary = refl
    of_strength Identical = refl

-- the packed key by the code of its table
pub packed-coded : (t : ElementTable) (s : Settings) (text : List ℕ) → packed_key t s text ≡ packed_key_by (code_of t) t s text
unfolding packed_key
packed-coded t s text = refl

-- the packed key at one level is the prefix of its text, and the byte that ends the level
pub packed-front : (t : ElementTable) (v : Variable) (text : List ℕ) → packed_key t (record { strength = Primary; weighting = v }) text ≡ packed_prefix t v text ++ 0 ∷ []
unfolding packed_prefix
packed-front t v text = grind (arith, common_steps, packed-coded, packed-levels, append-nil, level-front)

-- one of the later levels, and those after it
pub later-next : (last level : ℕ) (ws : List (List ℕ)) (decomposed : List ℕ) → level < last
    → later_levels (last - level) (level + 1) ws decomposed ≡ packed_later ws decomposed (level + 1) ++ later_levels (last - (level + 1)) (level + 1 + 1) ws decomposed
later-next last level ws decomposed more = let some : last - level ≡ suc (last - (level + 1)) = omega arith in ap (λ n. later_levels n (level + 1) ws decomposed) some

-- the first level of a text and the later ones, one after the other
pub packed-whole : (k : PrimaryCode) (t : ElementTable) (s : Settings) (text : List ℕ) (own : List (List ℕ)) (last at mid next : ℕ) (before now after : List ℕ) → length before < 2 ^ 64
    → own ≡ weighted s.weighting (elements t (nfd text)) → last ≡ levels s.strength → PutsAt at (primary_level k (start k) (level_weights 1 own)) before now mid
    → PutsAt mid (later_levels (last - 1) 2 (weighted s.weighting (elements t (nfd text))) (nfd text)) now after next → PutsAt at (packed_key_by k t s text) before after next
packed-whole k t s text own last at mid next before now after small held is first later =
    rw (packed-levels k t s text) (PutsAt-more _ _ _ _ _ _ _ _ small (rw held at first) (rw is at later))

-- what the functions that put levels need
pub ruleset level_steps = (common_steps, levels-within, packed-levels, IsPutting-start, IsPutting-more, IsPutting-ends)
