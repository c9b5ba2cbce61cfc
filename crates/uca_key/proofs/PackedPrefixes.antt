-- Packed keys of texts whose primary weights begin with those of another.
use Rattle.uca_key.proofs.Common.{◌≡◌, ℕ, ◌-◌, List, [], ◌∷◌, ◌++◌, refl, sym, ap, ap₂, ◌∙◌, arith, append_assoc, nat_tests, Ordering, Equal, nat_cmp, ordering_then, nfd, Settings, levels, weighted, ElementTable, elements, level_list, AreWeights, BeginsWith, key_order, HasWeights-IsTable, CodeState, PrimaryCode, code_of, primary_bytes, primary_front, primary_level, start, state_after, later_levels, packed_key, PackedKeysBeginWithCompleteTexts, PackedKeysBeginWithPrimaryWeights, PackedKeysOfBeginnings, common_steps}
use Rattle.uca_key.specs.PackedKey.{packed_prefix}
use Rattle.std.proofs.lemmas.Map.Lookups.{exact_bytes}
use Rattle.uca_model.proofs.PrefixLemmas.{complete-begins}
use Rattle.uca_key.proofs.PackedLetters.{is-code}
use Rattle.uca_key.proofs.KeyOrder.{same_order}
use Rattle.uca_key.proofs.PackedLevels.{IsCode, end_less}
use Rattle.uca_key.proofs.PackedPieces.{packed-coded, packed-levels}

-- a level of weights that begin with others begins with the bytes of the others
front-begins : (k : PrimaryCode) (p : CodeState) (ws later : List ℕ) → BeginsWith (primary_level k p (ws ++ later)) (primary_front k p ws)
front-begins k p [] later = record { rest = primary_level k p later; parts = refl }
front-begins k p (w ∷ ws) later = grind (arith, common_steps, append_assoc, front-begins k (state_after k p w) ws later)

-- weights whose orders come to Equal are the same, and so is what decides after them
equal-firsts : (x w : ℕ) (o : Ordering) → ordering_then (nat_cmp x w) o ≡ Equal → (x ≡ w) × (o ≡ Equal)
equal-firsts x w o e = (grind (arith, nat_tests), grind (arith, nat_tests))

-- a level that begins with the bytes of weights is of weights that begin with them
front-alike : (k : PrimaryCode) → IsCode k → (p : CodeState) (xs ws r rest : List ℕ) → AreWeights xs → AreWeights ws → primary_level k p xs ++ r ≡ primary_front k p ws ++ rest → BeginsWith xs ws
front-alike k is p xs [] r rest h g e = record { rest = xs; parts = refl }
front-alike k is p [] (w ∷ ws) r rest h g e = grind (arith, common_steps, end_less, same_order, append_assoc)
front-alike k is p (x ∷ xs) (w ∷ ws) r rest h g e =
    let b : List ℕ = primary_front k (state_after k p w) ws ++ rest in
    let whole : primary_bytes k p x ++ _ ≡ primary_bytes k p w ++ b =
    sym (append_assoc (primary_bytes k p x) (primary_level k (state_after k p x) xs) r) ∙ e ∙ append_assoc (primary_bytes k p w) (primary_front k (state_after k p w) ws) rest in
    let both = equal-firsts x w (key_order _ b) (sym (is.first p x w _ b h.0.1 g.0.1) ∙ same_order (primary_bytes k p x ++ _) (primary_bytes k p w ++ b) whole) in
    let later = front-alike k is (state_after k p x) xs ws r rest h.1 g.1 (exact_bytes _ b both.1 ∙ ap (λ z. primary_front k (state_after k p z) ws ++ rest) (sym both.0)) in
    record { rest = later.rest; parts = ap₂ (λ (y : ℕ) (l : List ℕ). y ∷ l) both.0 later.parts }

-- a packed key after its first level
abbrev after-first : ElementTable → Settings → List ℕ → List ℕ
after-first t s text = later_levels (levels s.strength - 1) 2 (weighted s.weighting (elements t (nfd text))) (nfd text)

first-level : (t : ElementTable) (s : Settings) (text : List ℕ) → packed_key t s text ≡ primary_level (code_of t) (start (code_of t)) (level_list t s.weighting text 1) ++ after-first t s text
first-level t s text = packed-coded t s text ∙ packed-levels (code_of t) t s text

pub packed_beginnings : PackedKeysOfBeginnings
unfolding packed_prefix
packed_beginnings t s p x begins =
    let k = code_of t in
    let front = front-begins k (start k) (level_list t s.weighting p 1) begins.rest in
    record {
      rest = front.rest ++ after-first t s x;
      parts = first-level t s x ∙ ap (λ l. l ++ after-first t s x) (ap (primary_level k (start k)) begins.parts ∙ front.parts) ∙ append_assoc (primary_front k (start k) (level_list t s.weighting p 1)) front.rest (after-first t s x);
    }

pub packed_begin : PackedKeysBeginWithCompleteTexts
packed_begin t s p x h = let level = complete-begins t s.weighting p x h in packed_beginnings t s p (p ++ x) (record { rest = level.later; parts = level.same })

pub packed_alike : PackedKeysBeginWithPrimaryWeights
unfolding packed_prefix
packed_alike t s p x table of_p of_x h =
    let k = code_of t in
    front-alike k (is-code k) (start k) (level_list t s.weighting x 1) (level_list t s.weighting p 1) (after-first t s x) h.rest
    ((HasWeights-IsTable t s x table of_x).weights 1 (omega arith) (omega arith)) ((HasWeights-IsTable t s p table of_p).weights 1 (omega arith) (omega arith))
    (sym (first-level t s x) ∙ h.parts)
