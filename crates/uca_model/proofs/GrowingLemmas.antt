-- Joined levels begin with the levels before the last, joined.
use Rattle.std.proofs.Common.{ℕ, zero, suc, ◌≤◌, List, [], ◌∷◌, ◌++◌, take, refl, sym, ap, ◌∙◌, arith, append_assoc, append-nil}
use Rattle.uca_weights.specs.Settings.{levels}
use Rattle.uca_weights.specs.VariableWeighting.{weighted}
use Rattle.uca_model.specs.CollationElements.{elements}
use Rattle.uca_model.specs.Laws.{BeginsWith, KeysGrowByLevels}
use Rattle.uca_model.specs.SortKey.{all_levels, joined, sort_key}
use Rattle.unicode_normalization.specs.Forms.{nfd}

begins-first : (x : List ℕ) (ls : List (List ℕ)) → BeginsWith (joined (x ∷ ls)) x
begins-first x [] = record { rest = []; parts = sym (append-nil x) }
begins-first x (y ∷ ls) = record { rest = 0 ∷ 0 ∷ joined (y ∷ ls); parts = refl }

-- the first levels, joined, begin with fewer of them
begins-take : (m n : ℕ) (ls : List (List ℕ)) → m ≤ n → BeginsWith (joined (take n ls)) (joined (take m ls))
begins-take zero n ls few = record { rest = joined (take n ls); parts = refl }
begins-take (suc m) zero ls few = absurd (omega arith)
begins-take (suc m) (suc n) [] few = record { rest = []; parts = refl }
begins-take (suc zero) (suc n) (x ∷ xs) few = begins-first x (take n xs)
begins-take (suc (suc m)) (suc zero) (x ∷ xs) few = absurd (omega arith)
begins-take (suc (suc m)) (suc (suc n)) (x ∷ []) few = record { rest = []; parts = sym (append-nil x) }
begins-take (suc (suc m)) (suc (suc n)) (x ∷ y ∷ xs) few =
    let below = begins-take (suc m) (suc n) (y ∷ xs) (omega arith) in
    record { rest = below.rest; parts = ap (λ l. x ++ 0 ∷ 0 ∷ l) below.parts ∙ sym (append_assoc x (0 ∷ 0 ∷ joined (take (suc m) (y ∷ xs))) below.rest) }

pub keys-grow : KeysGrowByLevels
unfolding sort_key
keys-grow t v low high text fewer = begins-take (levels low) (levels high) (all_levels (weighted v (elements t (nfd text))) (nfd text)) fewer
