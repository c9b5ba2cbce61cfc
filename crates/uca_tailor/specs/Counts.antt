-- How many elements of a table have each weight of a level.
use Rattle.std.specs.Prelude.{◌≡◌, ℕ, ◌+◌, ◌<◌, ◌≤◌, ◌==◌, min, Bool, nat_lt, List, [], ◌∷◌, length, slice_index, if◌then◌else◌}
use Rattle.std.specs.FinMap.{entries}
use Rattle.std.specs.Option.{unwrap_or}
use Rattle.uca_weights.specs.declared.element.Element.{Element}
use Rattle.uca_weights.specs.Element.{weight}
use Rattle.uca_model.specs.Table.{ElementTable, elements_at}
use Rattle.uca_model.specs.Gap.{max_weight}
use Rattle.uca_tailor.specs.declared.counts.Counts.{Counts}

-- how many of the elements have a weight x
abbrev pub count_at : ℕ → ℕ → List Element → ℕ
count_at level x [] = 0
count_at level x (e ∷ es) = (if weight level e == x then 1 else 0) + count_at level x es

-- the same of the elements of all entries
abbrev pub count_in : ℕ → ℕ → List (List ℕ × List Element) → ℕ
count_in level x [] = 0
count_in level x (e ∷ es) = count_at level x e.1 + count_in level x es

-- each weight that is counted has this many elements, but the greatest count of 32 bits means that many or more
abbrev pub Reach : List ℕ → (ℕ → ℕ) → Type 0
Reach counts n = (x : ℕ) → x < length counts → slice_index counts x < 4294967295 → slice_index counts x ≡ n x

-- each count is the number itself, or the greatest of 32 bits
abbrev pub AreCapped : List ℕ → (ℕ → ℕ) → Type 0
AreCapped counts n = (x : ℕ) → x < length counts → slice_index counts x ≡ min (n x) 4294967295

-- the counts of the weights above w go up by one place, and no element has the weight next to w
pub record Opens (w : ℕ) (old new : List ℕ) : Type 0 where
  pub size : length new ≡ length old
  pub below : (x : ℕ) → x ≤ w → slice_index new x ≡ slice_index old x
  pub next : w + 1 < length old → slice_index new (w + 1) ≡ 0
  pub above : (x : ℕ) → w < x → x + 1 < length old → slice_index new (x + 1) ≡ slice_index old x

-- the counts of a level are how many elements of a table have each weight
pub record AreCounts (level : ℕ) (counts : List ℕ) (t : ElementTable) : Type 0 where
  pub within : length counts ≤ max_weight level + 1
  pub reach : Reach counts (λ x. count_in level x (entries t.entries))

-- so do those of all levels
pub record HaveCounts (c : Counts) (t : ElementTable) : Type 0 where
  pub first : AreCounts 1 c.first.items t
  pub second : AreCounts 2 c.second.items t
  pub third : AreCounts 3 c.third.items t

-- all weights of a level that are not implicit were counted, and none was taken away since
pub record AreAllCounts (level : ℕ) (counts : List ℕ) (t : ElementTable) : Type 0 where
  pub size : length counts ≡ max_weight level + 1
  pub capped : AreCapped counts (λ x. count_in level x (entries t.entries))

-- no level was counted
pub record AreNone (c : Counts) : Type 0 where
  pub first : length c.first.items ≡ 0
  pub second : length c.second.items ≡ 0
  pub third : length c.third.items ≡ 0

-- the elements of a key, or none
abbrev pub elements_or_none : ElementTable → List ℕ → List Element
elements_or_none t key = unwrap_or (elements_at t key) []

-- some element of a table has the greatest weight of a level
abbrev pub reaches_limit : ℕ → ElementTable → Bool
reaches_limit level t = nat_lt 0 (count_in level (max_weight level) (entries t.entries))
