-- A finite set of keys, and the keys of a table.
use Rattle.std.specs.Prelude.{◌≡◌, ℕ, ◌≤◌, ◌⊎◌, true, List, length}
use Rattle.std.specs.FinMap.{keys}
use Rattle.std.specs.FinSet.{FinSet, from_list, contains}
use Rattle.uca_weights.specs.declared.limits.TheConstants.{MAX_KEY}
use Rattle.uca_model.specs.Table.{ElementTable, key_cmp, IsKey}

-- some key has this length
pub record IsReached (keys : FinSet key_cmp) (longest : ℕ) : Type 0 where
  pub key : List ℕ
  pub has : contains keys key ≡ true
  pub size : length key ≡ longest

-- each has 1 to 32 code points, which are scalar values
abbrev pub AreKeys : FinSet key_cmp → Type 0
AreKeys keys = (key : List ℕ) → contains keys key ≡ true → IsKey key

-- they are keys, and `longest` is the greatest number of their code points, or 1 where there is no key
pub record HasLongest (keys : FinSet key_cmp) (longest : ℕ) : Type 0 where
  pub are_keys : AreKeys keys
  pub each : (key : List ℕ) → contains keys key ≡ true → length key ≤ longest
  pub some : 1 ≤ longest
  pub few : longest ≤ MAX_KEY
  pub reached : (longest ≡ 1) ⊎ IsReached keys longest

-- the keys of a table
abbrev pub key_set : ElementTable → FinSet key_cmp
key_set t = from_list (keys t.entries)
