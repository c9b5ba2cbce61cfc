-- The first level that decides, and the bytes of a key level by level (UTS #10, 7.3 and 7.4, steps S3 and S4).
use Rattle.std.specs.Prelude.{◌≡◌, ℕ, zero, suc, ◌+◌, ◌-◌, ◌<◌, ◌==◌, List, ◌∷◌, ◌++◌, flat_map, if◌then◌else◌}
use Rattle.std.specs.declared.cmp.Ordering.{Ordering}
use Rattle.std.specs.Ordering.{nat_cmp, ordering_then, eq_by_cmp}
use Rattle.std.specs.Cmp.Lexicographic.{slice_cmp}
use Rattle.uca_weights.specs.declared.settings.Settings.{Settings}
use Rattle.uca_weights.specs.Settings.{levels}
use Rattle.uca_model.specs.Table.{ElementTable}
use Rattle.uca_model.specs.LevelWeights.{level_list}
use Rattle.uca_model.specs.SortKey.{weight_bytes, code_point_bytes, key_order}

-- the order of the lists of a level: by weights, a proper prefix first
abbrev pub list_order : List ℕ → List ℕ → Ordering
list_order = slice_cmp nat_cmp

-- the bytes of such a list in a key
abbrev pub bytes_at : ℕ → List ℕ → List ℕ
bytes_at level xs = if level == 5 then flat_map code_point_bytes xs else flat_map weight_bytes xs

-- a key from a level on, with this many levels after it
abbrev pub key_from : ℕ → ℕ → (ℕ → List ℕ) → List ℕ
key_from zero level lists = bytes_at level (lists level)
key_from (suc n) level lists = bytes_at level (lists level) ++ 0 ∷ 0 ∷ key_from n (level + 1) lists

-- the first level from this one on at which the lists differ, and the last one where none of them do
abbrev pub deciding_from : ℕ → ℕ → (ℕ → List ℕ) → (ℕ → List ℕ) → ℕ
deciding_from zero level xs ys = level
deciding_from (suc n) level xs ys = if eq_by_cmp list_order (xs level) (ys level) then deciding_from n (level + 1) xs ys else level

-- the level that decides the order of two texts
abbrev pub deciding_level : ElementTable → Settings → List ℕ → List ℕ → ℕ
deciding_level t s a b = deciding_from (levels s.strength - 1) 1 (level_list t s.weighting a) (level_list t s.weighting b)

-- the order of two lists of one level, and of keys that differ in these or after them
pub record OrdersLevel (level : ℕ) (xs ys : List ℕ) (o : Ordering) : Type 0 where
  pub list : o ≡ list_order xs ys
  pub last : key_order (bytes_at level xs) (bytes_at level ys) ≡ o
  pub next : level < 5 → (a b : List ℕ) → key_order (bytes_at level xs ++ 0 ∷ 0 ∷ a) (bytes_at level ys ++ 0 ∷ 0 ∷ b) ≡ ordering_then o (key_order a b)
