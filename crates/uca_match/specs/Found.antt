-- What a match that was taken out of a window is.
use Rattle.std.specs.Prelude.{◌≡◌, ℕ, ◌<◌, ◌==◌, true, List, [], ◌∷◌, length, None, if◌then◌else◌}
use Rattle.uca_model.specs.Table.{ElementTable, elements_at, is_key}
use Rattle.uca_table.specs.Walk.{path_of, table_of_walk}
use Rattle.uca_match.specs.declared.window_match.WindowMatch.{WindowMatch}

-- its code points
abbrev pub points_of : WindowMatch → List ℕ
points_of m = if length (path_of m.walk) == 0 then m.first ∷ [] else path_of m.walk

-- it is a key of the table, or a code point that is none
pub record IsFound (t : ElementTable) (m : WindowMatch) : Type 0 where
  pub table : table_of_walk m.walk ≡ t
  pub key : 0 < length (path_of m.walk) → is_key t (path_of m.walk) ≡ true
  pub alone : length (path_of m.walk) ≡ 0 → elements_at t (m.first ∷ []) ≡ None
