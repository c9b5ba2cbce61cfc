-- What the command `order` writes: the lines of an input in the order of their sort keys (UTS #10, 7.4, step S4).
use Rattle.std.specs.Prelude.{◌≡◌, ℕ, List, [], ◌∷◌, ◌++◌, flat_map, chars}
use Rattle.std.specs.List.Sorted.{IsPermutation, IsSortedByKey, IsStableByKey}
use Rattle.uca_weights.specs.declared.settings.Settings.{Settings}
use Rattle.uca_model.specs.Lines.{lines_of, line_feed}
use Rattle.uca_model.specs.SortKey.{key_order, sort_key}
use Rattle.uca_model.specs.Table.{ElementTable}

-- the sort key of a line
abbrev pub line_key : ElementTable → Settings → List ℕ → List ℕ
line_key t s line = sort_key t s (chars line)

-- the same lines by their keys; those of equal keys keep their order
pub record IsInOrder (t : ElementTable) (s : Settings) (lines ordered : List (List ℕ)) : Type 0 where
  pub same : IsPermutation lines ordered
  pub sorted : IsSortedByKey (line_key t s) key_order ordered
  pub stable : IsStableByKey (line_key t s) key_order lines ordered

-- some lines, each with LF
abbrev pub text_of_lines : List (List ℕ) → List ℕ
text_of_lines lines = flat_map (λ line. line ++ line_feed ∷ []) lines

-- `order`: all lines in their order, also one that had no LF
pub record IsOrderOutput (t : ElementTable) (s : Settings) (bytes output : List ℕ) : Type 0 where
  pub ordered : List (List ℕ)
  pub order : IsInOrder t s (lines_of bytes) ordered
  pub text : output ≡ text_of_lines ordered
