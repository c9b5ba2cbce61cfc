-- What the command `compare` writes.
use Rattle.std.specs.Prelude.{ℕ, List, [], ◌∷◌, ◌++◌, chars, codes}
use Rattle.std.specs.declared.cmp.Ordering.{Ordering}
use Rattle.std.specs.declared.cmp.Ordering.TheVariants.{Less, Equal, Greater}
use Rattle.uca_weights.specs.declared.settings.Settings.{Settings}
use Rattle.uca_model.specs.Lines.{lines_of, line_feed}
use Rattle.uca_model.specs.SortKey.{key_order, sort_key}
use Rattle.uca_model.specs.Table.{ElementTable}

-- an order as a word
abbrev pub order_word : Ordering → List ℕ
order_word Less = codes "less"
order_word Equal = codes "equal"
order_word Greater = codes "greater"

-- the order as a line
abbrev pub order_line : Ordering → List ℕ
order_line o = order_word o ++ line_feed ∷ []

-- a line, and the line after it
abbrev pub compare_line : ElementTable → Settings → List ℕ → List ℕ → List ℕ
compare_line t s before line = order_line (key_order (sort_key t s (chars before)) (sort_key t s (chars line)))

-- each of some lines, with the line before it
abbrev pub compare_each : ElementTable → Settings → List ℕ → List (List ℕ) → List ℕ
compare_each t s before [] = []
compare_each t s before (line ∷ lines) = compare_line t s before line ++ compare_each t s line lines

-- the same of all lines: the first has none before it
abbrev pub compare_lines : ElementTable → Settings → List (List ℕ) → List ℕ
compare_lines t s [] = []
compare_lines t s (first ∷ lines) = compare_each t s first lines

-- `compare`: the order of each pair of neighbouring lines
abbrev pub compare_output : ElementTable → Settings → List ℕ → List ℕ
compare_output t s bytes = compare_lines t s (lines_of bytes)
