-- Lines that are sorted by their keys, eight bytes of the keys at a time.
use Rattle.std.specs.Prelude.{◌≡◌, ℕ, ◌<◌, ◌≤◌, List, length, drop, map, All, slice_index_or}
use Rattle.std.specs.List.Sorted.{IsPermutation, IsSortedByKey, IsStableByKey}
use Rattle.std.specs.Ordering.{nat_cmp}
use Rattle.uca_model.specs.SortKey.{key_order}
use Rattle.uca_commands.specs.KeyFronts.{HaveSameFront, IsFront}
use Rattle.uca_commands.specs.KeyedLines.{key_of, number_key, number_of}
use Rattle.uca_commands.specs.declared.keyed_line.KeyedLine.{KeyedLine}
use Rattle.uca_commands.specs.declared.keyed_line.KeyedLines.{KeyedLines}

-- ys has the elements of xs in the order of their keys, and those of equal keys in the order that they had
pub record SortsByKey {X : Type 0} (key : X → List ℕ) (xs ys : List X) : Type 0 where
  pub same : IsPermutation xs ys
  pub sorted : IsSortedByKey key key_order ys
  pub stable : IsStableByKey key key_order xs ys

-- the same of lines by their numbers, whatever bytes of their keys are beside them
abbrev pub SortsLines : KeyedLines → List KeyedLine → List KeyedLine → Type 0
SortsLines of xs ys = SortsByKey (number_key of) (map number_of xs) (map number_of ys)

-- ys has the lines of xs in the order of the bytes beside them, and those of equal bytes in the order that they had
pub record SortsByFront (xs ys : List KeyedLine) : Type 0 where
  pub same : IsPermutation xs ys
  pub sorted : IsSortedByKey (λ l. l.front) nat_cmp ys
  pub stable : IsStableByKey (λ l. l.front) nat_cmp xs ys

-- the bytes beside a line are the eight of its key after the first `depth`
abbrev pub ShowsFront : KeyedLines → ℕ → KeyedLine → Type 0
ShowsFront of depth l = IsFront 8 (drop depth (key_of of l)) l.front

-- the keys have the same first bytes as one key, so many
pub record SharesFront (of : KeyedLines) (depth : ℕ) (lines : List KeyedLine) : Type 0 where
  pub key : List ℕ
  pub each : All (λ l. HaveSameFront depth (key_of of l) key) lines

-- the first lines, so many, have the same bytes beside them, and the next line has others
pub record IsRun (lines : List KeyedLine) (size : ℕ) : Type 0 where
  pub some : 0 < size
  pub within : size ≤ length lines
  pub alike : (k : ℕ) (d : KeyedLine) → k < size → (slice_index_or lines k d).front ≡ (slice_index_or lines 0 d).front
  pub ends : (d : KeyedLine) → size < length lines → (slice_index_or lines size d).front ≡ (slice_index_or lines 0 d).front → ⊥
