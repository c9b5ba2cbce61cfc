-- How items of code points lie in blocks.
use Rattle.std.specs.Prelude.{◌≡◌, ℕ, ◌+◌, ◌*◌, ◌/◌, ◌%◌, ◌<◌, ◌≤◌, List, length, get_or}
use Rattle.uca_table.specs.declared.blocks.Blocks.{Blocks}

-- the place of a code point: its block has a number, and it a place in the block
abbrev pub place : List ℕ → ℕ → ℕ
place numbers p = get_or numbers (p / 128) 0 * 128 + p % 128

-- the item of a code point, or the one of those that have none of their own
abbrev pub item_at : {T : Type 0} → T → Blocks T → ℕ → T
item_at none x p = get_or x.items.items (place x.numbers.items p) none

-- blocks of code points have blocks of items of their own, but for those that share the first, where each is `none`
pub record IsBlocks {T : Type 0} (none : T) (x : Blocks T) : Type 0 where
  pub few : length x.numbers.items ≤ 8704
  pub whole : length x.items.items % 128 ≡ 0
  pub within : (b : ℕ) → b < length x.numbers.items → get_or x.numbers.items b 0 * 128 + 128 ≤ length x.items.items
  pub single : (b c : ℕ) → get_or x.numbers.items b 0 ≡ get_or x.numbers.items c 0 → 0 < get_or x.numbers.items b 0 → b ≡ c
  pub shared : (i : ℕ) → i < 128 → get_or x.items.items i none ≡ none
