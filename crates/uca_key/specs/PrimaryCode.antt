-- The code of primary weights in packed keys. A form of this project (compare UTS #10, 9.1, Reducing Sort Key Lengths). Letters of one script lie in a window, where
-- a byte says each of the common ones. Two bytes say a letter outside it, and the window goes there.
use Rattle.std.specs.Prelude.{ℕ, zero, suc, ◌+◌, ◌-◌, ◌/◌, ◌%◌, max, Bool, false, ◌==◌, ◌&&◌, ◌||◌, nat_lt, nat_le, List, [], ◌∷◌, ◌++◌, map, flat_map, fold, slice_index, if◌then◌else◌}
use Rattle.std.specs.List.{list_any, range_with_len, sum_by}
use Rattle.unicode_normalization.specs.Forms.{nfd}
use Rattle.uca_weights.specs.declared.element.Element.{Element}
use Rattle.uca_model.specs.Table.{ElementTable}
use Rattle.uca_model.specs.CollationElements.{elements}
use Rattle.uca_model.specs.SortKey.{weight_bytes}
use Rattle.uca_key.specs.declared.common_characters.TheConstants.{COMMON_RANGES, SINGLE_CHARACTERS, FIRST_LETTERS}

-- what the code is made of: primary weights that have a byte of their own in a window, those that have one everywhere, and those at which windows begin
pub record PrimaryCode : Type 0 where
  pub commons : List ℕ
  pub singles : List ℕ
  pub anchors : List ℕ

-- the primary weight of the first element, 0 where there is none
abbrev pub first_primary : List Element → ℕ
first_primary [] = 0
first_primary (e ∷ es) = e.l1

-- the first primary weight of the text of one code point
abbrev pub primary_of : ElementTable → ℕ → ℕ
primary_of t c = first_primary (elements t (nfd (c ∷ [])))

-- the code points of ranges from a first one to a last one
abbrev pub points_of_ranges : List (ℕ × ℕ) → List ℕ
points_of_ranges ranges = flat_map (λ (r : ℕ × ℕ). range_with_len r.0 (r.1 + 1 - r.0)) ranges

-- the code under a table
unfoldable pub code_of : ElementTable → PrimaryCode
code_of t = record {
  commons = map (primary_of t) (points_of_ranges COMMON_RANGES);
  singles = map (primary_of t) SINGLE_CHARACTERS;
  anchors = map (primary_of t) FIRST_LETTERS;
}

-- the code points of which a code says something
abbrev pub code_points : List ℕ
code_points = points_of_ranges COMMON_RANGES ++ SINGLE_CHARACTERS ++ FIRST_LETTERS

-- the weight has a byte of its own in a window
abbrev pub is_common : PrimaryCode → ℕ → Bool
is_common k w = list_any (λ c. c == w) k.commons

-- the weight has a byte of its own everywhere
abbrev pub is_single : PrimaryCode → ℕ → Bool
is_single k w = list_any (λ c. c == w) k.singles

-- a slot begins at the weight after this one: there begin 256 weights with one high byte, or either of the two is common
abbrev pub begins_slot : PrimaryCode → ℕ → Bool
begins_slot k w = (w + 1) % 256 == 0 || is_common k w || is_common k (w + 1)

-- the number of the slot in which a weight lies. A slot is a common weight, or others in a row with one high byte
unfoldable pub slot : PrimaryCode → ℕ → ℕ
slot k zero = 0
slot k (suc w) = slot k w + (if begins_slot k w then 1 else 0)

-- how many slots a window has
abbrev pub window : ℕ
window = 119

-- a window that begins at the slot of a weight has the slot of another
abbrev pub is_in_window : PrimaryCode → ℕ → ℕ → Bool
is_in_window k base w = nat_le (slot k base) (slot k w) && nat_lt (slot k w) (slot k base + window)

-- weights whose high byte has a lead: those below 6C00, where published tables have theirs, and FB00 to FBFF, which begin most implicit pairs
abbrev pub has_page : ℕ → Bool
has_page w = nat_lt w 0x6C00 || w / 256 == 0xFB

-- the number of the lead of a weight, if no weight had one of its own
abbrev pub page_of : ℕ → ℕ
page_of w = if nat_lt w 0x6C00 then w / 256 else if nat_lt w 0xFB00 then 0x6C else if nat_lt w 0xFC00 then 0x6D else 0x6E

-- a weight with a lead of its own raises those of the weights after it by two
abbrev pub past : ℕ → ℕ → ℕ
past w single = if nat_lt w single then 0 else if w == single then 1 else 2

-- the lead of a weight, from 1 on
abbrev pub lead : PrimaryCode → ℕ → ℕ
lead k w = 1 + page_of w + sum_by (past w) k.singles

-- what follows the lead
abbrev pub after_lead : PrimaryCode → ℕ → List ℕ
after_lead k w = if is_single k w then [] else if has_page w then (w % 256) ∷ [] else weight_bytes w

-- what follows the byte of a slot in the window
abbrev pub after_slot : PrimaryCode → ℕ → List ℕ
after_slot k w = if is_common k w then [] else (w % 256) ∷ []

-- the bytes of a weight, by the weight at which the window begins: the leads below it, its slots, and the leads above it
abbrev pub letter_bytes : PrimaryCode → ℕ → ℕ → List ℕ
letter_bytes k base w =
    if is_in_window k base w then (lead k base + 1 + (slot k w - slot k base)) ∷ after_slot k w
    else (if nat_lt (slot k w) (slot k base) then lead k w else lead k w + window + 1) ∷ after_lead k w

-- the bytes of a weight after one from FB00 to FBFF, the second of an implicit pair (UTS #10, 10.1.3), which is 8000 or more
abbrev pub second_bytes : ℕ → List ℕ
second_bytes w = if nat_lt w 0x8000 then 1 ∷ weight_bytes w else weight_bytes w

-- what the weights before have left: where the window begins, and whether the second weight of an implicit pair comes next
pub record CodeState : Type 0 where
  pub base : ℕ
  pub second : Bool

-- the bytes of a weight
abbrev pub primary_bytes : PrimaryCode → CodeState → ℕ → List ℕ
primary_bytes k p w = if p.second then second_bytes w else letter_bytes k p.base w

-- the greatest weight at which a window begins, up to this one; 0 where there is none
abbrev pub anchor_of : PrimaryCode → ℕ → ℕ
anchor_of k w = fold (λ best a. if nat_le a w then max best a else best) 0 k.anchors

-- where the window begins after a weight: outside it a weight that has no byte of its own moves it
abbrev pub base_after : PrimaryCode → ℕ → ℕ → ℕ
base_after k base w = if is_in_window k base w || is_single k w || anchor_of k w == 0 then base else anchor_of k w

-- what a weight leaves to the next one
abbrev pub state_after : PrimaryCode → CodeState → ℕ → CodeState
state_after k p w = if p.second then record { base = p.base; second = false } else record { base = base_after k p.base w; second = w / 256 == 0xFB }

-- before the first weight, the window is that of Latin
abbrev pub start : PrimaryCode → CodeState
start k = record { base = slice_index k.anchors 0; second = false }

-- the bytes of weights, without an end
abbrev pub primary_front : PrimaryCode → CodeState → List ℕ → List ℕ
primary_front k p [] = []
primary_front k p (w ∷ ws) = primary_bytes k p w ++ primary_front k (state_after k p w) ws

-- the bytes of a level, with the byte 0 at its end
abbrev pub primary_level : PrimaryCode → CodeState → List ℕ → List ℕ
primary_level k p [] = 0 ∷ []
primary_level k p (w ∷ ws) = primary_bytes k p w ++ primary_level k (state_after k p w) ws
