-- The collation element table (UTS #10, section 3, Definitions and Notation).
use Rattle.std.specs.Prelude.{◌≡◌, ℕ, ◌-◌, ◌^◌, ◌<◌, ◌≤◌, ◌⊎◌, max, Bool, List, [], ◌∷◌, length, fold, All, Option}
use Rattle.std.specs.Char.{IsScalar}
use Rattle.std.specs.List.{AllByRecursion}
use Rattle.std.specs.declared.cmp.Ordering.{Ordering}
use Rattle.std.specs.Ordering.{nat_cmp}
use Rattle.std.specs.Cmp.Lexicographic.{slice_cmp}
use Rattle.std.specs.FinMap.{FinMap, get, contains_key, keys, entries, insert}
use Rattle.uca_weights.specs.declared.element.Element.{Element}
use Rattle.uca_weights.specs.declared.limits.TheConstants.{MAX_KEY, MAX_ELEMENTS}
use Rattle.uca_weights.specs.declared.range.Ideographs.{Ideographs}
use Rattle.uca_weights.specs.declared.range.Range.{Range}
use Rattle.uca_model.specs.UnifiedIdeographs.{AreIdeographs}

-- the order of keys: by code points, a proper prefix first
abbrev pub key_cmp : List ℕ → List ℕ → Ordering
key_cmp = slice_cmp nat_cmp

-- UTS #10, 3: keys with their collation elements, and by their first code points the ranges of implicit weights and those of unified
-- ideographs besides the listed ones (10.1.3)
pub record ElementTable : Type 0 where
  pub entries : FinMap key_cmp (List Element)
  pub ranges : List Range
  pub ideographs : List Ideographs

-- the elements that the table maps a key to
abbrev pub elements_at : ElementTable → List ℕ → Option (List Element)
elements_at t key = get t.entries key

-- the code points are a key of the table
abbrev pub is_key : ElementTable → List ℕ → Bool
is_key t key = contains_key t.entries key

-- the length of the longest key, 1 where there is none
abbrev pub longest : ElementTable → ℕ
longest t = fold (λ n key. max n (length key)) 1 (keys t.entries)

-- the table in which a key has these elements, in place of any that it had
abbrev pub with_entry : ElementTable → List ℕ → List Element → ElementTable
with_entry t key elements = record { entries = insert t.entries key elements; ranges = t.ranges; ideographs = t.ideographs }

-- the table with these further ideographs, in place of any that it had
abbrev pub with_ideographs : ElementTable → List Ideographs → ElementTable
with_ideographs t added = record { entries = t.entries; ranges = t.ranges; ideographs = added }

-- each weight has sixteen bits
pub record IsElement (e : Element) : Type 0 where
  pub l1 : e.l1 < 2 ^ 16
  pub l2 : e.l2 < 2 ^ 16
  pub l3 : e.l3 < 2 ^ 16

-- 1 to 32 code points, which are scalar values
pub record IsKey (key : List ℕ) : Type 0 where
  pub some : 1 ≤ length key
  pub few : length key ≤ MAX_KEY
  pub scalars : All IsScalar key

-- 1 to 32 code points, with 1 to 64 elements
pub record IsEntry (entry : List ℕ × List Element) : Type 0 where
  pub some_points : 1 ≤ length entry.0
  pub few_points : length entry.0 ≤ MAX_KEY
  pub points : All IsScalar entry.0
  pub some_elements : 1 ≤ length entry.1
  pub few_elements : length entry.1 ≤ MAX_ELEMENTS
  pub elements : All IsElement entry.1

-- a range of code points, and a base of implicit weights
pub record IsRange (r : Range) : Type 0 where
  pub first : IsScalar r.first
  pub last : IsScalar r.last
  pub ordered : r.first ≤ r.last
  pub above : 0x8000 ≤ r.base
  pub base : r.base < 2 ^ 16

-- no code point lies in both
abbrev pub AreDisjoint : Range → Range → Type 0
AreDisjoint r s = (r.last < s.first) ⊎ (s.last < r.first)

-- no code point lies in two of the ranges
abbrev pub AllDisjoint : List Range → Type 0
AllDisjoint [] = Unit {0}
AllDisjoint (r ∷ rs) = AllByRecursion (AreDisjoint r) rs × AllDisjoint rs

-- ranges that can be in one table together: under one base all offsets fit fifteen bits
pub record AreRanges (rs : List Range) : Type 0 where
  pub each : AllByRecursion IsRange rs
  pub disjoint : AllDisjoint rs
  pub spans : AllByRecursion (λ r. AllByRecursion (λ s. s.base ≡ r.base → r.last - s.first < 0x8000) rs) rs

-- what holds of every table
pub record IsTable (t : ElementTable) : Type 0 where
  pub entries : All IsEntry (entries t.entries)
  pub ranges : AreRanges t.ranges
  pub ideographs : AreIdeographs t.ideographs
