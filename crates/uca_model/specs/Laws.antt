-- Laws of the definitions, which public functions with no body have as their contracts.
use Rattle.std.specs.Prelude.{◌≡◌, ◌↔◌, ℕ, true, ◌<◌, ◌≤◌, ◌^◌, List, [], ◌++◌, All, map, flat_map, length, take, drop, Ok}
use Rattle.std.specs.Char.{IsScalar}
use Rattle.std.specs.List.{AllByRecursion}
use Rattle.std.specs.Cmp.Lexicographic.{slice_cmp}
use Rattle.std.specs.Ordering.{nat_cmp}
use Rattle.uca_weights.specs.declared.limits.TheConstants.{MAX_INPUT}
use Rattle.uca_weights.specs.declared.settings.Settings.{Settings}
use Rattle.uca_weights.specs.declared.settings.Strength.{Strength}
use Rattle.uca_weights.specs.declared.settings.Variable.{Variable}
use Rattle.uca_weights.specs.Settings.{levels}
use Rattle.uca_model.specs.Table.{ElementTable, IsTable, with_ideographs}
use Rattle.uca_model.specs.LevelWeights.{level_list}
use Rattle.uca_model.specs.CollationElements.{elements}
use Rattle.uca_model.specs.SafeCut.{cut_of}
use Rattle.uca_model.specs.Prefix.{is_complete, primary_key, end_of_prefix, IsBetween}
use Rattle.unicode_normalization.specs.Forms.{nfd}
use Rattle.uca_model.specs.SortKey.{weight_bytes, joined, key_order, sort_key}
use Rattle.uca_model.specs.DecidingLevel.{list_order, deciding_level}
use Rattle.uca_model.specs.Ranges.{AreByFirst}
use Rattle.uca_model.specs.TableText.{ends, table_of_text}
use Rattle.uca_model.specs.CanonicalText.{canonical}

-- weights of a level list
abbrev pub AreWeights : List ℕ → Type 0
AreWeights = AllByRecursion (λ w. (0 < w) × (w < 2 ^ 16))

-- code points of which three bytes hold each
abbrev pub AreCodePoints : List ℕ → Type 0
AreCodePoints = AllByRecursion (λ c. c < 2 ^ 24)

-- keys of as many levels are in the byte order in which their level lists are
abbrev pub KeysFollowLevels : Type 0
KeysFollowLevels = (ls ms : List (List ℕ)) → length ls ≡ length ms → AllByRecursion AreWeights ls → AllByRecursion AreWeights ms
    → key_order (joined (map (flat_map weight_bytes) ls)) (joined (map (flat_map weight_bytes) ms)) ≡ slice_cmp (slice_cmp nat_cmp) ls ms

-- S4: under every table, the byte order of two keys is the order of the first level lists that differ, and Equal where none of their levels do
abbrev pub KeyOrderIsDecided : Type 0
KeyOrderIsDecided = (t : ElementTable) (s : Settings) (a b : List ℕ) → IsTable t → All IsScalar a → All IsScalar b
    → key_order (sort_key t s a) (sort_key t s b) ≡ list_order (level_list t s.weighting a (deciding_level t s a b)) (level_list t s.weighting b (deciding_level t s a b))

-- the canonical text of a table, unless it is too large to be read, says that table but for its further ideographs
abbrev pub CanonicalTextIsReadBack : Type 0
CanonicalTextIsReadBack = (t : ElementTable) → IsTable t → AreByFirst t.ranges → length (canonical t) ≤ MAX_INPUT → table_of_text ends (canonical t) ≡ Ok (with_ideographs t [])

-- tables of one canonical text are one table, but for their further ideographs
abbrev pub CanonicalTextsTellTablesApart : Type 0
CanonicalTextsTellTablesApart = (t u : ElementTable) → IsTable t → IsTable u → AreByFirst t.ranges → AreByFirst u.ranges → canonical t ≡ canonical u → with_ideographs t [] ≡ with_ideographs u []

-- a list begins with another
pub record BeginsWith (whole front : List ℕ) : Type 0 where
  pub rest : List ℕ
  pub parts : whole ≡ front ++ rest

-- S3: the key of a text at a strength is the beginning of its key at each strength of as many levels or more
abbrev pub KeysGrowByLevels : Type 0
KeysGrowByLevels = (t : ElementTable) (v : Variable) (low high : Strength) (text : List ℕ) → levels low ≤ levels high
    → BeginsWith (sort_key t (record { strength = high; weighting = v }) text) (sort_key t (record { strength = low; weighting = v }) text)

-- a text in two parts, each of which has its NFD, its elements and its level lists independently
pub record IsCutApart (t : ElementTable) (v : Variable) (front back : List ℕ) : Type 0 where
  pub decomposed : nfd (front ++ back) ≡ nfd front ++ nfd back
  pub elements : elements t (nfd (front ++ back)) ≡ elements t (nfd front) ++ elements t (nfd back)
  pub lists : (level : ℕ) → level_list t v (front ++ back) level ≡ level_list t v front level ++ level_list t v back level

-- up to their safe cut two texts are the same, and there each splits into two parts
pub record AreCutApart (t : ElementTable) (v : Variable) (a b : List ℕ) : Type 0 where
  pub same : take (cut_of t a b) a ≡ take (cut_of t a b) b
  pub first : IsCutApart t v (take (cut_of t a b) a) (drop (cut_of t a b) a)
  pub second : IsCutApart t v (take (cut_of t a b) b) (drop (cut_of t a b) b)

-- under every table, two texts are cut apart at their safe cut
abbrev pub TextsAreCutApart : Type 0
TextsAreCutApart = (t : ElementTable) (v : Variable) (a b : List ℕ) → IsTable t → AreCutApart t v a b

-- under every table, where a text is complete, the key of each text that begins with it begins with its key at the strength Primary, at every strength and option
abbrev pub KeysBeginWithCompleteTexts : Type 0
KeysBeginWithCompleteTexts = (t : ElementTable) (s : Settings) (p x : List ℕ) → is_complete t p ≡ true → BeginsWith (sort_key t s (p ++ x)) (primary_key t s.weighting p)

-- the bytes of a byte string
abbrev pub AreBytes : List ℕ → Type 0
AreBytes = AllByRecursion (λ b. b < 256)

-- the byte strings that begin with another are exactly those from it up to the end of its prefix
abbrev pub PrefixesAreRanges : Type 0
PrefixesAreRanges = (front bytes : List ℕ) → AreBytes bytes → IsBetween front (end_of_prefix front) bytes ↔ BeginsWith bytes front

-- under every table, a key that begins with that of another text at the strength Primary is that of a text whose primary weights begin with those of the other
abbrev pub KeysBeginWithPrimaryWeights : Type 0
KeysBeginWithPrimaryWeights = (t : ElementTable) (s : Settings) (p x : List ℕ) → IsTable t → All IsScalar p → All IsScalar x
    → BeginsWith (sort_key t s x) (primary_key t s.weighting p) → BeginsWith (level_list t s.weighting x 1) (level_list t s.weighting p 1)
