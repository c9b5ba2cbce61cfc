-- What equal fingerprinted bytes mean.
use Rattle.std.specs.Prelude.{◌≡◌, ℕ, List, []}
use Rattle.uca_weights.specs.declared.settings.Settings.{Settings}
use Rattle.uca_model.specs.Ranges.{AreByFirst}
use Rattle.uca_model.specs.SortKey.{sort_key}
use Rattle.uca_model.specs.Table.{ElementTable, IsTable}
use Rattle.uca_key.specs.PackedKey.{packed_key}
use Rattle.uca_handle.specs.Fingerprint.{fingerprinted}

-- two tables and the settings beside them are the same, and make the same sort keys and packed keys
pub record MakeSameKeys (t u : ElementTable) (s r : Settings) : Type 0 where
  pub table : t ≡ u
  pub settings : s ≡ r
  pub keys : (text : List ℕ) → sort_key t s text ≡ sort_key u r text
  pub packed : (text : List ℕ) → packed_key t s text ≡ packed_key u r text

-- a table without further ideographs
pub record IsWithoutIdeographs (t : ElementTable) : Type 0 where
  pub valid : IsTable t
  pub by_first : AreByFirst t.ranges
  pub none : t.ideographs ≡ []

-- tables without further ideographs, and settings, of which the bytes that a fingerprint digests are equal make the same keys
abbrev pub EqualFingerprintsMeanEqualKeys : Type 0
EqualFingerprintsMeanEqualKeys = (t u : ElementTable) (s r : Settings) → IsWithoutIdeographs t → IsWithoutIdeographs u → fingerprinted t s ≡ fingerprinted u r → MakeSameKeys t u s r
