-- What a fingerprint is made of.
use Rattle.std.specs.Prelude.{ℕ, List, [], ◌∷◌, ◌++◌}
use Rattle.ucd_table.specs.declared.version.TheConstants.{UNICODE_VERSION}
use Rattle.uca_model.specs.CanonicalText.{canonical}
use Rattle.uca_model.specs.Table.{ElementTable}
use Rattle.uca_weights.specs.Settings.{levels}
use Rattle.uca_weights.specs.declared.settings.Settings.{Settings}
use Rattle.uca_weights.specs.declared.settings.Variable.{Variable}
use Rattle.uca_weights.specs.declared.settings.Variable.TheVariants.{NonIgnorable, Blanked, Shifted}

-- the form of keys: it changes if the same weights ever make another sort key or packed key. Packed keys had others before
abbrev pub key_form : ℕ
key_form = 4

abbrev pub variable_number : Variable → ℕ
variable_number NonIgnorable = 0
variable_number Blanked = 1
variable_number Shifted = 2

-- the settings, the form of keys and the version of Unicode, each number as a byte
abbrev pub settings_bytes : Settings → List ℕ
settings_bytes s = key_form ∷ levels s.strength ∷ variable_number s.weighting ∷ UNICODE_VERSION.0 ∷ UNICODE_VERSION.1 ∷ UNICODE_VERSION.2 ∷ []

-- the canonical text of the table, and then the settings
abbrev pub fingerprinted : ElementTable → Settings → List ℕ
fingerprinted t s = canonical t ++ settings_bytes s
