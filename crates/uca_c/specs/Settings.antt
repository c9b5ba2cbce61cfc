-- The settings that numbers name.
use Rattle.std.specs.Prelude.{ℕ, ◌==◌, ◌&&◌, Bool, Option, Some, None, if◌then◌else◌}
use Rattle.uca_weights.specs.declared.settings.Settings.{Settings}
use Rattle.uca_weights.specs.declared.settings.Strength.{Strength}
use Rattle.uca_weights.specs.declared.settings.Strength.TheVariants.{Primary, Secondary, Tertiary, Quaternary, Identical}
use Rattle.uca_weights.specs.declared.settings.Variable.{Variable}
use Rattle.uca_weights.specs.declared.settings.Variable.TheVariants.{NonIgnorable, Blanked, Shifted}
use Rattle.uca_c.specs.declared.settings.RawSettings.{RawSettings}

-- a strength, 1 to 5
abbrev pub strength_named : ℕ → Option Strength
strength_named n = if n == 1 then Some Primary else (if n == 2 then Some Secondary else (if n == 3 then Some Tertiary else (if n == 4 then Some Quaternary else (if n == 5 then Some Identical else None))))

-- an option for variable elements, 0 to 2
abbrev pub variable_named : ℕ → Option Variable
variable_named n = if n == 0 then Some NonIgnorable else (if n == 1 then Some Blanked else (if n == 2 then Some Shifted else None))

abbrev both : Option Strength → Option Variable → Option Settings
both (Some s) (Some w) = Some (record { strength = s; weighting = w })
both (Some s) None = None
both None w = None

-- the numbers that have no meaning yet are 0
abbrev pub has_zeros : RawSettings → Bool
has_zeros raw = raw.reserved_1 == 0 && raw.reserved_2 == 0 && raw.reserved_3 == 0 && raw.reserved_4 == 0 && raw.reserved_5 == 0 && raw.reserved_6 == 0

-- the settings that numbers name
abbrev pub settings_named : RawSettings → Option Settings
settings_named raw = if has_zeros raw then both (strength_named raw.strength) (variable_named raw.variable) else None
