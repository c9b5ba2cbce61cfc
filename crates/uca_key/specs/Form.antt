-- The forms of a key.
use Rattle.std.specs.Prelude.{ℕ, List}
use Rattle.uca_weights.specs.declared.settings.Settings.{Settings}
use Rattle.uca_model.specs.Table.{ElementTable}
use Rattle.uca_model.specs.SortKey.{sort_key}
use Rattle.uca_key.specs.PackedKey.{packed_key_by}
use Rattle.uca_key.specs.declared.form.Form.{Form}
use Rattle.uca_key.specs.declared.form.Form.TheVariants.{Plain, Packed}

-- the key of a text in a form
abbrev pub key_in : Form → ElementTable → Settings → List ℕ → List ℕ
key_in Plain t s text = sort_key t s text
key_in (Packed code) t s text = packed_key_by code.now t s text
