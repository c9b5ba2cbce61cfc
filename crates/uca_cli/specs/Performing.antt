-- The result of a job: the table that it works with, and the command.
use Rattle.std.specs.Prelude.{◌≡◌, ⊤, ℕ, ◌⊎◌, Bool, true, false, Option, Some, None}
use Rattle.uca_weights.specs.declared.settings.Settings.{Settings}
use Rattle.uca_io.specs.Reader.{ReaderState}
use Rattle.uca_model.specs.Table.{ElementTable}
use Rattle.uca_table.specs.Builder.{ideographs_fault, with_more_ideographs}
use Rattle.uca_table.specs.declared.fault.RangeFault.TheVariants as range
use Rattle.uca_weights.specs.declared.range.Ideographs.{Ideographs}
use Rattle.uca_allkeys.specs.Reading.{GivesTable, IsRefused}
use Rattle.uca_allkeys.specs.declared.faults.ReadFault.{ReadFault}
use Rattle.uca_cli.specs.BuiltIn.{built_in_table}
use Rattle.uca_commands.specs.Commands.{Command, Ends, Does, Fails, check_command, compare_command, elements_command, key_command, lint_command, order_command, raw_key_command, table_command}
use Rattle.uca_cli.specs.RuleFile.{Tailors, RefusesTailoring}
use Rattle.uca_commands.specs.declared.faults.CliFault.{CliFault}
use Rattle.uca_commands.specs.declared.faults.CliFault.TheVariants as fault
use Rattle.uca_job.specs.declared.job.Job.{Job}
use Rattle.uca_job.specs.declared.job.Task.{Task}
use Rattle.uca_job.specs.declared.job.Task.TheVariants.{Elements, Key, Compare, Order, Check, Lint, Table}

-- the command of a task; the flag `--raw` is one of `key`
abbrev pub command_of : Task → Bool → Command
command_of Elements raw = elements_command
command_of Key false = key_command
command_of Key true = raw_key_command
command_of Compare raw = compare_command
command_of Order raw = order_command
command_of Check raw = check_command
command_of Lint raw = lint_command
command_of Table raw = table_command

-- the settings of a job
abbrev pub settings_of : Job → Settings
settings_of job = record { strength = job.strength; weighting = job.weighting }

-- the range between two code points
abbrev pub range_between : ℕ × ℕ → Ideographs
range_between ends = record { first = ends.0; last = ends.1 }

-- ---- the table before the rules

-- the table is what the text in the reader says; where there is no reader it is the built-in one
abbrev pub ReadsTable : Option ReaderState → Option ReaderState → ElementTable → Type 0
ReadsTable (Some old) (Some new) t = GivesTable old new t
ReadsTable None None t = t ≡ built_in_table
ReadsTable _ _ t = ⊥

-- the text in the reader is not a table
abbrev pub RefusesText : Option ReaderState → Option ReaderState → ReadFault → Type 0
RefusesText (Some old) (Some new) f = IsRefused old new f
RefusesText _ _ f = ⊥

-- there is no reader, and memory for the built-in table was refused
abbrev pub LacksMemoryForTable : Option ReaderState → Option ReaderState → Type 0
LacksMemoryForTable None None = ⊤
LacksMemoryForTable _ _ = ⊥

-- no table was read
abbrev pub StopsTable : Option ReaderState → Option ReaderState → CliFault → Type 0
StopsTable old new (fault.Table f) = RefusesText old new f
StopsTable old new fault.OutOfMemory = LacksMemoryForTable old new
StopsTable old new _ = ⊥

-- ---- the table with the job's range of ideographs

-- the table with the range, where there is one
abbrev pub Widens : Option (ℕ × ℕ) → ElementTable → ElementTable → Type 0
Widens None base t = t ≡ base
Widens (Some ends) base t = (ideographs_fault base.ideographs (range_between ends) ≡ None) × (t ≡ with_more_ideographs base (range_between ends))

-- the range may not be added, or it may, and memory for it was refused
abbrev pub RefusesWidening : Option (ℕ × ℕ) → ElementTable → CliFault → Type 0
RefusesWidening (Some ends) base fault.Ideographs = ideographs_fault base.ideographs (range_between ends) ≡ Some range.BadRange
RefusesWidening (Some ends) base fault.OutOfMemory = ideographs_fault base.ideographs (range_between ends) ≡ None
RefusesWidening _ base f = ⊥

-- the table was read, and the range was added
pub record MakesBase (ends : Option (ℕ × ℕ)) (old new : Option ReaderState) (t : ElementTable) : Type 0 where
  pub given : ElementTable
  pub table : ReadsTable old new given
  pub range : Widens ends given t

-- the table was read, and the range was not added
pub record StopsWidening (ends : Option (ℕ × ℕ)) (old new : Option ReaderState) (f : CliFault) : Type 0 where
  pub given : ElementTable
  pub table : ReadsTable old new given
  pub range : RefusesWidening ends given f

-- there is no table with the range
abbrev pub StopsBase : Option (ℕ × ℕ) → Option ReaderState → Option ReaderState → CliFault → Type 0
StopsBase ends old new f = StopsTable old new f ⊎ StopsWidening ends old new f

-- ---- the table with the rules

-- what is known of the readers of the table and of the rules, where there are any
pub record Sources : Type 0 where
  pub table : Option ReaderState
  pub rules : Option ReaderState

-- the table was made, and the rules tailored it
pub record MakesTable (ends : Option (ℕ × ℕ)) (old new : Sources) (t : ElementTable) : Type 0 where
  pub base : ElementTable
  pub table : MakesBase ends old.table new.table base
  pub rules : Tailors old.rules new.rules base t

-- there was no table, and the rules were not read
pub record HasNoTable (ends : Option (ℕ × ℕ)) (old new : Sources) (f : CliFault) : Type 0 where
  pub table : StopsBase ends old.table new.table f
  pub rules : new.rules ≡ old.rules

-- the table was made, and there were no rules for it
pub record HasNoRules (ends : Option (ℕ × ℕ)) (old new : Sources) (f : CliFault) : Type 0 where
  pub base : ElementTable
  pub table : MakesBase ends old.table new.table base
  pub rules : RefusesTailoring old.rules new.rules base f

-- why there is no table to work with
abbrev pub RefusesTable : Option (ℕ × ℕ) → Sources → Sources → CliFault → Type 0
RefusesTable ends old new f = HasNoTable ends old new f ⊎ HasNoRules ends old new f

-- ---- the job

-- there was a table, and the command succeeded with it
pub record Performs (job : Job) (old new : Sources) (before after : Ends) (status : ℕ) : Type 0 where
  pub t : ElementTable
  pub table : MakesTable job.ideographs old new t
  pub work : Does (command_of job.command job.raw) t (settings_of job) before after status

-- there was no table, and nothing else was done
pub record LacksTable (ends : Option (ℕ × ℕ)) (old new : Sources) (before after : Ends) (f : CliFault) : Type 0 where
  pub table : RefusesTable ends old new f
  pub same : after ≡ before

-- there was a table, and the command failed
pub record StopsAfterTable (job : Job) (old new : Sources) (before after : Ends) (f : CliFault) : Type 0 where
  pub t : ElementTable
  pub table : MakesTable job.ideographs old new t
  pub work : Fails (command_of job.command job.raw) t (settings_of job) before after f

-- why a job failed
abbrev pub Refuses : Job → Sources → Sources → Ends → Ends → CliFault → Type 0
Refuses job old new before after f = LacksTable job.ideographs old new before after f ⊎ StopsAfterTable job old new before after f
