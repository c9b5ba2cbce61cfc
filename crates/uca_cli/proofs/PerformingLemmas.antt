-- A job is its table, the rules for it, and the command with the tailored table.
use Rattle.std.proofs.Common.{◌≡◌, ◌⊎◌, ℕ, Option, None, Some, Result, Ok, Err, IfOk, IfErr, inl, inr, refl}
use Rattle.uca_io.specs.Reader.{ReaderState}
use Rattle.uca_model.specs.Table.{ElementTable}
use Rattle.uca_commands.specs.Commands.{Ends, Does, Fails}
use Rattle.uca_cli.specs.Performing.{command_of, MakesBase, ReadsTable, RefusesWidening, StopsBase, Performs, Refuses, Widens, settings_of}
use Rattle.uca_cli.specs.RuleFile.{Tailors, RefusesTailoring}
use Rattle.uca_commands.specs.declared.faults.CliFault.{CliFault}
use Rattle.uca_job.specs.declared.job.Job.{Job}

-- there is a value, or there is none
pub option_cases : {A : Type 0} (o : Option A) → (o ≡ None) ⊎ ((a : A) × (o ≡ Some a))
option_cases None = inl refl
option_cases (Some a) = inr (a, refl)

-- the table that was made has the range
pub makes_base : (ends : Option (ℕ × ℕ)) (old new : Option ReaderState) (given read base : ElementTable) → given ≡ read → ReadsTable old new read → Widens ends given base → MakesBase ends old new base
makes_base ends old new given read base is table range = record { given = given; table = rw is table; range = range }

-- .. or may not have it
pub stops_widening : (ends : Option (ℕ × ℕ)) (old new : Option ReaderState) (given read : ElementTable) (f : CliFault) → given ≡ read → ReadsTable old new read → RefusesWidening ends given f → StopsBase ends old new f
stops_widening ends old new given read f is table range = inr (record { given = given; table = rw is table; range = range })

-- the command was done with the table
pub performs : (job : Job) (old_table new_table old_rules new_rules : Option ReaderState) (base t : ElementTable) (old new : Ends) (result : Result ℕ CliFault)
    → MakesBase job.ideographs old_table new_table base → Tailors old_rules new_rules base t → IfOk result (Does (command_of job.command job.raw) t (settings_of job) old new)
    → IfOk result (Performs job (record { table = old_table; rules = old_rules }) (record { table = new_table; rules = new_rules }) old new)
performs job old_table new_table old_rules new_rules base t old new (Ok status) table rules work = record { t = t; table = record { base = base; table = table; rules = rules }; work = work }
performs job old_table new_table old_rules new_rules base t old new (Err f) table rules work = tt

-- the command was not done with the table
pub stops : (job : Job) (old_table new_table old_rules new_rules : Option ReaderState) (base t : ElementTable) (old new : Ends) (result : Result ℕ CliFault)
    → MakesBase job.ideographs old_table new_table base → Tailors old_rules new_rules base t → IfErr result (Fails (command_of job.command job.raw) t (settings_of job) old new)
    → IfErr result (Refuses job (record { table = old_table; rules = old_rules }) (record { table = new_table; rules = new_rules }) old new)
stops job old_table new_table old_rules new_rules base t old new (Ok status) table rules work = tt
stops job old_table new_table old_rules new_rules base t old new (Err f) table rules work = inr (record { t = t; table = record { base = base; table = table; rules = rules }; work = work })

-- there was a table, and no rules for it
pub no_rules : (job : Job) (old_table new_table old_rules new_rules : Option ReaderState) (base : ElementTable) (ends : Ends) (f : CliFault)
    → MakesBase job.ideographs old_table new_table base → RefusesTailoring old_rules new_rules base f
    → Refuses job (record { table = old_table; rules = old_rules }) (record { table = new_table; rules = new_rules }) ends ends f
no_rules job old_table new_table old_rules new_rules base ends f table rules = inl (record { table = inr (record { base = base; table = table; rules = rules }); same = refl })

-- there was no table
pub no_table : (job : Job) (old_table new_table rules : Option ReaderState) (ends : Ends) (f : CliFault) → StopsBase job.ideographs old_table new_table f
    → Refuses job (record { table = old_table; rules = rules }) (record { table = new_table; rules = rules }) ends ends f
no_table job old_table new_table rules ends f table = inl (record { table = inl (record { table = table; rules = refl }); same = refl })
