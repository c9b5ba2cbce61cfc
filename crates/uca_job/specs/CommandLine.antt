-- The command line of the program: which job the words after the program's name request, by clap's own definition of
-- what a command takes and finds.
use Rattle.std.specs.Prelude.{◌≡◌, ◌≢◌, ⊤, ℕ, Bool, true, false, List, [], ◌∷◌, ◌==◌, Option, Some, None, IsSomeAnd, codes, fold, if◌then◌else◌, map, option_and_then, option_map, string_bytes, unwrap_or}
use Rattle.std.specs.List.{after_first, before_first}
use Rattle.std.specs.Option.{option_map_or}
use Rattle.std.specs.Borrow.{Bor}
use Rattle.std.specs.Str.{bytes_eq}
use Rattle.clap.specs.Words.{App, Row, Rule, Text, fault_of, first_of, new_app, new_rule, subcommand_of, with_rule, with_subcommand}
use Rattle.clap.specs.Simple.{on_top}
use Rattle.clap.specs.declared.builder.action.ArgAction.TheVariants.{SetTrue}
use Rattle.clap.specs.declared.builder.value_parser.ValueParser.TheVariants.{Names}
use Rattle.uca_io.specs.Digits.{code_point}
use Rattle.uca_weights.specs.declared.settings.Strength.{Strength}
use Rattle.uca_weights.specs.declared.settings.Strength.TheVariants.{Primary, Secondary, Tertiary, Quaternary, Identical}
use Rattle.uca_weights.specs.declared.settings.Variable.{Variable}
use Rattle.uca_weights.specs.declared.settings.Variable.TheVariants.{NonIgnorable, Blanked, Shifted}
use Rattle.uca_job.specs.declared.job.Choices as declared
use Rattle.uca_job.specs.declared.job.Job.{Job}
use Rattle.uca_job.specs.declared.job.JobFault.{JobFault}
use Rattle.uca_job.specs.declared.job.JobFault.TheVariants.{Usage, OutOfMemory, BadIdeographs}
use Rattle.uca_job.specs.declared.job.Task.{Task}
use Rattle.uca_job.specs.declared.job.Task.TheVariants.{Elements, Key, Compare, Order, Check, Lint, Table}

-- ---- the names that the options take

-- the strength of this name
abbrev pub strength_named : Text → Option Strength
strength_named name =
    if bytes_eq name (codes "primary") then Some Primary
    else (if bytes_eq name (codes "secondary") then Some Secondary
    else (if bytes_eq name (codes "tertiary") then Some Tertiary
    else (if bytes_eq name (codes "quaternary") then Some Quaternary
    else (if bytes_eq name (codes "identical") then Some Identical else None))))

-- the way of weighting variable elements that has this name
abbrev pub weighting_named : Text → Option Variable
weighting_named name =
    if bytes_eq name (codes "non-ignorable") then Some NonIgnorable
    else (if bytes_eq name (codes "blanked") then Some Blanked
    else (if bytes_eq name (codes "shifted") then Some Shifted else None))

-- the lists of names that clap borrows: it takes no other value of these options
pub record Choices : Type 0 where
  pub strengths : Bor (List (Bor Text))
  pub weightings : Bor (List (Bor Text))

-- the lists that the code has
abbrev pub choices_of : declared.Choices → Choices
choices_of c = record { strengths = c.strengths; weightings = c.weightings }

-- the lists have exactly the names with a meaning
pub record AreChoices (choices : Choices) : Type 0 where
  pub strengths : map (λ name. name.now) choices.strengths.now
      ≡ codes "primary" ∷ codes "secondary" ∷ codes "tertiary" ∷ codes "quaternary" ∷ codes "identical" ∷ []
  pub weightings : map (λ name. name.now) choices.weightings.now
      ≡ codes "non-ignorable" ∷ codes "blanked" ∷ codes "shifted" ∷ []

-- ---- the commands of the program, as clap reads them

-- an option that takes one value, and may be left out
abbrev pub option_of : Text → Rule
option_of name = record (new_rule name) { long = Some name; value_names = 1 }

-- `--table FILE`
abbrev pub table_option : Rule
table_option = option_of (codes "table")

-- `--rules FILE`
abbrev pub rules_option : Rule
rules_option = option_of (codes "rules")

-- `--strength S`
abbrev pub strength_option : Bor (List (Bor Text)) → Rule
strength_option names =
    record (option_of (codes "strength")) { parser = Some (Names names); defaults = codes "tertiary" ∷ [] }

-- `--variable V`
abbrev pub variable_option : Bor (List (Bor Text)) → Rule
variable_option names =
    record (option_of (codes "variable")) { parser = Some (Names names); defaults = codes "non-ignorable" ∷ [] }

-- `--ideographs A..B`
abbrev pub ideographs_option : Rule
ideographs_option = option_of (codes "ideographs")

-- the flag `--raw`
abbrev pub raw_flag : Rule
raw_flag = record (new_rule (codes "raw")) { long = Some (codes "raw"); action = Some SetTrue }

-- a command with the options that name files
abbrev pub with_files : Text → App
with_files name = with_rule (with_rule (new_app name) table_option) rules_option

-- a command with the options that name files and settings
abbrev pub with_settings : Choices → Text → App
with_settings choices name =
    with_rule (with_rule (with_files name) (strength_option choices.strengths)) (variable_option choices.weightings)

-- a command with the options that each takes
abbrev pub with_options : Choices → Text → App
with_options choices name = with_rule (with_settings choices name) ideographs_option

-- a command: `key` has a flag besides
abbrev pub command_with : Choices → Text → App
command_with choices name =
    if bytes_eq name (codes "key") then with_rule (with_options choices name) raw_flag else with_options choices name

-- the program without its commands: its own name is not among the words, and they have to name a command
abbrev pub bare_program : App
bare_program =
    on_top (λ s. record s { no_binary_name = true; subcommand_required = true }) (new_app (codes "uca"))

-- a program with one more command
abbrev pub with_command : Choices → App → Text → App
with_command choices program name = with_subcommand program (command_with choices name).top

-- the names of the commands, in their order
abbrev pub command_names : List Text
command_names =
    codes "elements" ∷ codes "key" ∷ codes "compare" ∷ codes "order" ∷ codes "check" ∷ codes "lint" ∷ codes "table" ∷ []

-- the program
abbrev pub uca_with : Choices → App
uca_with choices = fold (with_command choices) bare_program command_names

-- the task of the command of this name
abbrev pub task_named : Text → Option Task
task_named name =
    if bytes_eq name (codes "elements") then Some Elements
    else (if bytes_eq name (codes "key") then Some Key
    else (if bytes_eq name (codes "compare") then Some Compare
    else (if bytes_eq name (codes "order") then Some Order
    else (if bytes_eq name (codes "check") then Some Check
    else (if bytes_eq name (codes "lint") then Some Lint
    else (if bytes_eq name (codes "table") then Some Table else None))))))

-- ---- the job that the words request

-- the strength that the option names: where it is left out, the third
abbrev pub strength_in : List Row → Strength
strength_in rows = unwrap_or (option_and_then strength_named (first_of (codes "strength") rows)) Tertiary

-- the weighting that the option names: where it is left out, variable elements are as others
abbrev pub weighting_in : List Row → Variable
weighting_in rows = unwrap_or (option_and_then weighting_named (first_of (codes "variable") rows)) NonIgnorable

-- whether the flag was given: clap finds the value `true` where it was, `false` where it was not, and none where a command lacks it
abbrev pub raw_in : List Row → Bool
raw_in rows = option_map_or (λ value. bytes_eq value (codes "true")) (first_of (codes "raw") rows) false

-- the code points at the ends of a range
abbrev pub both : Option ℕ → Option ℕ → Option (ℕ × ℕ)
both first last = option_and_then (λ a. option_map (λ b. (a, b)) last) first

-- a full stop, U+002E
abbrev pub is_stop : ℕ → Bool
is_stop b = b == 0x2E

-- what follows a full stop that comes first
abbrev pub after_stop : Text → Option Text
after_stop [] = None
after_stop (b ∷ bs) = if is_stop b then Some bs else None

-- the ends of the range that a text spells: two code points of four to six hexadecimal digits, with `..` and no blanks between
abbrev pub range_spelled : Text → Option (ℕ × ℕ)
range_spelled text =
    option_and_then (λ last. both (code_point (before_first is_stop text)) (code_point last)) (after_stop (after_first is_stop text))

-- the option was given, and its value spells no range
abbrev pub LacksRange : Text × List Row → Type 0
LacksRange found = option_map range_spelled (first_of (codes "ideographs") found.1) ≡ Some None

-- the job of a command's name and of what was found for its options; what no option gives has its default
pub record IsJobFrom (job : Job) (found : Text × List Row) : Type 0 where
  pub command : task_named found.0 ≡ Some job.command
  pub strength : job.strength ≡ strength_in found.1
  pub weighting : job.weighting ≡ weighting_in found.1
  pub table : option_map string_bytes job.table ≡ first_of (codes "table") found.1
  pub raw : job.raw ≡ raw_in found.1
  pub rules : option_map string_bytes job.rules ≡ first_of (codes "rules") found.1
  pub ideographs : option_map range_spelled (first_of (codes "ideographs") found.1) ≡ option_map Some job.ideographs

-- clap takes the words: they have no mistake, and ask for no help
abbrev pub IsTaken : Choices → List Text → Type 0
IsTaken choices words = fault_of (uca_with choices) words ≡ []

-- clap takes the words, and the job is that of the command and the options that it finds in them
pub record IsJobOf (words : List Text) (job : Job) : Type 0 where
  pub choices : Choices
  pub right : AreChoices choices
  pub taken : IsTaken choices words
  pub found : IsSomeAnd (subcommand_of (uca_with choices) words) (IsJobFrom job)

-- clap refuses the words, or prints help
pub record IsRefused (words : List Text) : Type 0 where
  pub choices : Choices
  pub right : AreChoices choices
  pub refused : fault_of (uca_with choices) words ≢ []

-- clap takes the words, and the value that they give for a range spells none
pub record IsWithoutRange (words : List Text) : Type 0 where
  pub choices : Choices
  pub right : AreChoices choices
  pub taken : IsTaken choices words
  pub found : IsSomeAnd (subcommand_of (uca_with choices) words) LacksRange

-- clap's text of the words is the fault
abbrev pub IsUsage : JobFault → Type 0
IsUsage (Usage text) = ⊤
IsUsage OutOfMemory = ⊥
IsUsage BadIdeographs = ⊥
