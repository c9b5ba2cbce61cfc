-- Words that clap takes name a command of the program.
use Rattle.std.proofs.Common.{arith, ◌≡◌, Bool, true, false, List, [], ◌∷◌, Option, Some, None, refl, codes, is_some}
use Rattle.std.specs.Prelude.{IfSome, IsSome, IsSomeAnd, find, ◌&&◌, ◌||◌, option_map}
use Rattle.std.specs.List.{list_all, list_any}
use Rattle.std.specs.Str.{bytes_eq}
use Rattle.std.proofs.lemmas.Slice.Eq.{bytes_eq-Decides}
use Rattle.clap.specs.Walk.{Row, Text, answers_to, finished, is_empty, nothing_held, settled, stop_after, walk, walk_from}
use Rattle.clap.specs.Simple.{App, Shape, built, entered, is_simple, label_of, names_of, rows_at, subcommand_of}
use Rattle.clap.specs.Kinds.{check_kinds}
use Rattle.clap.specs.Faults.{built_fault, check_fault, defaults_fault, entered_fault, is_simple_and_free, settle_fault, walk_fault}
use Rattle.clap.proofs.OnLiterals.{clap_on_literals}
use Rattle.uca_job.specs.CommandLine.{Choices, IsTaken, task_named, uca_with}
use Rattle.uca_job.proofs.HelpLemmas.{IsNotHelp, StopsAtNoHelp, or_else-nil, walk_no_help}

-- the name found is that of a task
abbrev pub NamesTask : Text × List Row → Type 0
NamesTask found = IsSome (task_named found.0)

-- the command has one name, which is that of a task or `help`
abbrev is_known : Shape → Bool
is_known s = is_empty s.aliases && (is_some (task_named s.name) || bytes_eq s.name (codes "help"))

-- what is found passes the test, and the test that all elements pass
find-passes : {X : Type 0} (p q : X → Bool) (xs : List X) → list_all q xs ≡ true → IfSome (find p xs) (λ x. (p x ≡ true) × (q x ≡ true))
find-passes p q [] all = tt
find-passes p q (x ∷ xs) all = go (p x) (q x) refl refl all (find-passes p q xs)
  where
    go : (found known : Bool) → p x ≡ found → q x ≡ known → (known && list_all q xs) ≡ true
        → (list_all q xs ≡ true → IfSome (find p xs) (λ x. (p x ≡ true) × (q x ≡ true))) → IfSome (find p (x ∷ xs)) (λ x. (p x ≡ true) × (q x ≡ true))
    go found false is also all later = cc
    go true true is also all later = rw is (is, also)
    go false true is also all later = rw is (later all)

-- a known command that a name other than `help` calls is that of a task
known_task : (s : Shape) (name : Text) → is_known s ≡ true → answers_to name (label_of s) ≡ true → IsNotHelp name → IsSome (task_named s.name)
known_task s name known called other = go s.aliases (is_some (task_named s.name)) (bytes_eq s.name (codes "help")) refl refl known called
  where
    go : (aliases : List Text) (has_task is_help : Bool) → is_some (task_named s.name) ≡ has_task → bytes_eq s.name (codes "help") ≡ is_help
        → (is_empty aliases && (has_task || is_help)) ≡ true → (bytes_eq s.name name || list_any (λ alias. bytes_eq alias name) aliases) ≡ true
        → IsSome (task_named s.name)
    go (x ∷ xs) has_task is_help task help known called = absurd (grind (arith, known))
    go [] true is_help task help known called = task
    go [] false false task help known called = cc
    go [] false true task help known called =
        let is_name : s.name ≡ name = (bytes_eq-Decides s.name name).0 (grind arith) in
        let no_help : bytes_eq s.name (codes "help") ≡ false = rw is_name other in
        cc

-- the command that a walk entered is that of a task, where each is known and it was not `help`
entered_task : (a : App) (stop : Option (Text × List Text)) → list_all is_known a.subs ≡ true → StopsAtNoHelp stop → is_some (entered a stop) ≡ true
    → IsSomeAnd (entered a stop) NamesTask
entered_task a None known own met = cc
entered_task a (Some p) known own met =
    go (find (λ s. answers_to p.0 (label_of s)) a.subs) (find-passes (λ s. answers_to p.0 (label_of s)) is_known a.subs known) met
  where
    go : (s : Option Shape) → IfSome s (λ s. (answers_to p.0 (label_of s) ≡ true) × (is_known s ≡ true)) → is_some (option_map (λ s. rows_at s p.1) s) ≡ true
        → IsSomeAnd (option_map (λ s. rows_at s p.1) s) NamesTask
    go None passes met = cc
    go (Some s) passes met = known_task s p.0 passes.1 passes.0 own

-- no fault of the last checks leaves a required command out
required_met : (s : Shape) (rows : List Row) (has : Bool) → s.subcommand_required ≡ true → check_fault s rows has ≡ [] → has ≡ true
required_met s rows true required fine = refl
required_met s rows false required fine = go _ s.subcommand_required _ required fine
  where
    go : (help wanted argument : Bool) → wanted ≡ true → check_kinds help wanted argument ≡ [] → false ≡ true
    go true wanted argument required fine = cc
    go false true argument required fine = cc
    go false false argument required fine = cc

-- words without a fault enter the command of a task
faultless_task : (a : App) (words : List Text) → a.top.disable_help_subcommand ≡ false → a.top.subcommand_required ≡ true
    → list_all is_known a.subs ≡ true → built_fault a nothing_held words ≡ []
    → IsSomeAnd (entered a (stop_after a.top.rules (names_of a) words)) NamesTask
faultless_task a words help required known fine =
    let c = a.top.rules in
    let end = (walk c (names_of a) nothing_held words).held in
    let stop = stop_after c (names_of a) words in
    let walks = or_else-nil (walk_fault a.top (names_of a) (walk_from nothing_held) words) _ fine in
    let below = or_else-nil (entered_fault a stop) _ walks.1 in
    let settles = or_else-nil (settle_fault c a.top.args_override_self end) _ below.1 in
    let checks = or_else-nil (defaults_fault (settled c end).rows c) _ settles.1 in
    entered_task a stop known (walk_no_help a.top (names_of a) words help (walk_from nothing_held) walks.0)
    (required_met a.top (finished c end) (is_some (entered a stop)) required checks.1)

-- words that clap takes name the command of a task
pub taken_task : (choices : Choices) (words : List Text) → IsTaken choices words → IsSomeAnd (subcommand_of (uca_with choices) words) NamesTask
taken_task choices words taken = faultless_task (built (uca_with choices)) words refl refl refl taken

-- clap's definition of the matches is about the program
pub uca_is_simple : (choices : Choices) → is_simple (uca_with choices) ≡ true
unfolding clap_on_literals
uca_is_simple choices = refl

-- and so does that of the faults
pub uca_is_free : (choices : Choices) → is_simple_and_free (uca_with choices) ≡ true
unfolding clap_on_literals
uca_is_free choices = refl
