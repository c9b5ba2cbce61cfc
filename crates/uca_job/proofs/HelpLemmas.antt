-- Where a walk over words has no fault, the command that it meets is not clap's own `help`.
use Rattle.std.proofs.Common.{◌≡◌, Bool, true, false, List, [], ◌∷◌, Option, Some, None, ℕ, refl, codes}
use Rattle.std.specs.Prelude.{⊤, IfSome, fold, not, ◌&&◌, if◌then◌else◌}
use Rattle.std.specs.Str.{bytes_eq}
use Rattle.clap.specs.Lexer.{long_of, short_of}
use Rattle.clap.specs.Walk.{Held, Names, Outcome, Rule, Step, Text, Waiting, Walk, after_flag, after_step, arg_by_index, arg_by_long, bundle, done, idle, long_met, long_or_other, next, option, plain, plain_word, positional, refused, short_or_plain, subcommand, subcommand_met, subcommand_or_other, to_positional, trailing, value, waits, walked, word_met}
use Rattle.clap.specs.Simple.{Shape}
use Rattle.clap.specs.Faults.{other_fault, step_fault, turn_fault, walk_fault, word_fault}
use Rattle.clap.specs.Kinds.{Kinds, or_else}
use Rattle.clap.specs.declared.error.kind.ErrorKind.TheVariants as kind
use Rattle.clap.proofs.WalkLemmas.{walk_stopped}

-- the name is not that of the command `help`
abbrev pub IsNotHelp : Text → Type 0
IsNotHelp name = bytes_eq name (codes "help") ≡ false

-- the step does not enter `help`
abbrev pub EntersNoHelp : Step → Type 0
EntersNoHelp (subcommand name) = IsNotHelp name
EntersNoHelp _ = ⊤

-- the walk did not stop at `help`
abbrev pub StopsAtNoHelp : Option (Text × List Text) → Type 0
StopsAtNoHelp stop = IfSome stop (λ p. IsNotHelp p.0)

-- where the first of two has no fault, both are without
pub or_else-nil : (a b : Kinds) → or_else a b ≡ [] → (a ≡ []) × (b ≡ [])
or_else-nil [] b e = (refl, e)
or_else-nil (k ∷ ks) b e = cc

plain_no_help : (c : List Rule) (waiting : Waiting) (word : Text) (h : Held) → EntersNoHelp (plain_word c waiting word h).1
plain_no_help c idle word h = tt
plain_no_help c (option id) word h = tt
plain_no_help c positional word h = tt

flag_no_help : (c : List Rule) (waiting : Waiting) (word : Text) (h : Held) (o : Outcome) → EntersNoHelp (after_flag c waiting word h o).1
flag_no_help c waiting word h done = tt
flag_no_help c waiting word h (waits id) = tt
flag_no_help c waiting word h plain = plain_no_help c waiting word h
flag_no_help c waiting word h refused = plain_no_help c waiting word h

short_no_help : (c : List Rule) (waiting : Waiting) (word : Text) (flags : Option Text) (h : Held) → EntersNoHelp (short_or_plain c waiting word flags h).1
short_no_help c waiting word (Some flags) h = flag_no_help c waiting word (bundle c flags h).0 (bundle c flags h).1
short_no_help c waiting word None h = plain_no_help c waiting word h

long_no_help : (c : List Rule) (waiting : Waiting) (word : Text) (p : Option (Text × Option Text)) (h : Held) → EntersNoHelp (long_or_other c waiting word p h).1
long_no_help c waiting word (Some p) h = flag_no_help c waiting word (long_met c (arg_by_long c p.0) p.1 h).0 (long_met c (arg_by_long c p.0) p.1 h).1
long_no_help c waiting word None h = short_no_help c waiting word (short_of word) h

other_no_help : (c : List Rule) (waiting : Waiting) (position : ℕ) (word : Text) (h : Held) → EntersNoHelp (subcommand_or_other c None waiting position word h).1
other_no_help c waiting position word h = go (bytes_eq word (45 ∷ 45 ∷ []))
  where
    go : (dashes : Bool) → EntersNoHelp (if dashes then (h, trailing position) else long_or_other c waiting word (long_of word) h).1
    go true = tt
    go false = long_no_help c waiting word (long_of word) h

-- a command's name has no fault only where it is not `help`
own_name : (s : Shape) (name word : Text) (h : Held) → s.disable_help_subcommand ≡ false → other_fault s (Some name) word h ≡ [] → IsNotHelp name
own_name s name word h enabled fine = go (bytes_eq name (codes "help")) s.disable_help_subcommand enabled fine
  where
    go : (is_help disabled : Bool) → disabled ≡ false
        → ◌≡◌ {A = Kinds} (if is_help && not disabled then kind.DisplayHelp ∷ kind.InvalidSubcommand ∷ [] else []) [] → is_help ≡ false
    go false disabled e fine = refl
    go true true e fine = cc
    go true false e fine = cc

met_no_help : (s : Shape) (met : Option Text) (waiting : Waiting) (position : ℕ) (word : Text) (h : Held) → s.disable_help_subcommand ≡ false
    → other_fault s met word h ≡ [] → EntersNoHelp (subcommand_or_other s.rules met waiting position word h).1
met_no_help s (Some name) waiting position word h enabled fine = own_name s name word h enabled fine
met_no_help s None waiting position word h enabled fine = other_no_help s.rules waiting position word h

-- a word without a fault does not enter `help`
word_no_help : (s : Shape) (names : Names) (is_trailing : Bool) (waiting : Waiting) (position : ℕ) (word : Text) (h : Held) → s.disable_help_subcommand ≡ false
    → word_fault s names is_trailing waiting word h ≡ [] → EntersNoHelp (word_met s.rules names is_trailing waiting position word h).1
word_no_help s names true waiting position word h enabled fine = tt
word_no_help s names false waiting position word h enabled fine =
    met_no_help s (subcommand_met names waiting word) waiting position word h enabled fine

-- where these words have no fault, a walk over them does not stop at `help`
abbrev NeverStopsAtHelp : Shape → Names → List Text → Type 0
NeverStopsAtHelp s names words = (w : Walk) → walk_fault s names (record w { stopped = None }) words ≡ []
    → StopsAtNoHelp (fold (walked s.rules names) (record w { stopped = None }) words).stopped

positional_no_help : (s : Shape) (names : Names) (w : Walk) (word : Text) (rest : List Text) (h : Held) (a : Option Rule) → NeverStopsAtHelp s names rest
    → walk_fault s names (to_positional s.rules a word (record w { stopped = None }) h) rest ≡ []
    → StopsAtNoHelp (fold (walked s.rules names) (to_positional s.rules a word (record w { stopped = None }) h) rest).stopped
positional_no_help s names w word rest h None later fine = later (to_positional s.rules None word (record w { stopped = None }) h) fine
positional_no_help s names w word rest h (Some a) later fine = later (to_positional s.rules (Some a) word (record w { stopped = None }) h) fine

step_no_help : (s : Shape) (names : Names) (w : Walk) (word : Text) (rest : List Text) (h : Held) (step : Step) → NeverStopsAtHelp s names rest
    → EntersNoHelp step → walk_fault s names (after_step s.rules word (record w { stopped = None }) h step) rest ≡ []
    → StopsAtNoHelp (fold (walked s.rules names) (after_step s.rules word (record w { stopped = None }) h step) rest).stopped
step_no_help s names w word rest h (next waiting) later own fine = later (after_step s.rules word (record w { stopped = None }) h (next waiting)) fine
step_no_help s names w word rest h (trailing position) later own fine =
    later (after_step s.rules word (record w { stopped = None }) h (trailing position)) fine
step_no_help s names w word rest h (subcommand name) later own fine =
    let at : Walk = record w { held = h } in
    rw (← walk_stopped s.rules names at name [] rest) own
step_no_help s names w word rest h value later own fine = positional_no_help s names w word rest h (arg_by_index s.rules w.position) later fine

-- a walk without a fault does not stop at `help`
pub walk_no_help : (s : Shape) (names : Names) (words : List Text) → s.disable_help_subcommand ≡ false → NeverStopsAtHelp s names words
unfolding walked walk_fault
walk_no_help s names [] enabled w fine = tt
walk_no_help s names (word ∷ rest) enabled w fine =
    let from : Walk = record w { stopped = None } in
    let met = word_met s.rules names w.is_trailing w.waiting w.position word w.held in
    let parts = or_else-nil (turn_fault s names from word) (walk_fault s names (walked s.rules names from word) rest) fine in
    let turn = or_else-nil (word_fault s names w.is_trailing w.waiting word w.held) (step_fault s w.position met.0 met.1) parts.0 in
    step_no_help s names w word rest met.0 met.1 (walk_no_help s names rest enabled)
    (word_no_help s names w.is_trailing w.waiting w.position word w.held enabled turn.0) parts.1
