use Rattle.std.proofs.Common.{rules, true, ◌≡◌, ◌⊎◌, ◌∙◌, List, [], ◌∷◌, IsSomeAnd, ap, inl, inr, map, subst, sym}
use Rattle.std.proofs.lemmas.Result.{IfErr-weaker, IfOk-weaker}
use Rattle.clap.specs.Words.{App, HasMatchesOf, Kinds, HasKind, Text, app_of, fault_of, is_simple, kind_of, subcommand_of, subcommand_rows_of}
use Rattle.clap.specs.Faults.{is_simple_and_free}
use Rattle.clap.specs.declared.error.Error.{Error}
use Rattle.clap.specs.declared.error.kind.ErrorKind.TheVariants as kind
use Rattle.clap.specs.declared.parser.matches.ArgMatches.{ArgMatches}
use Rattle.uca_job.specs.declared.job.JobFault.{JobFault}
use Rattle.uca_job.specs.declared.job.JobFault.TheVariants.{Usage, OutOfMemory, BadIdeographs}
use Rattle.uca_job.specs.CommandLine.{AreChoices, Choices, IsJobFrom, IsJobOf, IsRefused, IsTaken, IsUsage, LacksRange, uca_with}
use Rattle.uca_job.proofs.CommandLineLemmas.{taken_task, uca_is_free, uca_is_simple}
use Rattle.uca_job.proofs.job.job_of.Goals as goal

-- a fault of a job that clap's words request
abbrev Fault : ArgMatches → JobFault → Type 0
Fault matches f = (f ≡ OutOfMemory) ⊎ ((f ≡ BadIdeographs) × IsSomeAnd (subcommand_rows_of matches) LacksRange)

-- it is none of clap's
no_usage : (words : List Text) (matches : ArgMatches) (f : JobFault) → Fault matches f → IsUsage f → IsRefused words
no_usage words matches OutOfMemory fault usage = absurd usage
no_usage words matches BadIdeographs fault usage = absurd usage
no_usage words matches (Usage text) (inl e) usage = cc
no_usage words matches (Usage text) (inr e) usage = let clash = e.0 in cc

-- the value spells no range where that is the fault
lacks_range : (matches : ArgMatches) (f : JobFault) → Fault matches f → f ≡ BadIdeographs → IsSomeAnd (subcommand_rows_of matches) LacksRange
lacks_range matches f (inl e) is = let clash = sym e ∙ is in cc
lacks_range matches f (inr e) is = e.1

-- an error that is not OutOfMemory has one of the kinds
some_kind : (kinds : Kinds) (e : Error) → HasKind kinds e → (kind_of e ≡ kind.OutOfMemory → ⊥) → kinds ≡ [] → ⊥
some_kind [] e (inl memory) other none = other memory
some_kind [] e (inr among) other none = among
some_kind (k ∷ ks) e has other none = cc

-- clap takes the words, and meets what its definition says
record Meets (choices : Choices) (words : List Text) (matches : ArgMatches) : Type 0 where
  taken : IsTaken choices words
  met : subcommand_rows_of matches ≡ subcommand_of (uca_with choices) words

-- .. where its own clauses hold of a command that is the program
meets : (choices : Choices) (words : List Text) (matches : ArgMatches) (app : App) → app ≡ uca_with choices → (is_simple_and_free app ≡ true → fault_of app words ≡ []) → HasMatchesOf app words matches → Meets choices words matches
meets choices words matches app is kinds has = record {
  taken = ap (λ a. fault_of a words) (sym is) ∙ kinds (ap is_simple_and_free is ∙ uca_is_free choices);
  met = (has (ap is_simple is ∙ uca_is_simple choices)).1 ∙ ap (λ a. subcommand_of a words) is;
}

pub job_from-requires : goal.job_from-requires
job_from-requires c =
    let words = map (λ w. w.now) c.args.words.now in
    let choices : Choices = record { strengths = c.as_slice.result; weightings = c.as_slice-2.result } in
    let m : Meets choices words c.in-Ok.matches = meets choices words c.in-Ok.matches _ c.in_ok-command.ensures c.in-Ok.ensures.kinds c.in-Ok.ensures.matches in
    rw (m.met) (taken_task choices words m.taken)

pub returns-in-Ok-clause-job : goal.returns-in-Ok-clause-job
returns-in-Ok-clause-job c =
    let words : List Text = map (λ w. w.now) c.args.words.now in
    let choices : Choices = record { strengths = c.as_slice.result; weightings = c.as_slice-2.result } in
    let right : AreChoices choices = record { strengths = search rules; weightings = search rules } in
    let m : Meets choices words c.in-Ok.matches = meets choices words c.in-Ok.matches _ c.in_ok-command.ensures c.in-Ok.ensures.kinds c.in-Ok.ensures.matches in
    IfOk-weaker c.job_from.result _ (IsJobOf words) (λ job found. record {
      choices = choices;
      right = right;
      taken = m.taken;
      found = subst (λ o. IsSomeAnd o (IsJobFrom job)) m.met found;
    }) c.job_from.ensures.job

pub returns-in-Ok-clause-usage : goal.returns-in-Ok-clause-usage
returns-in-Ok-clause-usage c =
    IfErr-weaker c.job_from.result _ _ (no_usage (map (λ w. w.now) c.args.words.now) c.in-Ok.matches) c.job_from.ensures.fault

pub returns-in-Ok-clause-ideographs : goal.returns-in-Ok-clause-ideographs
returns-in-Ok-clause-ideographs c =
    let words : List Text = map (λ w. w.now) c.args.words.now in
    let choices : Choices = record { strengths = c.as_slice.result; weightings = c.as_slice-2.result } in
    let right : AreChoices choices = record { strengths = search rules; weightings = search rules } in
    let m : Meets choices words c.in-Ok.matches = meets choices words c.in-Ok.matches _ c.in_ok-command.ensures c.in-Ok.ensures.kinds c.in-Ok.ensures.matches in
    IfErr-weaker c.job_from.result _ _ (λ f fault is. record {
      choices = choices;
      right = right;
      taken = m.taken;
      found = subst (λ o. IsSomeAnd o LacksRange) m.met (lacks_range c.in-Ok.matches f fault is);
    }) c.job_from.ensures.fault

pub returns-in-Err-clause-ideographs : goal.returns-in-Err-clause-ideographs
returns-in-Err-clause-ideographs c is = absurd (c.fault_from.ensures.own is)

pub returns-in-Err-clause-usage : goal.returns-in-Err-clause-usage
returns-in-Err-clause-usage c usage =
    let words : List Text = map (λ w. w.now) c.args.words.now in
    let choices : Choices = record { strengths = c.as_slice.result; weightings = c.as_slice-2.result } in
    let right : AreChoices choices = record { strengths = search rules; weightings = search rules } in
    let app_is : app_of c.in_ok-command.command ≡ uca_with choices = c.in_ok-command.ensures in
    let has = c.in-Err.ensures.kinds (ap is_simple_and_free app_is ∙ uca_is_free choices) in
    record {
      choices = choices;
      right = right;
      refused = some_kind _ c.in-Err.error (subst (λ a. HasKind (fault_of a words) c.in-Err.error) app_is has) (c.fault_from.ensures.usage usage);
    }
