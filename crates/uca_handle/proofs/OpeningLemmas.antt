-- Why two texts say no table, and what a text without rules says.
use Rattle.std.proofs.Common.{◌≡◌, refl, List, ℕ, [], ◌∷◌, length, sym, ap, ◌∙◌, subst, arith, inr}
use Rattle.std.specs.Prelude.{Option, Some, None, Result, Ok, Err, MatchOption, MatchResult, IsErrAnd}
use Rattle.std.proofs.lemmas.Str.{IsUtf8-nil, chars-nil}
use Rattle.uca_model.specs.Table.{ElementTable}
use Rattle.uca_model.specs.RuleText.{rules_of, parts_within}
use Rattle.uca_model.specs.Tailoring.{tailored_from}
use Rattle.uca_handle.specs.declared.faults.OpenFault.{OpenFault}
use Rattle.uca_handle.specs.Opening.{RefusesRules, RefusesTable, SaysBase, SaysTable, Tailors, reported}

-- a fault of the rules is reported as its own, or as a failed allocation
pub refused_as : {A Cause : Type 0} (o : Option Cause) (X : Type 0) (Q : Cause → Type 0) (P : A → Type 0) (base : ElementTable) (rules : List ℕ) (f : OpenFault) (r : Result A OpenFault)
    → IsErrAnd r (λ opened. opened ≡ reported o f) → MatchOption o X Q → (MatchOption o ⊥ Q → RefusesRules base rules f) → MatchResult r P (RefusesRules base rules)
refused_as o X Q P base rules f (Ok a) is refused own = absurd is
refused_as None X Q P base rules f (Err opened) is refused own = subst (RefusesRules base rules) (sym is) tt
refused_as (Some cause) X Q P base rules f (Err opened) is refused own = subst (RefusesRules base rules) (sym is) (own refused)

-- what is said of the table that the first text says is said of both texts
pub over_base : (table rules : List ℕ) (base : ElementTable) (r : Result ElementTable OpenFault) → SaysBase table base → MatchResult r (Tailors base rules) (RefusesRules base rules)
    → MatchResult r (SaysTable table rules) (RefusesTable table rules)
over_base table rules base (Ok t) says tailors = (base, says, tailors)
over_base table rules base (Err f) says refuses = inr (base, says, refuses)

-- a text without characters says no chains
none_said : rules_of [] ≡ Ok []
unfolding rules_of parts_within
none_said = refl

-- a table without rules is the table
pub without_rules : (base : ElementTable) (rules : List ℕ) → length rules ≡ 0 → Tailors base rules base
unfolding tailored_from
without_rules base [] none = record { chains = []; says_chains = record { utf8 = IsUtf8-nil; says = ap rules_of chars-nil ∙ none_said }; tailoring = refl }
without_rules base (b ∷ bs) none = let never : ⊥ = omega (arith, none) in absurd never
