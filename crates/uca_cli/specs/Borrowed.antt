-- What represents an optional mutable reference in a contract.
use Rattle.std.specs.Prelude.{⊤, ℕ, ◌+◌, ◌≤◌, ◌⊎◌, Option, Some, None, option_map}
use Rattle.std.proofs.Common.{inl, inr}
use Rattle.std.specs.Borrow.{MutBor}

-- the value that is borrowed
abbrev pub borrowed : {A : Type 0} → Option (MutBor A) → Option A
borrowed = option_map (λ r. r.now)

-- the value when the borrow ends
abbrev pub given_back : {A : Type 0} → Unit {0} ⊎ ((MutBor A × Unit {0}) ⊎ ⊥) → Option A
given_back (inl none) = None
given_back (inr (inl r)) = Some r.0.now
given_back (inr (inr e)) = absurd e

-- where there is a count, it rose by at most this many
abbrev pub GoesUpTo : ℕ → Option ℕ → Option ℕ → Type 0
GoesUpTo most (Some old) (Some new) = new ≤ old + most
GoesUpTo most None None = ⊤
GoesUpTo most _ _ = ⊥
