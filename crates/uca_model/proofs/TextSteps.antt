-- One step in what a line of a table's text says.
use Rattle.std.proofs.Common.{◌≡◌, ap}
use Rattle.std.specs.Prelude.{Result, Ok}
use Rattle.uca_model.specs.TableText.{◌>>=◌, Cause}

-- what follows a step without fault
pub step_done : {A B : Type 0} (r : Result A Cause) (a : A) (f : A → Result B Cause) → r ≡ Ok a → (r >>= f) ≡ f a
step_done {A} r a f is = ap (λ (x : Result A Cause). x >>= f) is
