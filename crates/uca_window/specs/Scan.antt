-- A scan over a text, which counts the nonstarters in a row.
use Rattle.std.specs.Prelude.{◌≡◌, ℕ, ◌≤◌, List, true, length, flat_map}
use Rattle.uca_weights.specs.declared.limits.TheConstants.{MAX_RUN, MAX_DECOMPOSITION}
use Rattle.unicode_normalization.specs.Decompose.{decompose_canonical}
use Rattle.uca_model.specs.SafeText.{longest_run_after, IsSafe}
use Rattle.uca_model.proofs.SafeLemmas.{StandsAfter}
use Rattle.uca_window.specs.Passing.{is_passed}
pub use Rattle.uca_model.proofs.SafeLemmas.{run_after}

-- a character may follow a safe text that ends in `count` nonstarters
abbrev pub Fits : ℕ → ℕ → Type 0
Fits count c = (length (decompose_canonical c) ≤ MAX_DECOMPOSITION) × (longest_run_after count (decompose_canonical c) ≤ MAX_RUN)

-- the characters so far are safe, and end in this many nonstarters
pub record Scanned (front : List ℕ) (count : ℕ) : Type 0 where
  pub ends : count ≡ run_after 0 (flat_map decompose_canonical front)
  pub within : count ≤ MAX_RUN
  pub safe : IsSafe front

-- what is left of a text follows characters that are safe and end in this many nonstarters
pub record ScannedTo (text rest : List ℕ) (count : ℕ) : Type 0 where
  pub front : List ℕ
  pub stands : StandsAfter text rest front
  pub scan : Scanned front count

-- the same after a character that is passed: the nonstarters before it do not count
pub record IsPassedTo (text rest : List ℕ) (last : ℕ) : Type 0 where
  pub to : ScannedTo text rest (run_after 0 (decompose_canonical last))
  pub passed : is_passed last ≡ true
