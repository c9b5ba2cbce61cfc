-- Whether every text that begins with a text has its key in the range that the bounds of that text give.
use Rattle.std.specs.Prelude.{◌≡◌, ◌≢◌, ℕ, Bool, List, Option, Some, None, Result, Err, MatchResult, chars}
use Rattle.uca_model.specs.Lines.{IsTextLine}
use Rattle.uca_model.specs.Prefix.{is_complete}
use Rattle.uca_model.specs.Table.{ElementTable}
use Rattle.uca_handle.specs.declared.faults.KeyFault.{KeyFault}
use Rattle.uca_handle.specs.declared.faults.KeyFault.TheVariants.{Closed, OutOfMemory}
use Rattle.uca_handle.specs.Calls.{Refuses}

-- a table tells whether a text is complete
pub record IsCompleteness (t : ElementTable) (text : List ℕ) (complete : Bool) : Type 0 where
  pub safe : IsTextLine text
  pub is : complete ≡ is_complete t (chars text)

-- the same, or the fault of bytes that are no text
abbrev pub TellsCompleteBy : ElementTable → List ℕ → Result Bool KeyFault → Type 0
TellsCompleteBy t text result = MatchResult result (IsCompleteness t text) (λ f. (f ≢ OutOfMemory) × Refuses text f)

-- the same by a collator, which may have no table
abbrev pub TellsComplete : Option ElementTable → List ℕ → Result Bool KeyFault → Type 0
TellsComplete None text result = result ≡ Err Closed
TellsComplete (Some t) text result = TellsCompleteBy t text result
