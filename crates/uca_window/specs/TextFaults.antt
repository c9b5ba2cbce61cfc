-- Why bytes are no text that can be collated.
use Rattle.std.specs.Prelude.{ℕ, List}
use Rattle.uca_model.specs.Lines.{HasFault, not_utf8, long_run}
use Rattle.uca_window.specs.declared.fault.TextFault.{TextFault}
use Rattle.uca_window.specs.declared.fault.TextFault.TheVariants.{NotUtf8, LongRun}

-- bytes are no text, and at which of them
abbrev pub IsFault : List ℕ → TextFault → Type 0
IsFault bytes (NotUtf8 at) = HasFault bytes (not_utf8 at)
IsFault bytes (LongRun at) = HasFault bytes (long_run at)
