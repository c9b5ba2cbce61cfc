use Rattle.std.proofs.Common.{◌∙◌}
use Rattle.uca_window.proofs.RunScan.{fits_alone, own}
use Rattle.uca_window.proofs.passage.own_run.Goals as goal

pub returns : goal.returns
returns c = c.unwrap_or.ensures ∙ own c.run_after_char.result _ (c.run_after_char.ensures.fits.1 (fits_alone c.args.c)) c.run_after_char.ensures.count
