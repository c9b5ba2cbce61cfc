use Rattle.std.proofs.Common.{refl}
use Rattle.uca_io.specs.Hex.{spaced}
use Rattle.uca_io.proofs.HexLanes.{with_blanks, eight_pairs, stored}
use Rattle.uca_io.proofs.hex.put_spaced.Goals as goal

pub returns : goal.returns
returns c = stored c.args.at c.args.room.now (with_blanks c.args.digits) (spaced c.args.digits) c.requires.room refl (eight_pairs c.args.digits c.requires.lanes)
