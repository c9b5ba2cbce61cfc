use Rattle.uca_io.proofs.HexLanes.{high_within, high_digits}
use Rattle.uca_io.proofs.hex.first_digits.Goals as goal

pub swizzle : goal.swizzle
swizzle c = high_within c.args.bytes c.fits-bytes.0 c.fits-bytes.1

pub returns : goal.returns
returns c = high_digits c.args.bytes c.fits-bytes.0 c.fits-bytes.1
