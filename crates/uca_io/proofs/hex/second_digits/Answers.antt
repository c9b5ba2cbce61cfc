use Rattle.uca_io.proofs.HexLanes.{low_within, low_digits}
use Rattle.uca_io.proofs.hex.second_digits.Goals as goal

pub swizzle : goal.swizzle
swizzle c = low_within c.args.bytes c.fits-bytes.0

pub returns : goal.returns
returns c = low_digits c.args.bytes c.fits-bytes.0
