use Rattle.std.proofs.Common.{◌++◌}
use Rattle.std.proofs.lemmas.Simd.{pick_l_whole}
use lib.Lanes.{chunk}
use Rattle.uca_levels.proofs.CommonFront.{length-blocks}
use Rattle.uca_levels.proofs.cut.two_blocks.Goals as goal

pub returns : goal.returns
returns c =
    pick_l_whole 0 (chunk c.args.first 8 c.args.bytes.now ++ chunk c.args.second 8 c.args.bytes.now) 16
    (length-blocks 8 c.args.first c.args.second c.args.bytes.now c.requires.in_first c.requires.in_second)
