use Rattle.std.proofs.Common.{◌≡◌, ◌++◌, ◌∷◌, [], arith}
use Rattle.unicode_normalization.specs.Order.{canonical_order}
use Rattle.uca_window.proofs.FormLemmas.{order-placed, IsOpen-mark}
use Rattle.uca_window.proofs.points.push_point.Goals as goal
use Rattle.std.proofs.lemmas.Grind.{common_steps}

-- what the nonstarter's place gives
inserted : (c : goal.After-insert) → c.insert.new.self.items ≡ canonical_order (c.args.points.now.items ++ c.args.point ∷ [])
inserted c = grind (arith, common_steps, order-placed)

pub returns-clause-points : goal.returns-clause-points
returns-clause-points c = inserted c

pub returns-clause-segments : goal.returns-clause-segments
returns-clause-segments c =
    IsOpen-mark c.args.closed c.args.points.now.items c.args.point _ c.requires.segments c.requires.ordered (omega arith) (inserted c)
