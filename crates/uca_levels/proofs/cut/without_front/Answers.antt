use Rattle.std.proofs.Common.{refl}
use Rattle.uca_levels.specs.WithoutFront.{MayFollow}
use Rattle.uca_levels.proofs.WithoutFront.{left-at}
use Rattle.uca_levels.proofs.cut.without_front.Goals as goal

pub returns-then-may_follow-2 : goal.returns-then-may_follow-2
returns-then-may_follow-2 c =
    left-at (λ front left. MayFollow c.args.t.now left) c.args.a.now c.args.b.now _ _ c.back.at c.utf8.a c.utf8.b (c.if-are_whole.ensures refl).0 (c.if-are_whole.ensures refl).1 c.back.invariant c.split_at.ensures.back c.split_at-then-are_whole.ensures.back
    (c.if-may_follow.ensures refl) (c.if-may_follow-2.ensures refl)
