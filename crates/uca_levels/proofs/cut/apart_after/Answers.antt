use Rattle.std.proofs.Common.{chars, refl, subst, ap}
use Rattle.uca_levels.specs.WithoutFront.{IsApart}
use Rattle.uca_levels.proofs.WithoutFront.{left-at}
use Rattle.uca_levels.proofs.cut.apart_after.Goals as goal

pub returns-then-is_apart-2 : goal.returns-then-is_apart-2
returns-then-is_apart-2 c =
    let front = ap chars c.split_at.ensures.front in
    let x = chars c.split_at.result.1.now in
    let y = chars c.split_at-then-are_whole.result.1.now in
    left-at (IsApart c.args.t.now) c.args.a.now c.args.b.now _ _ c.back.at c.utf8.a c.utf8.b (c.if-are_whole.ensures refl).0 (c.if-are_whole.ensures refl).1 c.back.invariant c.split_at.ensures.back c.split_at-then-are_whole.ensures.back
    (subst (λ f. IsApart c.args.t.now f x) front (c.if-is_apart.ensures refl)) (subst (λ f. IsApart c.args.t.now f y) front (c.if-is_apart-2.ensures refl))
