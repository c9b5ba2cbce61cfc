use Rattle.uca_key.proofs.BoundLemmas.{end_here}
use Rattle.uca_key.proofs.bounds.end_of_prefix.Goals as goal

pub returns-then-last-lt255 : goal.returns-then-last-lt255
returns-then-last-lt255 c = end_here c.args.bytes.now c.in_ok-end.end.items c.push.new.self.items c.loop-n.n c.loop-n.invariant.same c.loop-n-test.true c.loop-n.invariant.within c.if-last-lt255.true
    (c.in_ok-end.ensures.items_if_clones_equal (λ x y e. e)) c.in_ok-push.ensures.items
