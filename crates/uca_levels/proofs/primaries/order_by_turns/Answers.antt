use Rattle.std.proofs.Common.{rules, arith}
use Rattle.uca_levels.specs.Primaries.{first_weight}
use Rattle.uca_levels.proofs.ReadsLemmas.{InStep-on}
use Rattle.uca_levels.proofs.StreamLemmas.{after-same, decides-before, decides-whole, same-before}
use Rattle.uca_levels.proofs.WithoutFront.{apart-at, in-step-apart, left-safe, safe-from}
use Rattle.uca_levels.proofs.primaries.order_by_turns.Goals as goal

pub returns-in-Some : goal.returns-in-Some
returns-in-Some c =
    let apart = apart-at c.args.t.now c.turns.left.a.now c.turns.left.b.now _ _ c.turns.same (search rules) (search rules) c.turns.invariant.in_a c.turns.invariant.in_b c.turns.invariant.same c.split_at.ensures.back c.split_at-in-turns.ensures.back
    c.in_ok-x.ensures.joins c.in_ok-y.ensures.joins in
    decides-whole 1 (first_weight c.in_ok-x.x) (first_weight c.in_ok-y.y) c.first_of.result c.first_of-in-turns.result c.in-Some.order _ _ _ _ _ _
    c.in-Some.ensures.some c.first_of.ensures c.first_of-in-turns.ensures (omega arith) c.in_ok-x.ensures.weight c.in_ok-y.ensures.weight
    (InStep-on _ _ _ _ _ _ c.turns.invariant.lists (in-step-apart c.args.t.now c.args.v _ _ _ _ apart)) c.in_ok-x.ensures.first c.in_ok-y.ensures.first

pub returns-then-x-y : goal.returns-then-x-y
returns-then-x-y c =
    let apart = apart-at c.args.t.now c.turns.left.a.now c.turns.left.b.now _ _ c.turns.same (search rules) (search rules) c.turns.invariant.in_a c.turns.invariant.in_b c.turns.invariant.same c.split_at.ensures.back c.split_at-in-turns.ensures.back
    c.in_ok-x.ensures.joins c.in_ok-y.ensures.joins in
    let lists = after-same c.in_ok-x.x c.in_ok-y.y c.in-Some-Some.x c.in-Some-Some.y c.first_of.result c.first_of-in-turns.result _ _ _ _ _ _ c.in_default.ensures.none c.first_of.ensures c.first_of-in-turns.ensures
    c.in-Some-Some.is-0 c.in-Some-Some.is-1 (InStep-on _ _ _ _ _ _ c.turns.invariant.lists (in-step-apart c.args.t.now c.args.v _ _ _ _ apart)) c.in_ok-x.ensures.first c.in_ok-y.ensures.first in
    decides-before c.in-Some-Some.x.second c.in-Some-Some.y.second c.decided_by_weights.result _ _ _ _ c.decided_by_weights.ensures.some c.decided_by_weights.ensures.order (search rules) (search rules) lists

pub turns-preserved : goal.turns-preserved
turns-preserved c =
    let apart = apart-at c.args.t.now c.turns.left.a.now c.turns.left.b.now _ _ c.turns.same (search rules) (search rules) c.turns.invariant.in_a c.turns.invariant.in_b c.turns.invariant.same c.split_at.ensures.back c.split_at-in-turns.ensures.back
    c.in_ok-x.ensures.joins c.in_ok-y.ensures.joins in
    let safe = left-safe _ _ _ _ _ apart c.turns.invariant.safe_a c.turns.invariant.safe_b in
    record {
      safe_a = rw c.in_ok-x.ensures.rest (safe-from 1 _ safe.0);
      safe_b = rw c.in_ok-y.ensures.rest (safe-from 1 _ safe.1);
      in_a = c.common_front-same.ensures.in_a;
      in_b = c.common_front-same.ensures.in_b;
      same = c.common_front-same.ensures.same;
      lists = same-before c.in-Some-Some.x.second c.in-Some-Some.y.second _ _ _ _ c.if-x-y.false (after-same c.in_ok-x.x c.in_ok-y.y c.in-Some-Some.x c.in-Some-Some.y c.first_of.result c.first_of-in-turns.result _ _ _ _ _ _ c.in_default.ensures.none c.first_of.ensures c.first_of-in-turns.ensures
          c.in-Some-Some.is-0 c.in-Some-Some.is-1 (InStep-on _ _ _ _ _ _ c.turns.invariant.lists (in-step-apart c.args.t.now c.args.v _ _ _ _ apart)) c.in_ok-x.ensures.first c.in_ok-y.ensures.first);
    }
