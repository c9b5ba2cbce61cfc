use Rattle.std.proofs.Common.{arith, rules}
use Rattle.uca_levels.proofs.CommonLemmas.{parted-first, parted-orders}
use Rattle.uca_levels.proofs.common_pass.first_order.Goals as goal
use Rattle.std.proofs.lemmas.Grind.{common_steps}

pub loop-smaller : goal.loop-smaller
loop-smaller g c = (c.goes_on.ensures.on _ _ _ c.loop.invariant c.loop-test.true).1

pub order_of_remaining-order-requires : goal.order_of_remaining-order-requires
order_of_remaining-order-requires g c =
    let parted = c.goes_on.ensures.parts _ _ _ c.loop.invariant c.loop-test.false in
    record { last = omega (arith, parted.level); fits_a = parted.first.fits; fits_b = parted.second.fits }

pub returns : goal.returns
returns g c =
    let parted = c.goes_on.ensures.parts _ _ _ c.loop.invariant c.loop-test.false in
    record {
      order = parted-orders _ c.args.v _ _ _ _ _ _ _ _ _ c.order_of_remaining-order.result parted c.order_of_remaining-order.ensures.order;
      back_a = grind (arith, common_steps);
      back_b = grind (arith, common_steps);
      reads_a = grind (arith, common_steps);
      reads_b = grind (arith, common_steps);
      valid = search rules;
    }

pub returns-in-Some : goal.returns-in-Some
returns-in-Some g c =
    let parted = c.goes_on.ensures.parts _ _ _ c.loop.invariant c.loop-test.false in
    record {
      order = parted-first _ c.args.v _ _ _ _ _ _ _ _ _ c.in-Some.order parted c.in-Some.ensures;
      back_a = parted.first.back;
      back_b = parted.second.back;
      reads_a = grind (arith, common_steps);
      reads_b = grind (arith, common_steps);
      valid = search rules;
    }
