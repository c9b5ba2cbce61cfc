use Rattle.uca_key.proofs.Common.{◌∷◌, [], ◌+◌, ap, arith, length, length-append, sym, ◌∙◌}
use Rattle.uca_key.proofs.NextCodes.{codes-more, no-codes}
use Rattle.uca_key.proofs.PackedSlots.{slot-zero}
use Rattle.uca_key.proofs.weight_codes.codes_of.Goals as goal

pub loop-w-init : goal.loop-w-init
loop-w-init c =
    let items = c.in_ok-push.ensures.items in let none = ap length c.in_ok-codes.ensures.items in
    record {
      size = ap length items ∙ length-append c.in_ok-codes.codes.items (c.code_in-code.result ∷ []) ∙ ap (λ n. n + 1) none;
      most = omega (arith, c.code_in-code.ensures.slot);
      last = λ k made. c.code_in-code.ensures.code k made (sym (slot-zero k));
      each = λ k made. codes-more k 0 c.code_in-code.result c.in_ok-codes.codes.items _ none items (no-codes k _) (c.code_in-code.ensures.code k made (sym (slot-zero k)));
    }

pub loop-w-preserved : goal.loop-w-preserved
loop-w-preserved c =
    let i = c.loop-w.invariant in let items = c.in_ok-push-2.ensures.items in
    record {
      size = omega (arith, ap length items, length-append c.loop-w.codes.items (c.code_after-code.result ∷ []), i.size);
      most = c.code_after-code.ensures.most;
      last = λ k made. c.code_after-code.ensures.code k made (i.last k made);
      each = λ k made. codes-more k (c.loop-w.w + 1) c.code_after-code.result c.loop-w.codes.items _ i.size items (i.each k made) (c.code_after-code.ensures.code k made (i.last k made));
    }

pub returns-clause-codes : goal.returns-clause-codes
returns-clause-codes c k made w d h = let done = c.loop-w-test.false in c.loop-w.invariant.each k made w d (omega arith)
