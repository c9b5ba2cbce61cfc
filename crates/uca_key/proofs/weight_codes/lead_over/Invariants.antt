use Rattle.uca_key.proofs.Common.{◌≡◌, ◌+◌, ◌*◌, ◌≤◌, take, sum_by, page_of, past}
use Rattle.uca_key.proofs.weight_codes.lead_over.Given as goal

abbrev pub invariant-loop-single : goal.invariant-loop-single
invariant-loop-single l = record {
  sum : l.lead ≡ 1 + page_of l.w + sum_by (past l.w) (take l.single-index l.singles);
  most : l.lead ≤ 111 + 2 * l.single-index;
}
