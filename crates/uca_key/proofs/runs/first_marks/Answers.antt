use Rattle.uca_key.proofs.Common.{◌+◌, ◌-◌, ◌%◌, ℕ, List, take, arith, Element}
use Rattle.uca_key.proofs.MaskLemmas.{marked-fewer, marked-held}
use Rattle.uca_key.proofs.runs.first_marks.Goals as goal

pub returns : goal.returns
returns c =
    let first : ℕ = c.min-first.result in let room : List Element = c.args.room.now in
    record {
      second = λ v. marked-held v 2 c.marked_by_one.result first first c.args.held room c.min-first.ensures (omega arith) (record { common = c.marked_by_one.ensures.common; blank = c.marked_by_one.ensures.blank });
      third = λ v. marked-held v 3 c.marked_by_one-2.result first first c.args.held room c.min-first.ensures (omega arith) (record { common = c.marked_by_one-2.ensures.common; blank = c.marked_by_one-2.ensures.blank });
    }

pub returns-then-whole-room : goal.returns-then-whole-room
returns-then-whole-room c =
    let first : ℕ = c.min-first.result in let whole : ℕ = first + 15 - (first + 15) % 16 in let room : List Element = c.args.room.now in
    record {
      second = λ v. marked-held v 2 c.later_marks.result.second first whole c.args.held room c.min-first.ensures (omega arith) (marked-fewer v 2 _ 64 (take whole room) (c.later_marks.ensures.second v));
      third = λ v. marked-held v 3 c.later_marks.result.third first whole c.args.held room c.min-first.ensures (omega arith) (marked-fewer v 3 _ 64 (take whole room) (c.later_marks.ensures.third v));
    }
