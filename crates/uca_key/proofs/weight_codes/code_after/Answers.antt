use Rattle.uca_key.proofs.Common.{refl, sym, ◌∙◌}
use Rattle.uca_key.proofs.NextCodes.{next-code, next-slot, same-code}
use Rattle.uca_key.proofs.weight_codes.code_after.Goals as goal

pub returns-then-not-is_apart-clause-code : goal.returns-then-not-is_apart-clause-code
returns-then-not-is_apart-clause-code c k made code = same-code k c.args.parts c.args.w c.args.code made c.requires.within (sym c.is_apart.ensures ∙ c.if-not-is_apart.true) code

pub returns-then-is_apart-clause-code : goal.returns-then-is_apart-clause-code
returns-then-is_apart-clause-code c k made code = c.code_in.ensures.code k made (next-slot k c.args.parts c.args.w c.args.code.slot c.is_apart-2.result made c.requires.within c.is_apart-2.ensures code.slot)

pub returns-clause-code : goal.returns-clause-code
returns-clause-code c k made code =
    next-code k c.args.parts c.args.w c.args.code _ made c.requires.within (sym c.is_apart-3.ensures ∙ c.if-is_apart.false) code
    (next-slot k c.args.parts c.args.w c.args.code.slot c.is_apart-2.result made c.requires.within c.is_apart-2.ensures code.slot) refl refl refl refl
