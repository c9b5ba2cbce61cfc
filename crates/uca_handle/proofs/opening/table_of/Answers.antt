use Rattle.std.proofs.Common.{◌∙◌, length, subst, sym, eqb-true}
use Rattle.uca_handle.specs.Opening.{SaysBase}
use Rattle.uca_handle.proofs.OpeningLemmas.{over_base, without_rules}
use Rattle.uca_handle.proofs.opening.table_of.Goals as goal

pub returns-then-is_empty : goal.returns-then-is_empty
returns-then-is_empty c =
    (c.in_ok-base.base, c.in_ok-base.ensures, without_rules c.in_ok-base.base c.args.rules.now (eqb-true (length c.args.rules.now) 0 (sym c.is_empty.ensures ∙ c.if-is_empty.true)))

pub returns : goal.returns
returns c = over_base c.args.table.now c.args.rules.now _ c.tailored_by.result (subst (SaysBase c.args.table.now) (sym c.forget_characters.ensures) c.in_ok-base.ensures) c.tailored_by.ensures
