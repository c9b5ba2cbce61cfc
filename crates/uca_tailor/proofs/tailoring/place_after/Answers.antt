use Rattle.std.proofs.Common.{ap, ◌∙◌, arith}
use Rattle.std.proofs.lemmas.Result.{err_from_is_err_and}
use Rattle.uca_model.specs.Gap.{table_with_gap}
use Rattle.uca_tailor.proofs.AnchorLemmas.{next_fits, before_moves, placed_there, placed_refused}
use Rattle.uca_tailor.proofs.tailoring.place_after.Goals as goal

pub returns-in_err-check_place-clause-placed : goal.returns-in_err-check_place-clause-placed
returns-in_err-check_place-clause-placed c =
    let p = err_from_is_err_and c.from_residual.result c.from_residual.ensures.1 in
    rw (p.1, p.2) (placed_refused c.args.level c.weight-w.result c.args.t.now c.args.elements.now c.in-Some.anchor.before.now c.in-Some.anchor.last c.in_err-check_place.field-0.0 c.in-Some.ensures c.weight-w.ensures c.in_err-check_place.ensures.fault)

pub base_after-requires-clause-next : goal.base_after-requires-clause-next
base_after-requires-clause-next c = next_fits c.args.level c.weight-w.result c.args.t.now c.args.elements.now c.in-Some.anchor.before.now c.in-Some.anchor.last c.requires.first c.requires.last (omega arith) c.in-Some.ensures c.weight-w.ensures c.in_ok-check_place.ensures.fault

pub base_after-requires-clause-free : goal.base_after-requires-clause-free
base_after-requires-clause-free c = before_moves c.args.level c.weight-w.result c.args.t.now c.args.elements.now c.in-Some.anchor.before.now c.in-Some.anchor.last c.in-Some.ensures c.weight-w.ensures c.in_ok-check_place.ensures.fault

pub returns-clause-placed : goal.returns-clause-placed
returns-clause-placed c = placed_there c.args.level c.weight-w.result c.args.t.now c.make_gap.new.self c.args.elements.now c.in-Some.anchor.before.now c.in_ok-base.base.items c.in-Some.anchor.last c.in-Some.ensures c.weight-w.ensures c.in_ok-check_place.ensures.fault c.in_ok-base.ensures (c.in_ok-make_gap.ensures ∙ ap (table_with_gap c.args.level c.weight-w.result) c.in_ok-check_place.ensures.same)
