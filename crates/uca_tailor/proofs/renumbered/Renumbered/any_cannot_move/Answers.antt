use Rattle.std.proofs.Common.{◌≡◌, ◌≤◌, ◌<◌, false, subst, sym, ap, ◌∙◌}
use Rattle.std.specs.FinMap.{values}
use Rattle.std.specs.List.{list_any}
use Rattle.uca_model.specs.Gap.{cannot_move}
use Rattle.uca_tailor.specs.Counts.{AreAllCounts}
use Rattle.uca_tailor.specs.Renumbered.{renumbered}
use Rattle.uca_tailor.proofs.CountLemmas.{lacks-below, lacks-above}
use Rattle.uca_tailor.proofs.Levels.{level_of}
use Rattle.uca_tailor.proofs.TopLemmas.{lacks_none, top_of}
use Rattle.uca_tailor.proofs.renumbered.Renumbered.any_cannot_move.Goals as goal

pub returns-then-at-max_weight-clause-lacks : goal.returns-then-at-max_weight-clause-lacks
returns-then-at-max_weight-clause-lacks c =
    let view = renumbered c.self.inside.moves c.self.inside.items.entries c.self.inside.table.now in
    let has = top_of c.args.level c.at.result c.self.inside.tops view (level_of c.args.level c.requires.first c.requires.last) c.at.ensures.first c.at.ensures.second c.at.ensures.third c.self.invariant.below in
    sym (subst (λ u. list_any (list_any (cannot_move c.args.level c.args.w)) (values u.entries) ≡ false) c.self.view_is
    (lacks_none c.args.level c.args.w c.at.result view (subst (λ x. c.at.result < x) c.max_weight.ensures c.if-at-max_weight.true) has))

pub returns-then-w-max_weight-clause-lacks : goal.returns-then-w-max_weight-clause-lacks
returns-then-w-max_weight-clause-lacks c = sym (lacks-above c.args.level c.args.w c.args.self.now (subst (λ x. x ≤ c.args.w) c.max_weight-2.ensures c.if-w-max_weight.true))

pub returns-in-Some-clause-lacks : goal.returns-in-Some-clause-lacks
returns-in-Some-clause-lacks c =
    let view = renumbered c.self.inside.moves c.self.inside.items.entries c.self.inside.table.now in
    c.in-Some.ensures view c.self.invariant.counted
    ∙ lacks-below c.args.level c.args.w view (subst (λ x. c.args.w < x) c.max_weight-2.ensures c.if-w-max_weight.false)
    ∙ ap (λ u. list_any (list_any (cannot_move c.args.level c.args.w)) (values u.entries)) c.self.view_is

pub invariant_of-self : goal.invariant_of-self
invariant_of-self c =
    let view = renumbered c.self.inside.moves c.self.inside.items.entries c.self.inside.table.now in
    let is = c.self.invariant in
    record { entered = is.entered; fits = is.fits; below = is.below; counted = c.set.ensures view c.in_ok-counts.ensures is.counted; keys = is.keys }

pub returns-clause-lacks : goal.returns-clause-lacks
returns-clause-lacks c =
    let view = renumbered c.self.inside.moves c.self.inside.items.entries c.self.inside.table.now in
    c.has_greatest-at_limit.ensures view (subst (λ xs. AreAllCounts c.args.level xs view) (sym c.deref.ensures.value) c.in_ok-counts.ensures)
    ∙ lacks-below c.args.level c.args.w view (subst (λ x. c.args.w < x) c.max_weight-2.ensures c.if-w-max_weight.false)
    ∙ ap (λ u. list_any (list_any (cannot_move c.args.level c.args.w)) (values u.entries)) c.self.view_is
