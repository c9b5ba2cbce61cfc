use Rattle.std.proofs.Common.{◌≡◌, false, subst, sym, ap, ◌∙◌}
use Rattle.std.specs.FinMap.{values}
use Rattle.std.specs.List.{list_any}
use Rattle.uca_model.specs.Gap.{cannot_move, table_with_gap}
use Rattle.uca_tailor.specs.Moves.{with_move}
use Rattle.uca_tailor.specs.Renumbered.{renumbered, IsRenumbered}
use Rattle.uca_tailor.proofs.Levels.{level_of}
use Rattle.uca_tailor.proofs.RenumberedLemmas.{renumbered-with, IsRenumbered-with}
use Rattle.uca_tailor.proofs.renumbered.Renumbered.make_gap.Goals as goal

pub invariant_of-self-2 : goal.invariant_of-self-2
invariant_of-self-2 c =
    let level = c.args.level in let w = c.args.w in let m = c.self.inside.moves in let items = c.self.inside.items.entries in let t = c.self.inside.table.now in
    let free : list_any (list_any (cannot_move level w)) (values (renumbered m items t).entries) ≡ false = subst (λ u. list_any (list_any (cannot_move level w)) (values u.entries) ≡ false) (sym c.self.view_is) c.requires.free in
    subst (λ x. IsRenumbered x items t c.raised-self-inside.result c.make_gap-2.new.self c.self.inside.longest_key) (sym c.in_ok-make_gap.ensures.ok)
    (subst (λ y. IsRenumbered (with_move level w m) items t y c.make_gap-2.new.self c.self.inside.longest_key) (sym c.raised-self-inside.ensures)
    (IsRenumbered-with level w m items t c.self.inside.tops c.self.inside.counts c.make_gap-2.new.self c.self.inside.longest_key (level_of level c.requires.first c.requires.last) free c.make_gap-2.ensures c.self.invariant))

pub returns : goal.returns
returns c =
    let m = c.self.inside.moves in let items = c.self.inside.items.entries in let t = c.self.inside.table.now in
    ap (λ x. renumbered x items t) c.in_ok-make_gap.ensures.ok ∙ renumbered-with c.args.level c.args.w m items t (level_of c.args.level c.requires.first c.requires.last) c.self.invariant.entered ∙ ap (table_with_gap c.args.level c.args.w) c.self.view_is
