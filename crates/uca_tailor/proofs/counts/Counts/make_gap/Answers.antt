use Rattle.std.proofs.Common.{◌≡◌, refl, sym, subst, arith}
use Rattle.std.specs.Vec.{with_items}
use Rattle.uca_model.specs.Gap.{table_with_gap}
use Rattle.uca_tailor.specs.Counts.{HaveCounts}
use Rattle.uca_tailor.proofs.CountLemmas.{AreCounts-opened, AreCounts-other}
use Rattle.uca_tailor.proofs.Levels.{level_one, level_two, level_three}
use Rattle.uca_tailor.proofs.counts.Counts.make_gap.Goals as goal

pub returns-in-1 : goal.returns-in-1
returns-in-1 c = λ t have.
    let self = c.args.self.now in let w = c.args.w in
    subst (λ k. HaveCounts (record { first = with_items self.first c.make_gap.new.counts; second = self.second; third = self.third }) (table_with_gap k w t)) (sym c.in-1.is) (record {
      first = AreCounts-opened 1 w t self.first c.deref_mut.result.now c.make_gap.new.counts level_one c.deref_mut.ensures.value c.make_gap.ensures have.first;
      second = AreCounts-other 1 w 2 t self.second.items (λ e. refl) have.second;
      third = AreCounts-other 1 w 3 t self.third.items (λ e. refl) have.third;
    })

pub returns-in-2 : goal.returns-in-2
returns-in-2 c = λ t have.
    let self = c.args.self.now in let w = c.args.w in
    subst (λ k. HaveCounts (record { first = self.first; second = with_items self.second c.make_gap-in-2.new.counts; third = self.third }) (table_with_gap k w t)) (sym c.in-2.is) (record {
      first = AreCounts-other 2 w 1 t self.first.items (λ e. refl) have.first;
      second = AreCounts-opened 2 w t self.second c.deref_mut-in-2.result.now c.make_gap-in-2.new.counts level_two c.deref_mut-in-2.ensures.value c.make_gap-in-2.ensures have.second;
      third = AreCounts-other 2 w 3 t self.third.items (λ e. refl) have.third;
    })

pub returns-in_default : goal.returns-in_default
returns-in_default c = λ t have.
    let self = c.args.self.now in let w = c.args.w in
    let is : c.args.level ≡ 3 = omega (arith, c.requires.first, c.requires.last, c.in_default) in
    subst (λ k. HaveCounts (record { first = self.first; second = self.second; third = with_items self.third c.make_gap-in_default.new.counts }) (table_with_gap k w t)) (sym is) (record {
      first = AreCounts-other 3 w 1 t self.first.items (λ e. refl) have.first;
      second = AreCounts-other 3 w 2 t self.second.items (λ e. refl) have.second;
      third = AreCounts-opened 3 w t self.third c.deref_mut-in_default.result.now c.make_gap-in_default.new.counts level_three c.deref_mut-in_default.ensures.value c.make_gap-in_default.ensures have.third;
    })
