use Rattle.uca_table.proofs.Common.{◌≡◌, ◌∷◌, [], subst, arith, common_steps, MayFollow, place_at, point_at}
use Rattle.uca_table.proofs.EntryMapLemmas.{ahead-entry}
use Rattle.uca_table.proofs.entry_map.push_single.Goals as goal

pub push-requires : goal.push-requires
push-requires c =
    let p = c.args.point in
    let same : point_at (place_at c.args.singles.now) p ≡ (p ∷ [], place_at c.args.singles.now p) ∷ [] = grind (arith, common_steps) in
    let is = ahead-entry (subst (λ l. MayFollow c.args.elements.now c.args.entries.now l) same c.requires) in
    record {
      few = grind (arith, common_steps, is.0.few_points);
      after = grind (arith, common_steps, is.1);
      some_elements = grind (arith, common_steps, is.0.some_elements);
      few_elements = grind (arith, common_steps, is.0.few_elements);
    }
