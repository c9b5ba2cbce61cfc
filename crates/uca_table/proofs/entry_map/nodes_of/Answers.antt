use Rattle.uca_table.proofs.Common.{◌≡◌, ◌∷◌, ◌++◌, [], map, sym, ap, ap₂, subst, ◌∙◌, arith, common_steps, AllByRecursion, IsLong, Less, entry_in, key_cmp, keyed, last_key, place_at, points_of}
use Rattle.uca_table.proofs.EntryMapLemmas.{ahead-entry, ahead-others, is-next}
use Rattle.uca_table.proofs.entry_map.nodes_of.Goals as goal

pub push_singles-requires : goal.push_singles-requires
push_singles-requires c =
    let next = is-next (place_at c.args.singles.now) (points_of c.args.singles.now) c.loop-key.next c.index.result.now (keyed (c.in-Some.key.now, c.in-Some.place.now)) _ _ c.loop-key.invariant.ahead (ap (map keyed) c.in-Some.ensures.steps) (grind (arith, common_steps)) in
    record { map = c.requires.both.singles; points = next.points }

pub elements_at-requires : goal.elements_at-requires
elements_at-requires c =
    let next = is-next (place_at c.args.singles.now) (points_of c.args.singles.now) c.loop-key.next c.index.result.now (keyed (c.in-Some.key.now, c.in-Some.place.now)) _ _ c.loop-key.invariant.ahead (ap (map keyed) c.in-Some.ensures.steps) (grind (arith, common_steps)) in
    let placed = (next.longer c.push_singles.new.entries c.in_ok-push_singles.ensures).placed.0 in
    record { used = placed.0; inside = placed.1 }

pub push-requires : goal.push-requires
push-requires c =
    let next = is-next (place_at c.args.singles.now) (points_of c.args.singles.now) c.loop-key.next c.index.result.now (keyed (c.in-Some.key.now, c.in-Some.place.now)) _ _ c.loop-key.invariant.ahead (ap (map keyed) c.in-Some.ensures.steps) (grind (arith, common_steps)) in
    let is = ahead-entry (next.longer c.push_singles.new.entries c.in_ok-push_singles.ensures) in
    record {
      few = grind (arith, common_steps, is.0.few_points);
      after = subst (λ k. key_cmp (last_key c.push_singles.new.entries) k ≡ Less) (sym c.deref.ensures.value) is.1;
      some_elements = grind (arith, common_steps, is.0.some_elements);
      few_elements = grind (arith, common_steps, is.0.few_elements);
    }

pub loop-key-preserved : goal.loop-key-preserved
loop-key-preserved c =
    let next = is-next (place_at c.args.singles.now) (points_of c.args.singles.now) c.loop-key.next c.index.result.now (keyed (c.in-Some.key.now, c.in-Some.place.now)) _ _ c.loop-key.invariant.ahead (ap (map keyed) c.in-Some.ensures.steps) (grind (arith, common_steps)) in
    let pushed : c.push.new.self ≡ c.push_singles.new.entries ++ entry_in c.args.elements.now (keyed (c.in-Some.key.now, c.in-Some.place.now)) ∷ [] =
    c.in_ok-push.ensures.ok ∙ ap₂ (λ k v. c.push_singles.new.entries ++ (k, v) ∷ []) c.deref.ensures.value c.elements_at.ensures in
    record {
      can = tt;
      finite = tt;
      long = (subst (λ l. AllByRecursion IsLong (map keyed l)) c.in-Some.ensures.steps c.loop-key.invariant.long).1;
      ahead = ahead-others (_ ∷ []) _ (next.longer c.push_singles.new.entries c.in_ok-push_singles.ensures) pushed;
    }
