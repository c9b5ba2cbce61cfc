use Rattle.std.proofs.Common.{◌≡◌, ◌+◌, ◌<◌, ◌++◌, [], is_some, length, map, sym, ap, ◌∙◌, length-append, arith, rules}
use Rattle.std.proofs.lemmas.List.{length-map}
use Rattle.uca_model.specs.Table.{elements_at}
use Rattle.uca_tailor.specs.Counts.{elements_or_none}
use Rattle.uca_tailor.specs.Moves.{moved_element, cut}
use Rattle.uca_tailor.specs.Renumbered.{renumbered, IsItem}
use Rattle.uca_tailor.proofs.RenumberedLemmas.{entered-found, at-item, at-given, at-none, found_entry, no_entry}
use Rattle.uca_tailor.proofs.renumbered.Renumbered.push_entry.Goals as goal

pub push_moved-requires : goal.push_moved-requires
push_moved-requires c = (entered-found c.self.inside.moves c.self.inside.items.entries c.args.key.now c.in-Some.item.now c.self.invariant.entered (sym c.in-Some.ensures.value)).past

pub returns-in-Some-clause-elements : goal.returns-in-Some-clause-elements
returns-in-Some-clause-elements c =
    let m = c.self.inside.moves in let items = c.self.inside.items.entries in let t = c.self.inside.table.now in let i = c.in-Some.item.now in
    let found = at-item m items t c.args.key.now i (sym c.in-Some.ensures.value) in
    c.in_ok-push_moved.ensures ∙ ap (λ es. c.args.out.now.items ++ map cut (map (moved_element m i.after) es)) c.deref.ensures.value
    ∙ ap (λ es. c.args.out.now.items ++ es) (found_entry (renumbered m items t) c.args.self.now c.args.key.now _ c.self.view_is c.self.invariant.fits found)

pub returns-in-Some-clause-found : goal.returns-in-Some-clause-found
returns-in-Some-clause-found c =
    let m = c.self.inside.moves in let items = c.self.inside.items.entries in let t = c.self.inside.table.now in
    let found = at-item m items t c.args.key.now c.in-Some.item.now (sym c.in-Some.ensures.value) in
    sym (ap is_some found) ∙ ap (λ u. is_some (elements_at u c.args.key.now)) c.self.view_is

pub returns-in-Some-clause-some : goal.returns-in-Some-clause-some
returns-in-Some-clause-some c = λ _.
    let m = c.self.inside.moves in let i = c.in-Some.item.now in
    let item : IsItem m i = entered-found m c.self.inside.items.entries c.args.key.now i c.self.invariant.entered (sym c.in-Some.ensures.value) in
    let some : 0 < length i.elements.items = item.some in
    let a : length c.push_moved.new.out.items ≡ length c.args.out.now.items + length (map cut (map (moved_element m i.after) c.deref.result.now)) = ap length c.in_ok-push_moved.ensures ∙ length-append c.args.out.now.items (map cut (map (moved_element m i.after) c.deref.result.now)) in
    let b : length (map cut (map (moved_element m i.after) c.deref.result.now)) ≡ length c.deref.result.now = length-map (map (moved_element m i.after) c.deref.result.now) cut ∙ length-map c.deref.result.now (moved_element m i.after) in
    let d : length c.deref.result.now ≡ length i.elements.items = ap length c.deref.ensures.value in
    omega arith

pub returns-in_default-get-clause-elements : goal.returns-in_default-get-clause-elements
returns-in_default-get-clause-elements c =
    let m = c.self.inside.moves in let items = c.self.inside.items.entries in let t = c.self.inside.table.now in let q = c.args.key.now in
    let e : [] ≡ elements_or_none c.args.self.now q = no_entry (renumbered m items t) c.args.self.now q c.self.view_is (at-none m items t q (sym c.in_default.ensures.value) (sym c.in_default-get.ensures.value)) in
    rw (← e) (search rules)

pub returns-in_default-get-clause-found : goal.returns-in_default-get-clause-found
returns-in_default-get-clause-found c =
    let m = c.self.inside.moves in let items = c.self.inside.items.entries in let t = c.self.inside.table.now in let q = c.args.key.now in
    sym (ap is_some (at-none m items t q (sym c.in_default.ensures.value) (sym c.in_default-get.ensures.value))) ∙ ap (λ u. is_some (elements_at u q)) c.self.view_is

pub returns-clause-elements : goal.returns-clause-elements
returns-clause-elements c =
    let m = c.self.inside.moves in let items = c.self.inside.items.entries in let t = c.self.inside.table.now in
    let found = at-given m items t c.args.key.now c.in-Some-get.elements.now (sym c.in_default.ensures.value) (sym c.in-Some-get.ensures.value) in
    c.in_ok-push_moved-2.ensures ∙ ap (λ es. c.args.out.now.items ++ es) (found_entry (renumbered m items t) c.args.self.now c.args.key.now _ c.self.view_is c.self.invariant.fits found)

pub returns-clause-found : goal.returns-clause-found
returns-clause-found c =
    let m = c.self.inside.moves in let items = c.self.inside.items.entries in let t = c.self.inside.table.now in
    let found = at-given m items t c.args.key.now c.in-Some-get.elements.now (sym c.in_default.ensures.value) (sym c.in-Some-get.ensures.value) in
    sym (ap is_some found) ∙ ap (λ u. is_some (elements_at u c.args.key.now)) c.self.view_is
