use Rattle.std.proofs.Common.{◌≡◌, ◌++◌, max, length, subst, sym, ap, ap₂, ◌∙◌, rules, arith}
use Rattle.std.specs.List.{AllByRecursion}
use Rattle.uca_model.specs.Table.{with_entry, IsElement, IsKey}
use Rattle.std.specs.BTreeMap.{insert_entry}
use Rattle.uca_tailor.specs.Counts.{HaveCounts, elements_or_none}
use Rattle.uca_tailor.specs.declared.items.Item.{Item}
use Rattle.uca_tailor.specs.Renumbered.{renumbered, IsRenumbered, IsItem}
use Rattle.uca_tailor.specs.Tops.{HoldsElements}
use Rattle.uca_tailor.proofs.CountLemmas.{HaveCounts-none}
use Rattle.uca_tailor.proofs.RenumberedLemmas.{renumbered-put, IsRenumbered-put, now-past, vec_cmp}
use Rattle.uca_tailor.proofs.renumbered.Renumbered.put.Goals as goal
use Rattle.uca_tailor.proofs.renumbered.Renumbered.put.Goals.{then-not-are_none+in_ok-push_entry, else-not-are_none}

pub invariant_of-self-2 : goal.invariant_of-self-2
invariant_of-self-2 c =
    let m = c.self.inside.moves in let items = c.self.inside.items.entries in let t = c.self.inside.table.now in
    let k = c.in_ok-own_key.own_key in let i : Item = record { elements = c.in_ok-to_vec.field-0; after = c.now.result } in
    let key : k.items ≡ c.args.key.now = search rules in
    let es : c.in_ok-to_vec.field-0.items ≡ c.args.elements.now = search rules in
    let size : length k.items ≡ length c.args.key.now = ap length key in
    let count : length c.in_ok-to_vec.field-0.items ≡ length c.args.elements.now = ap length es in
    let item : IsItem m i = record { past = now-past m c.now.result c.now.ensures; some = omega (arith, count, c.requires.some_elements) } in
    let now : c.max-self-inside.result ≡ max c.self.inside.longest_key (length k.items) = omega (arith, size, c.max-self-inside.ensures) in
    let view = renumbered m items t in
    let exchanges : HaveCounts c.self.inside.counts view → HaveCounts c.exchange.new.self (with_entry view k.items i.elements.items) = λ have. elim c.if-not-are_none.branch [
      | then-not-are_none+in_ok-push_entry w ↦
          let had : c.deref.result.now ≡ elements_or_none view k.items =
          c.deref.ensures.value ∙ (λ j. (w.before-is j).items) ∙ w.in_ok-push_entry.ensures.elements ∙ ap (λ xs. xs ++ elements_or_none c.args.self.now c.args.key.now) c.new-before.ensures.items
          ∙ ap₂ elements_or_none (sym c.self.view_is) (sym key) in
          subst (λ xs. HaveCounts c.exchange.new.self (with_entry view k.items xs)) (sym es) (c.exchange.ensures.some view k.items had have)
      | else-not-are_none w ↦ HaveCounts-none c.exchange.new.self (with_entry view k.items i.elements.items) (c.exchange.ensures.none (c.are_none.ensures w.if-not-are_none.false))
    ] in
    subst (λ x. IsRenumbered m x t c.over-self-inside.result c.exchange.new.self c.max-self-inside.result) (sym c.in_ok-insert.ensures.entries)
    (subst (λ n. IsRenumbered m (insert_entry vec_cmp items k i) t c.over-self-inside.result c.exchange.new.self n) (sym now)
    (IsRenumbered-put m items t c.self.inside.tops c.over-self-inside.result c.self.inside.counts c.exchange.new.self c.self.inside.longest_key k i c.now.ensures item (subst (AllByRecursion IsElement) (sym es) c.show_elements.ensures)
    (subst IsKey (sym key) c.requires.key) (subst (HoldsElements c.over-self-inside.result) (sym es) c.over-self-inside.ensures.elements) c.over-self-inside.ensures.more exchanges c.self.invariant))

pub returns : goal.returns
returns c =
    let m = c.self.inside.moves in let items = c.self.inside.items.entries in let t = c.self.inside.table.now in
    let k = c.in_ok-own_key.own_key in let i : Item = record { elements = c.in_ok-to_vec.field-0; after = c.now.result } in
    let key : k.items ≡ c.args.key.now = search rules in
    let es : c.in_ok-to_vec.field-0.items ≡ c.args.elements.now = search rules in
    ap (λ x. renumbered m x t) c.in_ok-insert.ensures.entries ∙ renumbered-put m items t k i c.now.ensures ∙ ap₂ (with_entry (renumbered m items t)) key es ∙ ap (λ u. with_entry u c.args.key.now c.args.elements.now) c.self.view_is
