use Rattle.uca_keys.proofs.Common.{◌≡◌, ℕ, ◌++◌, List, [], take, sym, ap, ap₂, ◌∙◌, rules, take_rest, take-append-drop, last_key, last_path}
use Rattle.uca_keys.proofs.PushLemmas.{last_key_push, pushed}
use Rattle.uca_keys.proofs.nodes.Nodes.push.Goals as goal

pub invariant_of-self-2 : goal.invariant_of-self-2
invariant_of-self-2 c =
    let key : List ℕ = c.args.key.now in let from : ℕ = c.common_len-from.result in
    let last : c.as_slice.result.now ≡ last_path [] c.self.inside.nodes.items = c.as_slice.ensures.value ∙ c.self.invariant.2 in
    let is =
    pushed _ _ key c.args.elements.now from c.as_slice.result.now c.args.self.now c.push_reserved.new.all.items c.push_nodes.new.nodes.items c.self.invariant.0 c.self.invariant.1 last (c.as_slice.ensures.value ∙ c.self.invariant.3) c.self.view_is c.requires.after
    c.common_len-from.ensures.in_a c.common_len-from.ensures.in_b c.common_len-from.ensures.same c.common_len-from.ensures.differ c.requires.few c.requires.some_elements c.requires.few_elements (search rules) (search rules) in
    let front : c.truncate.new.self.items ≡ take from key = c.truncate.ensures.items ∙ ap (take from) (c.self.invariant.2 ∙ sym last) ∙ c.common_len-from.ensures.same in
    let whole : c.append.new.key.items ≡ key = c.append.ensures ∙ ap₂ (λ l r. l ++ r) front (take_rest key from) ∙ take-append-drop from key in
    (is.next, is.full, whole ∙ sym is.last, whole ∙ sym (last_key_push c.args.self.now key c.args.elements.now) ∙ ap last_key (sym is.entries))

pub returns-clause-ok : goal.returns-clause-ok
returns-clause-ok c =
    (pushed _ _ c.args.key.now c.args.elements.now c.common_len-from.result c.as_slice.result.now c.args.self.now c.push_reserved.new.all.items c.push_nodes.new.nodes.items c.self.invariant.0 c.self.invariant.1 (c.as_slice.ensures.value ∙ c.self.invariant.2) (c.as_slice.ensures.value ∙ c.self.invariant.3) c.self.view_is c.requires.after
    c.common_len-from.ensures.in_a c.common_len-from.ensures.in_b c.common_len-from.ensures.same c.common_len-from.ensures.differ c.requires.few c.requires.some_elements c.requires.few_elements (search rules) (search rules)).entries
