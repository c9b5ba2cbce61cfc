use Rattle.uca_keys.proofs.Common.{◌≡◌, get_or, sym, rules, ranked}
use Rattle.std.proofs.lemmas.List.Sorted.{answers_always}
use Rattle.uca_keys.proofs.FindLemmas.{leads_at, no_child, not_found}
use Rattle.uca_keys.proofs.trie.Trie.search.Goals as goal

pub returns-in-Ok : goal.returns-in-Ok
returns-in-Ok c =
    let is : (get_or c.children_of-children.result.now c.in-Ok.at no_child).point ≡ c.args.point = ranked _ c.args.point _ (sym (c.in-Ok.ensures.position (λ child. child.point) (answers_always _ _ _ (λ f a r g called. search rules)) no_child)) in
    leads_at c.args.self.now c.args.node.number c.args.point c.in-Ok.at no_child c.children_of-children.result.now c.children_of-children.ensures c.in-Ok.ensures.bound is

pub returns-in-Err : goal.returns-in-Err
returns-in-Err c =
    c.children_of-children.ensures.none c.args.point
    (not_found c.children_of-children.result.now c.args.point _ c.children_of-children.ensures.rise c.in-Err.ensures.bound (c.in-Err.ensures.position (λ child. child.point) (answers_always _ _ _ (λ f a r g called. search rules))))
