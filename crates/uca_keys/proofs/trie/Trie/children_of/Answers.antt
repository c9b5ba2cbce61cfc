use Rattle.uca_keys.proofs.Common.{◌≤◌, length, sym, ap, subst, ◌∙◌, AreKids, kids_of}
use Rattle.uca_keys.proofs.FindLemmas.{kids_are}
use Rattle.uca_keys.proofs.trie.Trie.children_of.Goals as goal

pub returns : goal.returns
returns c =
    let number = c.args.node.number in
    subst (λ s. AreKids s number c.listed.result.now) c.self.view_is
    (kids_are _ c.listed.result.now number c.self.invariant.0 c.self.invariant.1 (subst (λ s. number ≤ length s.nodes) (sym c.self.view_is) c.requires) (c.listed.ensures ∙ ap (λ ns. kids_of ns number) c.deref.ensures.value))
