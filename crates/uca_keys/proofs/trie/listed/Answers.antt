use Rattle.uca_keys.proofs.LinkLemmas.{linked_range}
use Rattle.uca_keys.proofs.trie.listed.Goals as goal

pub slice_bounds-result-count : goal.slice_bounds-result-count
slice_bounds-result-count c = (linked_range _ _ _ _ c.requires.linked c.requires.within).ordered

pub slice_bounds-result-start : goal.slice_bounds-result-start
slice_bounds-result-start c = (linked_range _ _ _ _ c.requires.linked c.requires.within).ordered

pub slice_bounds-result-end : goal.slice_bounds-result-end
slice_bounds-result-end c = (linked_range _ _ _ _ c.requires.linked c.requires.within).within

pub returns : goal.returns
returns c = (linked_range _ _ _ _ c.requires.linked c.requires.within).kids
