use Rattle.uca_table.proofs.Common.{◌≡◌, nat_lt, ◌∙◌, rules}
use Rattle.std.proofs.lemmas.List.Sorted.{IsPartitionPoint-from_clause}
use Rattle.uca_table.proofs.RangeLemmas.{found_there, parted_by_last}
use Rattle.uca_table.proofs.ranges.Ranges.place_of.Goals as goal

pub returns : goal.returns
returns c =
    let rs = c.args.self.now in
    let same : c.deref.result.now ≡ rs = c.deref.ensures.value ∙ c.self.view_is in
    found_there rs c.args.c c.partition_point.result c.requires.by_first (rw same at c.partition_point.ensures.bound)
    (rw same at (IsPartitionPoint-from_clause (λ s. nat_lt s.last c.args.c) _ _ c.partition_point.ensures.partitioned (rw same (parted_by_last rs c.args.c c.requires.ranges c.requires.by_first)) (λ a r q k. search rules)))
