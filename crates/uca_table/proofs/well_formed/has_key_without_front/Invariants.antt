use Rattle.uca_table.proofs.Common.{◌≡◌, list_any, entries, lacks_its_front}
use Rattle.uca_table.proofs.well_formed.has_key_without_front.Given as goal

abbrev pub invariant-loop-key : goal.invariant-loop-key
invariant-loop-key l = record {
  can : (goal.iterator-loop-key).can_next l.key-iterator;
  finite : (goal.iterator-loop-key).is_finite l.key-iterator;
  same : list_any (λ e. lacks_its_front l.t e.0) l.key-iterator ≡ list_any (λ e. lacks_its_front l.t e.0) (entries l.t.entries);
}
