use Rattle.std.proofs.Common.{◌≡◌, ◌+◌, length}
use Rattle.std.specs.List.{position_or_len}
use Rattle.uca_io.specs.Words.{is_blank}
use Rattle.uca_io.proofs.words.word_len.Given as goal

abbrev pub invariant-loop-first : goal.invariant-loop-first
invariant-loop-first l = record {
  place : l.len + position_or_len is_blank l.rest ≡ position_or_len is_blank l.text;
  within : l.len + length l.rest ≡ length l.text;
}

abbrev pub decreases-loop-first : goal.decreases-loop-first
decreases-loop-first l = length l.rest
