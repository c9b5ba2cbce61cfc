use Rattle.std.proofs.Common.{◌+◌, ◌&&◌, arith}
use Rattle.std.proofs.lemmas.Bool.{and_parts}
use Rattle.uca_window.proofs.Utf8Lanes.{joined, short_utf8}
use Rattle.uca_window.proofs.utf8.are_paired.Goals as goal

pub returns : goal.returns
returns c = λ told.
    let bytes = c.args.bytes.now in
    let fourth = and_parts (c.are_ends_paired.result && c.are_paired_at-first.result && c.are_paired_at-second.result && c.are_paired_at-third.result) c.are_paired_at-fourth.result told in
    let third = and_parts (c.are_ends_paired.result && c.are_paired_at-first.result && c.are_paired_at-second.result) c.are_paired_at-third.result fourth.0 in
    let second = and_parts (c.are_ends_paired.result && c.are_paired_at-first.result) c.are_paired_at-second.result third.0 in
    let first = and_parts c.are_ends_paired.result c.are_paired_at-first.result second.0 in
    let two = joined _ 1 17 c.min.result (c.min.result + 16) (omega (arith, c.min.ensures)) (c.are_paired_at-first.ensures first.1) (c.are_paired_at-second.ensures second.1) in
    let three = joined _ 1 (c.min.result + 16) c.min-2.result (c.min-2.result + 16) (omega (arith, c.min.ensures, c.min-2.ensures)) two (c.are_paired_at-third.ensures third.1) in
    let four = joined _ 1 (c.min-2.result + 16) c.min-3.result (c.min-3.result + 16) (omega (arith, c.min-2.ensures, c.min-3.ensures)) three (c.are_paired_at-fourth.ensures fourth.1) in
    short_utf8 bytes (omega (arith, c.requires.some))
    (λ k from to. four k from (omega (arith, to, c.min-3.ensures, c.requires.some, c.requires.few))) (c.are_ends_paired.ensures first.0)
