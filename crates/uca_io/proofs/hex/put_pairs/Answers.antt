use Rattle.std.proofs.Common.{ℕ, ◌-◌, List, ◌++◌, length, sym, ap, ◌∙◌, arith}
use Rattle.std.specs.Simd.Lanes.{chunk}
use Rattle.uca_io.specs.Hex.{spaced_pairs}
use Rattle.uca_io.proofs.HexLemmas.{spaced_pairs-block, put_fewer, put_last}
use Rattle.uca_io.proofs.hex.put_pairs.Goals as goal

pub loop-from-preserved : goal.loop-from-preserved
loop-from-preserved c =
    let from : ℕ = c.loop-from.from in let bytes : List ℕ = c.args.bytes.now in
    record {
      within = omega arith;
      done = c.put_block.ensures ∙ ap (λ l. l ++ spaced_pairs (chunk from 16 bytes)) c.loop-from.invariant.done ∙ sym (spaced_pairs-block from bytes);
    }

pub returns : goal.returns
returns c =
    let from : ℕ = c.loop-from.from in let bytes : List ℕ = c.args.bytes.now in
    let last : ℕ = length bytes - 16 in
    put_last last c.loop-from.room c.put_block-2.new.room bytes (omega arith) (put_fewer last from c.loop-from.room bytes (omega arith) c.loop-from.invariant.done) c.put_block-2.ensures
