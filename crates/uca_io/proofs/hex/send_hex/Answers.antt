use Rattle.std.proofs.Common.{◌≡◌, ◌<◌, ℕ, ◌+◌, List, ◌++◌, length, sym, ap, ◌∙◌, arith}
use Rattle.std.proofs.lemmas.Bool.{eqb-false}
use Rattle.std.proofs.lemmas.Result.{err_from_is_err_and}
use Rattle.uca_io.specs.OutputBuffer.{accepted}
use Rattle.uca_io.proofs.BufferLemmas.{FailsPartway-longer, accepted-Accepts}
use Rattle.uca_io.proofs.SendLemmas.{both_sent}
use Rattle.uca_io.specs.Hex.{hex_text, spaced_pairs}
use Rattle.uca_io.proofs.HexLemmas.{hex_text-parts, length-hex_text}
use Rattle.uca_io.proofs.hex.send_hex.Goals as goal

pub returns-in_err-send_first : goal.returns-in_err-send_first
returns-in_err-send_first g c =
    let p = err_from_is_err_and c.from_residual.result c.from_residual.ensures.1 in
    let first : List ℕ = c.split_at.result.0.now in let others : List ℕ = c.split_at.result.1.now in
    let more : length c.args.bytes.now ≡ 0 → ⊥ = eqb-false _ _ (sym c.is_empty.ensures ∙ c.if-is_empty.false) in
    let some : 0 < length first = omega (arith, more, c.split_at.ensures.front_len) in
    let whole : hex_text c.args.bytes.now ≡ hex_text first ++ spaced_pairs others = ap hex_text c.split_at.ensures.by_index.0 ∙ hex_text-parts first others some in
    rw (p.1, p.2, whole) (FailsPartway-longer _ _ _ (hex_text first) (spaced_pairs others) _ c.in_err-send_first.ensures)

pub send_spaced-requires : goal.send_spaced-requires
send_spaced-requires g c =
    let first : List ℕ = c.split_at.result.0.now in
    let size : accepted c.send_first.new.out ≡ accepted c.args.out.now + length (hex_text first) = accepted-Accepts _ _ _ _ (hex_text first) c.in_ok-send_first.ensures in
    omega (arith, size, length-hex_text first, c.split_at.ensures.front_len, c.split_at.ensures.back_len, c.requires)

pub returns : goal.returns
returns g c =
    let first : List ℕ = c.split_at.result.0.now in let others : List ℕ = c.split_at.result.1.now in
    let more : length c.args.bytes.now ≡ 0 → ⊥ = eqb-false _ _ (sym c.is_empty.ensures ∙ c.if-is_empty.false) in
    let some : 0 < length first = omega (arith, more, c.split_at.ensures.front_len) in
    let whole : hex_text c.args.bytes.now ≡ hex_text first ++ spaced_pairs others = ap hex_text c.split_at.ensures.by_index.0 ∙ hex_text-parts first others some in
    rw whole (both_sent _ _ _ _ _ _ (hex_text first) (spaced_pairs others) c.send_spaced.result c.in_ok-send_first.ensures c.send_spaced.ensures)
