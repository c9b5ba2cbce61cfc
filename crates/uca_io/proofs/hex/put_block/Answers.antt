use Rattle.std.proofs.Common.{◌≡◌, ℕ, ◌+◌, ◌*◌, List, ◌++◌, length, take, ap, ◌∙◌, arith, append_assoc}
use Rattle.std.proofs.lemmas.Simd.{length-chunk}
use Rattle.std.specs.Simd.Lanes.{chunk}
use Rattle.uca_io.specs.Hex.{spaced}
use Rattle.uca_io.proofs.HexLanes.{front_of, back_of, sixteen_pairs}
use Rattle.uca_io.proofs.hex.put_block.Goals as goal

pub returns : goal.returns
returns c =
    let from : ℕ = c.args.from in let room : List ℕ = c.args.room.now in
    let block : List ℕ = chunk from 16 c.args.bytes.now in
    let long : length block ≡ 16 = length-chunk from 16 c.args.bytes.now c.requires.bytes in
    let front : List ℕ = spaced (front_of c.first_digits.result c.second_digits.result) in
    let back : List ℕ = spaced (back_of c.first_digits.result c.second_digits.result) in
    let end : 3 * (from + 16) ≡ 3 * from + 24 + 24 = omega arith in
    ap (λ n. take n c.put_spaced-2.new.room) end
    ∙ c.put_spaced-2.ensures
    ∙ ap (λ l. l ++ back) c.put_spaced.ensures
    ∙ append_assoc (take (3 * from) room) front back
    ∙ ap (λ l. take (3 * from) room ++ l) (sixteen_pairs block c.first_digits.result c.second_digits.result long c.first_digits.ensures c.second_digits.ensures)
