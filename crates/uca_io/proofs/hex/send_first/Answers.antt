use Rattle.std.proofs.Common.{◌≡◌, ℕ, ◌-◌, List, [], ◌∷◌, ◌++◌, length, take, drop, sym, subst, ap, ◌∙◌, append_assoc}
use Rattle.uca_io.specs.OutputBuffer.{Accepts}
use Rattle.uca_io.specs.Hex.{spaced_pairs}
use Rattle.uca_io.proofs.BufferLemmas.{Accepts-pushed}
use Rattle.uca_io.proofs.HexLemmas.{hex_text-pushed}
use Rattle.uca_io.proofs.hex.send_first.Goals as goal

pub returns : goal.returns
returns g c =
    let bytes : List ℕ = c.args.bytes.now in
    let others : List ℕ = spaced_pairs (take (length bytes - 1) (drop 1 bytes)) in
    let pair : List ℕ = c.hex_digit.result ∷ c.hex_digit-2.result ∷ [] in
    let waits : c.push_pairs.new.self.waiting ≡ c.make_room.new.self.waiting ++ (pair ++ others) =
    c.push_pairs.ensures.waiting ∙ ap (λ l. l ++ others) c.push.ensures.waiting ∙ append_assoc c.make_room.new.self.waiting pair others in
    subst (λ l. Accepts (g.W.Writer.state c.args.w.now) c.args.out.now (g.W.Writer.state c.make_room.new.w) c.push_pairs.new.self l)
    (sym (hex_text-pushed bytes c.hex_digit.result c.hex_digit-2.result c.requires.some c.hex_digit.ensures c.hex_digit-2.ensures))
    (Accepts-pushed _ _ c.args.out.now c.make_room.new.self c.push_pairs.new.self (pair ++ others) c.in_ok-make_room.ensures.all waits (c.push_pairs.ensures.written ∙ c.push.ensures.written))
