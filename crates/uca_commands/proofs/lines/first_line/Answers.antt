use Rattle.std.proofs.Common.{◌≡◌, ◌≤◌, ◌∷◌, ◌+◌, ◌-◌, List, ℕ, ap, ap₂, sym, ◌∙◌, length, min, take, drop, arith}
use Rattle.std.proofs.lemmas.List.{drop_min, length-drop, length-take, take-take}
use Rattle.uca_model.specs.Lines.{without_return, lines_of}
use Rattle.uca_model.proofs.FirstLines.{lines_of-first, without_return-front}
use Rattle.uca_commands.proofs.lines.first_line.Goals as goal

pub returns-clause-parts : goal.returns-clause-parts
returns-clause-parts c =
    let bytes = c.args.bytes.now in let end : ℕ = c.place_of-end.result in
    let parts : lines_of bytes ≡ without_return (take end bytes) ∷ lines_of (drop (end + 1) bytes) = lines_of-first bytes end c.requires c.place_of-end.ensures.within c.place_of-end.ensures.value in
    parts ∙ ap₂ (λ (line : List ℕ) (rest : List ℕ). line ∷ lines_of rest) (sym c.without_return.ensures) (sym c.rest_after.ensures)

-- a front of a front
front_of : (n : ℕ) (bytes front : List ℕ) → front ≡ without_return (take n bytes) → (front ≡ take (length front) bytes) × (length front ≤ length bytes)
front_of n bytes front is =
    let line : List ℕ = take n bytes in
    let size : ℕ = length (without_return line) in
    let part : take size line ≡ without_return line = without_return-front line in
    let fewer : size ≤ length line = omega (arith, ap length part, length-take size line) in
    let within : size ≤ n = omega (arith, fewer, length-take n bytes) in
    let whole : without_return line ≡ take size bytes = sym part ∙ take-take size n bytes within in
    let short : size ≤ length bytes = omega (arith, ap length whole, length-take size bytes) in
    (is ∙ whole ∙ ap (λ l. take (length l) bytes) (sym is), omega (arith, ap length is, short))

pub returns-clause-front : goal.returns-clause-front
returns-clause-front c = (front_of c.place_of-end.result c.args.bytes.now c.without_return.result.now c.without_return.ensures).0

pub returns-clause-within : goal.returns-clause-within
returns-clause-within c = (front_of c.place_of-end.result c.args.bytes.now c.without_return.result.now c.without_return.ensures).1

-- what is left after some bytes follows as many as are gone
drop-gone : (n : ℕ) (bytes : List ℕ) → drop (length bytes - length (drop n bytes)) bytes ≡ drop n bytes
drop-gone n bytes =
    let gone : length bytes - length (drop n bytes) ≡ min n (length bytes) = omega (arith, length-drop n bytes) in
    ap (λ m. drop m bytes) gone ∙ drop_min n bytes

pub returns-clause-after : goal.returns-clause-after
returns-clause-after c =
    c.rest_after.ensures ∙ sym (drop-gone (c.place_of-end.result + 1) c.args.bytes.now) ∙ ap (λ rest. drop (length c.args.bytes.now - length rest) c.args.bytes.now) (sym c.rest_after.ensures)
