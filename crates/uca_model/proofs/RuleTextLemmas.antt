-- One piece of the text of rules, and all of them.
use Rattle.std.proofs.Common.{◌≡◌, ℕ, zero, suc, ◌+◌, ◌≤◌, Bool, true, false, List, [], ◌∷◌, length, drop, if◌then◌else◌, refl, ap, arith, length-drop}
use Rattle.std.proofs.Common.{Option, Some, None}
use Rattle.uca_model.specs.RuleText.{Piece, Part, piece_of, part_at, parts_within, parts_from, less_signs, less_run, hex_value, code_point, escape, quote, quoted, Quoted, gives, refused, syntax, is_white_space, number_sign, ampersand, less_than, equals, solidus, apostrophe, backslash, small_u, capital_u, is_left_out, is_plain, begins_with, asterisk}
use Rattle.std.proofs.Common.{◌==◌}
use Rattle.std.specs.Option.{option_map_or}
use lib.Utf8.{scalar}

-- Each piece has a character or more

some_if : (b : Bool) (p q : Piece) → 1 ≤ p.size → 1 ≤ q.size → 1 ≤ (if b then p else q).size
some_if true p q yes_p yes_q = yes_p
some_if false p q yes_p yes_q = yes_q

some_less : (n : ℕ) (cs : List ℕ) → 1 ≤ (less_signs (n + 1) cs).size
some_less n cs =
    some_if (n + 1 == 1) _ _ (some_if (begins_with asterisk cs) _ _ (omega arith) (omega arith))
    (some_if (n + 1 == 2) _ _ (some_if (begins_with asterisk cs) _ _ (omega arith) (omega arith))
    (some_if (n + 1 == 3) _ _ (some_if (begins_with asterisk cs) _ _ (omega arith) (omega arith)) (omega arith)))

some_point : (n : ℕ) (o : Option ℕ) → 1 ≤ (code_point n o).size
some_point n None = omega arith
some_point n (Some c) = some_if (scalar c) _ _ (omega arith) (omega arith)

some_escape : (cs : List ℕ) → 1 ≤ (escape cs).size
some_escape [] = omega arith
some_escape (c ∷ cs) = some_if (c == small_u) _ _ (some_point 4 (hex_value 4 0 cs)) (some_if (c == capital_u) _ _ (some_point 8 (hex_value 8 0 cs)) (omega arith))

some_quoted : (q : Option Quoted) → 1 ≤ (option_map_or (λ q. let p : Piece = record { kind = gives q.text; size = q.size + 1 } in p) q (record { kind = refused syntax; size = 1 })).size
some_quoted None = omega arith
some_quoted (Some q) = omega arith

some_quote : (cs : List ℕ) → 1 ≤ (quote cs).size
some_quote cs = some_if (begins_with apostrophe cs) _ _ (omega arith) (some_quoted (quoted cs))

pub piece-some : (c : ℕ) (cs : List ℕ) → 1 ≤ (piece_of c cs).size
piece-some c cs =
    some_if (is_white_space c) _ _ (omega arith)
    (some_if (c == number_sign) _ _ (omega arith)
    (some_if (c == ampersand) _ _ (omega arith)
    (some_if (c == less_than) _ _ (some_less (less_run cs) (drop (less_run cs) cs))
    (some_if (c == equals) _ _ (some_if (begins_with asterisk cs) _ _ (omega arith) (omega arith))
    (some_if (c == solidus) _ _ (omega arith)
    (some_if (c == apostrophe) _ _ (some_quote cs)
    (some_if (c == backslash) _ _ (some_escape cs)
    (some_if (is_left_out c) _ _ (omega arith)
    (some_if (is_plain c) _ _ (omega arith) (omega arith))))))))))

-- All pieces

parts-enough : (n m at : ℕ) (text : List ℕ) → length text ≤ n → length text ≤ m → parts_within n at text ≡ parts_within m at text
unfolding parts_within
parts-enough zero zero at text low high = refl
parts-enough zero (suc m) at [] low high = refl
parts-enough zero (suc m) at (c ∷ cs) low high = absurd (omega arith)
parts-enough (suc n) zero at [] low high = refl
parts-enough (suc n) zero at (c ∷ cs) low high = absurd (omega arith)
parts-enough (suc n) (suc m) at [] low high = refl
parts-enough (suc n) (suc m) at (c ∷ cs) low high =
    let p : Part = part_at at (piece_of c cs) (c ∷ cs) in
    let rest : List ℕ = drop (piece_of c cs).size (c ∷ cs) in
    let some : 1 ≤ (piece_of c cs).size = piece-some c cs in
    let fewer : length rest + 1 ≤ length (c ∷ cs) = omega (arith, length-drop (piece_of c cs).size (c ∷ cs)) in
    ap (λ (ps : List Part). p ∷ ps) (parts-enough n m p.after rest (omega arith) (omega arith))

-- the pieces of the text from a byte on
pub parts-none : (at : ℕ) → parts_from at [] ≡ []
unfolding parts_within
parts-none at = refl

-- the first piece, and those of the rest
pub parts-step : (at c : ℕ) (cs : List ℕ) → let p : Part = part_at at (piece_of c cs) (c ∷ cs) in parts_from at (c ∷ cs) ≡ p ∷ parts_from p.after (drop (piece_of c cs).size (c ∷ cs))
unfolding parts_within
parts-step at c cs =
    let p : Part = part_at at (piece_of c cs) (c ∷ cs) in
    let rest : List ℕ = drop (piece_of c cs).size (c ∷ cs) in
    let some : 1 ≤ (piece_of c cs).size = piece-some c cs in
    let fewer : length rest + 1 ≤ length (c ∷ cs) = omega (arith, length-drop (piece_of c cs).size (c ∷ cs)) in
    ap (λ (ps : List Part). p ∷ ps) (parts-enough (length cs) (length rest) p.after rest (omega arith) (omega arith))
