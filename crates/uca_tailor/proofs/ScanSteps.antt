-- How a scan goes on, character by character.
use Rattle.std.proofs.Common.{◌≡◌, ℕ, ◌+◌, List, ◌∷◌, ◌++◌, length, take, drop, Some, None, encode_utf8, encode_utf8_all, append-nil, length-append, refl, sym, ap, ap₂, ◌∙◌, arith}
use Rattle.std.proofs.lemmas.List.{nil_from_length, drop-drop}
use Rattle.std.proofs.Math.Seq.{take-add}
use Rattle.std.proofs.lemmas.Str.{chars_past_char, chars-nil, IsUtf8-past_char, encodes-append}
use Rattle.std.specs.Str.{chars}
use Rattle.std.specs.Str.Iter.{char_indices_rest, char_indices_offset}
use Rattle.std.specs.declared.str.CharIndices.{CharIndices}
use Rattle.uca_tailor.specs.Scan.{ScanState, passed, TakesOne, state_of, IsCursor}

same_state : (a b : ℕ) (x y : List ℕ) → a ≡ b → x ≡ y → (let s : ScanState = record { at = a; left = x } in let t : ScanState = record { at = b; left = y } in s ≡ t)
same_state a b x y e f = ap₂ (λ n l. let s : ScanState = record { at = n; left = l } in s) e f

-- what the iterator over a text takes
pub takes_one : (s t : CharIndices) (c : ℕ) → IsCursor s → char_indices_rest s ≡ encode_utf8 c ++ char_indices_rest t → char_indices_offset t ≡ char_indices_offset s + length (encode_utf8 c) → TakesOne (state_of s) (Some c) (state_of t)
takes_one s t c is rest offset =
    let chs : chars (char_indices_rest s) ≡ c ∷ chars (char_indices_rest t) = chars_past_char _ _ c is.utf8 rest in
    (chs, same_state _ _ _ _ (offset ∙ ap (λ (xs : List ℕ). char_indices_offset s + length xs) (sym (append-nil (encode_utf8 c)) ∙ ap (λ xs. encode_utf8_all (take 1 xs)) (sym chs))) (sym (ap (drop 1) chs)))

-- and none at the end
pub takes_none : (s t : CharIndices) → length (char_indices_rest s) ≡ 0 → t ≡ s → TakesOne (state_of s) None (state_of t)
takes_none s t none same = (ap chars (nil_from_length _ none) ∙ chars-nil, ap state_of same)

-- what is left is a text again
pub cursor_next : (s t : CharIndices) (c : ℕ) → IsCursor s → char_indices_rest s ≡ encode_utf8 c ++ char_indices_rest t → char_indices_offset t ≡ char_indices_offset s + length (encode_utf8 c) → IsCursor t
cursor_next s t c is rest offset = record {
  utf8 = IsUtf8-past_char _ _ c is.utf8 rest;
  room = omega (arith, is.room, offset, ap length rest, length-append (encode_utf8 c) (char_indices_rest t));
}

pub passed-zero : (s : ScanState) → passed 0 s ≡ s
passed-zero s = same_state _ _ _ _ (omega arith) refl

pub passed-passed : (m n : ℕ) (s : ScanState) → passed m (passed n s) ≡ passed (n + m) s
passed-passed m n s =
    let bytes : encode_utf8_all (take (n + m) s.left) ≡ encode_utf8_all (take n s.left) ++ encode_utf8_all (take m (drop n s.left)) = ap encode_utf8_all (take-add n m s.left) ∙ encodes-append (take n s.left) (take m (drop n s.left)) in
    same_state _ _ _ _ (omega (arith, ap length bytes, length-append (encode_utf8_all (take n s.left)) (encode_utf8_all (take m (drop n s.left))))) (drop-drop m n s.left)
