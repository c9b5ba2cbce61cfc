use Rattle.std.proofs.Common.{◌≡◌, ℕ, suc, ◌+◌, ◌*◌, ◌≤◌, ◌<◌, Bool, true, false, not, cond, nat_eq, nat_le, List, [], ◌∷◌, map, length, slice_index, subst, refl, sym, ◌∙◌, eq-eqb, ne_eqb, arith, inl, inr}
use Rattle.std.specs.List.{prefix_len}
use Rattle.std.specs.Bool.{MatchBool}
use Rattle.std.specs.Str.{IsNotAscii}
use Rattle.std.proofs.lemmas.Bool.{cases_eq}
use Rattle.std.proofs.lemmas.Bool.Decides.{nat_tests}
use Rattle.std.proofs.lemmas.Simd.{length-chunk, none_from_empty_mask, run_in_chunk_stops}
use lib.Lanes.{chunk, mask_l}
use Rattle.uca_window.specs.Ascii.{IsAsciiFrom}
use Rattle.uca_window.proofs.ascii.is_ascii_at.Goals as goal

low : (b : ℕ) → nat_le 0x80 b ≡ false → b < 0x80
low b h = grind (arith, nat_tests)

high : (b : ℕ) → nat_le 0x80 b ≡ true → 0x80 ≤ b
high b h = grind (arith, nat_tests)

one_lane : (b : Bool) (n t l : ℕ) → 0 < cond b 1 0 + 2 * n → (0 < n → t < l) → cond (not b) (1 + t) 0 < suc l
one_lane true n t l some f = omega arith
one_lane false n t l some f = let h : t < l = f (omega arith) in omega arith

-- where a bit is set, some lane passes the test
some_lane : (p : ℕ → Bool) (xs : List ℕ) → 0 < mask_l (map p xs) → prefix_len (λ x. not (p x)) xs < length xs
some_lane p [] some = absurd (omega arith)
some_lane p (x ∷ xs) some = one_lane (p x) (mask_l (map p xs)) (prefix_len (λ y. not (p y)) xs) (length xs) some (some_lane p xs)

told : (bytes : List ℕ) (at n found : ℕ) → at + n ≤ length bytes → found ≡ mask_l (map (nat_le 0x80) (chunk at n bytes)) → MatchBool (nat_eq found 0) (IsAsciiFrom at (at + n) bytes) (IsNotAscii bytes)
told bytes at n found room is = elim (cases_eq found 0) [
  | inl none ↦ subst (λ b. MatchBool b (IsAsciiFrom at (at + n) bytes) (IsNotAscii bytes)) (sym (eq-eqb found 0 none))
      (λ k from to. low (slice_index bytes k) (none_from_empty_mask (nat_le 0x80) bytes at n 0 room (sym is ∙ none) k from to))
  | inr some ↦
      let r = prefix_len (λ b. not (nat_le 0x80 b)) (chunk at n bytes) in
      let set : 0 < mask_l (map (nat_le 0x80) (chunk at n bytes)) = omega (arith, is, some) in
      let short : r < n = subst (λ m. r < m) (length-chunk at n bytes room) (some_lane (nat_le 0x80) (chunk at n bytes) set) in
      subst (λ b. MatchBool b (IsAsciiFrom at (at + n) bytes) (IsNotAscii bytes)) (sym (ne_eqb found 0 some)) (at + r, high _ (run_in_chunk_stops (nat_le 0x80) bytes at n r 0 room refl short))
]

pub returns : goal.returns
returns g c = told c.args.bytes.now c.args.at g.row.N c.others.result c.requires.within c.others.ensures
