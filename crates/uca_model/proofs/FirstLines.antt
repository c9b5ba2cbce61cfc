-- The first line of an input and those after it.
use Rattle.std.proofs.Common.{◌≡◌, ◌≢◌, ℕ, suc, zero, ◌+◌, ◌<◌, ◌≤◌, List, [], ◌∷◌, length, take, drop, slice_index, sym, ap, ◌∙◌, arith, eq-eqb, ne_eqb}
use Rattle.std.specs.Prelude.{if◌then◌else◌}
use Rattle.std.proofs.Common.{◌==◌, Bool, true, false, map, refl, subst}
use Rattle.std.specs.List.{position_or_len}
use Rattle.std.proofs.lemmas.Bool.{cond-true, cond-false, eqb-true, eqb-false}
use Rattle.std.proofs.lemmas.List.Sums.{fails_before_first, passes_at_first}
use Rattle.uca_io.specs.Lines.{is_line_feed}
use Rattle.uca_model.specs.Lines.{line_feed, carriage_return, lines_of, onto, split_lines, without_return}

-- a line ends before the first LF, or where the input ends
pub split_lines-first : (bytes : List ℕ) (n : ℕ) → 0 < length bytes → n ≤ length bytes → ((k : ℕ) → k < n → slice_index bytes k ≢ line_feed) → (n < length bytes → slice_index bytes n ≡ line_feed)
    → split_lines bytes ≡ take n bytes ∷ split_lines (drop (n + 1) bytes)
split_lines-first [] n some within before there = absurd (omega arith)
split_lines-first (b ∷ bytes) zero some within before there = cond-true _ _ _ (eq-eqb b line_feed (there (omega arith)))
split_lines-first (b ∷ []) (suc n) some within before there =
    let none : n ≡ 0 = omega arith in
    cond-false _ _ _ (ne_eqb b line_feed (before 0 (omega arith))) ∙ sym (ap (λ m. take (suc m) (b ∷ []) ∷ split_lines (drop (suc m + 1) (b ∷ []))) none)
split_lines-first (b ∷ c ∷ bytes) (suc n) some within before there =
    let more : suc n + 1 ≡ suc (n + 1) = omega arith in
    cond-false _ _ _ (ne_eqb b line_feed (before 0 (omega arith)))
    ∙ ap (onto b) (split_lines-first (c ∷ bytes) n (omega arith) (omega arith) (λ k low. before (suc k) (omega arith)) (λ low. there (omega arith)))
    ∙ sym (ap (λ m. (b ∷ take n (c ∷ bytes)) ∷ split_lines (drop m (b ∷ c ∷ bytes))) more)

-- the same of the lines without what ends them
pub lines_of-first : (bytes : List ℕ) (n : ℕ) → 0 < length bytes → n ≤ length bytes → n ≡ position_or_len is_line_feed bytes → lines_of bytes ≡ without_return (take n bytes) ∷ lines_of (drop (n + 1) bytes)
lines_of-first bytes n some within is =
    let there : n < length bytes → slice_index bytes n ≡ line_feed = λ inside. subst (λ k. slice_index bytes k ≡ line_feed) (sym is) (eqb-true _ line_feed (passes_at_first is_line_feed bytes 0 (omega (arith, is)))) in
    ap (map without_return) (split_lines-first bytes n some within (λ k low. eqb-false _ line_feed (fails_before_first is_line_feed bytes k 0 (omega (arith, is)))) there)

-- a line without CR is a front of the line
pub without_return-front : (line : List ℕ) → take (length (without_return line)) line ≡ without_return line
without_return-front [] = refl
without_return-front (b ∷ []) = go (b == carriage_return)
  where
    go : (ends : Bool) → take (length (if ends then [] else b ∷ [])) (b ∷ []) ≡ (if ends then [] else b ∷ [])
    go true = refl
    go false = refl
without_return-front (b ∷ c ∷ line) = ap (λ l. b ∷ l) (without_return-front (c ∷ line))
