-- The lines of a safe text are safe texts.
use Rattle.std.proofs.Common.{◌≡◌, ◌≢◌, ◌⊎◌, ℕ, zero, suc, ◌+◌, ◌-◌, ◌<◌, ◌≤◌, ◌==◌, List, [], ◌∷◌, ◌++◌, length, map, take, drop, All, IsUtf8, slice_index, refl, sym, ap, ◌∙◌, inl, inr, arith, length-drop}
use Rattle.std.specs.Str.{IsCharBoundary}
use Rattle.std.proofs.lemmas.Bool.{cases_Bool, cond-true, cond-false, cases_lt, eqb-true}
use Rattle.std.proofs.lemmas.Str.{IsUtf8-nil, IsUtf8-take, IsUtf8-drop, IsCharBoundary-end, IsCharBoundary-before_ascii, IsCharBoundary-after_ascii}
use Rattle.std.proofs.Common.{subst}
use Rattle.std.proofs.lemmas.List.{nil_from_length}
use Rattle.std.proofs.lemmas.List.Elements.{All-cons, All-drop}
use Rattle.std.proofs.lemmas.List.Concat.{flat_map-append}
use Rattle.std.proofs.Common.{max, flat_map, chars, take-append-drop}
use Rattle.std.proofs.lemmas.List.{drop_at}
use Rattle.std.proofs.lemmas.Str.{chars-append, chars-nil}
use Rattle.std.proofs.lemmas.Bool.{eqb-false}
use Rattle.unicode_normalization.specs.Decompose.{decompose_canonical}
use Rattle.unicode_normalization.specs.Forms.{nfd}
use Rattle.unicode_normalization.specs.Order.{is_nonstarter}
use Rattle.uca_weights.specs.declared.limits.TheConstants.{MAX_DECOMPOSITION}
use Rattle.uca_model.specs.SafeText.{longest_run_after, longest_run, IsSafe}
use Rattle.uca_model.proofs.SafeLemmas.{run_after, runs-append, longest_run-nfd, IsSafe-front, safe_none}
use Rattle.uca_model.proofs.FirstLines.{split_lines-first}
use Rattle.uca_model.specs.Lines.{carriage_return, IsTextLine, line_feed, lines_of, without_return}

-- ---- lines of a text

-- the line ends where the text may be cut
line_boundary : (bytes : List ℕ) (end : ℕ) → end ≤ length bytes → (end < length bytes → slice_index bytes end ≡ line_feed) → IsCharBoundary bytes end
line_boundary bytes end within there =
    elim (cases_lt end (length bytes)) [
      | inl less ↦ IsCharBoundary-before_ascii bytes end less (omega (arith, there less))
      | inr more ↦ subst (IsCharBoundary bytes) (omega arith) (IsCharBoundary-end bytes)
    ]

-- a line is cut at a CR
record CutAtReturn (line : List ℕ) : Type 0 where
  place : ℕ
  inside : place < length line
  return : slice_index line place ≡ carriage_return
  same : without_return line ≡ take place line

-- the line stays, or is cut
return_parts : (line : List ℕ) → (without_return line ≡ line) ⊎ CutAtReturn line
return_parts [] = inl refl
return_parts (b ∷ []) = elim (cases_Bool (b == carriage_return)) [
  | inl is ↦ inr (record { place = 0; inside = omega arith; return = eqb-true b carriage_return is; same = cond-true _ _ _ is })
  | inr other ↦ inl (cond-false _ _ _ other)
]
return_parts (b ∷ c ∷ line) = elim (return_parts (c ∷ line)) [
  | inl whole ↦ inl (ap (λ l. b ∷ l) whole)
  | inr cut ↦ inr (record { place = suc cut.place; inside = omega (arith, cut.inside); return = cut.return; same = ap (λ l. b ∷ l) cut.same })
]

IsUtf8-return : (line : List ℕ) → IsUtf8 line → IsUtf8 (without_return line)
IsUtf8-return line utf8 =
    elim (return_parts line) [
      | inl whole ↦ subst IsUtf8 (sym whole) utf8
      | inr cut ↦ subst IsUtf8 (sym cut.same) (IsUtf8-take line cut.place utf8 (IsCharBoundary-before_ascii line cut.place cut.inside (omega (arith, cut.return))))
    ]

IsUtf8-line : (bytes : List ℕ) (end : ℕ) → IsUtf8 bytes → end ≤ length bytes → (end < length bytes → slice_index bytes end ≡ line_feed) → IsUtf8 (without_return (take end bytes))
IsUtf8-line bytes end utf8 within there = IsUtf8-return (take end bytes) (IsUtf8-take bytes end utf8 (line_boundary bytes end within there))

IsUtf8-after : (bytes : List ℕ) (end : ℕ) → IsUtf8 bytes → end ≤ length bytes → (end < length bytes → slice_index bytes end ≡ line_feed) → IsUtf8 (drop (end + 1) bytes)
IsUtf8-after bytes end utf8 within there =
    elim (cases_lt end (length bytes)) [
      | inl less ↦ IsUtf8-drop bytes (end + 1) utf8 (IsCharBoundary-after_ascii bytes end utf8 less (omega (arith, there less)))
      | inr more ↦ subst IsUtf8 (sym (nil_from_length (drop (end + 1) bytes) (omega (arith, length-drop (end + 1) bytes)))) IsUtf8-nil
    ]

-- ---- a safe text line by line

-- a run before a text makes none in it shorter
runs-later : (n m : ℕ) (ys : List ℕ) → n ≤ m → longest_run_after n ys ≤ longest_run_after m ys
runs-later n m [] h = h
runs-later n m (c ∷ cs) h = elim (cases_Bool (is_nonstarter c)) [
  | inl mark ↦ rw mark (runs-later (n + 1) (m + 1) cs (omega (arith, h)))
  | inr starter ↦ rw starter (omega (arith, h))
]

-- what follows a front of a safe text is safe
IsSafe-after : (xs ys : List ℕ) → IsSafe (xs ++ ys) → IsSafe ys
IsSafe-after xs ys safe =
    let front = flat_map decompose_canonical xs in
    let back = flat_map decompose_canonical ys in
    let all : longest_run (nfd (xs ++ ys)) ≡ max (longest_run front) (longest_run_after (run_after 0 front) back)
    = longest_run-nfd (xs ++ ys) ∙ ap longest_run (flat_map-append decompose_canonical xs ys) ∙ runs-append 0 front back in
    let own : longest_run (nfd ys) ≡ longest_run back = longest_run-nfd ys in
    let fewer : longest_run back ≤ longest_run_after (run_after 0 front) back = runs-later 0 (run_after 0 front) back (omega arith) in
    record {
      runs = omega (arith, safe.runs, all, own, fewer);
      short = subst (λ zs. All (λ c. length (nfd (c ∷ [])) ≤ MAX_DECOMPOSITION) zs) (drop_at xs ys (length xs) refl) (All-drop (λ c. length (nfd (c ∷ [])) ≤ MAX_DECOMPOSITION) (length xs) (xs ++ ys) safe.short);
    }

-- the characters of a text up to a place and from there on
chars-parts : (bytes : List ℕ) (at : ℕ) → IsUtf8 (take at bytes) → chars bytes ≡ chars (take at bytes) ++ chars (drop at bytes)
chars-parts bytes at utf8 = ap chars (sym (take-append-drop at bytes)) ∙ chars-append (take at bytes) (drop at bytes) utf8

-- a front of a safe text that is a text is safe
text-front : (bytes : List ℕ) (at : ℕ) → IsTextLine bytes → IsUtf8 (take at bytes) → IsTextLine (take at bytes)
text-front bytes at text utf8 = record { utf8 = utf8; safe = IsSafe-front (chars (take at bytes)) (chars (drop at bytes)) (subst IsSafe (chars-parts bytes at utf8) text.safe) }

-- its first line is safe
text-line : (bytes : List ℕ) (end : ℕ) → IsTextLine bytes → end ≤ length bytes → (end < length bytes → slice_index bytes end ≡ line_feed) → IsTextLine (without_return (take end bytes))
text-line bytes end text within there =
    let whole : IsTextLine (take end bytes) = text-front bytes end text (IsUtf8-take bytes end text.utf8 (line_boundary bytes end within there)) in
    let utf8 = IsUtf8-line bytes end text.utf8 within there in
    elim (return_parts (take end bytes)) [
      | inl same ↦ subst IsTextLine (sym same) whole
      | inr cut ↦ subst IsTextLine (sym cut.same) (text-front (take end bytes) cut.place whole (subst IsUtf8 cut.same utf8))
    ]

-- and so is what follows it
text-after : (bytes : List ℕ) (end : ℕ) → IsTextLine bytes → end ≤ length bytes → (end < length bytes → slice_index bytes end ≡ line_feed) → IsTextLine (drop (end + 1) bytes)
text-after bytes end text within there =
    let utf8 : IsUtf8 (drop (end + 1) bytes) = IsUtf8-after bytes end text.utf8 within there in
    elim (cases_lt end (length bytes)) [
      | inl less ↦
          let front : IsUtf8 (take (end + 1) bytes) = IsUtf8-take bytes (end + 1) text.utf8 (IsCharBoundary-after_ascii bytes end text.utf8 less (omega (arith, there less))) in
          record { utf8 = utf8; safe = IsSafe-after (chars (take (end + 1) bytes)) (chars (drop (end + 1) bytes)) (subst IsSafe (chars-parts bytes (end + 1) front) text.safe) }
      | inr more ↦
          let none : drop (end + 1) bytes ≡ [] = nil_from_length (drop (end + 1) bytes) (omega (arith, length-drop (end + 1) bytes)) in
          record { utf8 = utf8; safe = subst IsSafe (sym (ap chars none ∙ chars-nil)) safe_none }
    ]

-- the first line of some bytes ends here
record FirstLine (bytes : List ℕ) : Type 0 where
  end : ℕ
  within : end ≤ length bytes
  before : (k : ℕ) → k < end → slice_index bytes k ≢ line_feed
  there : end < length bytes → slice_index bytes end ≡ line_feed

none-before : (b : ℕ) (bytes : List ℕ) (n : ℕ) → b ≢ line_feed → ((k : ℕ) → k < n → slice_index bytes k ≢ line_feed) → (k : ℕ) → k < suc n → slice_index (b ∷ bytes) k ≢ line_feed
none-before b bytes n other none zero low = other
none-before b bytes n other none (suc k) low = none k (omega arith)

first_line : (bytes : List ℕ) → FirstLine bytes
first_line [] = record { end = 0; within = omega arith; before = λ k low. absurd (omega arith); there = λ inside. absurd (omega arith) }
first_line (b ∷ bytes) = elim (cases_Bool (b == line_feed)) [
  | inl is ↦ record { end = 0; within = omega arith; before = λ k low. absurd (omega arith); there = λ inside. eqb-true b line_feed is }
  | inr other ↦
      let later = first_line bytes in
      record {
        end = suc later.end;
        within = omega (arith, later.within);
        before = none-before b bytes later.end (eqb-false b line_feed other) later.before;
        there = λ inside. later.there (omega arith);
      }
]

lines-of-text : (n : ℕ) (bytes : List ℕ) → length bytes ≤ n → IsTextLine bytes → All IsTextLine (lines_of bytes)
lines-of-text n [] small text = λ k d h. absurd (omega arith)
lines-of-text zero (b ∷ bytes) small text = absurd (omega arith)
lines-of-text (suc n) (b ∷ bytes) small text =
    let first = first_line (b ∷ bytes) in
    let rest = drop (first.end + 1) (b ∷ bytes) in
    let shorter : length rest ≡ length (b ∷ bytes) - (first.end + 1) = length-drop (first.end + 1) (b ∷ bytes) in
    let parts : lines_of (b ∷ bytes) ≡ without_return (take first.end (b ∷ bytes)) ∷ lines_of rest = ap (map without_return) (split_lines-first (b ∷ bytes) first.end (omega arith) first.within first.before first.there) in
    subst (All IsTextLine) (sym parts)
    (All-cons IsTextLine (without_return (take first.end (b ∷ bytes))) (lines_of rest) (text-line (b ∷ bytes) first.end text first.within first.there)
    (lines-of-text n rest (omega (arith, shorter, small)) (text-after (b ∷ bytes) first.end text first.within first.there)))

-- each line of a safe text is a safe text
pub each-line : (bytes : List ℕ) → IsTextLine bytes → All IsTextLine (lines_of bytes)
each-line bytes text = lines-of-text (length bytes) bytes (omega arith) text
