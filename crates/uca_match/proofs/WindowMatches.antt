-- Matches in a window: its closed points show the match at the front of its rest.
use Rattle.std.proofs.Common.{◌≡◌, ℕ, suc, zero, ◌+◌, ◌-◌, ◌≤◌, ◌<◌, max, Bool, true, false, cond, ◌&&◌, nat_eq, nat_lt, List, [], ◌∷◌, ◌++◌, length, take, drop, get_or, refl, sym, ap, ap₂, subst, ◌∙◌, arith, append-nil, length-append, lt-ltb, ne_eqb, ◌==◌}
use Rattle.std.proofs.lemmas.Bool.{cases_Bool, cond-true, cond-false, cases_lt}
use Rattle.std.proofs.lemmas.List.{length-take, length-take-le, take_at, drop_at, drop-take, take-take, get_or-take, get_or_read}
use Rattle.std.specs.List.{remove}
use Rattle.unicode.specs.CanonicalCombiningClass.{canonical_combining_class as ccc}
use Rattle.uca_model.specs.Table.{ElementTable, is_key, longest}
use Rattle.uca_model.specs.Match.{took, greatest, longest_match_len, discontiguous_match}
use Rattle.uca_model.specs.CollationElements.{step, took_alone}
use Rattle.unicode_normalization.specs.Forms.{nfd}
use Rattle.uca_model.specs.SafeText.{IsSafe}
use Rattle.uca_model.proofs.SafeLemmas.{IsSafe-front}
use Rattle.uca_model.specs.Source.{SourceState, unread}
use Rattle.uca_model.specs.Window.{WindowState, is_wanting, IsWindow, Fits, ShowsFront, ChangesRest, begins_segment, rest_of}
use Rattle.uca_model.proofs.MatchingLemmas.{extended_ends, extended_takes, extended_passes}
use Rattle.uca_table.specs.Running.{highest_class, passed_over}
use Rattle.uca_match.specs.WindowMatch.{IsTaking, TakesNonstarters, TakesMatch, key_held, after_match, TakesHeld}
use Rattle.uca_table.proofs.MovedForward.{passed_over-more, passed_over-rest}
use Rattle.uca_table.proofs.MatchLemmas.{longest_match_len-short, highest_class-more, taken_as}
use Rattle.std.proofs.lemmas.Grind.{common_steps}

-- ---- the start

greatest-same : (p q : ℕ → Bool) (n : ℕ) → ((k : ℕ) → k ≤ n → p k ≡ q k) → greatest p n ≡ greatest q n
greatest-same p q zero same = refl
greatest-same p q (suc n) same = ap₂ (λ b m. cond b (suc n) m) (same (suc n) (omega arith)) (greatest-same p q n (λ k upto. same k (omega arith)))

-- the first code points show the longest initial substring that is a key, where they are as many as the longest key has, or all
pub longest_match_len-front : (t : ElementTable) (rest : List ℕ) (n : ℕ) → n ≤ length rest → (n < length rest → longest t ≤ n) → longest_match_len (is_key t) (take n rest) ≡ longest_match_len (is_key t) rest
longest_match_len-front t rest n within enough =
    ap (greatest (λ k. is_key t (take k (take n rest)))) (length-take-le n rest within)
    ∙ greatest-same (λ k. is_key t (take k (take n rest))) (λ k. is_key t (take k rest)) n (λ k upto. ap (is_key t) (take-take k n rest upto))
    ∙ longest_match_len-short t rest n within enough

step-alone : (is_key : List ℕ → Bool) (xs : List ℕ) → longest_match_len is_key xs ≡ 0 → step is_key xs ≡ took_alone xs
step-alone is_key xs none = cond-true _ _ _ (ap (λ n. nat_eq n 0) none)

step-key : (is_key : List ℕ → Bool) (xs : List ℕ) (n : ℕ) → longest_match_len is_key xs ≡ n → 0 < n → step is_key xs ≡ discontiguous_match is_key (take n xs) [] (drop n xs)
step-key is_key xs n start some = grind (arith, common_steps, cond-false, ne_eqb)

-- ---- the nonstarters

-- only the first code points count
passed_over-front : (a b : List ℕ) (start at n : ℕ) → start ≤ at → at ≤ n → take n a ≡ take n b → passed_over a start at ≡ passed_over b start at
passed_over-front a b start at n upto within same =
    let size : start + (at - start) ≡ at = omega arith in
    let firsts : take at a ≡ take at b = sym (take-take at n a within) ∙ ap (take at) same ∙ take-take at n b within in
    sym (drop-take start (at - start) a) ∙ ap (λ k. drop start (take k a)) size ∙ ap (drop start) firsts
    ∙ ap (λ k. drop start (take k b)) (sym size) ∙ drop-take start (at - start) b

removed-rest : (xs : List ℕ) (at : ℕ) → at ≤ length xs → drop at (remove xs at) ≡ drop (at + 1) xs
removed-rest xs at within = grind (arith, common_steps, drop_at, length-take-le)

passed_over-removed : (xs : List ℕ) (start at : ℕ) → start ≤ at → at ≤ length xs → passed_over (remove xs at) start at ≡ passed_over xs start at
passed_over-removed xs start at upto within = grind (arith, common_steps, passed_over-front, take_at, length-take-le)

-- a starter ends the run, and so does the end of the text
extension-ends : (is_key : List ℕ → Bool) (s passed ys : List ℕ) → begins_segment ys ≡ true → discontiguous_match is_key s passed ys ≡ took s (passed ++ ys)
unfolding discontiguous_match
extension-ends is_key s passed [] begins = ap (took s) (sym (append-nil passed))
extension-ends is_key s passed (y ∷ ys) begins = cond-true _ _ _ begins

-- ---- the closed points and the rest

abbrev pub ShowsFronts : WindowState → Type 0
ShowsFronts w = (left : List ℕ) → Fits w left → ShowsFront w (rest_of w left)

pub closed-within : (w : WindowState) (rest : List ℕ) → IsWindow w → ShowsFront w rest → w.closed ≤ length rest
closed-within w rest valid shows = grind (arith, common_steps, length-take, length-take-le)

point-in_rest : (w : WindowState) (rest : List ℕ) (at d : ℕ) → at < w.closed → ShowsFront w rest → get_or w.points at d ≡ get_or rest at d
point-in_rest w rest at d lt shows = grind (arith, common_steps, get_or-take)

module _ (is_key : List ℕ → Bool) (start : ℕ) (first : List ℕ) (old : WindowState) (key : List ℕ) (w : WindowState) (at high : ℕ) (h : IsTaking is_key start first old key w at high) (valid : IsWindow w) (shows : ShowsFronts w) where
  highest-in_rest : (rest : List ℕ) → ShowsFront w rest → high ≡ highest_class (passed_over rest start at)
  highest-in_rest rest front = h.highest ∙ ap highest_class (passed_over-front w.points rest start at w.closed h.upto h.within (sym front.front))

  -- a nonstarter was passed over
  pub IsTaking-passes : (x class next : ℕ) (taken : Bool) → at < w.closed → x ≡ get_or w.points at x → class ≡ ccc x → (class ≡ 0 → ⊥) → taken ≡ (nat_lt high (ccc x) && is_key (key ++ x ∷ [])) → taken ≡ false → next ≡ max high class
      → IsTaking is_key start first old key w (at + 1) next
  IsTaking-passes x class next taken lt is e mark t fails more =
      let inside : at < length w.points = omega (arith, valid.segments.within) in
      let value : get_or w.points at 0 ≡ x = sym (get_or_read w.points at x inside is 0) in
      let passed : passed_over w.points start (at + 1) ≡ passed_over w.points start at ++ x ∷ [] = passed_over-more w.points start at h.upto inside ∙ ap (λ c. passed_over w.points start at ++ c ∷ []) value in
      record {
        upto = omega (arith, h.upto);
        within = omega arith;
        longest = h.longest;
        ended = h.ended;
        size = h.size;
        highest = more ∙ ap₂ max h.highest e ∙ sym (ap highest_class passed ∙ highest_class-more (passed_over w.points start at) x);
        over = λ left fits.
            let was = h.over left fits in
            let rest : List ℕ = rest_of w left in
            let front : ShowsFront w rest = shows left was.0 in
            let long : at < length rest = omega (arith, closed-within w rest valid front) in
            let read : x ≡ get_or rest at x = is ∙ point-in_rest w rest at x lt front in
            let value : get_or rest at 0 ≡ x = sym (get_or_read rest at x long read 0) in
            let passed : passed_over rest start (at + 1) ≡ passed_over rest start at ++ x ∷ [] = passed_over-more rest start at h.upto long ∙ ap (λ c. passed_over rest start at ++ c ∷ []) value in (
              was.0,
              ap (λ p. discontiguous_match is_key key p (drop (at + 1) rest)) passed
                  ∙ sym (extended_passes is_key key (passed_over rest start at) rest at x class taken long read e mark (taken_as is_key key (passed_over rest start at) high x class taken (highest-in_rest rest front) e mark t) fails)
                  ∙ was.1,
            );
      }

  -- a nonstarter was taken, out of the window and into the key
  pub IsTaking-takes : (x class : ℕ) (taken : Bool) (after : List ℕ) (new : WindowState) → at < w.closed → x ≡ get_or w.points at x → class ≡ ccc x → (class ≡ 0 → ⊥) → taken ≡ (nat_lt high (ccc x) && is_key (key ++ x ∷ [])) → taken ≡ true
      → after ≡ key ++ x ∷ [] → new ≡ record w { points = remove w.points at; closed = w.closed - 1 } → ChangesRest (λ rest. remove rest at) w new → IsTaking is_key start first old after new at high
  IsTaking-takes x class taken after new lt is e mark t holds more changed removes =
      record {
        upto = h.upto;
        within = omega (arith, ap (λ (v : WindowState). v.closed) changed);
        longest = ap (λ (v : WindowState). v.longest) changed ∙ h.longest;
        ended = ap (λ (v : WindowState). v.ended) changed ∙ h.ended;
        size = omega (arith, h.size, lt, ap (λ (v : WindowState). v.closed) changed, ap length more ∙ length-append key (x ∷ []));
        highest = h.highest ∙ sym (ap highest_class (ap (λ (v : WindowState). passed_over v.points start at) changed ∙ passed_over-removed w.points start at h.upto (omega arith)));
        over = λ left fits.
            let was = h.over left fits in
            let front : ShowsFront w _ = shows left was.0 in
            let gone = removes left was.0 in
            let long : at < length _ = omega (arith, closed-within w _ valid front) in
            let read : x ≡ get_or _ at x = is ∙ point-in_rest w _ at x lt front in (
              gone.0,
              ap₂ (λ k r. discontiguous_match is_key k (passed_over r start at) (drop at r)) more gone.1
                  ∙ ap₂ (λ p r. discontiguous_match is_key (key ++ x ∷ []) p r) (passed_over-removed _ start at h.upto (omega arith)) (removed-rest _ at (omega arith))
                  ∙ sym (extended_takes is_key key (passed_over _ start at) _ at x class taken long read e mark (taken_as is_key key (passed_over _ start at) high x class taken (highest-in_rest _ front) e mark t) holds)
                  ∙ was.1,
            );
      }

  -- a starter ends the run
  pub IsTaking-stops : (x class : ℕ) → at < w.closed → x ≡ get_or w.points at x → class ≡ ccc x → class ≡ 0 → TakesNonstarters is_key start first old key w
  IsTaking-stops x class lt is e none = grind (arith, common_steps, closed-within, point-in_rest, extended_ends, passed_over-rest)

  -- so does the end of the closed points, after which comes a starter or nothing
  pub IsTaking-ends : 0 < start → w.closed ≤ at → TakesNonstarters is_key start first old key w
  IsTaking-ends some past = grind (arith, common_steps, extension-ends, passed_over-rest)

-- ---- a match

module _ (t : ElementTable) (w : WindowState) (same : w.longest ≡ longest t) (some : 0 < w.closed) (valid : IsWindow w) (shows : ShowsFronts w) where
  start-of_rest : (left : List ℕ) → Fits w left → (w.closed < w.longest → w.closed ≡ length (rest_of w left)) → longest_match_len (is_key t) (rest_of w left) ≡ longest_match_len (is_key t) (take w.closed w.points)
  start-of_rest left fits enough = grind (arith, common_steps, longest_match_len-front, closed-within, cases_lt)

  firsts-of_rest : (left : List ℕ) (n : ℕ) → Fits w left → n ≤ w.closed → take n (rest_of w left) ≡ take n w.points
  firsts-of_rest left n fits few = sym (take-take n w.closed (rest_of w left) few) ∙ ap (take n) (shows left fits).front ∙ take-take n w.closed w.points few

  -- a code point that begins no key
  pub TakesMatch-alone : (key : List ℕ) (new : WindowState) → longest_match_len (is_key t) (take w.closed w.points) ≡ 0 → key ≡ take 1 w.points → new ≡ record w { points = drop 1 w.points; closed = w.closed - 1 } → ChangesRest (drop 1) w new → IsWindow new
      → TakesMatch t w key new
  TakesMatch-alone key new none one changed drops is_window = grind (arith, common_steps, length-take, step-alone, start-of_rest, firsts-of_rest)

  -- a key with the nonstarters that it took
  pub TakesMatch-key : (n : ℕ) (first key : List ℕ) (middle new : WindowState) → longest_match_len (is_key t) (take w.closed w.points) ≡ n → 0 < n → n ≤ w.closed → first ≡ take n w.points → TakesNonstarters (is_key t) n first w key middle
      → new ≡ record middle { points = drop n middle.points; closed = middle.closed - n } → ChangesRest (drop n) middle new → IsWindow new → TakesMatch t w key new
  TakesMatch-key n first key middle new start positive few begins takes changed drops is_window = grind (arith, common_steps, length-take, step-key, start-of_rest, firsts-of_rest)

-- ---- a match in a window that wants no more

-- the points of a window are their own NFD
nfd-held : (w : WindowState) → IsWindow w → rest_of w [] ≡ w.points
nfd-held w valid = ap nfd (append-nil w.points) ∙ valid.form

fits-held : (w : WindowState) (left : List ℕ) → Fits w left → Fits w []
fits-held w left fits = record { safe = subst IsSafe (sym (append-nil w.points)) (IsSafe-front w.points left fits.safe); ended = λ _. refl }

-- whether it holds enough or the end was read
enough-held : (w : WindowState) → IsWindow w → is_wanting w ≡ false → w.closed < w.longest → w.closed ≡ length (rest_of w [])
enough-held w valid idle few = grind (arith, common_steps, cases_Bool, nfd-held, lt-ltb)

-- the match and the window after it are those of the points alone
pub match-held : (t : ElementTable) (w new : WindowState) (key left : List ℕ) → IsWindow w → Fits w left → is_wanting w ≡ false → TakesMatch t w key new → 0 < w.closed → (key ≡ key_held t w) × (new ≡ after_match t w)
match-held t w new key left valid fits idle takes some =
    let done = takes.over [] (fits-held w left fits) (enough-held w valid idle) in
    let same = nfd-held w valid in
    let is_match : key ≡ key_held t w = sym done.1.0 ∙ ap (λ xs. (step (is_key t) xs).matched.code_points) same in
    let points : new.points ≡ (step (is_key t) w.points).rest = sym (nfd-held new takes.valid) ∙ sym done.1.1 ∙ ap (λ xs. (step (is_key t) xs).rest) same in
    let closed : new.closed ≡ w.closed - length (key_held t w) = omega (arith, takes.size, ap length is_match) in (
      is_match,
      parts new (step (is_key t) w.points).rest (w.closed - length (key_held t w)) w.longest w.ended points closed takes.longest takes.ended
          ∙ sym (cond-false (w.closed == 0) _ _ (ne_eqb w.closed 0 (λ none. absurd (omega arith)))),
    )
  where
    parts : (v : WindowState) (points : List ℕ) (closed longest : ℕ) (ended : Bool) → v.points ≡ points → v.closed ≡ closed → v.longest ≡ longest → v.ended ≡ ended → v ≡ record { points = points; closed = closed; longest = longest; ended = ended }
    parts v points closed longest ended a b c d =
        ap₂ (λ p k. record { points = p; closed = k; longest = v.longest; ended = v.ended }) a b ∙ ap₂ (λ l e. record { points = points; closed = closed; longest = l; ended = e }) c d

-- `fill` did nothing, and then the match was taken
pub TakesHeld-filled : (t : ElementTable) (w filled new : WindowState) (key : List ℕ) (before after : SourceState) → IsWindow filled → Fits w (unread before) → is_wanting w ≡ false
    → (filled ≡ w) × (after ≡ before) → TakesMatch t filled key new → 0 < filled.closed → TakesHeld t w before key new after
TakesHeld-filled t w filled new key before after valid fits idle same takes some = grind (arith, common_steps, match-held)
