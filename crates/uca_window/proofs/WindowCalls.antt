-- Lemmas on a window: what its calls do to its points, its rest and its credit, and what it holds after reading on.
use Rattle.std.proofs.Common.{◌≡◌, ℕ, ◌+◌, ◌≤◌, true, List, [], ◌∷◌, ◌++◌, length, take, drop, refl, subst, arith, take-append-drop, zero, suc, ◌-◌, ◌<◌, Bool, false, not, ◌&&◌, nat_lt, lt-ltb, ltb-true, Some, All, get_or, sym, ap, ◌∙◌, inl, inr, append_assoc, append-nil, length-append, length-drop, length-take-le, get_or-take, min, Option, None}
use Rattle.std.proofs.lemmas.Bool.{cases_Bool, and_parts, cond-true, cond-false, and_from, not_from_false}
use Rattle.std.specs.List.{list_all, remove}
use Rattle.unicode_normalization.specs.Order.{is_nonstarter, is_ordered, canonical_order}
use Rattle.uca_model.specs.SafeText.{longest_run_after, longest_run}
use Rattle.uca_model.proofs.SafeLemmas.{run_after, count_le, runs-append, IsShort, length-nfd_one, runs-canonical_order}
use Rattle.std.proofs.lemmas.Grind.{common_steps}
use Rattle.std.proofs.lemmas.List.{drop_at, take_at, drop-append-le, get_or_append_left}
use Rattle.std.proofs.lemmas.List.Edits.{length-remove, remove-append_left}
use Rattle.std.proofs.lemmas.List.Elements.{All-nil, All-cons, All-head, All-tail, All-append, All-take, All-drop}
use Rattle.unicode.specs.CanonicalCombiningClass.{canonical_combining_class as ccc}
use Rattle.unicode_normalization.specs.Decompose.{decompose_canonical}
use Rattle.unicode_normalization.specs.Forms.{Nfd, nfd, IsInForm}
use Rattle.unicode_normalization.proofs.ComposeLemmas.{list_all-append}
use Rattle.unicode_normalization.proofs.DecomposeLemmas.{decompose-final}
use Rattle.unicode_normalization.proofs.FormsLemmas.{normalize-nil}
use Rattle.unicode_normalization.proofs.OrderLemmas.{length-canonical_order}
use Rattle.unicode_normalization.proofs.TableFacts.{is_final}
use Rattle.uca_weights.specs.declared.limits.TheConstants.{MAX_RUN, MAX_KEY, MAX_LOOKAHEAD}
use Rattle.uca_model.specs.Source.{SourceState, unread, GivesNext}
use Rattle.uca_model.specs.Window.{WindowState, empty_window, begins_segment, is_wanting, last_starter, after_read, IsWindow, rest_of, Fits, ChangesRest, ReadsOn, ShowsFront}
use Rattle.uca_window.specs.Segment.{IsOpen}
use Rattle.uca_window.proofs.FormLemmas.{parts, all_final, ordered-IsInForm, final-IsInForm, IsInForm-from, nfd-points, nfd-read, IsInForm-read, is_ordered-front, is_ordered-drop, is_ordered-without, list_all-drop, list_all-take, nonstarter_from, nfd-cut, nfd-begins}
use Rattle.uca_window.specs.Filling.{times_asked, filled, IsAsked}

-- ---- runs of nonstarters: those of a part of a text are no longer than those of the text

-- more nonstarters before a text make no shorter runs
runs-more : (m n : ℕ) (cs : List ℕ) → m ≤ n → longest_run_after m cs ≤ longest_run_after n cs
runs-more m n [] le = le
runs-more m n (c ∷ cs) le = grind (arith, common_steps, cases_Bool, runs-more (m + 1) (n + 1) cs (omega arith))

-- the back of a text
pub runs-back : (n : ℕ) (xs ys : List ℕ) → longest_run_after 0 ys ≤ longest_run_after n (xs ++ ys)
runs-back n xs ys = grind (arith, common_steps, run_after, runs-more, runs-append)

-- what is left of a text without its first code points
pub runs-drop : (k n : ℕ) (cs : List ℕ) → longest_run_after 0 (drop k cs) ≤ longest_run_after n cs
runs-drop k n cs = subst (λ l. longest_run_after 0 (drop k cs) ≤ longest_run_after n l) (take-append-drop k cs) (runs-back n (take k cs) (drop k cs))

-- a text without a nonstarter
pub runs-without : (n : ℕ) (xs : List ℕ) (m : ℕ) (ys : List ℕ) → is_nonstarter m ≡ true → longest_run_after n (xs ++ ys) ≤ longest_run_after n (xs ++ m ∷ ys)
runs-without n xs m ys mark = grind (arith, common_steps, run_after, runs-more, runs-append)

-- nonstarters in a row are a run
pub length-run : (n : ℕ) (ms ys : List ℕ) → list_all is_nonstarter ms ≡ true → n + length ms ≤ longest_run_after n (ms ++ ys)
length-run n [] ys nonstarters = omega (arith, count_le n ys)
length-run n (m ∷ ms) ys marks =
    let both = and_parts (is_nonstarter m) (list_all is_nonstarter ms) marks in
    let one : longest_run_after n (m ∷ (ms ++ ys)) ≡ longest_run_after (n + 1) (ms ++ ys) = rw both.0 refl in
    omega (arith, length-run (n + 1) ms ys both.1)

-- a window of these parts
abbrev pub window_of : List ℕ → ℕ → ℕ → Bool → WindowState
window_of points closed longest ended = record { points = points; closed = closed; longest = longest; ended = ended }

-- ---- short characters

-- of two parts of a text
shorts-parts : (xs ys : List ℕ) → All IsShort (xs ++ ys) → All IsShort xs × All IsShort ys
shorts-parts xs ys h = (
  subst (All IsShort) (take_at xs ys (length xs) refl) (All-take IsShort (length xs) (xs ++ ys) h),
  subst (All IsShort) (drop_at xs ys (length xs) refl) (All-drop IsShort (length xs) (xs ++ ys) h),
)

-- decomposed code points are short
shorts-final : (ds : List ℕ) → all_final ds ≡ true → All IsShort ds
shorts-final [] h = All-nil IsShort
shorts-final (d ∷ ds) h =
    let both = and_parts (is_final Nfd d) (all_final ds) h in
    let one : length (nfd (d ∷ [])) ≡ 1 = length-nfd_one d ∙ ap length (decompose-final Nfd d both.0) in
    All-cons IsShort d ds (omega arith) (shorts-final ds both.1)

-- ---- the bound

-- the points that are not closed are a code point and a run
length-open : (w : WindowState) (left : List ℕ) → IsWindow w → Fits w left → length w.points ≤ w.closed + 1 + MAX_RUN
length-open w left h fits =
    let final = final-IsInForm w.points h.form in
    let front = take 1 (drop w.closed w.points) in
    let back = drop 1 (drop w.closed w.points) in
    let inside : w.points ≡ take w.closed w.points ++ (front ++ back) =
    sym (take-append-drop w.closed w.points) ∙ ap (λ l. take w.closed w.points ++ l) (sym (take-append-drop 1 (drop w.closed w.points))) in
    let split : w.points ++ parts left ≡ (take w.closed w.points ++ front) ++ (back ++ parts left) =
    ap (λ l. l ++ parts left) (inside ∙ sym (append_assoc (take w.closed w.points) front back)) ∙ append_assoc (take w.closed w.points ++ front) back (parts left) in
    let all : longest_run (rest_of w left) ≡ longest_run_after 0 ((take w.closed w.points ++ front) ++ (back ++ parts left)) =
    ap longest_run (nfd-points w.points left final) ∙ runs-canonical_order (w.points ++ parts left) 0 ∙ ap longest_run split in
    let ends : longest_run_after 0 (back ++ parts left) ≤ longest_run_after 0 ((take w.closed w.points ++ front) ++ (back ++ parts left)) = runs-back 0 (take w.closed w.points ++ front) (back ++ parts left) in
    let run : 0 + length back ≤ longest_run_after 0 (back ++ parts left) = length-run 0 back (parts left) h.segments.nonstarters in
    let within : length back ≤ MAX_RUN = omega (arith, fits.safe.runs) in
    omega (arith, length-drop 1 (drop w.closed w.points), length-drop w.closed w.points)

-- there is capacity for what a character decomposes to
pub room_for : (w : WindowState) (c : ℕ) (left : List ℕ) → IsWindow w → Fits w (c ∷ left) → w.closed < w.longest → length w.points + length (decompose_canonical c) ≤ w.longest + MAX_LOOKAHEAD
room_for w c left h fits few = grind (arith, common_steps, All-head, shorts-parts, length-nfd_one, length-open)

-- ---- calls that read

-- a character was read, and what it decomposes to was put in order after the points
pub Steps-char : (w : WindowState) (c : ℕ) (left points : List ℕ) (closed : ℕ) → IsWindow w → Fits w (c ∷ left) → w.closed < w.longest → w.ended ≡ false
    → points ≡ canonical_order (w.points ++ decompose_canonical c) → IsOpen closed points → IsWindow (window_of points closed w.longest w.ended) × Fits (window_of points closed w.longest w.ended) left
Steps-char w c left points closed h fits few runs e segments =
    let form = subst (IsInForm Nfd) (sym e) (IsInForm-read w.points c h.form) in
    let same = ap (λ l. nfd (l ++ left)) e ∙ nfd-read w.points c left h.form in
    let size = ap length e ∙ length-canonical_order (w.points ++ decompose_canonical c) ∙ length-append w.points (decompose_canonical c) in
    let later = All-tail IsShort c left (shorts-parts w.points (c ∷ left) fits.safe.short).1 in (
      record {
        form = form;
        segments =
            record {
              within = segments.within;
              begins = segments.begins;
              nonstarters = segments.nonstarters;
              running = λ _. segments.some;
              ended = λ ended. let clash = sym ended ∙ runs in cc;
            };
        bound = omega (arith, room_for w c left h fits few);
        longest = h.longest;
      },
      record {
        safe =
            record {
              runs = subst (λ l. longest_run l ≤ MAX_RUN) (sym same) fits.safe.runs;
              short = All-append IsShort points left (shorts-final points (final-IsInForm points form)) later;
            };
        ended = λ ended. let clash = sym ended ∙ runs in cc;
      },
    )

-- `next` gave a character: what the window and the source are then
pub reads-char : (w : WindowState) (before after : SourceState) (c : ℕ) (points : List ℕ) (closed : ℕ) → IsWindow w → Fits w (unread before) → w.closed < w.longest → w.ended ≡ false
    → GivesNext before (Some c) after → points ≡ canonical_order (w.points ++ decompose_canonical c) → IsOpen closed points → ReadsOn w before (window_of points closed w.longest w.ended) after
reads-char w before after c points closed h fits few runs given e segments =
    let steps = Steps-char w c (unread after) points closed h (subst (Fits w) given.value.0 fits) few runs e segments in
    record {
      text = given.text;
      fits = steps.1;
      longest = refl;
      reads = omega (arith, given.reads, ap length given.value.0);
      mark = given.mark;
      rewinds = given.rewinds;
    }

-- and the rest is the same
pub rest-char : (w : WindowState) (before after : SourceState) (c : ℕ) (points : List ℕ) → IsWindow w → GivesNext before (Some c) after → points ≡ canonical_order (w.points ++ decompose_canonical c) → nfd (points ++ unread after) ≡ rest_of w (unread before)
rest-char w before after c points h given e = grind (arith, common_steps, nfd-read)

-- a window that wants no more and has few closed points holds all of the rest
pub closed-end : (w : WindowState) (left : List ℕ) → IsWindow w → Fits w left → (nat_lt w.closed w.longest && not w.ended) ≡ false → w.closed < w.longest → w.closed ≡ length (rest_of w left)
closed-end w left h fits stops few = grind (arith, common_steps, cases_Bool, and_from, lt-ltb, not_from_false, append-nil)

-- ---- what the closed points say about the rest

-- where nothing follows the closed points, nothing is left
last_segment : (w : WindowState) (left : List ℕ) → IsWindow w → Fits w left → 0 < w.closed → drop w.closed w.points ≡ [] → left ≡ []
last_segment w left h fits some nothing = grind (arith, common_steps, cases_Bool, length-drop)

-- the rest is the closed points, and the NFD of what follows them
rest-cut : (w : WindowState) (left : List ℕ) → IsWindow w → Fits w left → rest_of w left ≡ take w.closed w.points ++ nfd (drop w.closed w.points ++ left)
rest-cut w left h fits =
    let split = take-append-drop w.closed w.points in
    let size = length-take-le w.closed w.points h.segments.within in
    ap (λ l. nfd (l ++ left)) (sym split)
    ∙ nfd-cut _ _ left (ap all_final split ∙ final-IsInForm w.points h.form) (is_ordered-front _ _ (ap is_ordered split ∙ ordered-IsInForm w.points h.form))
    (λ some. h.segments.begins (omega arith)) (λ some. last_segment w left h fits (omega arith))

-- so it begins with the closed points, and goes on with a starter or ends
pub shows_front : (w : WindowState) (left : List ℕ) → IsWindow w → Fits w left → ShowsFront w (rest_of w left)
shows_front w left h fits =
    let front = take w.closed w.points in
    let whole = rest-cut w left h fits in
    let size = length-take-le w.closed w.points h.segments.within in
    record {
      front = ap (take w.closed) whole ∙ take_at front (nfd (_ ++ left)) w.closed size;
      follows = λ some. ap (λ l. begins_segment (drop w.closed l)) whole ∙ ap begins_segment (drop_at front (nfd (_ ++ left)) w.closed size)
          ∙ nfd-begins _ left (list_all-drop (is_final Nfd) w.closed w.points (final-IsInForm w.points h.form)) (h.segments.begins some) (last_segment w left h fits some);
    }

-- ---- calls that take closed points out

-- the new window is one, and its rest has this change
pub record Changed (change : List ℕ → List ℕ) (old new : WindowState) : Type 0 where
  pub window : IsWindow new
  pub rest : ChangesRest change old new

-- the closed points become others that are decomposed and in order, and in the rest too
changed : (w : WindowState) (front points : List ℕ) (closed : ℕ) (change : List ℕ → List ℕ) → IsWindow w → points ≡ front ++ drop w.closed w.points → closed ≡ length front → closed ≤ w.closed
    → all_final points ≡ true → is_ordered points ≡ true
    → ((left : List ℕ) → front ++ left ≡ change (take w.closed w.points ++ left))
    → ((left : List ℕ) → longest_run (change (take w.closed w.points ++ left)) ≤ longest_run (take w.closed w.points ++ left))
    → Changed change w (window_of points closed w.longest w.ended)
changed w front points closed change h e size le final ordered changes shorter =
    let back = drop w.closed w.points in
    record {
      window = grind (arith, common_steps, drop_at, length-append, length-drop, IsInForm-from);
      rest = λ left fits.
          let was = rest-cut w left h fits in
          let now = ap (λ l. nfd (l ++ left)) e ∙ nfd-cut front back left (ap all_final (sym e) ∙ final) (is_ordered-front front back (ap is_ordered (sym e) ∙ ordered))
          (λ some. h.segments.begins (omega arith)) (λ some. last_segment w left h fits (omega arith)) ∙ changes (nfd (back ++ left)) in
          let old_run : longest_run (take w.closed w.points ++ nfd (back ++ left)) ≤ MAX_RUN = subst (λ l. longest_run l ≤ MAX_RUN) was fits.safe.runs in
          let less = shorter (nfd (back ++ left)) in
          let new_run : longest_run (change (take w.closed w.points ++ nfd (back ++ left))) ≤ MAX_RUN = omega arith in (
            record {
              safe =
                  record {
                    runs = subst (λ l. longest_run l ≤ MAX_RUN) (sym now) new_run;
                    short = All-append IsShort points left (shorts-final points final) (shorts-parts w.points left fits.safe.short).1;
                  };
              ended = fits.ended;
            },
            now ∙ ap change (sym was),
          );
    }

-- the first points are dropped
pub dropped : (w : WindowState) (n : ℕ) → IsWindow w → n ≤ w.closed → Changed (drop n) w (window_of (drop n w.points) (w.closed - n) w.longest w.ended)
dropped w n h le =
    let front = take w.closed w.points in
    let size = length-take-le w.closed w.points h.segments.within in
    changed w (drop n front) (drop n w.points) (w.closed - n) (drop n) h
    (ap (drop n) (sym (take-append-drop w.closed w.points)) ∙ drop-append-le n front (drop w.closed w.points) (omega arith))
    (omega (arith, length-drop n front)) (omega arith)
    (list_all-drop (is_final Nfd) n w.points (final-IsInForm w.points h.form))
    (is_ordered-drop n w.points (ordered-IsInForm w.points h.form))
    (λ left. sym (drop-append-le n front left (omega arith)))
    (λ left. runs-drop n 0 (front ++ left))

-- ---- a nonstarter is removed

-- a list and one of its elements
split_at : (xs : List ℕ) (i : ℕ) → i < length xs → xs ≡ take i xs ++ get_or xs i 0 ∷ drop (suc i) xs
split_at [] i h = absurd (omega arith)
split_at (x ∷ xs) zero h = refl
split_at (x ∷ xs) (suc i) h = ap (λ l. x ∷ l) (split_at xs i (omega arith))

-- tests of the others
list_all-remove : (p : ℕ → Bool) (i : ℕ) (xs : List ℕ) → list_all p xs ≡ true → list_all p (remove xs i) ≡ true
list_all-remove p i xs h = list_all-append p (take i xs) (drop (suc i) xs) (list_all-take p i xs h) (list_all-drop p (suc i) xs h)

-- the others are in order
ordered-remove : (xs : List ℕ) (i : ℕ) → i < length xs → 0 < ccc (get_or xs i 0) → is_ordered xs ≡ true → is_ordered (remove xs i) ≡ true
ordered-remove xs i inside mark h =
    is_ordered-without (take i xs) (get_or xs i 0) (drop (suc i) xs) mark (ap is_ordered (sym (split_at xs i inside)) ∙ h)

-- and have no longer runs
runs-remove : (xs : List ℕ) (i : ℕ) → i < length xs → 0 < ccc (get_or xs i 0) → longest_run (remove xs i) ≤ longest_run xs
runs-remove xs i inside mark =
    subst (λ l. longest_run (remove xs i) ≤ longest_run l) (sym (split_at xs i inside))
    (runs-without 0 (take i xs) (get_or xs i 0) (drop (suc i) xs) (nonstarter_from _ mark))

pub removed : (w : WindowState) (i : ℕ) → IsWindow w → i < w.closed → 0 < ccc (get_or w.points i 0) → Changed (λ l. remove l i) w (window_of (remove w.points i) (w.closed - 1) w.longest w.ended)
removed w i h lt mark =
    let front = take w.closed w.points in
    let size = length-take-le w.closed w.points h.segments.within in
    let inside : i < length front = omega arith in
    let own : 0 < ccc (get_or front i 0) = subst (λ x. 0 < ccc x) (sym (get_or-take w.closed w.points i 0 lt)) mark in
    changed w (remove front i) (remove w.points i) (w.closed - 1) (λ l. remove l i) h
    (ap (λ l. remove l i) (sym (take-append-drop w.closed w.points)) ∙ remove-append_left front (drop w.closed w.points) i inside)
    (omega (arith, length-remove front i inside)) (omega arith)
    (list_all-remove (is_final Nfd) i w.points (final-IsInForm w.points h.form))
    (ordered-remove w.points i (omega (arith, h.segments.within)) mark (ordered-IsInForm w.points h.form))
    (λ left. sym (remove-append_left front left i inside))
    (λ left. runs-remove (front ++ left) i (omega (arith, length-append front left)) (subst (λ x. 0 < ccc x) (sym (get_or_append_left front left 0 i inside)) own))

-- ---- a new window

-- it has no points
pub IsWindow-new : (longest : ℕ) → 1 ≤ longest → longest ≤ MAX_KEY → IsWindow (empty_window longest)
IsWindow-new longest some most = grind (arith, common_steps, normalize-nil)

-- ---- what a window holds, by what it held

pub wants-few : (w : WindowState) → is_wanting w ≡ true → (w.closed < w.longest) × (w.ended ≡ false)
wants-few w h = let both = and_parts (nat_lt w.closed w.longest) (not w.ended) h in (ltb-true _ _ both.0, is_false w.ended both.1)
  where
    is_false : (b : Bool) → not b ≡ true → b ≡ false
    is_false true h = cc
    is_false false h = refl

not_all_marks : (ps : List ℕ) → begins_segment ps ≡ true → 0 < length ps → list_all is_nonstarter ps ≡ false
not_all_marks [] h some = absurd (omega arith)
not_all_marks (p ∷ ps) h some = rw h refl

-- the open segment begins with the last starter, where there is one
pub last_starter-open : (ps : List ℕ) (k : ℕ) → IsOpen k ps → last_starter ps ≡ k
last_starter-open [] k open_at = omega (arith, open_at.within)
last_starter-open (p ∷ ps) zero open_at = cond-true _ _ _ open_at.nonstarters
last_starter-open (p ∷ ps) (suc k) open_at =
    let few : suc k < suc (length ps) = open_at.some (omega arith) in
    let first : begins_segment (drop k ps) ≡ true = open_at.begins (omega arith) in
    let some : 0 < length (drop k ps) = omega (arith, length-drop k ps) in
    cond-false _ _ _ (not_all-later k ps (not_all_marks (drop k ps) first some))
    ∙ ap (λ n. n + 1) (last_starter-open ps k (record { within = omega (arith, few); begins = λ _. first; nonstarters = open_at.nonstarters; some = λ _. omega (arith, few) }))
    ∙ (let e : k + 1 ≡ suc k = omega arith in e)
  where
    not_all-later : (n : ℕ) (xs : List ℕ) → list_all is_nonstarter (drop n xs) ≡ false → list_all is_nonstarter xs ≡ false
    not_all-later n xs h = elim (cases_Bool (list_all is_nonstarter xs)) [
      | inl all ↦ let clash = sym (list_all-drop is_nonstarter n xs all) ∙ h in cc
      | inr some ↦ some
    ]

pub after_read-char : (w : WindowState) (c : ℕ) (points : List ℕ) (closed : ℕ) → points ≡ canonical_order (w.points ++ decompose_canonical c) → IsOpen closed points → window_of points closed w.longest w.ended ≡ after_read w (Some c)
after_read-char w c points closed e segments = grind (arith, common_steps, last_starter-open)

-- ---- a window that reads on one character at a time

-- what is held at last, and how far a source is read in all, are as they were before
pub record IsFilling (first : WindowState) (before : SourceState) (w : WindowState) (now : SourceState) : Type 0 where
  pub holds : filled w (unread now) ≡ filled first (unread before)
  pub place : now.place + min (times_asked w (unread now)) (length (unread now)) ≡ before.place + min (times_asked first (unread before)) (length (unread before))
  pub reads : now.reads + times_asked w (unread now) ≤ before.reads + times_asked first (unread before)

-- a window that wants no more
idle : (w : WindowState) (xs : List ℕ) → is_wanting w ≡ false → (filled w xs ≡ w) × (times_asked w xs ≡ 0)
unfolding filled times_asked
idle w [] h = (cond-false _ _ _ h, cond-false _ _ _ h)
idle w (c ∷ cs) h = (cond-false _ _ _ h, cond-false _ _ _ h)

-- one that wants a character, which comes or not
at_char : (w : WindowState) (c : ℕ) (cs : List ℕ) → is_wanting w ≡ true
    → (filled w (c ∷ cs) ≡ filled (after_read w (Some c)) cs) × (times_asked w (c ∷ cs) ≡ times_asked (after_read w (Some c)) cs + 1)
unfolding filled times_asked
at_char w c cs h = (cond-true _ _ _ h, cond-true _ _ _ h)

at_end : (w : WindowState) → is_wanting w ≡ true → (filled w [] ≡ after_read w None) × (times_asked w [] ≡ 1)
unfolding filled times_asked
at_end w h = (cond-true _ _ _ h, cond-true _ _ _ h)

-- the end was read
idle-end : (w : WindowState) → is_wanting (after_read w None) ≡ false
idle-end w = grind (arith, common_steps, cases_Bool)

-- ---- the loop

-- it read one more
pub IsFilling-read : (first : WindowState) (before : SourceState) (w : WindowState) (s : SourceState) (given : Option ℕ) (now : SourceState)
    → IsFilling first before w s → is_wanting w ≡ true → GivesNext s given now → IsFilling first before (after_read w given) now
IsFilling-read first before w s None now h wants gives = grind (arith, common_steps, at_end w wants, idle (after_read w None) (unread now) (idle-end w))
IsFilling-read first before w s (Some c) now h wants gives = grind (arith, common_steps, at_char)

-- it wants no more
pub IsFilling-holds : (first : WindowState) (before : SourceState) (w : WindowState) (now : SourceState) → IsFilling first before w now → is_wanting w ≡ false → w ≡ filled first (unread before)
IsFilling-holds first before w now h none = sym (idle w (unread now) none).0 ∙ h.holds

pub IsFilling-asked : (first : WindowState) (before : SourceState) (w : WindowState) (now : SourceState) → IsFilling first before w now → is_wanting w ≡ false → IsAsked (times_asked first (unread before)) before now
IsFilling-asked first before w now h none = grind (arith, common_steps, idle)
