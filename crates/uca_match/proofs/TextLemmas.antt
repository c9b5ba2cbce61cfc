-- Texts that are read character after character: the elements that are left.
use Rattle.std.proofs.Common.{◌≡◌, ℕ, Option, Some, None, ◌+◌, ◌-◌, ◌≤◌, ◌<◌, true, append_assoc, append-nil, length-append, length-take-le, take-take, take-append-drop, List, [], ◌∷◌, ◌++◌, length, take, drop, flat_map, All, chars, encode_utf8, IsUtf8, refl, sym, ap, subst, ◌∙◌, arith, eqb-true, ap₂}
use Rattle.std.proofs.lemmas.List.{drop_at, length-drop, nil_from_length, take-append-le, take_rest, take-append-drop}
use Rattle.std.proofs.lemmas.List.Concat.{flat_map-append}
use Rattle.std.proofs.lemmas.List.Elements.{All-drop, All-head}
use Rattle.std.proofs.lemmas.Str.{chars-append, chars-nil, chars_past_char, IsUtf8-take, length-encode, len_utf8_bounds, IsCharBoundary-from_drop, IsCharBoundary-from_take, IsUtf8-drop}
use Rattle.std.specs.Str.{IsCharBoundary}
use Rattle.unicode_normalization.specs.Decompose.{decompose_canonical}
use Rattle.unicode_normalization.specs.Forms.{Nfd, nfd}
use Rattle.unicode_normalization.specs.Order.{is_ordered, canonical_order}
use Rattle.unicode_normalization.proofs.FormsLemmas.{normalize-nil}
use Rattle.unicode_normalization.proofs.OrderLemmas.{canonical_order-front, is_ordered-canonical_order, length-canonical_order}
use Rattle.uca_weights.specs.declared.element.Element.{Element}
use Rattle.uca_weights.specs.declared.limits.TheConstants.{MAX_DECOMPOSITION}
use Rattle.uca_model.specs.CollationElements.{elements}
use Rattle.uca_model.specs.Table.{ElementTable}
use Rattle.uca_model.specs.SafeText.{IsSafe, longest_run}
use Rattle.uca_model.specs.StandAlone.{bearing}
use Rattle.uca_model.proofs.ClosingLemmas.{apart-after}
use Rattle.uca_model.proofs.SafeLemmas.{IsShort, length-nfd_one, nfd-is, longest_run-nfd}
use Rattle.uca_model.proofs.StandAloneLemmas.{apart-before, apart-end, elements_none}
use Rattle.uca_table.proofs.ElementLemmas.{elements-further, elements-done}
use Rattle.uca_table.proofs.MovedForward.{rewritten-length}
use Rattle.uca_window.specs.PassageSource.{StandsIn}
use Rattle.uca_window.specs.Segment.{IsOpen}
use Rattle.uca_window.proofs.WindowCalls.{runs-back}
use Rattle.uca_window.proofs.SourceLemmas.{stands_next, stands_back}
use Rattle.uca_match.specs.JoinsNothing.{JoinsNothing}
use Rattle.uca_match.specs.declared.text_window.TextWindow.{TextWindow}
use Rattle.std.proofs.lemmas.Grind.{common_steps}
use Rattle.std.proofs.Math.Seq.{take-append_seam, drop-append_seam}
use Rattle.uca_match.specs.OneBack.{IsOneBack}

-- ---- what follows any front of a safe text is safe

pub IsSafe-rest : (xs ys : List ℕ) → IsSafe (xs ++ ys) → IsSafe ys
IsSafe-rest xs ys safe =
    let ds : List ℕ = flat_map decompose_canonical xs in
    let es : List ℕ = flat_map decompose_canonical ys in
    let all : longest_run (nfd (xs ++ ys)) ≡ longest_run (ds ++ es) = longest_run-nfd (xs ++ ys) ∙ ap longest_run (flat_map-append decompose_canonical xs ys) in
    record {
      runs = omega (arith, safe.runs, all, runs-back 0 ds es, longest_run-nfd ys);
      short = subst (λ l. All IsShort l) (drop_at xs ys (length xs) refl) (All-drop IsShort (length xs) (xs ++ ys) safe.short);
    }

-- what stands in a safe text is safe
pub stands-safe : (text rest : List ℕ) → StandsIn text rest → IsSafe (chars text) → IsSafe (chars rest)
stands-safe text rest stands safe =
    grind (arith, common_steps, IsSafe-rest (take (length (chars text) - length (chars rest)) (chars text)) (chars rest), take-append-drop)

pub safe-next : (text rest : List ℕ) (c : ℕ) → IsSafe text → text ≡ c ∷ rest → IsSafe rest
safe-next text rest c safe first = IsSafe-rest (c ∷ []) rest (subst IsSafe first safe)

-- ---- characters

-- the characters before a place and those after it
pub parts-at : (text left : List ℕ) (at : ℕ) → IsUtf8 text → IsCharBoundary text at → left ≡ drop at text → chars text ≡ chars (take at text) ++ chars left
parts-at text left at utf8 inside e =
    ap chars (sym (take-append-drop at text)) ∙ chars-append (take at text) (drop at text) (IsUtf8-take text at utf8 inside) ∙ ap (λ l. chars (take at text) ++ chars l) (sym e)

-- what joins nothing has its elements after those of what comes before it
pub elements-apart : (t : ElementTable) (front left : List ℕ) → JoinsNothing t left → elements t (nfd (front ++ left)) ≡ elements t (nfd front) ++ elements t (nfd left)
elements-apart t front left joins = grind (arith, common_steps, apart-end, apart-before)

-- a text has its elements after those of a character that bears all, or where it joins nothing
pub elements-after : (t : ElementTable) (front left : List ℕ) (c : ℕ) → 3 ≤ bearing t c → elements t (nfd ((front ++ c ∷ []) ++ left)) ≡ elements t (nfd (front ++ c ∷ [])) ++ elements t (nfd left)
elements-after t front left c all = apart-after t front left c all

-- ---- what was read of a text

-- it is the front of the text, of which these are the points in NFD
pub record IsRead (text left points : List ℕ) : Type 0 where
  pub front : List ℕ
  pub parts : text ≡ front ++ left
  pub same : points ≡ nfd front

pub IsRead-start : (text left points : List ℕ) → left ≡ text → points ≡ [] → IsRead text left points
IsRead-start text left points all none = record { front = []; parts = sym all; same = none ∙ sym (normalize-nil Nfd) }

-- one character more
nfd-more : (front : List ℕ) (c : ℕ) → nfd (front ++ c ∷ []) ≡ canonical_order (nfd front ++ decompose_canonical c)
nfd-more front c = grind (arith, common_steps, nfd-is, flat_map-append, append-nil, canonical_order-front)

pub IsRead-next : (text left points : List ℕ) → IsRead text left points → (c : ℕ) (rest new : List ℕ) → left ≡ c ∷ rest → new ≡ canonical_order (points ++ decompose_canonical c) → IsRead text rest new
IsRead-next text left points h c rest new first pushed = record {
  front = h.front ++ c ∷ [];
  parts = h.parts ∙ ap (λ l. h.front ++ l) first ∙ sym (append_assoc h.front (c ∷ []) rest);
  same = pushed ∙ ap (λ l. canonical_order (l ++ decompose_canonical c)) h.same ∙ sym (nfd-more h.front c);
}

pub read-ordered : (text left points : List ℕ) → IsRead text left points → is_ordered points ≡ true
read-ordered text left points h = ap is_ordered (h.same ∙ nfd-is h.front) ∙ is_ordered-canonical_order (flat_map decompose_canonical h.front)

-- a text that may be cut after the character
pub read-apart : (t : ElementTable) (text left points : List ℕ) → IsRead text left points → (c : ℕ) (rest new : List ℕ) → left ≡ c ∷ rest → new ≡ canonical_order (points ++ decompose_canonical c)
    → ((front : List ℕ) → elements t (nfd ((front ++ c ∷ []) ++ rest)) ≡ elements t (nfd (front ++ c ∷ [])) ++ elements t (nfd rest)) → elements t new ++ elements t (nfd rest) ≡ elements t (nfd text)
read-apart t text left points h c rest new first pushed apart =
    grind (arith, common_steps, nfd-more, append_assoc, apart h.front)

pub short-first : (text rest : List ℕ) (c : ℕ) → IsSafe text → text ≡ c ∷ rest → length (decompose_canonical c) ≤ MAX_DECOMPOSITION
short-first text rest c safe first = omega (arith, length-nfd_one c, All-head IsShort c rest (subst IsSafe first safe).short)

-- ---- room

-- what was put after a place leaves what is before it
pub kept-before : (from at end : ℕ) (new old : List Element) (es : List Element) → from ≤ at → at ≤ length old → from ≤ end → take end new ≡ take at old ++ es → take from new ≡ take from old
kept-before from at end new old es first within last e =
    let size : length (take at old) ≡ at = length-take-le at old within in
    sym (take-take from end new last) ∙ ap (take from) e ∙ take-append-le from (take at old) es (omega (arith, size)) ∙ take-take from at old first

pub no_window : (w : Option TextWindow) → ((x : TextWindow) → w ≡ Some x → ⊥) → w ≡ None
no_window None other = refl
no_window (Some x) other = absurd (other x refl)

pub IsOpen-none : (points : List ℕ) → points ≡ [] → IsOpen 0 points
IsOpen-none points none = subst (IsOpen 0) (sym none) (record { within = omega arith; begins = λ some. absurd (omega arith); nonstarters = refl; some = λ some. absurd (omega arith) })

pub ruleset texts = (common_steps, nil_from_length, eqb-true, no_window, chars-nil, elements_none, encode_utf8, chars_past_char, append_assoc, safe-next)

pub ruleset reading = (common_steps, encode_utf8, chars_past_char, length-encode, len_utf8_bounds, stands_next, stands-safe, IsRead-start, IsRead-next, read-ordered, read-apart, short-first, length-canonical_order, IsOpen-none)

pub ruleset cutting = (common_steps, elements-after, elements-apart)

pub ruleset putting = (common_steps, take-take, take_rest, length-drop, rewritten-length, elements-further, elements-done, kept-before)

-- ---- one character back

-- one character earlier the elements up to the place, and those of what is left from there, are those of all
pub record IsSettled (t : ElementTable) (text rest : List ℕ) (at from : ℕ) (room whole : List Element) : Type 0 where
  pub back : List ℕ
  pub place : ℕ
  pub is : IsOneBack t rest at back place
  pub stands : StandsIn text back
  pub later : from ≤ place
  pub same : take place room ++ elements t (nfd (chars back)) ≡ whole

-- where the text begins one character earlier
pub record StandsBack (text rest front : List ℕ) (c : ℕ) : Type 0 where
  pub boundary : IsCharBoundary text (length front)
  pub stands : StandsIn text (drop (length front) text)
  pub same : chars (drop (length front) text) ≡ c ∷ chars rest

pub stands-back : (text rest front : List ℕ) (c : ℕ) → StandsIn text rest → IsUtf8 text → IsUtf8 front → take (length text - length rest) text ≡ front ++ encode_utf8 c → StandsBack text rest front c
stands-back text rest front c stands utf8 before is =
    let whole : text ≡ front ++ (encode_utf8 c ++ rest) =
    sym (take-append-drop (length text - length rest) text) ∙ ap₂ (λ f l. f ++ l) is stands.bytes ∙ append_assoc front (encode_utf8 c) rest in
    let within : length front ≤ length text = omega (arith, ap length whole ∙ length-append front (encode_utf8 c ++ rest)) in
    let first : take (length front) text ≡ front = ap (take (length front)) whole ∙ take-append_seam front (encode_utf8 c ++ rest) in
    let boundary : IsCharBoundary text (length front) = IsCharBoundary-from_take text (length front) utf8 within (subst IsUtf8 (sym first) before) in
    let left : IsUtf8 (drop (length front) text) = IsUtf8-drop text (length front) utf8 boundary in
    let same : IsUtf8 (drop (length front) text) → chars (drop (length front) text) ≡ c ∷ chars rest = λ u. chars_past_char (drop (length front) text) rest c u (ap (drop (length front)) whole ∙ drop-append_seam front (encode_utf8 c ++ rest)) in
    record {
      boundary = boundary;
      stands = stands_back text rest front (record { within = within; first = first; one_more = λ u. omega (arith, ap length (same u)) }) before left;
      same = same left;
    }

pub ruleset going_back = (common_steps, encode_utf8, IsCharBoundary-from_drop, stands-back, stands-safe)
