-- The matches of a text, as they are put into arrays.
use Rattle.std.specs.Prelude.{◌≡◌, ℕ, Bool, List, ◌++◌, length, take, drop, map, flat_map, Option, Some, None, Result, Err, MatchResult, chars, if◌then◌else◌}
use Rattle.unicode_normalization.specs.Forms.{nfd}
use Rattle.uca_model.specs.CollationElements.{elements, elements_or_implicit, matches}
use Rattle.uca_model.specs.Lines.{IsTextLine}
use Rattle.uca_model.specs.Match.{Match}
use Rattle.uca_model.specs.Table.{ElementTable, is_key}
use Rattle.uca_weights.specs.declared.element.Element.{Element}
use Rattle.uca_handle.specs.declared.faults.KeyFault.{KeyFault}
use Rattle.uca_handle.specs.declared.faults.KeyFault.TheVariants.{Closed}
use Rattle.uca_handle.specs.Calls.{Refuses}
use Rattle.uca_handle.specs.declared.matches.ElementForm.{ElementForm}
use Rattle.uca_handle.specs.declared.matches.MatchForm.{MatchForm}
use Rattle.uca_handle.specs.declared.matches.MatchesSize.{MatchesSize}

-- the front of an array has some items, or as many of them as fit, and the rest of it is as it was
abbrev pub with_items : {A : Type 0} → List A → List A → List A
with_items items array = take (length array) items ++ drop (length items) array

-- a truth as a number
abbrev pub number_of : Bool → ℕ
number_of b = if b then 1 else 0

-- a collation element in numbers
abbrev pub element_form : Element → ElementForm
element_form e = record { primary = e.l1; secondary = e.l2; tertiary = e.l3; is_variable = number_of e.starred }

-- how many code points and elements a match has, and whether it is a key
abbrev pub match_form : ElementTable → Match → MatchForm
match_form t m = record { points = length m.code_points; elements = length (elements_or_implicit t m.code_points); is_key = number_of m.found }

-- the matches of a text
abbrev pub text_matches : ElementTable → List ℕ → List Match
text_matches t text = matches (is_key t) (nfd text)

-- their code points, one match after the other
abbrev pub match_points : List Match → List ℕ
match_points ms = flat_map (λ (m : Match). m.code_points) ms

-- the matches of a text are in the fronts of three arrays, with their code points and their elements, and these are their numbers
pub record AreMatchesIn (t : ElementTable) (text : List ℕ) (matches_before matches_after : List MatchForm) (points_before points_after : List ℕ) (elements_before elements_after : List ElementForm) (size : MatchesSize) : Type 0 where
  pub safe : IsTextLine text
  pub matches_size : size.matches ≡ length (text_matches t (chars text))
  pub points_size : size.points ≡ length (match_points (text_matches t (chars text)))
  pub elements_size : size.elements ≡ length (elements t (nfd (chars text)))
  pub matches_written : matches_after ≡ with_items (map (match_form t) (text_matches t (chars text))) matches_before
  pub points_written : points_after ≡ with_items (match_points (text_matches t (chars text))) points_before
  pub elements_written : elements_after ≡ with_items (map element_form (elements t (nfd (chars text)))) elements_before

-- the three arrays are as they were
pub record SameArrays (matches_before matches_after : List MatchForm) (points_before points_after : List ℕ) (elements_before elements_after : List ElementForm) : Type 0 where
  pub matches : matches_after ≡ matches_before
  pub points : points_after ≡ points_before
  pub elements : elements_after ≡ elements_before

-- the matches are found, or the arrays stay as they were
abbrev pub PutsMatchesBy : ElementTable → List ℕ → List MatchForm → List MatchForm → List ℕ → List ℕ → List ElementForm → List ElementForm → Result MatchesSize KeyFault → Type 0
PutsMatchesBy t text ms ms' ps ps' es es' result = MatchResult result (AreMatchesIn t text ms ms' ps ps' es es') (λ f. Refuses text f × SameArrays ms ms' ps ps' es es')

-- the same by a collator, which may have no table
abbrev pub PutsMatches : Option ElementTable → List ℕ → List MatchForm → List MatchForm → List ℕ → List ℕ → List ElementForm → List ElementForm → Result MatchesSize KeyFault → Type 0
PutsMatches None text ms ms' ps ps' es es' result = (result ≡ Err Closed) × SameArrays ms ms' ps ps' es es'
PutsMatches (Some t) text ms ms' ps ps' es es' result = PutsMatchesBy t text ms ms' ps ps' es es' result
