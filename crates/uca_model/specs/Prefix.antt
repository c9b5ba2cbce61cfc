-- Texts after which no character changes the primary weights that came before: what a search for beginnings needs. Definitions of this project.
use Rattle.std.specs.Prelude.{◌≡◌, ◌≢◌, ℕ, ◌+◌, Bool, true, false, not, ◌==◌, ◌&&◌, ◌||◌, List, [], ◌∷◌, drop, reverse, flat_map, Option, Some, None, MatchOption, if◌then◌else◌}
use Rattle.std.specs.List.{list_all}
use Rattle.std.specs.Option.{option_map_or}
use Rattle.std.specs.FinMap.{entries}
use Rattle.std.specs.declared.cmp.Ordering.TheVariants.{Less}
use Rattle.unicode_normalization.specs.Decompose.{decompose_canonical}
use Rattle.unicode_normalization.specs.Order.{is_starter}
use Rattle.uca_weights.specs.declared.element.Element.{Element}
use Rattle.uca_weights.specs.declared.settings.Strength.TheVariants.{Primary}
use Rattle.uca_weights.specs.declared.settings.Variable.{Variable}
use Rattle.uca_weights.specs.Element.{has_primary}
use Rattle.uca_model.specs.Table.{ElementTable}
use Rattle.uca_model.specs.CollationElements.{elements_or_implicit}
use Rattle.uca_model.specs.StandAlone.{is_first, ends_matches}
use Rattle.uca_model.specs.SortKey.{key_order, sort_key}

-- no element has a primary weight
abbrev pub lack_primary : List Element → Bool
lack_primary es = list_all (λ e. not (has_primary e)) es

-- the same primary weight and mark
abbrev pub is_primary_of : Element → Element → Bool
is_primary_of f e = e.l1 == f.l1 && (if f.starred then e.starred else not e.starred)

-- each of the first elements has its primary weight and mark from these, and those after them have no primary weight
abbrev pub have_primaries_of : List Element → List Element → Bool
have_primaries_of [] es = lack_primary es
have_primaries_of (f ∷ fs) [] = false
have_primaries_of (f ∷ fs) (e ∷ es) = is_primary_of f e && have_primaries_of fs es

-- a key that begins with the code point has the primary weights of the code point alone
abbrev pub keeps_primary : ElementTable → ℕ → List ℕ × List Element → Bool
keeps_primary t c entry = not (is_first c entry.0) || have_primaries_of (elements_or_implicit t (c ∷ [])) entry.1

-- whatever follows the code point, a match that begins with it has its primary weights
abbrev pub keeps_primaries : ElementTable → ℕ → Bool
keeps_primaries t c = list_all (keeps_primary t c) (entries t.entries)

-- a starter whose primary weights are the same whatever follows
abbrev pub is_closed : ElementTable → ℕ → Bool
is_closed t s = ends_matches t s && keeps_primaries t s

-- a code point that has no primary weight, whatever follows
abbrev pub is_silent : ElementTable → ℕ → Bool
is_silent t c = lack_primary (elements_or_implicit t (c ∷ [])) && keeps_primaries t c

-- of code points from the last one on: nonstarters with no primary weight, and then a starter whose primary weights are the same whatever follows
abbrev pub is_complete_from : ElementTable → List ℕ → Bool
is_complete_from t [] = true
is_complete_from t (c ∷ cs) = if is_starter c then is_closed t c else is_silent t c && is_complete_from t cs

-- no character that follows the text joins its last segment at the primary level. The order of nonstarters does not matter here
unfoldable pub is_complete : ElementTable → List ℕ → Bool
is_complete t text = is_complete_from t (reverse (flat_map decompose_canonical text))

-- the key of a text at the strength Primary
abbrev pub primary_key : ElementTable → Variable → List ℕ → List ℕ
primary_key t v text = sort_key t (record { strength = Primary; weighting = v }) text

-- the first byte string after all that begin with this one: the last byte below FF raised by one, without the bytes after it; none where all bytes are FF
unfoldable pub end_of_prefix : List ℕ → Option (List ℕ)
end_of_prefix [] = None
end_of_prefix (b ∷ bs) = option_map_or (λ end. Some (b ∷ end)) (end_of_prefix bs) (if b == 255 then None else Some ((b + 1) ∷ []))

-- the byte string is not before the lower end, and before the upper one where there is one
pub record IsBetween (lower : List ℕ) (upper : Option (List ℕ)) (bytes : List ℕ) : Type 0 where
  pub from : key_order bytes lower ≢ Less
  pub before : MatchOption upper (Unit {0}) (λ end. key_order bytes end ≡ Less)
