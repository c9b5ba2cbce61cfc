-- A text from its last character on, and the lists that the loops go over.
use Rattle.std.proofs.Common.{◌≡◌, ℕ, zero, suc, ◌+◌, ◌-◌, ◌≤◌, ◌<◌, Bool, true, List, [], ◌∷◌, ◌++◌, length, take, flat_map, reverse, get_or, Option, unwrap_or, sym, ap, ap₂, ◌∙◌, arith, eq-eqb, ne_eqb, append-nil, chars, encode_utf8, IsUtf8}
use Rattle.std.proofs.lemmas.Str.{chars-nil, chars_from_encodes, encodes-append, encodes-chars}
use Rattle.std.proofs.lemmas.Bool.{cond-true, cond-false}
use Rattle.std.proofs.lemmas.List.{nil_from_length, reverse-append, take_more}
use Rattle.std.proofs.lemmas.List.Concat.{flat_map-append}
use Rattle.unicode_normalization.specs.Decompose.{decompose_canonical}
use Rattle.uca_model.specs.Table.{ElementTable}
use Rattle.uca_model.specs.Prefix.{is_complete_from, is_complete}
use Rattle.std.proofs.lemmas.Grind.{common_steps}

-- the characters of a text that ends in one
pub split-chars : (text front : List ℕ) (c : ℕ) → text ≡ front ++ encode_utf8 c → IsUtf8 text → IsUtf8 front → chars text ≡ chars front ++ c ∷ []
split-chars text front c parts whole before =
    sym (chars_from_encodes (chars front ++ c ∷ []) text whole (encodes-append (chars front) (c ∷ []) ∙ ap₂ (λ f l. f ++ l) (encodes-chars front before) (append-nil (encode_utf8 c)) ∙ sym parts))

pub ruleset splitting = (common_steps, nil_from_length, chars-nil, split-chars)

-- a text is complete by its last character, where that decides, and otherwise by what comes before it
pub complete-last : (t : ElementTable) (text front ds : List ℕ) (c : ℕ) (decided : Option Bool) → text ≡ front ++ c ∷ [] → ds ≡ decompose_canonical c
    → ((before : List ℕ) → is_complete_from t (reverse ds ++ before) ≡ unwrap_or decided (is_complete_from t before)) → is_complete t text ≡ unwrap_or decided (is_complete t front)
unfolding is_complete
complete-last t text front ds c decided parts is ends = grind (arith, common_steps, flat_map-append, reverse-append, append-nil, ends (reverse (flat_map decompose_canonical front)))

pub complete-none : (t : ElementTable) (text : List ℕ) → text ≡ [] → is_complete t text ≡ true
unfolding is_complete
complete-none t text none = ap (λ l. is_complete_from t (reverse (flat_map decompose_canonical l))) none

pub ruleset completing = (common_steps, complete-last, complete-none)

-- the code points up to a place, from the last one on
pub reverse-take : (ds : List ℕ) (m n c : ℕ) → 0 < m → n ≡ m - 1 → m ≤ length ds → c ≡ get_or ds n c → reverse (take m ds) ≡ c ∷ reverse (take n ds)
reverse-take ds m n c some before within is = grind (arith, common_steps, take_more, reverse-append)

pub ruleset ending = (common_steps, reverse-take, cond-true, cond-false, eq-eqb, ne_eqb)
