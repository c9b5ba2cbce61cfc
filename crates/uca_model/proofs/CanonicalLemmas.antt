-- The canonical text of a table, one part after the other.
use Rattle.std.proofs.Common.{◌≡◌, ℕ, List, [], ◌∷◌, ◌++◌, length, refl, ap, sym, ◌∙◌, append-nil, arith}
use Rattle.std.specs.FinMap.{empty, entries, len-entries, len-empty}
use Rattle.uca_weights.specs.declared.element.Element.{Element}
use Rattle.uca_model.specs.Table.{key_cmp}
use Rattle.uca_model.specs.Output.{blank}
use Rattle.uca_model.specs.CanonicalText.{point_text, key_text}

-- the text of code points that are not the first of a key: a blank before each
abbrev pub more_points : List ℕ → List ℕ
more_points [] = []
more_points (c ∷ key) = blank ∷ point_text c ++ more_points key

pub key_text-cons : (c : ℕ) (key : List ℕ) → key_text (c ∷ key) ≡ point_text c ++ more_points key
key_text-cons c [] = sym (append-nil (point_text c))
key_text-cons c (d ∷ key) = ap (λ t. point_text c ++ blank ∷ t) (key_text-cons d key)

of_no_length : {A : Type 0} (xs : List A) → length xs ≡ 0 → [] ≡ xs
of_no_length [] e = refl
of_no_length (x ∷ xs) e = absurd (omega arith)

pub no_entries : [] ≡ entries (empty {X = List Element} {R = key_cmp})
no_entries = of_no_length (entries (empty {X = List Element} {R = key_cmp})) (sym (len-entries (empty {X = List Element} {R = key_cmp})) ∙ len-empty key_cmp (List Element))
