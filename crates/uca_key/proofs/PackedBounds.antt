-- What the ends of a prefix say of packed keys.
use Rattle.uca_key.proofs.Common.{◌≡◌, ◌↔◌, ℕ, true, List, ◌++◌, Option, All, sym, ap, subst, ◌∙◌, IsScalar, Settings, Variable, ElementTable, IsTable, end_of_prefix, is_complete, IsBetween, level_list, BeginsWith, packed_key, packed_prefix}
use Rattle.uca_key.proofs.BoundLemmas.{begins_lower, lies_between}
use Rattle.uca_key.proofs.PackedBytes.{packed-bytes}
use Rattle.uca_key.proofs.PackedPrefixes.{packed_alike, packed_begin, packed_beginnings}

-- the key of a longer text lies between the ends
pub packed_longer : (t : ElementTable) (v : Variable) (p lower : List ℕ) (upper : Option (List ℕ)) → is_complete t p ≡ true → lower ≡ packed_prefix t v p → upper ≡ end_of_prefix lower
    → (s : Settings) (x : List ℕ) → s.weighting ≡ v → IsBetween lower upper (packed_key t s (p ++ x))
packed_longer t v p lower upper complete first last s x same =
    lies_between (packed_key t s (p ++ x)) _ lower upper (first ∙ ap (λ w. packed_prefix t w p) (sym same)) last (packed_begin t s p x complete)

exactly_of : (t : ElementTable) (s : Settings) (p x lower : List ℕ) (upper : Option (List ℕ)) → IsTable t → All IsScalar p → All IsScalar x → lower ≡ packed_prefix t s.weighting p → upper ≡ end_of_prefix lower
    → IsBetween lower upper (packed_key t s x) ↔ BeginsWith (level_list t s.weighting x 1) (level_list t s.weighting p 1)
exactly_of t s p x lower upper table of_p of_x first last = (
  λ between. packed_alike t s p x table of_p of_x (subst (BeginsWith (packed_key t s x)) first (begins_lower lower upper last (packed_key t s x) (packed-bytes t s x) between)),
  λ begins. lies_between (packed_key t s x) _ lower upper first last (packed_beginnings t s p x begins),
)

-- the keys of just those texts lie there whose primary weights begin with those of the text
pub packed_exactly : (t : ElementTable) (v : Variable) (p lower : List ℕ) (upper : Option (List ℕ)) → IsTable t → All IsScalar p → lower ≡ packed_prefix t v p → upper ≡ end_of_prefix lower
    → (s : Settings) (x : List ℕ) → s.weighting ≡ v → All IsScalar x → IsBetween lower upper (packed_key t s x) ↔ BeginsWith (level_list t v x 1) (level_list t v p 1)
packed_exactly t v p lower upper table of_p first last s x same of_x =
    subst (λ w. IsBetween lower upper (packed_key t s x) ↔ BeginsWith (level_list t w x 1) (level_list t w p 1)) same
    (exactly_of t s p x lower upper table of_p of_x (first ∙ ap (λ w. packed_prefix t w p) (sym same)) last)
