-- The first byte string after all that begin with another, from its last byte on; and what the ends of a prefix say.
use Rattle.uca_key.proofs.Common.{◌≡◌, ◌↔◌, ℕ, ◌+◌, ◌-◌, ◌≤◌, ◌<◌, cond, true, ◌==◌, List, [], ◌∷◌, ◌++◌, length, take, get_or, Option, Some, None, All, flat_map, append_assoc, sym, ap, subst, ◌∙◌, arith, eq-eqb, ne_eqb, Fits, w8, cond-true, cond-false, take_more, IsScalar, AllByRecursion, Settings, Variable, Primary, levels, ElementTable, IsTable, code_point_bytes, joined, weight_bytes, is_complete, primary_key, IsBetween, level_list, AreBytes, BeginsWith, levels-within, each-append, each-take, common_steps}
use Rattle.uca_model.specs.Prefix.{end_of_prefix}
use Rattle.uca_model.specs.SortKey.{sort_key}
use Rattle.std.proofs.lemmas.List.Concat.{flat_map-append}
use Rattle.std.specs.Option.{option_map_or}
use Rattle.uca_model.proofs.GrowingLemmas.{keys-grow}
use Rattle.uca_model.proofs.PrefixKeys.{keys-begin, begins-between, between-begins, keys-alike, primary_key-is}

end-last : (xs : List ℕ) (b : ℕ) → b ≡ 255 → end_of_prefix (xs ++ b ∷ []) ≡ end_of_prefix xs
unfolding end_of_prefix
end-last [] b e = cond-true _ _ _ (eq-eqb b 255 e)
end-last (x ∷ xs) b e = ap (λ o. option_map_or (λ end. Some (x ∷ end)) o (cond (x == 255) None (Some ((x + 1) ∷ [])))) (end-last xs b e)

end-raised : (xs : List ℕ) (b : ℕ) → b < 255 → end_of_prefix (xs ++ b ∷ []) ≡ Some (xs ++ (b + 1) ∷ [])
unfolding end_of_prefix
end-raised [] b h = cond-false _ _ _ (ne_eqb b 255 (λ e. absurd (omega arith)))
end-raised (x ∷ xs) b h = ap (λ o. option_map_or (λ end. Some (x ∷ end)) o (cond (x == 255) None (Some ((x + 1) ∷ [])))) (end-raised xs b h)

-- up to the last byte, and up to what comes before it
up-to : (bytes : List ℕ) (m : ℕ) → 0 < m → m ≤ length bytes → take m bytes ≡ take (m - 1) bytes ++ get_or bytes (m - 1) 0 ∷ []
up-to bytes m some within = (let up : m ≡ m - 1 + 1 = omega arith in ap (λ k. take k bytes) up) ∙ take_more bytes (m - 1) 0 (omega arith)

-- at a byte FF, at another, and where none is left
pub end_past : (bytes : List ℕ) (m : ℕ) → end_of_prefix (take m bytes) ≡ end_of_prefix bytes → 0 < m → m ≤ length bytes → Fits w8 (get_or bytes (m - 1) 0) → 255 ≤ get_or bytes (m - 1) 0 → end_of_prefix (take (m - 1) bytes) ≡ end_of_prefix bytes
end_past bytes m same some within byte last = grind (arith, common_steps, end-last, up-to)

pub end_here : (bytes front end : List ℕ) (m : ℕ) → end_of_prefix (take m bytes) ≡ end_of_prefix bytes → 0 < m → m ≤ length bytes → get_or bytes (m - 1) 0 < 255
    → front ≡ take (m - 1) bytes → end ≡ front ++ (get_or bytes (m - 1) 0 + 1) ∷ [] → Some end ≡ end_of_prefix bytes
end_here bytes front end m same some within below is pushed = grind (arith, common_steps, end-raised, up-to)

pub end_nothing : (bytes : List ℕ) (m : ℕ) → end_of_prefix (take m bytes) ≡ end_of_prefix bytes → m ≤ 0 → None ≡ end_of_prefix bytes
unfolding end_of_prefix
end_nothing bytes m same none = (let nothing : m ≡ 0 = omega arith in sym (ap (λ k. end_of_prefix (take k bytes)) nothing)) ∙ same

-- what begins with the lower end lies between the ends
pub lies_between : (key front lower : List ℕ) (upper : Option (List ℕ)) → lower ≡ front → upper ≡ end_of_prefix lower → BeginsWith key front → IsBetween lower upper key
lies_between key front lower upper first last begins =
    let whole : key ≡ lower ++ begins.rest = begins.parts ∙ ap (λ l. l ++ begins.rest) (sym first) in
    subst (λ u. IsBetween lower u key) (sym last) (subst (IsBetween lower (end_of_prefix lower)) (sym whole) (begins-between lower begins.rest))

-- the key of a longer text lies there
pub between_longer : (t : ElementTable) (v : Variable) (p lower : List ℕ) (upper : Option (List ℕ)) → is_complete t p ≡ true → lower ≡ primary_key t v p → upper ≡ end_of_prefix lower
    → (s : Settings) (x : List ℕ) → s.weighting ≡ v → IsBetween lower upper (sort_key t s (p ++ x))
between_longer t v p lower upper complete first last s x same = lies_between (sort_key t s (p ++ x)) _ lower upper (first ∙ ap (λ w. primary_key t w p) (sym same)) last (keys-begin t s p x complete)

-- a sort key has bytes
weights-bytes : (ws : List ℕ) → AreBytes (flat_map weight_bytes ws)
weights-bytes [] = tt
weights-bytes (w ∷ ws) = (omega arith, (omega arith, weights-bytes ws))

pub points-bytes : (cs : List ℕ) → AreBytes (flat_map code_point_bytes cs)
points-bytes [] = tt
points-bytes (c ∷ cs) = (omega arith, (omega arith, (omega arith, points-bytes cs)))

joined-bytes : (ls : List (List ℕ)) → AllByRecursion AreBytes ls → AreBytes (joined ls)
joined-bytes [] h = tt
joined-bytes (x ∷ []) h = h.0
joined-bytes (x ∷ y ∷ ls) h = each-append (λ (b : ℕ). b < 256) x (0 ∷ 0 ∷ joined (y ∷ ls)) h.0 (omega arith, (omega arith, joined-bytes (y ∷ ls) h.1))

key-bytes : (t : ElementTable) (s : Settings) (x : List ℕ) → AreBytes (sort_key t s x)
unfolding sort_key
key-bytes t s x = joined-bytes _ (each-take AreBytes (levels s.strength) _ (weights-bytes _, (weights-bytes _, (weights-bytes _, (weights-bytes _, (points-bytes _, tt))))))

-- a text whose primary weights begin with those of another has a key that begins with the key of the other
begins-key : (t : ElementTable) (s : Settings) (p x : List ℕ) → BeginsWith (level_list t s.weighting x 1) (level_list t s.weighting p 1) → BeginsWith (sort_key t s x) (primary_key t s.weighting p)
begins-key t s p x begins =
    let grown = keys-grow t s.weighting Primary s.strength x (levels-within s.strength).0 in
    let later : List ℕ = flat_map weight_bytes begins.rest in
    let longer : primary_key t s.weighting x ≡ primary_key t s.weighting p ++ later =
    primary_key-is t s.weighting x ∙ ap (flat_map weight_bytes) begins.parts ∙ flat_map-append weight_bytes (level_list t s.weighting p 1) begins.rest ∙ ap (λ l. l ++ later) (sym (primary_key-is t s.weighting p)) in
    record {
      rest = later ++ grown.rest;
      parts = grown.parts ∙ ap (λ l. l ++ grown.rest) longer ∙ append_assoc (primary_key t s.weighting p) later grown.rest;
    }

-- and it lies between the ends then, and only then
exactly_of : (t : ElementTable) (s : Settings) (p x lower : List ℕ) (upper : Option (List ℕ)) → IsTable t → All IsScalar p → All IsScalar x → lower ≡ primary_key t s.weighting p → upper ≡ end_of_prefix lower
    → IsBetween lower upper (sort_key t s x) ↔ BeginsWith (level_list t s.weighting x 1) (level_list t s.weighting p 1)
exactly_of t s p x lower upper table of_p of_x first last = (
  λ between. keys-alike t s p x table of_p of_x (subst (BeginsWith (sort_key t s x)) first (between-begins lower (sort_key t s x) (key-bytes t s x) (subst (λ u. IsBetween lower u (sort_key t s x)) last between))),
  λ begins. lies_between (sort_key t s x) _ lower upper first last (begins-key t s p x begins),
)

pub between_exactly : (t : ElementTable) (v : Variable) (p lower : List ℕ) (upper : Option (List ℕ)) → IsTable t → All IsScalar p → lower ≡ primary_key t v p → upper ≡ end_of_prefix lower
    → (s : Settings) (x : List ℕ) → s.weighting ≡ v → All IsScalar x → IsBetween lower upper (sort_key t s x) ↔ BeginsWith (level_list t v x 1) (level_list t v p 1)
between_exactly t v p lower upper table of_p first last s x same of_x =
    subst (λ w. IsBetween lower upper (sort_key t s x) ↔ BeginsWith (level_list t w x 1) (level_list t w p 1)) same
    (exactly_of t s p x lower upper table of_p of_x (first ∙ ap (λ w. primary_key t w p) (sym same)) last)

-- what lies between the ends begins with the lower one
pub begins_lower : (lower : List ℕ) (upper : Option (List ℕ)) → upper ≡ end_of_prefix lower → (bytes : List ℕ) → AreBytes bytes → IsBetween lower upper bytes → BeginsWith bytes lower
begins_lower lower upper last bytes are h = between-begins lower bytes are (subst (λ u. IsBetween lower u bytes) last h)
