-- How the children of all nodes are found from the last node back.
use Rattle.uca_keys.proofs.Common.{◌≡◌, ℕ, zero, suc, ◌+◌, ◌-◌, ◌≤◌, ◌<◌, nat_lt, List, [], ◌∷◌, ◌++◌, length, take, drop, get_or, refl, sym, ap, ap₂, subst, ◌∙◌, arith, inl, inr, ne_eqb, ltb-true, ltb-false, le-ltb, length-append, length-drop, cases_Bool, cases_lt, cases_eq, cond_both, get_or_append_left, get_or_push, length_push, take-append-le, drop-append-le, drop-drop, drop_all, drop_more, Element, Node, Child, child_of, depth_below, end_of, kids_back, kids_from, kids_of, span_len, AreEnds, AreLinked, AreValues, first_depth, path_after, AreNext, common_steps}
use Rattle.uca_keys.proofs.NodeLemmas.{path_long}

pub span_within : (d : ℕ) (ns : List Node) → span_len d ns ≤ length ns
span_within d [] = omega arith
span_within d (n ∷ ns) = cond_both (nat_lt n.depth d) 0 (suc (span_len d ns)) (λ k. k ≤ suc (length ns)) (λ _. omega arith) (λ _. omega (arith, span_within d ns))

-- what is deeper belongs to the child before it
kids_skip : (d i : ℕ) (ns : List Node) → kids_from d i ns ≡ kids_from d (i + span_len (d + 1) ns) (drop (span_len (d + 1) ns) ns)
kids_skip d i [] = refl
kids_skip d i (n ∷ ns) = grind (arith, common_steps, cases_Bool, ltb-false, le-ltb, ne_eqb, kids_skip d (i + 1) ns)

span_skip : (d : ℕ) (ns : List Node) → span_len d ns ≡ span_len (d + 1) ns + span_len d (drop (span_len (d + 1) ns) ns)
span_skip d [] = refl
span_skip d (n ∷ ns) = grind (arith, common_steps, cases_Bool, ltb-false, le-ltb, span_skip d ns)

-- after what is deeper comes a node that is not
span_top : (d : ℕ) (ns : List Node) → first_depth (drop (span_len (d + 1) ns) ns) ≤ d
span_top d [] = omega arith
span_top d (n ∷ ns) = cond_both (nat_lt n.depth (d + 1)) 0 (suc (span_len (d + 1) ns)) (λ k. first_depth (drop k (n ∷ ns)) ≤ d) (λ less. let h : n.depth < d + 1 = ltb-true n.depth (d + 1) less in omega arith) (λ _. span_top d ns)

-- no node has more code points before it than the one in front of it leads to
pub depth_within : (es : List Element) (p : List ℕ) (ns : List Node) → AreNext es p ns → (i : ℕ) → first_depth (drop i ns) ≤ depth_below (length p) ns i
depth_within es p [] next zero = omega arith
depth_within es p [] next (suc i) = omega arith
depth_within es p (n ∷ ns) next zero = next.0.from
depth_within es p (n ∷ ns) next (suc i) = subst (λ d. first_depth (drop i ns) ≤ depth_below d ns i) (path_long p n next.0.from) (depth_within es (path_after p n) ns next.1 i)

depth_below-suc : (depth : ℕ) (ns : List Node) (i : ℕ) (d : Node) → i < length ns → depth_below depth ns (suc i) ≡ (get_or ns i d).depth + 1
depth_below-suc depth [] i d within = absurd (omega arith)
depth_below-suc depth (n ∷ ns) zero d within = refl
depth_below-suc depth (n ∷ ns) (suc i) d within = depth_below-suc (n.depth + 1) ns i d (omega arith)

pub depth_after : (ns : List Node) (number : ℕ) (d : Node) → (number ≡ 0 → ⊥) → number ≤ length ns → depth_below 0 ns number ≡ (get_or ns (number - 1) d).depth + 1
depth_after ns zero d some within = absurd (some refl)
depth_after ns (suc i) d some within = let back : suc i - 1 ≡ i = omega arith in depth_below-suc 0 ns i d (omega arith) ∙ ap (λ k. (get_or ns k d).depth + 1) (sym back)

-- one child, and all that begins as it does
pub record IsStep (ns : List Node) (depth at end : ℕ) (n : Node) : Type 0 where
  pub kids : kids_from depth (at + 1) (drop at ns) ≡ child_of n (at + 1) ∷ kids_from depth (end + 1) (drop end ns)
  pub span : at + span_len depth (drop at ns) ≡ end + span_len depth (drop end ns)
  pub more : at < end
  pub within : end ≤ length ns
  pub top : first_depth (drop end ns) ≤ depth

pub step_over : (ns : List Node) (ends : List ℕ) (depth at : ℕ) (e : Node) → at < length ns → depth ≤ (get_or ns at e).depth → first_depth (drop at ns) ≤ depth → AreEnds ns ends → length ns ≤ length ends + at → IsStep ns depth at (get_or ends (length ns - 1 - at) 0) (get_or ns at e)
step_over ns ends depth at e inside least top are all =
    let n : Node = get_or ns at e in let end : ℕ = get_or ends (length ns - 1 - at) 0 in
    let rest : List Node = drop (at + 1) ns in let skip : ℕ = span_len (depth + 1) rest in
    let front : drop at ns ≡ n ∷ rest = drop_more ns at e inside in
    let here : n.depth ≡ depth = omega (arith, ap first_depth front) in
    let number : length ns - (length ns - 1 - at) ≡ at + 1 = omega arith in
    let below : depth_below 0 ns (at + 1) ≡ depth + 1 = grind (arith, depth_below-suc 0 ns at e inside) in
    let place : end ≡ at + 1 + skip = are.each (length ns - 1 - at) (omega arith) ∙ ap (end_of ns) number ∙ ap (λ d. at + 1 + span_len d rest) below in
    let left : drop skip rest ≡ drop end ns = drop-drop skip (at + 1) ns ∙ ap (λ k. drop k ns) (sym place) in
    record {
      kids = grind (arith, common_steps, front, here, kids_skip depth (at + 1 + 1) rest, left, place);
      span = grind (arith, common_steps, front, here, span_skip depth rest, left, place);
      more = omega (arith, place);
      within = omega (arith, place, span_within (depth + 1) rest, length-drop (at + 1) ns);
      top = subst (λ l. first_depth l ≤ depth) left (span_top depth rest);
    }

values_push : (f : ℕ → ℕ) (xs : List ℕ) (x : ℕ) → AreValues f xs → x ≡ f (length xs) → AreValues f (xs ++ x ∷ [])
values_push f xs x are is = record { each = λ i inside. grind (arith, common_steps, cases_lt i (length xs), are.each i, get_or_append_left, get_or_push, length_push) }

-- the children of a number and of those after it
pub record AreSoFar (ns : List Node) (cs : List Child) (starts ends : List ℕ) (end number : ℕ) : Type 0 where
  pub kids : cs ≡ kids_back ns (suc (length ends))
  pub begun : AreValues (λ i. length (kids_back ns i)) starts
  pub size : length starts ≡ length ends + 2
  pub ended : AreEnds ns ends
  pub all : length ends + number ≡ length ns
  pub is : end ≡ end_of ns number
  pub within : end ≤ length ns

pub so_far_last : (ns : List Node) (cs : List Child) (starts ends : List ℕ) → cs ≡ [] → starts ≡ 0 ∷ 0 ∷ [] → ends ≡ [] → AreSoFar ns cs starts ends (length ns) (length ns)
so_far_last ns cs starts ends no_kids zeros no_ends =
    let kids : [] ≡ kids_of ns (length ns - 0) = grind (arith, common_steps, drop_all) in
    let end : length ns ≡ end_of ns (length ns) = grind (arith, common_steps, drop_all) in
    record {
      kids = no_kids ∙ kids ∙ ap (λ l. kids_back ns (suc (length l))) (sym no_ends);
      begun = subst (AreValues _) (sym zeros) (values_push _ (0 ∷ []) 0 (values_push _ [] 0 (record { each = λ i inside. absurd (omega arith) }) refl) (ap length kids));
      size = omega (arith, ap length zeros, ap length no_ends);
      ended = subst (AreEnds ns) (sym no_ends) (record { each = λ i inside. absurd (omega arith) });
      all = omega (arith, ap length no_ends);
      is = end;
      within = omega arith;
    }

pub so_far_more : (ns : List Node) (cs new_cs : List Child) (starts new_starts ends new_ends : List ℕ) (end next number depth count : ℕ) → 0 < number → AreSoFar ns cs starts ends end number
    → depth ≡ depth_below 0 ns (number - 1) → new_cs ≡ cs ++ kids_from depth (number - 1 + 1) (drop (number - 1) ns) → next ≡ number - 1 + span_len depth (drop (number - 1) ns)
    → new_ends ≡ ends ++ end ∷ [] → count ≡ length new_cs → new_starts ≡ starts ++ count ∷ [] → AreSoFar ns new_cs new_starts new_ends next (number - 1)
so_far_more ns cs new_cs starts new_starts ends new_ends end next number depth count some so below added is ends_on counted starts_on =
    let size : length new_ends ≡ suc (length ends) = omega (arith, ap length ends_on, length_push ends end) in
    let here : number - 1 ≡ length ns - suc (length ends) = omega (arith, so.all) in
    let place : number ≡ length ns - length ends = omega (arith, so.all) in
    let groups : suc (suc (length ends)) ≡ length starts = omega (arith, so.size) in
    let kids : new_cs ≡ kids_back ns (suc (suc (length ends))) = added ∙ ap₂ (λ l d. l ++ kids_from d (number - 1 + 1) (drop (number - 1) ns)) so.kids below ∙ ap (λ m. kids_back ns (suc (length ends)) ++ kids_of ns m) here in
    let end_is : next ≡ end_of ns (number - 1) = is ∙ ap (λ d. number - 1 + span_len d (drop (number - 1) ns)) below in
    record {
      kids = kids ∙ ap (λ k. kids_back ns (suc k)) (sym size);
      begun = subst (AreValues (λ i. length (kids_back ns i))) (sym starts_on) (values_push _ starts count so.begun (counted ∙ ap length kids ∙ ap (λ k. length (kids_back ns k)) groups));
      size = omega (arith, size, so.size, ap length starts_on, length_push starts count);
      ended = subst (AreEnds ns) (sym ends_on) (values_push _ ends end so.ended (so.is ∙ ap (end_of ns) place));
      all = omega (arith, size, so.all);
      is = end_is;
      within = omega (arith, end_is, so.all, span_within (depth_below 0 ns (number - 1)) (drop (number - 1) ns), length-drop (number - 1) ns);
    }

pub so_far_all : (ns : List Node) (cs : List Child) (starts ends : List ℕ) (end number : ℕ) → AreSoFar ns cs starts ends end number → number ≤ 0 → AreLinked ns cs starts
so_far_all ns cs starts ends end number so none =
    let whole : length ends ≡ length ns = omega (arith, so.all) in
    record { kids = so.kids ∙ ap (λ k. kids_back ns (suc k)) whole; size = omega (arith, so.size); begun = so.begun }

listed : (ns : List Node) (i m : ℕ) → i < m → (length (kids_back ns (suc i)) ≤ length (kids_back ns m)) × (take (length (kids_of ns (length ns - i))) (drop (length (kids_back ns i)) (kids_back ns m)) ≡ kids_of ns (length ns - i))
listed ns i zero less = absurd (omega arith)
listed ns i (suc m) less = elim (cases_eq i m) [
  | inl here ↦ grind (arith, common_steps)
  | inr other ↦ let rest = listed ns i m (omega arith) in grind (arith, common_steps, rest.0, rest.1, length-append, length-drop, take-append-le, drop-append-le)
]

-- the children of a number among those of all
pub record IsRange (ns : List Node) (cs : List Child) (number from to : ℕ) : Type 0 where
  pub ordered : from ≤ to
  pub within : to ≤ length cs
  pub kids : take (to - from) (drop from cs) ≡ kids_of ns number

pub linked_range : (ns : List Node) (cs : List Child) (starts : List ℕ) (number : ℕ) → AreLinked ns cs starts → number ≤ length ns → IsRange ns cs number (get_or starts (length ns - number) 0) (get_or starts (length ns - number + 1) 0)
linked_range ns cs starts number linked upto =
    let i : ℕ = length ns - number in
    let kids = listed ns i (suc (length ns)) (omega arith) in
    let begin = linked.begun.each i (omega (arith, linked.size)) in
    let end = linked.begun.each (i + 1) (omega (arith, linked.size)) in
    let parts = length-append (kids_back ns i) (kids_of ns (length ns - i)) in
    record {
      ordered = grind (arith, begin, end, parts);
      within = grind (arith, end, kids.0, linked.kids);
      kids = grind (arith, begin, end, parts, kids.1, linked.kids);
    }
