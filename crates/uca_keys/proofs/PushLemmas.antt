-- A key that comes after all others.
use Rattle.uca_keys.proofs.Common.{◌≡◌, ℕ, ◌+◌, ◌-◌, ◌≤◌, ◌<◌, List, [], ◌∷◌, ◌++◌, length, take, drop, get_or, refl, sym, ap, ap₂, subst, ◌∙◌, arith, length-append, length-drop, take_all, le_refl, drop_at, drop_more, take-append-drop, take_more, Less, Element, MAX_KEY, MAX_ELEMENTS, key_cmp, Node, last_key, last_path, entries_after, nodes_of, AreNext, AreFull}
use Rattle.uca_keys.proofs.NodeLemmas.{AreUpTo, appended, nodes_of-are}
use Rattle.uca_keys.proofs.PathLemmas.{decided_after}

-- the nodes of a key from the place on at which it leaves the last one
key_nodes : (es : List Element) (last key : List ℕ) (from s c : ℕ) → key_cmp last key ≡ Less → from ≤ length last → from ≤ length key → take from last ≡ take from key → ((d : ℕ) → from < length last → from < length key → get_or last from d ≡ get_or key from d → ⊥) → length key ≤ MAX_KEY → s + c ≤ length es → 0 < c → c ≤ MAX_ELEMENTS
    → AreUpTo es last (nodes_of (drop from key) from s c) [] key (take c (drop s es))
key_nodes es last key from s c less in_last in_key same differ short within some few =
    let upto = decided_after last key from less in_last in_key same differ in
    let x : ℕ = get_or key from 0 in let rest : List ℕ = drop (from + 1) key in
    let parts : drop from key ≡ x ∷ rest = drop_more key from 0 upto.0 in
    let greater : key_cmp last (take from last ++ x ∷ []) ≡ Less = ap (λ l. key_cmp last (l ++ x ∷ [])) same ∙ ap (key_cmp last) (sym (take_more key from 0 upto.0)) ∙ upto.1 in
    let size : length (x ∷ rest) ≡ length key - from = ap length (sym parts) ∙ length-drop from key in
    let whole : take from last ++ x ∷ rest ≡ key = ap₂ (λ l r. l ++ r) same (sym parts) ∙ take-append-drop from key in
    subst (λ l. AreUpTo es last (nodes_of l from s c) [] key (take c (drop s es))) (sym parts)
    (subst (λ k. AreUpTo es last (nodes_of (x ∷ rest) from s c) [] k (take c (drop s es))) whole (nodes_of-are es last x rest from s c in_last greater (omega (arith, upto.0)) within some few))

pub last_key_push : (es : List (List ℕ × List Element)) (key : List ℕ) (els : List Element) → last_key (es ++ (key, els) ∷ []) ≡ key
last_key_push [] key els = refl
last_key_push (e ∷ []) key els = refl
last_key_push (e ∷ f ∷ es) key els = last_key_push (f ∷ es) key els

-- after the nodes and elements of keys come those of one more
pub pushed : (es : List Element) (ns : List Node) (key : List ℕ) (els : List Element) (from : ℕ) (last : List ℕ) (now : List (List ℕ × List Element)) (new_es : List Element) (new_ns : List Node) → AreNext es [] ns → AreFull ns → last ≡ last_path [] ns → last ≡ last_key (entries_after es [] ns) → entries_after es [] ns ≡ now
    → key_cmp (last_key now) key ≡ Less → from ≤ length last → from ≤ length key → take from last ≡ take from key → ((d : ℕ) → from < length last → from < length key → get_or last from d ≡ get_or key from d → ⊥)
    → length key ≤ MAX_KEY → 0 < length els → length els ≤ MAX_ELEMENTS → new_es ≡ es ++ els → new_ns ≡ ns ++ nodes_of (drop from key) from (length es) (length els) → AreUpTo new_es [] new_ns now key els
pushed es ns key els from last now new_es new_ns next full same is_last view after in_last in_key front differ few some few_elements elements nodes =
    let new : List Node = nodes_of (drop from key) from (length es) (length els) in
    let less : key_cmp last key ≡ Less = ap (λ l. key_cmp l key) (is_last ∙ ap last_key view) ∙ after in
    let own : take (length els) (drop (length es) (es ++ els)) ≡ els = ap (take (length els)) (drop_at es els (length es) refl) ∙ take_all (length els) els (le_refl (length els)) in
    let added : AreUpTo (es ++ els) last new [] key els = subst (AreUpTo (es ++ els) last new [] key) own (key_nodes (es ++ els) last key from (length es) (length els) less in_last in_key front differ few (omega (arith, length-append es els)) some few_elements) in
    let all : AreUpTo (es ++ els) [] (ns ++ new) (entries_after es [] ns) key els = appended es els [] ns new key els next full (subst (λ l. AreUpTo (es ++ els) l new [] key els) same added) in
    subst (λ xs. AreUpTo xs [] new_ns now key els) (sym elements) (subst (λ l. AreUpTo (es ++ els) [] l now key els) (sym nodes) (subst (λ b. AreUpTo (es ++ els) [] (ns ++ new) b key els) view all))
