-- Walks along a text, and the longest key at its front.
use Rattle.uca_table.proofs.Common.{◌≡◌, ℕ, zero, suc, ◌+◌, ◌≤◌, ◌<◌, ◌++◌, ◌∷◌, [], get_or, ap₂, Bool, true, false, List, length, take, is_some, refl, sym, ap, ◌∙◌, arith, length-take-le, take-take, take_all, le_refl, Option, Some, None, cases_eq, take_more, entries, get-entries, ElementTable, elements_at, is_key, greatest, longest_match, longest_match_len, greatest-holds, greatest-within, common_steps}
use Rattle.uca_keys.proofs.PathLemmas.{taken_front}
use Rattle.uca_table.specs.Fronts.{begins_key}
use Rattle.uca_keys.proofs.FindLemmas.{find_without}
use Rattle.uca_table.proofs.MatchLemmas.{greatest-upto}

-- where no key begins with a front, the whole is none
pub no_key_beyond : (t : ElementTable) (key : List ℕ) (n : ℕ) → begins_key t (take n key) ≡ false → is_key t key ≡ false
no_key_beyond t key n none = ap is_some (get-entries t.entries key ∙ find_without (entries t.entries) (take n key) key none (taken_front n key))

-- where no key begins with a front and one code point more, none of the longer fronts is one
pub longest_match_len-stops : (is_key : List ℕ → Bool) (text path : List ℕ) (i x : ℕ) → i < length text → path ≡ take i text → x ≡ get_or text i x → ((key : List ℕ) → take (length path + 1) key ≡ path ++ x ∷ [] → is_key key ≡ false) → greatest (λ n. is_key (take n text)) i ≡ longest_match_len is_key text
longest_match_len-stops is_key text path i x within front is none =
    let size : length path ≡ i = ap length front ∙ length-take-le i text (omega arith) in
    let next : take (i + 1) text ≡ path ++ x ∷ [] = take_more text i x within ∙ ap₂ (λ l y. l ++ y ∷ []) (sym front) (sym is) in
    greatest-upto (λ n. is_key (take n text)) i (length text) (omega arith) (λ k above upto. none (take k text) (ap (λ n. take (n + 1) (take k text)) size ∙ take-take (i + 1) k text (omega arith) ∙ next))

-- no key begins with what is none
pub no_key_there : (t : ElementTable) (key : List ℕ) → begins_key t key ≡ false → is_key t key ≡ false
no_key_there t key none = no_key_beyond t key (length key) (ap (begins_key t) (take_all (length key) key (le_refl (length key))) ∙ none)

greatest-none : (p : ℕ → Bool) (n k : ℕ) → greatest p n ≡ 0 → 1 ≤ k → k ≤ n → p k ≡ false
greatest-none p zero k none some within = absurd (omega arith)
greatest-none p (suc n) k none some within = grind (arith, common_steps, cases_eq k (suc n), greatest-none p n k)

none_of : {A : Type 0} (o : Option A) → is_some o ≡ false → o ≡ None
none_of None h = refl
none_of (Some x) h = cc

pub longest_match_len-le : (t : ElementTable) (text : List ℕ) → longest_match_len (is_key t) text ≤ length text
longest_match_len-le t text = greatest-within (λ n. is_key t (take n text)) (length text)

pub longest_match-size : (t : ElementTable) (text : List ℕ) → length (longest_match (is_key t) text) ≡ longest_match_len (is_key t) text
longest_match-size t text = length-take-le (longest_match_len (is_key t) text) text (longest_match_len-le t text)

-- the longest match is a key, where it has a code point
pub longest_match-key : (t : ElementTable) (text : List ℕ) → 0 < length (longest_match (is_key t) text) → is_key t (longest_match (is_key t) text) ≡ true
longest_match-key t text some = grind (arith, common_steps, greatest-holds (λ n. is_key t (take n text)) (length text), longest_match-size t text)

-- where no front is a key, the first code point has no elements
pub no_elements : (t : ElementTable) (text : List ℕ) → 0 < length text → length (longest_match (is_key t) text) ≡ 0 → elements_at t (take 1 text) ≡ None
no_elements t text some none =
    none_of (elements_at t (take 1 text)) (greatest-none (λ n. is_key t (take n text)) (length text) 1 (sym (longest_match-size t text) ∙ none) (omega arith) (omega arith))
