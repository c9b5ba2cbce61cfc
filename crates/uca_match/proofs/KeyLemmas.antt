-- Any set of keys: that of a table, and the matches of a text one after the other.
use Rattle.std.proofs.Common.{◌≡◌, ℕ, ◌≤◌, max, true, ◌||◌, List, [], ◌∷◌, length, fold, map, Some, None, Option, is_some, option_copied, Bor, refl, sym, ap₂, ap, subst, ◌∙◌, arith, lit≤, inl, inr, ◌+◌, ◌-◌, ◌<◌, Bool, ◌++◌, take, drop, append_assoc, append-nil}
use Rattle.std.proofs.lemmas.Bool.{cases_lt, or_right}
use Rattle.std.proofs.lemmas.List.Elements.{recursion_from_All}
use Rattle.std.specs.Prelude.{◌⊎◌}
use Rattle.std.specs.List.{list_any}
use Rattle.std.specs.Ordering.{eq_by_cmp}
use Rattle.std.proofs.lemmas.Cmp.{eq_by_cmp_equiv}
use Rattle.std.specs.Cmp.Lexicographic.{nat_list_cmp_total}
use Rattle.std.specs.FinMap.{keys, entries, contains_key-keys}
use Rattle.std.specs.FinSet.{contains, contains-from_list}
use Rattle.uca_weights.specs.declared.element.Element.{Element}
use Rattle.uca_model.specs.Table.{ElementTable, key_cmp, elements_at, is_key, longest, IsEntry, IsTable}
use Rattle.uca_model.proofs.LongestKey.{longest-covers, longest-some}
use Rattle.uca_model.proofs.TableLemmas.{IsEntry-elements_at}
use Rattle.std.proofs.lemmas.Grind.{common_steps}
use Rattle.std.proofs.lemmas.List.Folds.{fold-map}
use Rattle.uca_table.proofs.EntryLemmas.{longest-bounds}
use Rattle.uca_match.specs.Keys.{AreKeys, HasLongest, key_set}
use mathlib.Core.List.{map-append}
use Rattle.std.proofs.lemmas.List.{drop-drop, take_rest, drop_all, length-drop}
use borrow.Rule.Slice.PartMut.{put_mid}
use Rattle.uca_model.specs.CollationElements.{step, matches, matches_within}
use Rattle.uca_model.proofs.RewritingLemmas.{matches-step}
use Rattle.uca_table.proofs.MovedForward.{rewritten-rest, rewritten-length}
use Rattle.uca_match.specs.Matches.{match_of}
use Rattle.uca_match.specs.declared.matches.Match.{Match}
use Rattle.uca_model.specs.Match as model

-- a key of the set is a key of the table
pub contains-key_set : (t : ElementTable) (key : List ℕ) → contains (key_set t) key ≡ is_key t key
contains-key_set t key = contains-from_list nat_list_cmp_total (keys t.entries) key ∙ sym (contains_key-keys t.entries key)

-- each key of a table is one
some_from : {A : Type 0} (o : Option A) → is_some o ≡ true → (x : A) × (o ≡ Some x)
some_from None h = absurd (cc)
some_from (Some x) h = (x, refl)

pub AreKeys-table : (t : ElementTable) → IsTable t → AreKeys (key_set t)
AreKeys-table t valid = λ key has.
    let found = some_from (elements_at t key) (sym (contains-key_set t key) ∙ has) in
    let entry = IsEntry-elements_at t key found.0 valid found.1 in
    record { some = entry.some_points; few = entry.few_points; scalars = entry.points }

-- some key of a list has the greatest length, or it is the least that was allowed
record IsLongestOf (ks : List (List ℕ)) (n : ℕ) : Type 0 where
  key : List ℕ
  among : list_any (eq_by_cmp key_cmp key) ks ≡ true
  size : length key ≡ n

fold-reached : (n : ℕ) (ks : List (List ℕ)) → (fold (λ m k. max m (length k)) n ks ≡ n) ⊎ IsLongestOf ks (fold (λ m k. max m (length k)) n ks)
fold-reached n [] = inl refl
fold-reached n (k ∷ ks) = elim (fold-reached (max n (length k)) ks) [
  | inr one ↦ inr (record { key = one.key; among = or_right (eq_by_cmp key_cmp one.key k) (list_any (eq_by_cmp key_cmp one.key) ks) one.among; size = one.size })
  | inl stays ↦ elim (cases_lt (length k) n) [
    | inl low ↦ inl (omega arith)
    | inr high ↦ inr (record { key = k; among = ap (λ b. b || list_any (eq_by_cmp key_cmp k) ks) ((eq_by_cmp_equiv nat_list_cmp_total).refl k); size = omega arith })
  ]
]

-- the longest key of a table is that of the set
pub HasLongest-table : (t : ElementTable) → IsTable t → HasLongest (key_set t) (longest t)
HasLongest-table t valid =
    record {
      are_keys = AreKeys-table t valid;
      each = λ key has. longest-covers t key (sym (contains-key_set t key) ∙ has);
      some = longest-some t;
      few = omega (arith, longest-bounds (entries t.entries) (recursion_from_All IsEntry (entries t.entries) valid.entries), fold-map (λ m (k : List ℕ). max m (length k)) (λ (e : List ℕ × List Element). e.0) 1 (entries t.entries));
      reached = elim (fold-reached 1 (keys t.entries)) [
        | inl one ↦ inl one
        | inr h ↦ inr (record { key = h.key; has = contains-from_list nat_list_cmp_total (keys t.entries) h.key ∙ h.among; size = h.size })
      ];
    }

pub copied_some : (o : Option (Bor (List Element))) → is_some o ≡ is_some (option_copied o)
copied_some None = refl
copied_some (Some x) = refl

pub ruleset of_table = (common_steps, copied_some, contains-key_set, AreKeys-table, HasLongest-table)

-- ---- matches one after the other

-- the first match of a text, and those of what is left
first_match : (is_key : List ℕ → Bool) (xs : List ℕ) → 0 < length xs → (step is_key xs).matched ∷ matches is_key (step is_key xs).rest ≡ matches is_key xs
first_match is_key [] h = absurd (omega arith)
first_match is_key (x ∷ xs) h = sym (matches-step is_key x xs)

no_matches : (is_key : List ℕ → Bool) (xs : List ℕ) → length xs ≡ 0 → matches is_key xs ≡ []
unfolding matches_within
no_matches is_key [] h = refl
no_matches is_key (x ∷ xs) h = absurd (omega arith)

-- one match further
pub matches-further : (is_key : List ℕ → Bool) (text new : List ℕ) (at n : ℕ) (out : List Match) (one : Match) (whole : List model.Match) → at < length text → map match_of out ++ matches is_key (drop at text) ≡ whole
    → (step is_key (take (length text - at) (drop at text))).matched ≡ match_of one → (step is_key (take (length text - at) (drop at text))).rest ≡ drop n new
    → map match_of (out ++ one ∷ []) ++ matches is_key (drop (at + n) (put_mid at (length text - at) text new)) ≡ whole
matches-further is_key text new at n out one whole within same matched rest =
    let left : take (length text - at) (drop at text) ≡ drop at text = take_rest text at in
    let size : length (drop at text) ≡ length text - at = length-drop at text in
    let behind : drop at _ ≡ new = rewritten-rest at text new (omega arith) in
    let later : drop (at + n) _ ≡ drop n new = sym (drop-drop n at _) ∙ ap (drop n) behind in
    let key : match_of one ≡ (step is_key (drop at text)).matched = sym matched ∙ ap (λ xs. (step is_key xs).matched) left in
    let tail : drop n new ≡ (step is_key (drop at text)).rest = sym rest ∙ ap (λ xs. (step is_key xs).rest) left in
    ap₂ (λ xs r. xs ++ matches is_key r) (map-append match_of out (one ∷ [])) (later ∙ tail)
    ∙ append_assoc (map match_of out) (match_of one ∷ []) (matches is_key (step is_key (drop at text)).rest)
    ∙ ap (λ m. map match_of out ++ m ∷ matches is_key (step is_key (drop at text)).rest) key
    ∙ ap (λ ms. map match_of out ++ ms) (first_match is_key (drop at text) (omega arith))
    ∙ same

-- nothing is left
pub matches-done : (is_key : List ℕ → Bool) (text : List ℕ) (at : ℕ) (out : List Match) (whole : List model.Match) → length text ≤ at → map match_of out ++ matches is_key (drop at text) ≡ whole → map match_of out ≡ whole
matches-done is_key text at out whole past same = grind (arith, common_steps, drop_all, append-nil, no_matches)

pub ruleset matched = (common_steps, take_rest, length-drop, rewritten-length, matches-further, matches-done)
