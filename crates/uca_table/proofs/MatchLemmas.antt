-- The discontiguous match nonstarter after nonstarter, and the keys that are looked up.
use Rattle.uca_table.proofs.Common.{◌≡◌, ℕ, suc, zero, ◌+◌, ◌-◌, ◌≤◌, ◌<◌, max, Bool, true, false, cond, not, ◌&&◌, nat_lt, List, [], ◌∷◌, ◌++◌, length, take, drop, get_or, sym, ap, ap₂, subst, ◌∙◌, arith, inl, inr, append_assoc, append-nil, cases_Bool, cases_eq, cases_lt, lt-ltb, le-ltb, le-leb, lt-leb, length-take-le, drop_all, get_or_read, and-false, ElementTable, is_key, longest, took, greatest, longest_match_len, is_blocked, brought_forward, highest_class, passed_over, IsExtending, common_steps}
use Rattle.uca_model.specs.Match.{discontiguous_match}
use Rattle.std.proofs.Math.Nat.{pos_of_ne-zero}
use Rattle.unicode.specs.CanonicalCombiningClass.{canonical_combining_class as ccc}
use Rattle.uca_model.proofs.LongestKey.{longest-covers}
use Rattle.uca_model.proofs.MatchingLemmas.{extended_ends, extended_takes, extended_passes, extended_done}
use Rattle.uca_table.proofs.MovedForward.{brought-front, brought-between, brought-rest, passed_over-more, passed_over-rest}

-- no code points that are more than those of each key are a key
pub longer_than_keys : (t : ElementTable) (key : List ℕ) → longest t < length key → is_key t key ≡ false
longer_than_keys t key long = grind (arith, common_steps, cases_Bool, longest-covers)

-- numbers that fail are not the greatest that passes
pub greatest-upto : (p : ℕ → Bool) (n m : ℕ) → n ≤ m → ((k : ℕ) → n < k → k ≤ m → p k ≡ false) → greatest p n ≡ greatest p m
greatest-upto p n zero upto fails = let same : n ≡ 0 = omega arith in ap (greatest p) same
greatest-upto p n (suc m) upto fails = elim (cases_eq n (suc m)) [
  | inl same ↦ ap (greatest p) same
  | inr below ↦ greatest-upto p n m (omega arith) (λ k above within. fails k above (omega arith)) ∙ sym (ap (λ b. cond b (suc m) (greatest p m)) (fails (suc m) (omega arith) (omega arith)))
]

-- it is enough to look up what is no longer than the longest key
pub longest_match_len-short : (t : ElementTable) (text : List ℕ) (n : ℕ) → n ≤ length text → (n < length text → longest t ≤ n) → greatest (λ k. is_key t (take k text)) n ≡ longest_match_len (is_key t) text
longest_match_len-short t text n within short = greatest-upto (λ k. is_key t (take k text)) n (length text) within (λ k above upto.
    let size : length (take k text) ≡ k = length-take-le k text upto in longer_than_keys t (take k text) (omega arith))

pub highest_class-more : (cs : List ℕ) (c : ℕ) → highest_class (cs ++ c ∷ []) ≡ max (highest_class cs) (ccc c)
highest_class-more [] c = omega arith
highest_class-more (d ∷ cs) c = let e : highest_class (cs ++ c ∷ []) ≡ max (highest_class cs) (ccc c) = highest_class-more cs c in omega arith

-- a nonstarter is blocked exactly where its class is not above the highest of those that were passed over
pub not_blocked : (passed : List ℕ) (c : ℕ) → 0 < ccc c → not (is_blocked passed c) ≡ nat_lt (highest_class passed) (ccc c)
not_blocked [] c mark = sym (lt-ltb 0 (ccc c) mark)
not_blocked (b ∷ passed) c mark = grind (arith, common_steps, cases_lt, lt-leb, lt-ltb, le-ltb, le-leb, not_blocked passed c mark)

-- whether a nonstarter is taken, by the highest class or by the nonstarters that were passed over
pub taken_as : (is_key : List ℕ → Bool) (s passed : List ℕ) (high x class : ℕ) (taken : Bool) → high ≡ highest_class passed → class ≡ ccc x → (class ≡ 0 → ⊥) → taken ≡ (nat_lt high (ccc x) && is_key (s ++ x ∷ []))
    → taken ≡ (not (is_blocked passed x) && is_key (s ++ x ∷ []))
taken_as is_key s passed high x class taken highest e mark t = grind (arith, common_steps, pos_of_ne-zero, not_blocked)

-- nothing is taken where no code point makes a longer key
pub none_taken : (is_key : List ℕ → Bool) (s passed cs : List ℕ) → ((c : ℕ) → is_key (s ++ c ∷ []) ≡ false) → discontiguous_match is_key s passed cs ≡ took s (passed ++ cs)
unfolding discontiguous_match
none_taken is_key s passed [] none = ap (took s) (sym (append-nil passed))
none_taken is_key s passed (c ∷ cs) none = grind (arith, common_steps, append_assoc, cases_Bool, and-false, none_taken is_key s (passed ++ c ∷ []) cs none)

-- a nonstarter was taken, and moved to the end of the match
pub IsExtending-takes : {is_key : List ℕ → Bool} {start : ℕ} {old text : List ℕ} {end at high : ℕ} → IsExtending is_key start old text end at high → (new : List ℕ) (x class : ℕ) (taken : Bool) → at < length text → x ≡ get_or text at x → class ≡ ccc x → (class ≡ 0 → ⊥)
    → taken ≡ (nat_lt high (ccc x) && is_key (take end text ++ x ∷ [])) → taken ≡ true → new ≡ brought_forward text end at → IsExtending is_key start old new (end + 1) (at + 1) high
IsExtending-takes {is_key} {start} {old} {text} {end} {at} {high} so new x class taken within is e mark t holds moved =
    let read : get_or text at 0 ≡ x = sym (get_or_read text at x within is 0) in
    let between : passed_over (brought_forward text end at) (end + 1) (at + 1) ≡ passed_over text end at = brought-between text end at so.upto within in
    rw moved (record {
      some = omega (arith, so.some);
      upto = omega (arith, so.upto);
      highest = so.highest ∙ ap highest_class (sym between);
      same =
          ap₂ (λ s p. discontiguous_match is_key s p (drop (at + 1) (brought_forward text end at))) (brought-front text end at so.upto within ∙ ap (λ c. take end text ++ c ∷ []) read) between
          ∙ ap (discontiguous_match is_key (take end text ++ x ∷ []) (passed_over text end at)) (brought-rest text end at so.upto within)
          ∙ sym (extended_takes is_key (take end text) (passed_over text end at) text at x class taken within is e mark (taken_as is_key (take end text) (passed_over text end at) high x class taken so.highest e mark t) holds)
          ∙ so.same;
    })

-- a nonstarter was passed over
pub IsExtending-passes : {is_key : List ℕ → Bool} {start : ℕ} {old text : List ℕ} {end at high : ℕ} → IsExtending is_key start old text end at high → (x class next : ℕ) (taken : Bool) → at < length text → x ≡ get_or text at x → class ≡ ccc x → (class ≡ 0 → ⊥)
    → taken ≡ (nat_lt high (ccc x) && is_key (take end text ++ x ∷ [])) → taken ≡ false → next ≡ max high class → IsExtending is_key start old text end (at + 1) next
IsExtending-passes {is_key} {start} {old} {text} {end} {at} {high} so x class next taken within is e mark t fails more =
    let read : get_or text at 0 ≡ x = sym (get_or_read text at x within is 0) in
    let passed : passed_over text end (at + 1) ≡ passed_over text end at ++ x ∷ [] = passed_over-more text end at so.upto within ∙ ap (λ c. passed_over text end at ++ c ∷ []) read in
    record {
      some = so.some;
      upto = omega (arith, so.upto);
      highest = more ∙ ap₂ max so.highest e ∙ sym (ap highest_class passed ∙ highest_class-more (passed_over text end at) x);
      same =
          ap (λ p. discontiguous_match is_key (take end text) p (drop (at + 1) text)) passed
          ∙ sym (extended_passes is_key (take end text) (passed_over text end at) text at x class taken within is e mark (taken_as is_key (take end text) (passed_over text end at) high x class taken so.highest e mark t) fails)
          ∙ so.same;
    }

pub ruleset extending = (common_steps, none_taken, extended_ends, extended_done, passed_over-rest, drop_all, append-nil)
