-- Lines that are sorted by eight bytes of their keys, and then run by run.
use Rattle.std.proofs.Common.{◌≡◌, ℕ, ◌+◌, ◌-◌, ◌<◌, ◌≤◌, false, List, ◌++◌, length, get_or, take, drop, map, All, is_lt, sym, ap, subst, ◌∙◌, arith}
use Rattle.std.proofs.Math.Seq.{take-add}
use Rattle.std.proofs.lemmas.Cmp.{nat_list_cmp_total, nat_cmp_total}
use Rattle.std.proofs.lemmas.List.{drop-drop, get_or_default, get_or-drop, get_or-map, get_or-take, length-drop, length-map, length-take-le, map-append, take_all, take-append-drop, length-append}
use Rattle.std.proofs.lemmas.List.Elements.{All-append, All-drop, All-map, All-take, All-weaker}
use Rattle.std.proofs.lemmas.List.Sorted.{All-permutation, IsNonDecreasingBy-drop, IsNonDecreasingBy-from_sort, IsPermutation-map, IsPermutation-trans}
use Rattle.std.proofs.lemmas.Slice.{drop-put_mid, take-put_mid}
use Rattle.std.specs.declared.cmp.Ordering.TheVariants.{Less}
use Rattle.std.specs.List.Sorted.{IsNonDecreasingBy}
use Rattle.std.specs.Ordering.{nat_cmp, ordering_reverse}
use borrow.Rule.Slice.PartMut.{put_mid}
use Rattle.uca_model.specs.SortKey.{key_order}
use Rattle.uca_commands.specs.KeyFronts.{front, HaveSameFront}
use Rattle.uca_commands.specs.KeyedLines.{key_of, number_key, number_of}
use Rattle.uca_commands.specs.LineSorting.{IsRun, SharesFront, ShowsFront, SortsByFront, SortsLines}
use Rattle.uca_commands.specs.declared.keyed_line.KeyedLine.{KeyedLine}
use Rattle.uca_commands.specs.declared.keyed_line.KeyedLines.{KeyedLines}
use Rattle.uca_commands.proofs.KeyFrontLemmas.{HaveSameFront-front, IsFront-less}
use Rattle.uca_commands.proofs.SortLemmas.{IsBelow, is_tie-same, SortsByKey-append, stable-map}

abbrev Lines : Type 0
Lines = List KeyedLine

-- no key of the others is less than that of a line
abbrev IsLineBelow : KeyedLines → Lines → KeyedLine → Type 0
IsLineBelow of = IsBelow (key_of of)

-- the same of their numbers
below_numbers : (of : KeyedLines) (us vs : Lines) → All (IsLineBelow of vs) us → All (IsBelow (number_key of) (map number_of vs)) (map number_of us)
below_numbers of us vs below =
    All-map (IsBelow (number_key of) (map number_of vs)) number_of us (All-weaker (IsLineBelow of vs) (λ a. IsBelow (number_key of) (map number_of vs) (number_of a))
    (λ a each. All-map (λ n. is_lt (key_order (number_key of n) (key_of of a)) ≡ false) number_of vs each) us below)

-- ---- a run

-- a line whose key has the same first bytes as a key, with the next eight beside it
pub record IsShown (of : KeyedLines) (depth : ℕ) (key : List ℕ) (l : KeyedLine) : Type 0 where
  pub same : HaveSameFront depth (key_of of l) key
  pub shows : ShowsFront of depth l

-- lines that were sorted by the bytes beside them
pub record AreFronts (of : KeyedLines) (depth : ℕ) (key : List ℕ) (ys : Lines) : Type 0 where
  pub each : All (IsShown of depth key) ys
  pub sorted : IsNonDecreasingBy (λ l. l.front) ys

module _ (of : KeyedLines) (depth : ℕ) (key : List ℕ) (ys : Lines) (size : ℕ) (are : AreFronts of depth key ys) (run : IsRun ys size) where
  both : (a b : KeyedLine) → IsShown of depth key a → IsShown of depth key b → HaveSameFront depth (key_of of a) (key_of of b)
  both a b of_a of_b i low = of_a.same i low ∙ sym (of_b.same i low)

  length-run : length (take size ys) ≡ size
  length-run = length-take-le size ys run.within

  -- the keys of the run share eight bytes more
  pub SharesFront-run : SharesFront of (depth + 8) (take size ys)
  SharesFront-run =
      let none : KeyedLine = record { front = 0; number = 0 } in
      let first : KeyedLine = get_or ys 0 none in
      let of_first : IsShown of depth key first = are.each 0 none (omega (arith, run.some, run.within)) in
      record {
        key = key_of of first;
        each = λ i d low.
            let inside : i < size = omega (arith, length-run) in
            let a : KeyedLine = get_or ys i d in
            let of_a : IsShown of depth key a = are.each i d (omega (arith, run.within)) in
            let alike : a.front ≡ first.front = run.alike i d inside ∙ ap (λ l. l.front) (get_or_default ys 0 d none (omega (arith, run.within))) in
            rw (get_or-take size ys i d inside) (HaveSameFront-front depth 8 (key_of of a) (key_of of first) a.front first.front (both a first of_a of_first) of_a.shows of_first.shows alike);
      }

  -- no key of the others is less than one of the run
  IsBelow-run : All (IsLineBelow of (drop size ys)) (take size ys)
  IsBelow-run i c low j d more =
      let inside : i < size = omega (arith, length-run) in
      let past : size + j < length ys = omega (arith, length-drop size ys) in
      let a : KeyedLine = get_or ys i c in let b : KeyedLine = get_or ys (size + j) d in
      let of_a : IsShown of depth key a = are.each i c (omega (arith, run.within)) in
      let of_b : IsShown of depth key b = are.each (size + j) d past in
      let less : a.front < b.front = omega (arith, run.alike i c inside, ap (λ l. l.front) (get_or_default ys 0 c d (omega arith)), run.ends d (omega arith), are.sorted 0 size d (omega arith) (omega arith), are.sorted size (size + j) d (omega arith) past) in
      let order : key_order (key_of of a) (key_of of b) ≡ Less = IsFront-less depth 8 (key_of of a) (key_of of b) a.front b.front (both a b of_a of_b) of_a.shows of_b.shows less in
      rw (get_or-take size ys i c inside, get_or-drop size ys j d) (ap is_lt (nat_list_cmp_total.antisymm (key_of of b) (key_of of a) ∙ ap ordering_reverse order))

-- ---- run by run

-- the first lines are sorted by their keys, and the others, whose keys are not less, still follow them as they are
pub record RunsSorted (of : KeyedLines) (ys now : Lines) (from : ℕ) : Type 0 where
  pub long : length now ≡ length ys
  pub within : from ≤ length ys
  pub rest : drop from now ≡ drop from ys
  pub below : All (IsLineBelow of (drop from ys)) (take from ys)
  pub done : SortsLines of (take from ys) (take from now)

pub RunsSorted-all : (of : KeyedLines) (ys now : Lines) (from : ℕ) → RunsSorted of ys now from → length now ≤ from → SortsLines of ys now
RunsSorted-all of ys now from runs all =
    subst (λ ls. SortsLines of ls now) (take_all from ys (omega (arith, runs.long))) (subst (λ ls. SortsLines of (take from ys) ls) (take_all from now all) runs.done)

AreFronts-drop : (of : KeyedLines) (depth : ℕ) (key : List ℕ) (ys : Lines) (n : ℕ) → AreFronts of depth key ys → AreFronts of depth key (drop n ys)
AreFronts-drop of depth key ys n are = record { each = All-drop (IsShown of depth key) n ys are.each; sorted = IsNonDecreasingBy-drop (λ l. l.front) n ys are.sorted }

-- a slice from there on has the next run
IsRun-next : (of : KeyedLines) (ys now : Lines) (from size : ℕ) → RunsSorted of ys now from → IsRun (take (length now - from) (drop from now)) size → IsRun (drop from ys) size
IsRun-next of ys now from size runs run = subst (λ ls. IsRun ls size) (take_all (length now - from) (drop from now) (omega (arith, length-drop from now)) ∙ runs.rest) run

-- the keys of the next run share eight bytes more
pub SharesFront-next : (of : KeyedLines) (depth : ℕ) (key : List ℕ) (ys now : Lines) (from size : ℕ) → AreFronts of depth key ys → RunsSorted of ys now from
    → IsRun (take (length now - from) (drop from now)) size → SharesFront of (depth + 8) (take size (drop from now))
SharesFront-next of depth key ys now from size are runs run = rw runs.rest (SharesFront-run of depth key (drop from ys) size (AreFronts-drop of depth key ys from are) (IsRun-next of ys now from size runs run))

-- one run more
pub RunsSorted-more : (of : KeyedLines) (depth : ℕ) (key : List ℕ) (ys now : Lines) (from size : ℕ) (mid : Lines) → AreFronts of depth key ys → RunsSorted of ys now from
    → IsRun (take (length now - from) (drop from now)) size → SortsLines of (take size (drop from now)) mid → length mid ≡ length (take size (drop from now)) → RunsSorted of ys (put_mid from size now mid) (from + size)
RunsSorted-more of depth key ys now from size mid are runs is_run sorts same =
    let here : Lines = drop from ys in
    let run : IsRun here size = IsRun-next of ys now from size runs is_run in
    let inside : size ≤ length (drop from now) = omega (arith, run.within, ap length runs.rest) in
    let within_now : from ≤ length now = omega (arith, runs.long, runs.within) in
    let count : length mid ≡ size = same ∙ length-take-le size (drop from now) inside in
    let front_new : take (from + size) (put_mid from size now mid) ≡ take from now ++ mid = take-put_mid from size now mid (from + size) (omega (arith, count)) within_now in
    let back_new : drop (from + size) (put_mid from size now mid) ≡ drop (from + size) now = drop-put_mid from size now mid (from + size) (omega arith) within_now count in
    record {
      long = omega (arith, ap length (sym (take-append-drop (from + size) (put_mid from size now mid))), length-append (take (from + size) (put_mid from size now mid)) (drop (from + size) (put_mid from size now mid)), ap length front_new, length-append (take from now) mid, length-take-le from now within_now, count, ap length back_new, length-drop (from + size) now, length-drop from now, inside, runs.long);
      within = omega (arith, run.within, length-drop from ys, runs.within);
      rest = back_new ∙ sym (drop-drop size from now) ∙ ap (drop size) runs.rest ∙ drop-drop size from ys;
      below = rw (sym (drop-drop size from ys), take-add from size ys) (All-append (IsLineBelow of (drop size here)) (take from ys) (take size here)
          (All-weaker (IsLineBelow of here) (IsLineBelow of (drop size here)) (λ a. All-drop (λ b. is_lt (key_order (key_of of b) (key_of of a)) ≡ false) size here) (take from ys) runs.below)
          (IsBelow-run of depth key here size (AreFronts-drop of depth key ys from are) run));
      done = rw (front_new, take-add from size ys) (simp map-append (SortsByKey-append (number_key of) (map number_of (take from ys)) (map number_of (take size here)) (map number_of (take from now)) (map number_of mid) runs.done
          (subst (λ ls. SortsLines of (take size ls) mid) runs.rest sorts) (below_numbers of (take from ys) (take size here)
          (All-weaker (IsLineBelow of here) (IsLineBelow of (take size here)) (λ a. All-take (λ b. is_lt (key_order (key_of of b) (key_of of a)) ≡ false) size here) (take from ys) runs.below))));
    }

-- ---- a round

pub AreFronts-sorted : (of : KeyedLines) (depth : ℕ) (key : List ℕ) (ls xs ys : Lines) → All (λ l. HaveSameFront depth (key_of of l) key) ls → map number_of xs ≡ map number_of ls → All (ShowsFront of depth) xs → SortsByFront xs ys → AreFronts of depth key ys
AreFronts-sorted of depth key ls xs ys common same shows sorts =
    let numbers : All (λ n. HaveSameFront depth (number_key of n) key) (map number_of xs) = rw same (All-map (λ n. HaveSameFront depth (number_key of n) key) number_of ls common) in
    let each : All (IsShown of depth key) xs = λ i d low. record {
      same = subst (λ n. HaveSameFront depth (number_key of n) key) (get_or-map number_of xs i d 0 low) (numbers i 0 (omega (arith, length-map xs number_of)));
      shows = shows i d low;
    } in
    record {
      each = All-permutation (IsShown of depth key) xs ys sorts.same each;
      sorted = IsNonDecreasingBy-from_sort (λ l. l.front) ys sorts.sorted;
    }

-- a sort by the bytes beside the lines leaves lines of equal keys in their order
pub SortsLines-round : (of : KeyedLines) (depth : ℕ) (ls xs ys zs : Lines) → map number_of xs ≡ map number_of ls → All (ShowsFront of depth) xs → SortsByFront xs ys → SortsLines of ys zs → SortsLines of ls zs
SortsLines-round of depth ls xs ys zs same shows sorts runs = rw (sym same) (record {
  same = IsPermutation-trans (map number_of xs) (map number_of ys) (map number_of zs) (IsPermutation-map number_of xs ys sorts.same) runs.same;
  sorted = runs.sorted;
  stable = λ n. runs.stable n ∙ stable-map (λ a b. is_lt (nat_cmp a.front b.front)) (number_key of) number_of xs ys
      (λ i c low. λ j d more. λ is. is_tie-same nat_cmp_total _ _ ((shows i c low).value ∙ ap (λ key. front 8 (drop depth key)) is ∙ sym (shows j d more).value)) sorts.same sorts.stable n;
})
