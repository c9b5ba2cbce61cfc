use Rattle.std.proofs.Common.{◌≡◌, ◌-◌, ◌%◌, ◌++◌, ◌∷◌, [], List, ℕ, length, take, drop, ap, sym, subst, ◌∙◌, arith, rules}
use Rattle.uca_tailor.specs.Shifts.{bounds_with, Rise, AreBounds, AreBlocks}
use Rattle.uca_tailor.proofs.ShiftLemmas.{AreBounds-with}
use Rattle.uca_tailor.proofs.BlockLemmas.{last-rise, AreBlocks-with, parted-small, parted-large}
use Rattle.uca_tailor.proofs.shifts.Shifts.push.Goals as goal

pub insert_bound-requires-2-clause-from : goal.insert_bound-requires-2-clause-from
insert_bound-requires-2-clause-from c =
    let n : ℕ = length c.self.inside.made.items in
    let count : c.len-count.result ≡ n = search rules in
    let size : length c.reserve-2.new.self.items ≡ n = ap length c.in_ok-reserve-2.ensures.items ∙ c.self.invariant.1.same_length in
    omega (arith, count, size)

pub insert_bound-requires-2-clause-rise : goal.insert_bound-requires-2-clause-rise
insert_bound-requires-2-clause-rise c =
    let n : ℕ = length c.self.inside.made.items in
    let count : c.len-count.result ≡ n = search rules in
    let rise : Rise (drop (n - n % 64) c.self.inside.small.items) = last-rise 64 (n - n % 64) c.self.inside.small.items c.self.inside.made.items (omega arith) (omega arith) c.self.invariant.1 in
    subst (λ (k : ℕ). Rise (drop (k - k % 64) c.reserve-2.new.self.items)) (sym count) (subst (λ (xs : List ℕ). Rise (drop (n - n % 64) xs)) (sym c.in_ok-reserve-2.ensures.items) rise)

pub insert_bound-requires-3-clause-from : goal.insert_bound-requires-3-clause-from
insert_bound-requires-3-clause-from c =
    let n : ℕ = length c.self.inside.made.items in
    let count : c.len-count.result ≡ n = search rules in
    let size : length c.reserve-3.new.self.items ≡ n = ap length c.in_ok-reserve-3.ensures.items ∙ c.self.invariant.2.same_length in
    omega (arith, count, size)

pub insert_bound-requires-3-clause-rise : goal.insert_bound-requires-3-clause-rise
insert_bound-requires-3-clause-rise c =
    let n : ℕ = length c.self.inside.made.items in
    let count : c.len-count.result ≡ n = search rules in
    let rise : Rise (drop (n - n % 4096) c.self.inside.large.items) = last-rise 4096 (n - n % 4096) c.self.inside.large.items c.self.inside.made.items (omega arith) (omega arith) c.self.invariant.2 in
    subst (λ (k : ℕ). Rise (drop (k - k % 4096) c.reserve-3.new.self.items)) (sym count) (subst (λ (xs : List ℕ). Rise (drop (n - n % 4096) xs)) (sym c.in_ok-reserve-3.ensures.items) rise)

pub invariant_of-self-2 : goal.invariant_of-self-2
invariant_of-self-2 c =
    let w = c.args.w in
    let made : List ℕ = c.self.inside.made.items in
    let n : ℕ = length made in
    let count : c.len-count.result ≡ n = search rules in
    let now : c.push.new.self.items ≡ made ++ w ∷ [] = c.in_ok-push.ensures.items in
    let all : c.insert_bound.new.bounds.items ≡ bounds_with w c.self.inside.bounds.items = c.insert_bound.ensures ∙ ap (bounds_with w) c.in_ok-reserve.ensures.items in
    let small : c.insert_bound-2.new.bounds.items ≡ take (n - n % 64) c.self.inside.small.items ++ bounds_with w (drop (n - n % 64) c.self.inside.small.items) =
    c.insert_bound-2.ensures ∙ ap (λ (k : ℕ). take (k - k % 64) c.reserve-2.new.self.items ++ bounds_with w (drop (k - k % 64) c.reserve-2.new.self.items)) count
    ∙ ap (λ (xs : List ℕ). take (n - n % 64) xs ++ bounds_with w (drop (n - n % 64) xs)) c.in_ok-reserve-2.ensures.items in
    let large : c.insert_bound-3.new.bounds.items ≡ take (n - n % 4096) c.self.inside.large.items ++ bounds_with w (drop (n - n % 4096) c.self.inside.large.items) =
    c.insert_bound-3.ensures ∙ ap (λ (k : ℕ). take (k - k % 4096) c.reserve-3.new.self.items ++ bounds_with w (drop (k - k % 4096) c.reserve-3.new.self.items)) count
    ∙ ap (λ (xs : List ℕ). take (n - n % 4096) xs ++ bounds_with w (drop (n - n % 4096) xs)) c.in_ok-reserve-3.ensures.items in (
      subst (λ (xs : List ℕ). AreBounds xs c.push.new.self.items) (sym all) (subst (AreBounds (bounds_with w c.self.inside.bounds.items)) (sym now) (AreBounds-with c.self.inside.bounds.items made w c.self.invariant.0)),
      subst (λ (xs : List ℕ). AreBlocks 64 xs c.push.new.self.items) (sym small)
          (subst (AreBlocks 64 (take (n - n % 64) c.self.inside.small.items ++ bounds_with w (drop (n - n % 64) c.self.inside.small.items))) (sym now)
          (AreBlocks-with 64 (n - n % 64) c.self.inside.small.items made w (omega arith) (omega arith) (omega arith) (parted-small n) c.self.invariant.1)),
      subst (λ (xs : List ℕ). AreBlocks 4096 xs c.push.new.self.items) (sym large)
          (subst (AreBlocks 4096 (take (n - n % 4096) c.self.inside.large.items ++ bounds_with w (drop (n - n % 4096) c.self.inside.large.items))) (sym now)
          (AreBlocks-with 4096 (n - n % 4096) c.self.inside.large.items made w (omega arith) (omega arith) (omega arith) (parted-large n) c.self.invariant.2)),
    )
