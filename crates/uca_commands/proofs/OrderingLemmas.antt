-- Lines beside their keys: what a sort by the keys does to the lines.
use Rattle.std.proofs.Common.{◌≡◌, ℕ, zero, suc, ◌+◌, ◌-◌, ◌<◌, List, [], ◌∷◌, ◌++◌, length, get_or, map, flat_map, All, refl, sym, arith, append_assoc, length-append}
use Rattle.std.proofs.Math.Seq.{drop-append_seam, take-append_seam}
use Rattle.std.specs.List.{range_with_len}
use Rattle.std.proofs.lemmas.List.{get_or-map, length-map}
use Rattle.std.proofs.lemmas.List.FromFn.{fill_by_all, get_or-range_with_len, length-range_with_len}
use Rattle.std.proofs.lemmas.List.Elements.{All-map}
use Rattle.std.proofs.lemmas.Simd.{map-map}
use Rattle.uca_weights.specs.declared.settings.Settings.{Settings}
use Rattle.uca_model.specs.OrderOutput.{line_key, IsInOrder}
use Rattle.uca_model.specs.Table.{ElementTable}
use Rattle.uca_commands.specs.KeyedLines.{key_of, line_of, number_key, number_line, number_of, numbered}
use Rattle.uca_commands.specs.KeyPieces.{ends_from, piece}
use Rattle.uca_commands.specs.LinePlaces.{line_at, no_place}
use Rattle.uca_commands.specs.LineSorting.{SortsByKey, SortsLines}
use Rattle.uca_commands.specs.Ordering.{AreKeys}
use Rattle.uca_commands.specs.declared.keyed_line.KeyedLine.{KeyedLine}
use Rattle.uca_commands.specs.declared.keyed_line.KeyedLines.{KeyedLines}
use Rattle.uca_commands.proofs.SortLemmas.{SortsByKey-map}

-- each of some keys, one after the other behind a front
pieces-at : (f : List ℕ → List ℕ) (ls : List (List ℕ)) (front : List ℕ) (from n : ℕ) → from ≡ length front → n < length ls
    → piece (front ++ flat_map f ls) (get_or (from ∷ ends_from from (map f ls)) n 0) (get_or (ends_from from (map f ls)) n 0) ≡ f (get_or ls n [])
pieces-at f [] front from n is within = absurd (omega arith)
pieces-at f (l ∷ ls) front from zero is within =
    let size : from + length (f l) - from ≡ length (f l) = omega arith in
    rw (size, is, drop-append_seam) (take-append_seam (f l) (flat_map f ls))
pieces-at f (l ∷ ls) front from (suc n) is within =
    rw (sym (append_assoc front (f l) (flat_map f ls))) (pieces-at f ls (front ++ f l) (from + length (f l)) n (omega (arith, length-append front (f l))) (omega arith))

-- lines that were sorted beside their keys are in order
pub IsInOrder-sorted : (t : ElementTable) (s : Settings) (of : KeyedLines) (xs ys : List KeyedLine) → AreKeys t s (map (line_at of.input.now) of.places.now) of.keys.now of.ends.now
    → xs ≡ map numbered (range_with_len 0 (length of.places.now)) → SortsLines of xs ys → IsInOrder t s (map (line_at of.input.now) of.places.now) (map (line_of of) ys)
IsInOrder-sorted t s of xs ys are numbers sorts =
    let lines : List (List ℕ) = map (line_at of.input.now) of.places.now in
    let count : length lines ≡ length of.places.now = length-map of.places.now (line_at of.input.now) in
    let range : List ℕ = range_with_len 0 (length of.places.now) in
    let line : (n : ℕ) → n < length of.places.now → get_or lines n [] ≡ number_line of n = λ n low. get_or-map (line_at of.input.now) of.places.now n no_place [] low in
    let all : lines ≡ map (number_line of) (map number_of xs) = rw (numbers, map-map number_of numbered range, map-map (number_line of) (λ n. n) range) (fill_by_all (number_line of) lines (length of.places.now) [] count line) in
    let key : (n : ℕ) → n < length of.places.now → number_key of n ≡ line_key t s (number_line of n) = λ n low.
    rw (sym (line n low), are.all, are.each) (pieces-at (line_key t s) lines [] 0 n refl (omega (arith, count))) in
    let has : All (λ n. number_key of n ≡ line_key t s (number_line of n)) (map number_of xs) = rw numbers (All-map (λ n. number_key of n ≡ line_key t s (number_line of n)) number_of (map numbered range)
    (All-map (λ l. key_of of l ≡ line_key t s (line_of of l)) numbered range (λ i d low.
    let inside : i < length of.places.now = omega (arith, length-range_with_len 0 (length of.places.now)) in
    let at : get_or range i d ≡ i = omega (arith, get_or-range_with_len 0 (length of.places.now) i d inside) in
    rw at (key i inside)))) in
    let made : SortsByKey (line_key t s) (map (number_line of) (map number_of xs)) (map (number_line of) (map number_of ys)) = SortsByKey-map (number_key of) (line_key t s) (number_line of) (map number_of xs) (map number_of ys) has sorts in
    rw (all, sym (map-map (number_line of) number_of ys)) (record { same = made.same; sorted = made.sorted; stable = made.stable })
