use Rattle.std.proofs.Common.{◌≡◌, ℕ, ◌+◌, ◌<◌, ◌≤◌, ◌++◌, List, length, get_or, length-append, ap, ap₂, ◌∙◌, arith}
use Rattle.std.specs.List.{range_with_len}
use Rattle.std.proofs.lemmas.List.{get_or_append_left, get_or-append-add}
use Rattle.std.proofs.lemmas.Simd.{pick_l-range_with_len, length-chunk, get_or-chunk}
use lib.Lanes.{chunk, pick_l}
use Rattle.uca_window.proofs.utf8.two_blocks.Goals as goal

-- the lanes of two blocks, one after the other
joined : (bytes : List ℕ) (first second i : ℕ) → first + 8 ≤ length bytes → second + 8 ≤ length bytes → i < 16
    → get_or (pick_l 0 (chunk first 8 bytes ++ chunk second 8 bytes) (range_with_len 0 16)) i 0 ≡ get_or (chunk first 8 bytes ++ chunk second 8 bytes) i 0
joined bytes first second i in_first in_second h =
    let both = chunk first 8 bytes ++ chunk second 8 bytes in
    let size : length both ≡ 8 + 8 = length-append (chunk first 8 bytes) (chunk second 8 bytes) ∙ ap₂ (λ a b. a + b) (length-chunk first 8 bytes in_first) (length-chunk second 8 bytes in_second) in
    let place : 0 + i ≡ i = omega arith in
    ap (λ l. get_or l i 0) (pick_l-range_with_len 0 both 0 16 (omega (arith, size))) ∙ get_or-chunk 0 16 both i 0 h ∙ ap (λ k. get_or both k 0) place

pub returns-clause-front : goal.returns-clause-front
returns-clause-front c k h =
    let first = c.args.first in
    let second = c.args.second in
    let inside : k < length (chunk first 8 _) = omega (arith, h, length-chunk first 8 _ c.requires.in_first) in
    joined _ first second k c.requires.in_first c.requires.in_second (omega (arith, h)) ∙ get_or_append_left (chunk first 8 _) (chunk second 8 _) 0 k inside ∙ get_or-chunk first 8 _ k 0 h

pub returns-clause-back : goal.returns-clause-back
returns-clause-back c k h =
    let bytes = c.args.bytes.now in
    let first = c.args.first in
    let second = c.args.second in
    let far : 8 + k ≡ length (chunk first 8 bytes) + k = omega (arith, length-chunk first 8 bytes c.requires.in_first) in
    joined bytes first second (8 + k) c.requires.in_first c.requires.in_second (omega (arith, h)) ∙ ap (λ j. get_or (chunk first 8 bytes ++ chunk second 8 bytes) j 0) far
    ∙ get_or-append-add (chunk first 8 bytes) (chunk second 8 bytes) k 0 ∙ get_or-chunk second 8 bytes k 0 h
