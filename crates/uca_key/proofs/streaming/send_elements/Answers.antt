use Rattle.uca_key.proofs.Common.{◌≡◌, ◌^◌, ◌≤◌, ◌++◌, ℕ, List, length, take, drop, ap₂, sym, ap, ◌∙◌, arith, take-append-drop, err_from_is_err_and, length-take, Element, Variable, level_bytes, PutsAt, all_own}
use Rattle.uca_key.proofs.KeyPieces.{IsSending-room, IsSending-more, IsSending-stops}
use Rattle.uca_key.proofs.PlacingLemmas.{FrontPut, front-put}
use Rattle.uca_key.proofs.WeighingLemmas.{level_few, own_bytes-both}
use Rattle.uca_key.proofs.streaming.send_elements.Goals as goal

-- a piece of what is left, and its bytes
module _ (v : Variable) (level k : ℕ) (left piece rest : List Element) (bytes after : List ℕ) (size : ℕ) (most : k ≤ 64) (front : piece ≡ take k left) (back : rest ≡ drop k left) (long : length bytes ≡ 128)
    (puts : PutsAt 0 (level_bytes (all_own v piece) level) bytes after size) where
  few : length piece ≤ 64
  few = omega (arith, ap length front, length-take k left, most)

  put : FrontPut (level_bytes (all_own v piece) level) bytes after size
  put = front-put _ _ _ _ puts (omega (arith, level_few v level piece, few, long)) (omega (arith, long))

  short : length (take size after) ≤ 8192
  short = omega (arith, ap length put.is, level_few v level piece, few)

  split : level_bytes (all_own v left) level ≡ take size after ++ level_bytes (all_own v rest) level
  split =
      ap (λ es. level_bytes (all_own v es) level) (sym (ap₂ (λ a b. a ++ b) front back ∙ take-append-drop k left))
      ∙ own_bytes-both v level piece rest ∙ ap (λ l. l ++ level_bytes (all_own v rest) level) (sym put.is)

pub slice_bounds-bytes-end : goal.slice_bounds-bytes-end
slice_bounds-bytes-end g c =
    let k : c.min.result ≤ 64 = omega (arith, c.min.ensures) in
    (put _ _ _ _ _ _ _ _ _ k c.split_at.ensures.front c.split_at.ensures.back c.pieces.invariant.bytes c.put_level-size.ensures).within

pub slice_bounds-write-end : goal.slice_bounds-write-end
slice_bounds-write-end g c =
    let k : c.min.result ≤ 64 = omega (arith, c.min.ensures) in
    let here = put _ _ _ _ _ _ _ _ _ k c.split_at.ensures.front c.split_at.ensures.back c.pieces.invariant.bytes c.put_level-size.ensures in
    here.size ∙ sym (ap length here.is)

pub write-requires : goal.write-requires
write-requires g c =
    let k : c.min.result ≤ 64 = omega (arith, c.min.ensures) in
    let here = split _ _ _ _ _ _ _ _ _ k c.split_at.ensures.front c.split_at.ensures.back c.pieces.invariant.bytes c.put_level-size.ensures in
    let long = short _ _ _ _ _ _ _ _ _ k c.split_at.ensures.front c.split_at.ensures.back c.pieces.invariant.bytes c.put_level-size.ensures in
    (omega arith, (long, IsSending-room _ _ _ _ _ _ c.pieces.invariant.sending _ _ (2 ^ 128) here c.requires.count))

pub returns-in_err-write : goal.returns-in_err-write
returns-in_err-write g c =
    let p = err_from_is_err_and c.from_residual.result c.from_residual.ensures.1 in
    let k : c.min.result ≤ 64 = omega (arith, c.min.ensures) in
    let here = split _ _ _ _ _ _ _ _ _ k c.split_at.ensures.front c.split_at.ensures.back c.pieces.invariant.bytes c.put_level-size.ensures in
    rw (p.1, p.2) (IsSending-stops _ _ _ _ _ _ c.pieces.invariant.sending _ _ _ _ here c.in_err-write.ensures.all)

pub pieces-preserved : goal.pieces-preserved
pieces-preserved g c =
    let k : c.min.result ≤ 64 = omega (arith, c.min.ensures) in
    let here = split _ _ _ _ _ _ _ _ _ k c.split_at.ensures.front c.split_at.ensures.back c.pieces.invariant.bytes c.put_level-size.ensures in
    record {
      bytes = c.put_level-size.auto.out ∙ c.pieces.invariant.bytes;
      sending = IsSending-more _ _ _ _ _ _ c.pieces.invariant.sending _ _ _ _ here c.in_ok-write.ensures.all;
    }
