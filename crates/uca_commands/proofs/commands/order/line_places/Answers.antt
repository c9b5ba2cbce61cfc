use Rattle.std.proofs.Common.{◌≡◌, ℕ, ◌+◌, ◌-◌, List, [], ◌∷◌, length, drop, sym, ap, ◌∙◌, arith, append_assoc, length-append}
use Rattle.std.proofs.lemmas.List.{drop-drop, map-append}
use Rattle.uca_commands.specs.LinePlaces.{line_at}
use Rattle.uca_commands.specs.declared.keyed_line.LinePlace.{LinePlace}
use Rattle.uca_commands.proofs.commands.order.line_places.Goals as goal

pub loop-left-preserved : goal.loop-left-preserved
loop-left-preserved c =
    let input : List ℕ = c.args.bytes.now in let left : List ℕ = c.loop-left.left.now in
    let line : List ℕ = c.first_line.result.0.now in let rest : List ℕ = c.first_line.result.1.now in
    let start : ℕ = length input - length left in
    let place : LinePlace = record { start = start; end = start + length line } in
    let size : (start + length line) - start ≡ length line = omega arith in
    let shows : line_at input place ≡ line = rw (size, sym c.loop-left.invariant.left) (sym c.first_line.ensures.front) in
    let gone : (length input - length left) + (length left - length rest) ≡ length input - length rest = omega (arith, c.first_line.ensures.shorter, c.loop-left.invariant.few) in
    record {
      lines = rw c.in_ok-push.ensures.items (simp (map-append, append_assoc) (rw (shows, sym c.first_line.ensures.parts) c.loop-left.invariant.lines));
      left = c.first_line.ensures.after ∙ ap (drop (length left - length rest)) c.loop-left.invariant.left ∙ drop-drop (length left - length rest) start input ∙ ap (λ n. drop n input) gone;
      few = omega (arith, ap length c.in_ok-push.ensures.items, length-append c.loop-left.places.items (place ∷ []), c.first_line.ensures.shorter, c.loop-left.invariant.few);
    }
