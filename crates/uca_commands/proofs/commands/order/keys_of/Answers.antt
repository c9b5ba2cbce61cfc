use Rattle.std.proofs.Common.{◌≡◌, ℕ, List, [], ◌∷◌, ◌++◌, ◌+◌, chars, length, map, flat_map, drop, ap, subst, sym, ◌∙◌, arith, append_assoc, length-append}
use Rattle.std.proofs.lemmas.List.{drop_more, get_or-map, length-map}
use Rattle.uca_model.specs.Lines.{IsTextLine}
use Rattle.uca_model.specs.OrderOutput.{line_key}
use Rattle.uca_model.specs.SortKey.{sort_key}
use Rattle.uca_commands.specs.KeyPieces.{ends_from}
use Rattle.uca_commands.specs.LinePlaces.{line_at}
use Rattle.uca_commands.specs.declared.keyed_line.LinePlace.{LinePlace}
use Rattle.uca_commands.proofs.commands.order.keys_of.Goals as goal

pub of_checked-line-requires : goal.of_checked-line-requires
of_checked-line-requires c =
    let places : List LinePlace = c.args.places.now in let show : LinePlace → List ℕ = line_at c.args.input.now in
    let i : ℕ = c.loop-place.place-index in
    subst IsTextLine (get_or-map show places i _ [] c.loop-place-test.true ∙ sym c.line_at.ensures) (c.requires i [] (omega (arith, length-map places show, c.loop-place-test.true)))

pub loop-place-preserved : goal.loop-place-preserved
loop-place-preserved c =
    let i : ℕ = c.loop-place.place-index in let places : List LinePlace = c.args.places.now in let show : LinePlace → List ℕ = line_at c.args.input.now in
    let line : List ℕ = c.line_at.result.now in let rest : List (List ℕ) = map show (drop (i + 1) places) in
    let k : List ℕ → List ℕ = line_key c.args.t.now c.args.s in
    let parts : map show (drop i places) ≡ line ∷ rest = ap (map show) (drop_more places i _ c.loop-place-test.true) ∙ ap (λ l. l ∷ rest) (sym c.line_at.ensures) in
    let bytes : c.push_key.new.keys.items ≡ c.loop-place.keys.bytes.items ++ k line = c.in_ok-push_key.ensures ∙ ap (λ text. c.loop-place.keys.bytes.items ++ sort_key c.args.t.now c.args.s (chars text)) c.of_checked-line.ensures in
    let before : length c.push_key.new.keys.items ≡ length c.loop-place.keys.bytes.items + length (k line) = ap length bytes ∙ length-append c.loop-place.keys.bytes.items (k line) in
    let size : c.len.result ≡ length c.loop-place.keys.bytes.items + length (k line) = omega (arith, c.len.ensures, c.push_key.new.keys.ok.0, before) in
    let ks : List (List ℕ) = map k rest in
    let ends : c.push.new.self.items ≡ c.loop-place.keys.ends.items ++ (length c.loop-place.keys.bytes.items + length (k line)) ∷ [] = c.in_ok-push.ensures.items ∙ ap (λ n. c.loop-place.keys.ends.items ++ n ∷ []) size in
    record {
      all = ap (λ l. l ++ flat_map k rest) bytes ∙ append_assoc c.loop-place.keys.bytes.items (k line) (flat_map k rest) ∙ ap (λ ls. c.loop-place.keys.bytes.items ++ flat_map k ls) (sym parts) ∙ c.loop-place.invariant.all;
      each = ap (λ n. c.push.new.self.items ++ ends_from n ks) before
          ∙ ap (λ es. es ++ ends_from (length c.loop-place.keys.bytes.items + length (k line)) ks) ends
          ∙ append_assoc c.loop-place.keys.ends.items ((length c.loop-place.keys.bytes.items + length (k line)) ∷ []) (ends_from (length c.loop-place.keys.bytes.items + length (k line)) ks)
          ∙ ap (λ ls. c.loop-place.keys.ends.items ++ ends_from (length c.loop-place.keys.bytes.items) (map k ls)) (sym parts) ∙ c.loop-place.invariant.each;
    }
