use Rattle.std.proofs.Common.{◌≡◌, ℕ, List, [], length, map, refl, sym, ap, ◌∙◌, arith, eqb-true}
use Rattle.std.specs.List.{range_with_len}
use Rattle.std.proofs.KnownBytes.{Appends-nil}
use Rattle.std.proofs.lemmas.List.{length-map, nil_from_length}
use Rattle.std.proofs.lemmas.List.FromFn.{length-map-range_with_len}
use Rattle.std.proofs.lemmas.List.Sorted.{IsPermutation-refl}
use Rattle.std.proofs.lemmas.Result.{err_from_is_err_and}
use Rattle.uca_weights.specs.declared.settings.Settings.{Settings}
use Rattle.uca_model.specs.Lines.{lines_of}
use Rattle.uca_model.specs.OrderOutput.{IsOrderOutput, text_of_lines}
use Rattle.uca_model.specs.Table.{ElementTable}
use Rattle.uca_commands.specs.Ordering.{AreKeys}
use Rattle.uca_commands.specs.declared.keyed_line.KeyedLine.{KeyedLine}
use Rattle.uca_commands.specs.declared.keyed_line.KeyedLines.{KeyedLines}
use Rattle.uca_commands.specs.KeyedLines.{line_of, numbered}
use Rattle.uca_commands.specs.LinePlaces.{line_at}
use Rattle.uca_commands.specs.LineSorting.{SortsLines}
use Rattle.uca_commands.proofs.OrderingLemmas.{IsInOrder-sorted}
use Rattle.uca_commands.proofs.commands.order.write_in_order.Goals as goal

-- an input without lines is in order as it is
pub returns-then-is_empty : goal.returns-then-is_empty
returns-then-is_empty g c = rw (nil_from_length c.args.bytes.now (eqb-true (length c.args.bytes.now) 0 (sym c.is_empty.ensures ∙ c.if-is_empty.true))) (record {
  output = [];
  made = record { ordered = []; order = record { same = IsPermutation-refl []; sorted = λ k d low high. absurd (omega arith); stable = λ x. refl }; text = refl };
  writes = record { out = Appends-nil _; failures = refl; zeros = refl };
  counted = refl;
})

pub keys_of-requires : goal.keys_of-requires
keys_of-requires g c = rw (c.as_slice-places.ensures.value, c.in_ok-places_kept.ensures.lines) c.requires.texts

pub write_keyed-requires : goal.write_keyed-requires
write_keyed-requires g c = omega (arith, c.sort_lines.ensures.len, ap length c.as_mut_slice-lines.ensures.value, ap length c.in_ok-sorted.ensures, length-map-range_with_len numbered 0 (length c.as_slice-places.result.now), ap length c.as_slice-places.ensures.value, c.in_ok-places_kept.ensures.few, c.requires.small)

-- what is written of lines that were sorted
made : (t : ElementTable) (s : Settings) (of : KeyedLines) (bytes kept ends : List ℕ) (xs ls ys : List KeyedLine) → map (line_at of.input.now) of.places.now ≡ lines_of bytes
    → AreKeys t s (map (line_at of.input.now) of.places.now) kept ends → of.keys.now ≡ kept → of.ends.now ≡ ends → xs ≡ map numbered (range_with_len 0 (length of.places.now)) → ls ≡ xs → SortsLines of ls ys
    → IsOrderOutput t s bytes (text_of_lines (map (line_of of) ys))
made t s of bytes kept ends xs ls ys lines are keys places numbers same sorts = record {
  ordered = map (line_of of) ys;
  order = rw (sym lines) (IsInOrder-sorted t s of xs ys (rw (keys, places) are) numbers (rw same at sorts));
  text = refl;
}

pub returns : goal.returns
returns g c =
    let of : KeyedLines = record { input = c.args.bytes; places = c.as_slice-places.result; keys = c.deref.result; ends = c.deref-2.result } in
    record {
      output = text_of_lines (map (line_of of) c.sort_lines.new.lines);
      made = made c.args.t.now c.args.s of c.args.bytes.now c.in_ok-keys.keys.bytes.items c.in_ok-keys.keys.ends.items c.in_ok-sorted.sorted.items c.as_mut_slice-lines.result.now c.sort_lines.new.lines
          (ap (map (line_at c.args.bytes.now)) c.as_slice-places.ensures.value ∙ c.in_ok-places_kept.ensures.lines) c.in_ok-keys.ensures c.deref.ensures.value c.deref-2.ensures.value c.in_ok-sorted.ensures
          c.as_mut_slice-lines.ensures.value c.in_ok-sort_lines.ensures.sorts;
      writes = c.in_ok-write_keyed.ensures;
      counted = omega (
        arith,
        c.sort_lines.ensures.len,
        ap length c.as_mut_slice-lines.ensures.value,
        ap length c.in_ok-sorted.ensures,
        length-map-range_with_len numbered 0 (length c.as_slice-places.result.now),
        length-map c.as_slice-places.result.now (line_at c.args.bytes.now),
        ap length (ap (map (line_at c.args.bytes.now)) c.as_slice-places.ensures.value ∙ c.in_ok-places_kept.ensures.lines),
      );
    }

pub returns-in_err-write_keyed : goal.returns-in_err-write_keyed
returns-in_err-write_keyed g c =
    let of : KeyedLines = record { input = c.args.bytes; places = c.as_slice-places.result; keys = c.deref.result; ends = c.deref-2.result } in
    let p = err_from_is_err_and c.from_residual-in_err-write_keyed.result c.from_residual-in_err-write_keyed.ensures.1 in
    rw (p.1, p.2) (record {
      output = text_of_lines (map (line_of of) c.sort_lines.new.lines);
      made = made c.args.t.now c.args.s of c.args.bytes.now c.in_ok-keys.keys.bytes.items c.in_ok-keys.keys.ends.items c.in_ok-sorted.sorted.items c.as_mut_slice-lines.result.now c.sort_lines.new.lines
          (ap (map (line_at c.args.bytes.now)) c.as_slice-places.ensures.value ∙ c.in_ok-places_kept.ensures.lines) c.in_ok-keys.ensures c.deref.ensures.value c.deref-2.ensures.value c.in_ok-sorted.ensures
          c.as_mut_slice-lines.ensures.value c.in_ok-sort_lines.ensures.sorts;
      writes = c.in_err-write_keyed.ensures;
    })
