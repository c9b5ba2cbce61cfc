use Rattle.std.proofs.Common.{◌≡◌, ◌++◌, length, map, flat_map, drop}
use Rattle.uca_model.specs.OrderOutput.{line_key}
use Rattle.uca_commands.specs.KeyPieces.{ends_from}
use Rattle.uca_commands.specs.LinePlaces.{line_at}
use Rattle.uca_commands.proofs.commands.order.keys_of.Given as goal

abbrev pub invariant-loop-place : goal.invariant-loop-place
invariant-loop-place l = record {
  all : l.keys.bytes.items ++ flat_map (line_key l.t l.s) (map (line_at l.input) (drop l.place-index l.places)) ≡ flat_map (line_key l.t l.s) (map (line_at l.input) l.places);
  each : l.keys.ends.items ++ ends_from (length l.keys.bytes.items) (map (line_key l.t l.s) (map (line_at l.input) (drop l.place-index l.places))) ≡ ends_from 0 (map (line_key l.t l.s) (map (line_at l.input) l.places));
}
