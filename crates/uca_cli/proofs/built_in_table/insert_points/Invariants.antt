use Rattle.std.proofs.Common.{◌≡◌, fold, drop}
use Rattle.uca_cli.specs.BuiltIn.{with_point}
use Rattle.uca_cli.proofs.built_in_table.insert_points.Given as goal

abbrev pub invariant-loop-c : goal.invariant-loop-c
invariant-loop-c l = fold with_point l.builder (drop l.c-index l.points) ≡ fold with_point l.fn.builder l.points
