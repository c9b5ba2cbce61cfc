use Rattle.std.proofs.Common.{◌≡◌, drop, fold, map}
use Rattle.clap.specs.Words.{app_of}
use Rattle.uca_job.specs.CommandLine.{choices_of, with_command}
use Rattle.uca_job.proofs.job.with_commands.Given as goal

abbrev pub invariant-loop-name : goal.invariant-loop-name
invariant-loop-name l =
    fold (with_command (choices_of l.choices)) (app_of l.extended) (map (λ row. row.0.now) (drop l.name-index l.commands))
    ≡ fold (with_command (choices_of l.choices)) (app_of l.fn.program) (map (λ row. row.0.now) l.commands)
