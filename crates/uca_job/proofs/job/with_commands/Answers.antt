use Rattle.std.proofs.Common.{◌≡◌, ◌∙◌, ◌+◌, map, [], ap, drop, fold, get_or, sym}
use Rattle.std.proofs.lemmas.List.{drop_all, drop_more}
use Rattle.std.specs.Borrow.{Bor}
use Rattle.clap.specs.Words.{Text, app_of}
use Rattle.uca_job.specs.CommandLine.{choices_of, with_command}
use Rattle.uca_job.proofs.job.with_commands.Goals as goal

abbrev name_of : Bor Text × Bor Text → Text
name_of row = row.0.now

abbrev no_row : Bor Text × Bor Text
no_row = (record { ref_ptr = (0, 0); now = [] }, record { ref_ptr = (0, 0); now = [] })

pub loop-name-preserved : goal.loop-name-preserved
loop-name-preserved c =
    let i = c.loop-name.name-index in let rows = c.args.commands.now in let step = with_command (choices_of c.args.choices) in
    let row : Bor Text × Bor Text = get_or rows i no_row in
    let e : app_of c.in_ok-extended.extended ≡ step (app_of c.loop-name.extended) (name_of row) = c.in_ok-extended.ensures in
    ap (λ a. fold step a (map name_of (drop (i + 1) rows))) e
    ∙ ap (λ xs. fold step (app_of c.loop-name.extended) (map name_of xs)) (sym (drop_more rows i no_row c.loop-name-test.true))
    ∙ c.loop-name.invariant

pub returns : goal.returns
returns c =
    ap (λ xs. fold (with_command (choices_of c.args.choices)) (app_of c.loop-name.extended) (map name_of xs))
    (sym (drop_all c.loop-name.name-index c.args.commands.now c.loop-name-test.false))
    ∙ c.loop-name.invariant
