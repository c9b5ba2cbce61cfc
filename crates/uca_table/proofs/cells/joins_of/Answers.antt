use Rattle.uca_table.proofs.Common.{◌≡◌, ◌+◌, ◌++◌, ◌∷◌, [], take, ap, ◌∙◌, arith, take_more, take_all, get_or_read, bearing_of, common_steps}
use Rattle.uca_table.proofs.CellLemmas.{bearing-more}
use Rattle.uca_table.proofs.cells.joins_of.Goals as goal

pub loop-at-preserved : goal.loop-at-preserved
loop-at-preserved c =
    let t = c.args.t.now in let front = take c.loop-at.at c.args.points.now in
    let more : take (c.loop-at.at + 1) c.args.points.now ≡ front ++ c.index-points-at.result ∷ [] = grind (arith, common_steps, take_more, get_or_read) in
    let same : bearing_of t (take (c.loop-at.at + 1) c.args.points.now) ≡ bearing_of t (c.index-points-at.result ∷ []) = ap (bearing_of t) more ∙ bearing-more t front c.index-points-at.result (omega arith) in
    omega (arith, same)

pub returns-clause-joining : goal.returns-clause-joining
returns-clause-joining c = rw c.in-Some.ensures.cases.0 (c.joins_of_one-joins.ensures.joining c.in-Some.field-0-1.now)

pub returns-clause-cut : goal.returns-clause-cut
returns-clause-cut c = λ holds. rw c.in-Some.ensures.cases.0 (c.joins_of_one-joins.ensures.cut c.in-Some.field-0-1.now holds)

pub returns-clause-bearing : goal.returns-clause-bearing
returns-clause-bearing c = grind (arith, common_steps, take_all)
