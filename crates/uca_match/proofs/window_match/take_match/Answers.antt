use Rattle.std.proofs.Common.{◌≡◌, ◌≤◌, ◌<◌, ◌∷◌, [], length, take, get_or, sym, ap, ap₂, subst, ◌∙◌, arith, take-take}
use Rattle.std.proofs.lemmas.List.{length-take-le}
use Rattle.uca_model.specs.Table.{is_key}
use Rattle.uca_model.specs.Match.{longest_match, longest_match_len}
use Rattle.uca_table.specs.Walk.{path_of, table_of_walk}
use Rattle.uca_table.proofs.WalkLemmas.{no_elements, longest_match-size, longest_match-key, longest_match_len-le}
use Rattle.uca_match.specs.WindowMatch.{TakesNonstarters, TakesMatch}
use Rattle.uca_match.specs.Found.{points_of}
use Rattle.uca_match.proofs.FoundLemmas.{longest-in_points, first_point, points-alone, points-key}
use Rattle.uca_match.proofs.WindowMatches.{TakesMatch-alone, TakesMatch-key}
use Rattle.uca_match.proofs.window_match.take_match.Goals as goal
use Rattle.std.proofs.lemmas.Grind.{common_steps}

pub returns-then-start-eq0-clause-takes : goal.returns-then-start-eq0-clause-takes
returns-then-start-eq0-clause-takes c =
    let t = c.args.t.now in let w = c.args.window.now in
    let text = ap₂ take c.closed-closed.ensures.value c.points-points.ensures.value in
    let path : path_of c.longest_match-walk.result ≡ longest_match (is_key t) (take w.closed w.points) = c.longest_match-walk.ensures.path ∙ ap₂ (λ s xs. longest_match (is_key s) xs) c.walk.ensures.table text in
    let none : length (path_of c.longest_match-walk.result) ≡ 0 = sym c.len-start.ensures.value ∙ c.if-start-eq0.true in
    let inside : 0 < length w.points = omega (arith, c.requires.some, c.closed-closed.ensures.valid.segments.within) in
    let one : c.index-points-0.result ∷ [] ≡ take 1 w.points = first_point w.points c.index-points-0.result inside (c.index-points-0.is ∙ ap (λ xs. get_or xs 0 c.index-points-0.result) c.points-points.ensures.value) in
    TakesMatch-alone t w c.requires.longest c.requires.some c.closed-closed.ensures.valid c.closed-closed.ensures.front (points_of (record { first = c.index-points-0.result; walk = c.longest_match-walk.result })) c.drop_front.new.self
    (sym (longest_match-size t (take w.closed w.points)) ∙ ap length (sym path) ∙ none) (points-alone c.index-points-0.result (path_of c.longest_match-walk.result) none ∙ one) c.drop_front.ensures.points c.drop_front.ensures.rest c.drop_front.ensures.valid

pub returns-then-start-eq0-clause-found : goal.returns-then-start-eq0-clause-found
returns-then-start-eq0-clause-found c = grind (arith, common_steps, first_point, length-take-le, longest-in_points, no_elements)

pub returns-clause-takes : goal.returns-clause-takes
returns-clause-takes c =
    let t = c.args.t.now in let w = c.args.window.now in
    let text = ap₂ take c.closed-closed.ensures.value c.points-points.ensures.value in
    let path : path_of c.longest_match-walk.result ≡ longest_match (is_key t) (take w.closed w.points) = c.longest_match-walk.ensures.path ∙ ap₂ (λ s xs. longest_match (is_key s) xs) c.walk.ensures.table text in
    let n : longest_match_len (is_key t) (take w.closed w.points) ≡ c.len-start.result = sym (longest_match-size t (take w.closed w.points)) ∙ ap length (sym path) ∙ sym c.len-start.ensures.value in
    let size : length (take w.closed w.points) ≡ w.closed = length-take-le w.closed w.points c.closed-closed.ensures.valid.segments.within in
    let few : c.len-start.result ≤ w.closed = subst (λ k. k ≤ w.closed) n (subst (λ k. longest_match_len (is_key t) (take w.closed w.points) ≤ k) size (longest_match_len-le t (take w.closed w.points))) in
    let begins : path_of c.longest_match-walk.result ≡ take c.len-start.result w.points = path ∙ ap (λ k. take k (take w.closed w.points)) n ∙ take-take c.len-start.result w.closed w.points few in
    let table : table_of_walk c.longest_match-walk.result ≡ t = c.longest_match-walk.ensures.set ∙ c.walk.ensures.table in
    let takes : TakesNonstarters (is_key t) c.len-start.result (path_of c.longest_match-walk.result) w (path_of c.take_nonstarters.new.walk) c.take_nonstarters.new.window =
    subst (λ s. TakesNonstarters (is_key s) c.len-start.result (path_of c.longest_match-walk.result) w (path_of c.take_nonstarters.new.walk) c.take_nonstarters.new.window) table c.take_nonstarters.ensures.takes in
    let some : 0 < length (path_of c.take_nonstarters.new.walk) = omega (arith, c.take_nonstarters.ensures.longer, c.len-start.ensures.value, c.if-start-eq0.false) in
    subst (λ k. TakesMatch t w k c.drop_front-2.new.self) (sym (points-key c.index-points-0.result (path_of c.take_nonstarters.new.walk) some))
    (TakesMatch-key t w c.requires.longest c.requires.some c.closed-closed.ensures.valid c.closed-closed.ensures.front c.len-start.result (path_of c.longest_match-walk.result) (path_of c.take_nonstarters.new.walk) c.take_nonstarters.new.window c.drop_front-2.new.self
    n (omega (arith, c.if-start-eq0.false)) few begins takes c.drop_front-2.ensures.points c.drop_front-2.ensures.rest c.drop_front-2.ensures.valid)

pub returns-clause-found : goal.returns-clause-found
returns-clause-found c = grind (arith, common_steps, longest_match-key)
