use Rattle.std.proofs.Common.{◌≡◌, ℕ, ◌+◌, ◌-◌, ◌++◌, length, take, drop, sym, ap, ◌∙◌, arith, take-take}
use Rattle.std.proofs.lemmas.List.{length-drop, take_rest}
use borrow.Rule.Slice.PartMut.{put_mid}
use Rattle.uca_model.specs.CollationElements.{elements}
use Rattle.uca_table.proofs.MovedForward.{rewritten-length}
use Rattle.uca_table.proofs.ElementLemmas.{elements-further, elements-done}
use Rattle.uca_match.proofs.TextLemmas.{kept-before}
use Rattle.uca_match.proofs.stretch.put_matches.Goals as goal

pub returns-in_default-clause-kept : goal.returns-in_default-clause-kept
returns-in_default-clause-kept c =
    sym (take-take c.args.from c.matches.at c.put_match.new.room c.matches.invariant.later) ∙ ap (take c.args.from) c.put_match.ensures.kept
    ∙ take-take c.args.from c.matches.at c.matches.room c.matches.invariant.later ∙ c.matches.invariant.kept

pub matches-preserved : goal.matches-preserved
matches-preserved c =
    let at : ℕ = c.matches.next in let n : ℕ = c.match_front-matched.result.len in
    let mid : length (take (length c.matches.points - at) (drop at c.matches.points)) ≡ length c.matches.points - at = ap length (take_rest c.matches.points at) ∙ length-drop at c.matches.points in
    let left : length c.match_front-matched.new.text ≡ length c.matches.points - at = c.match_front-matched.auto.text ∙ mid in
    let size : length (put_mid at (length c.matches.points - at) c.matches.points c.match_front-matched.new.text) ≡ length c.matches.points = rewritten-length at c.matches.points c.match_front-matched.new.text c.matches.invariant.inside left in
    record {
      points = size ∙ c.matches.invariant.points;
      inside = omega (arith, size, mid, c.match_front-matched.ensures.within, c.matches.invariant.inside);
      later = omega (arith, c.in-Some.ensures.later, c.matches.invariant.later);
      within = omega (arith, c.in-Some.ensures.within, c.in-Some.ensures.size);
      kept =
          kept-before c.args.from c.matches.at c.in-Some.placed c.put_match.new.room c.matches.room _ c.matches.invariant.later c.matches.invariant.within (omega (arith, c.in-Some.ensures.later, c.matches.invariant.later)) c.in-Some.ensures.elements
          ∙ c.matches.invariant.kept;
      same =
          ap (λ es. es ++ elements c.args.t.now (drop (at + n) (put_mid at (length c.matches.points - at) c.matches.points c.match_front-matched.new.text))) c.in-Some.ensures.elements
          ∙ elements-further c.args.t.now c.matches.points c.match_front-matched.new.text at n (take c.matches.at c.matches.room) (take c.args.from c.args.room.now ++ elements c.args.t.now c.args.points.now) c.matches-test.true c.matches.invariant.same c.match_front-matched.ensures.matched c.match_front-matched.ensures.rest;
      size = c.in-Some.ensures.size ∙ c.matches.invariant.size;
    }

pub returns-clause-elements : goal.returns-clause-elements
returns-clause-elements c = elements-done c.args.t.now c.matches.points c.matches.next (take c.matches.at c.matches.room) (take c.args.from c.args.room.now ++ elements c.args.t.now c.args.points.now) c.matches-test.false c.matches.invariant.same
