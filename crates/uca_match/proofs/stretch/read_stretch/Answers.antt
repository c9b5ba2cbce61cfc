use Rattle.std.proofs.Common.{rules, refl, ◌≡◌, ℕ, ◌+◌, ◌≤◌, List, ◌∷◌, ◌++◌, Some, chars, length, sym, ap, ◌∙◌, arith, length-append}
use Rattle.std.proofs.lemmas.Str.{chars_past_char}
use Rattle.std.specs.Str.Iter.{chars_rest}
use Rattle.unicode_normalization.specs.Decompose.{decompose_canonical}
use Rattle.unicode_normalization.specs.Order.{canonical_order}
use Rattle.unicode_normalization.proofs.OrderLemmas.{length-canonical_order}
use Rattle.uca_weights.specs.declared.limits.TheConstants.{MAX_DECOMPOSITION, MAX_LOOKAHEAD}
use Rattle.uca_window.specs.PassageSource.{StandsIn}
use Rattle.uca_window.proofs.SourceLemmas.{stands_next}
use Rattle.uca_model.specs.SafeText.{IsSafe}
use Rattle.uca_match.proofs.TextLemmas.{IsRead-next, read-apart, read-ordered, short-first, stands-safe}
use Rattle.uca_match.proofs.stretch.read_stretch.Goals as goal
use Rattle.std.proofs.lemmas.Grind.{common_steps}

-- a character of a safe text
few_points : (text old new : List ℕ) (c : ℕ) → StandsIn text old → IsSafe (chars text) → chars old ≡ c ∷ chars new → length (decompose_canonical c) ≤ MAX_DECOMPOSITION
few_points text old new c stands safe first = short-first (chars old) (chars new) c (stands-safe text old stands safe) first

-- how many points there are then
few_after : (points added all : List ℕ) (c : ℕ) → added ≡ decompose_canonical c → length added ≤ MAX_DECOMPOSITION → all ≡ canonical_order (points ++ added) → length points + MAX_DECOMPOSITION ≤ MAX_LOOKAHEAD → length all ≤ MAX_LOOKAHEAD
few_after points added all c e few is fits = grind (arith, common_steps, length-canonical_order, length-append)

pub push_decomposed-closed-requires-clause-room : goal.push_decomposed-closed-requires-clause-room
push_decomposed-closed-requires-clause-room c =
    let few = few_points c.args.text.now (chars_rest c.characters.left) (chars_rest c.next.new.self) c.in-Some.c c.characters.invariant.stands c.requires.safe (chars_past_char _ _ _ c.characters.invariant.stands.utf8 c.in-Some.ensures.steps.0) in
    search (arith, rules, few)

pub push_decomposed-closed-requires-clause-ordered : goal.push_decomposed-closed-requires-clause-ordered
push_decomposed-closed-requires-clause-ordered c = read-ordered _ _ _ c.characters.invariant.read

pub returns-then-may_cut_after-clause-apart : goal.returns-then-may_cut_after-clause-apart
returns-then-may_cut_after-clause-apart c =
    let first : chars (chars_rest c.characters.left) ≡ c.in-Some.c ∷ chars c.as_str-rest.result.now = chars_past_char _ _ _ c.characters.invariant.stands.utf8 c.in-Some.ensures.steps.0 ∙ ap (λ l. c.in-Some.c ∷ chars l) (sym c.as_str-rest.ensures) in
    read-apart c.args.t.now _ _ _ c.characters.invariant.read c.in-Some.c (chars c.as_str-rest.result.now) _ first c.push_decomposed-closed.ensures.points (c.may_cut_after.ensures c.if-may_cut_after.true)

pub returns-then-may_cut_after-clause-few : goal.returns-then-may_cut_after-clause-few
returns-then-may_cut_after-clause-few c =
    let few = few_points c.args.text.now (chars_rest c.characters.left) (chars_rest c.next.new.self) c.in-Some.c c.characters.invariant.stands c.requires.safe (chars_past_char _ _ _ c.characters.invariant.stands.utf8 c.in-Some.ensures.steps.0) in
    few_after c.characters.points.items (decompose_canonical c.in-Some.c) c.push_decomposed-closed.new.points.items c.in-Some.c refl few c.push_decomposed-closed.ensures.points (search (arith, rules))

pub characters-preserved : goal.characters-preserved
characters-preserved c =
    let i = c.characters.invariant in
    let first : chars (chars_rest c.characters.left) ≡ c.in-Some.c ∷ chars (chars_rest c.next.new.self) = chars_past_char _ _ _ i.stands.utf8 c.in-Some.ensures.steps.0 in
    let few = few_points c.args.text.now (chars_rest c.characters.left) (chars_rest c.next.new.self) c.in-Some.c i.stands c.requires.safe first in
    let all = few_after c.characters.points.items (decompose_canonical c.in-Some.c) c.push_decomposed-closed.new.points.items c.in-Some.c refl few c.push_decomposed-closed.ensures.points (search (arith, rules)) in
    record {
      stands = stands_next c.args.text.now c.characters.left c.next.new.self (Some c.in-Some.c) i.stands c.in-Some.ensures.steps;
      read = IsRead-next _ _ _ i.read c.in-Some.c (chars (chars_rest c.next.new.self)) _ first c.push_decomposed-closed.ensures.points;
      segments = c.push_decomposed-closed.ensures.segments;
      few = search (arith, rules, all);
    }
