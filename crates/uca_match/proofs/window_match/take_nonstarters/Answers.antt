use Rattle.std.proofs.Common.{◌≡◌, ℕ, ◌∷◌, [], ◌++◌, ◌&&◌, ◌+◌, cond, nat_lt, length, get_or, sym, ap, subst, ◌∙◌, arith}
use Rattle.std.proofs.lemmas.Bool.{and_parts}
use Rattle.std.proofs.lemmas.List.{length_push}
use Rattle.unicode.specs.CanonicalCombiningClass.{canonical_combining_class}
use Rattle.uca_model.specs.Table.{is_key}
use Rattle.uca_table.specs.Walk.{path_of, table_of_walk}
use Rattle.uca_match.specs.WindowMatch.{IsTaking}
use Rattle.uca_match.proofs.WindowMatches.{IsTaking-takes, IsTaking-passes, IsTaking-stops, IsTaking-ends}
use Rattle.uca_match.proofs.window_match.take_nonstarters.Goals as goal

pub returns-then-class-eq0-clause-takes : goal.returns-then-class-eq0-clause-takes
returns-then-class-eq0-clause-takes c =
    let x : ℕ = c.index-points-at.result in
    IsTaking-stops (is_key (table_of_walk c.args.walk.now)) c.args.start (path_of c.args.walk.now) c.args.window.now (path_of c.loop-at.walk) c.loop-at.window c.loop-at.at c.loop-at.high c.loop-at.invariant.taking c.closed.ensures.valid c.closed.ensures.front
    x c.canonical_combining_class-class.result (omega (arith, c.loop-at-test.true, c.closed.ensures.value)) (c.index-points-at.is ∙ ap (λ l. get_or l c.loop-at.at x) c.points.ensures.value)
    c.canonical_combining_class-class.ensures c.if-class-eq0.true

pub loop-at-preserved-then-takes : goal.loop-at-preserved-then-takes
loop-at-preserved-then-takes c =
    let x : ℕ = c.index-points-at.result in
    let t = table_of_walk c.args.walk.now in
    let tested : c.takes.result ≡ (nat_lt c.loop-at.high (canonical_combining_class x) && is_key t (path_of c.loop-at.walk ++ x ∷ [])) =
    c.takes.ensures.value ∙ ap (λ s. nat_lt c.loop-at.high (canonical_combining_class x) && is_key s (path_of c.loop-at.walk ++ x ∷ [])) c.loop-at.invariant.table in
    let longer : path_of c.takes.new.points ≡ path_of c.loop-at.walk ++ x ∷ [] = c.takes.ensures.path ∙ ap (λ b. cond b (path_of c.loop-at.walk ++ x ∷ []) (path_of c.loop-at.walk)) c.if-takes.true in
    record {
      taking =
          IsTaking-takes (is_key t) c.args.start (path_of c.args.walk.now) c.args.window.now (path_of c.loop-at.walk) c.loop-at.window c.loop-at.at c.loop-at.high c.loop-at.invariant.taking c.closed.ensures.valid c.closed.ensures.front
          x c.canonical_combining_class-class.result c.takes.result (path_of c.takes.new.points) c.remove.new.self (omega (arith, c.loop-at-test.true, c.closed.ensures.value)) (c.index-points-at.is ∙ ap (λ l. get_or l c.loop-at.at x) c.points.ensures.value)
          c.canonical_combining_class-class.ensures c.if-class-eq0.false tested c.if-takes.true longer c.remove.ensures.points c.remove.ensures.rest;
      table = c.takes.ensures.set ∙ c.loop-at.invariant.table;
      longer = omega (arith, c.loop-at.invariant.longer, ap length longer, length_push (path_of c.loop-at.walk) x);
      key = λ _. ap (is_key t) longer ∙ (and_parts _ _ (sym tested ∙ c.if-takes.true)).1;
    }

pub loop-at-preserved : goal.loop-at-preserved
loop-at-preserved c =
    let x : ℕ = c.index-points-at.result in
    let t = table_of_walk c.args.walk.now in
    let tested : c.takes.result ≡ (nat_lt c.loop-at.high (canonical_combining_class x) && is_key t (path_of c.loop-at.walk ++ x ∷ [])) =
    c.takes.ensures.value ∙ ap (λ s. nat_lt c.loop-at.high (canonical_combining_class x) && is_key s (path_of c.loop-at.walk ++ x ∷ [])) c.loop-at.invariant.table in
    let stays : path_of c.takes.new.points ≡ path_of c.loop-at.walk = c.takes.ensures.path ∙ ap (λ b. cond b (path_of c.loop-at.walk ++ x ∷ []) (path_of c.loop-at.walk)) c.if-takes.false in
    record {
      taking =
          subst (λ p. IsTaking (is_key t) c.args.start (path_of c.args.walk.now) c.args.window.now p c.loop-at.window (c.loop-at.at + 1) c.max-high.result) (sym stays)
          (IsTaking-passes (is_key t) c.args.start (path_of c.args.walk.now) c.args.window.now (path_of c.loop-at.walk) c.loop-at.window c.loop-at.at c.loop-at.high c.loop-at.invariant.taking c.closed.ensures.valid c.closed.ensures.front
          x c.canonical_combining_class-class.result c.max-high.result c.takes.result (omega (arith, c.loop-at-test.true, c.closed.ensures.value)) (c.index-points-at.is ∙ ap (λ l. get_or l c.loop-at.at x) c.points.ensures.value)
          c.canonical_combining_class-class.ensures c.if-class-eq0.false tested c.if-takes.false c.max-high.ensures);
      table = c.takes.ensures.set ∙ c.loop-at.invariant.table;
      longer = omega (arith, c.loop-at.invariant.longer, ap length stays);
      key = λ h. ap (is_key t) stays ∙ c.loop-at.invariant.key h;
    }

pub returns-clause-takes : goal.returns-clause-takes
returns-clause-takes c =
    IsTaking-ends (is_key (table_of_walk c.args.walk.now)) c.args.start (path_of c.args.walk.now) c.args.window.now (path_of c.loop-at.walk) c.loop-at.window c.loop-at.at c.loop-at.high c.loop-at.invariant.taking c.closed.ensures.valid c.closed.ensures.front
    c.requires.some (omega (arith, c.loop-at-test.false, c.closed.ensures.value))
