use Rattle.std.proofs.Common.{◌≡◌, ◌==◌, false, ◌∷◌, [], ◌++◌, sym, subst, ◌∙◌, arith}
use Rattle.std.proofs.lemmas.Bool.Decides.{nat_tests}
use Rattle.uca_model.specs.RuleText.{apostrophe}
use Rattle.uca_tailor.proofs.PieceLemmas.{InQuote, quote_begins, quote_other, quote_double, quote_ends, quote_open, take_next}
use Rattle.uca_tailor.proofs.pieces.quoted.Goals as goal
use Rattle.uca_tailor.proofs.pieces.quoted.Goals.{then-c-eq39+else-not-is_next, else-c-eq39}

pub loop-c-init : goal.loop-c-init
loop-c-init c = quote_begins c.args.scanner.now c.args.string.now.items

pub returns-then-not-is_next : goal.returns-then-not-is_next
returns-then-not-is_next c =
    quote_ends c.args.scanner.now c.args.string.now.items c.loop-c.scanner c.next.new.self c.loop-c.string.items c.in-Some.c c.loop-c.invariant c.in-Some.ensures.0 c.in-Some.ensures.1 c.if-c-eq39.true c.is_next.result c.is_next.ensures c.if-not-is_next.true

pub loop-c-preserved : goal.loop-c-preserved
loop-c-preserved c =
    subst (λ longer. InQuote c.args.scanner.now c.args.string.now.items c.if-c-eq39.scanner longer) (sym c.in_ok-push.ensures.items)
    (elim c.if-c-eq39.branch [
      | then-c-eq39+else-not-is_next w ↦
          let taken = take_next c.next.new.self w.next-then-c-eq39.new.self w.next-then-c-eq39.result apostrophe (sym w.is_next.ensures ∙ w.if-not-is_next.false) w.next-then-c-eq39.ensures in
          subst (λ s. InQuote c.args.scanner.now c.args.string.now.items s (c.loop-c.string.items ++ c.in-Some.c ∷ [])) (sym w.scanner-is)
          (quote_double c.args.scanner.now c.args.string.now.items c.loop-c.scanner c.next.new.self w.next-then-c-eq39.new.self c.loop-c.string.items c.in-Some.c c.loop-c.invariant c.in-Some.ensures.0 c.in-Some.ensures.1 w.if-c-eq39.true taken.0 taken.1)
      | else-c-eq39 w ↦
          let other : (c.in-Some.c == apostrophe) ≡ false = let no_quote = w.if-c-eq39.false in grind (arith, nat_tests) in
          subst (λ s. InQuote c.args.scanner.now c.args.string.now.items s (c.loop-c.string.items ++ c.in-Some.c ∷ [])) (sym w.scanner-is)
          (quote_other c.args.scanner.now c.args.string.now.items c.loop-c.scanner c.next.new.self c.loop-c.string.items c.in-Some.c c.loop-c.invariant c.in-Some.ensures.0 c.in-Some.ensures.1 other)
    ])

pub returns : goal.returns
returns c = quote_open c.args.scanner.now c.args.string.now.items c.loop-c.scanner c.loop-c.string.items c.loop-c.invariant c.in_default.ensures.0
