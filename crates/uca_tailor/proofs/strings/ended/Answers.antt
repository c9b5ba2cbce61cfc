use Rattle.std.proofs.Common.{◌≡◌, ◌<◌, ◌≤◌, ◌++◌, List, ℕ, All, length, ap, sym, subst, ◌∙◌, arith}
use Rattle.std.proofs.lemmas.Bool.Decides.{nat_tests}
use Rattle.std.specs.Char.{IsScalar}
use Rattle.unicode_normalization.specs.Forms.{nfd}
use Rattle.uca_weights.specs.declared.limits.TheConstants.{MAX_KEY}
use Rattle.uca_model.specs.SafeText.{longest_run}
use Rattle.uca_tailor.proofs.StringLemmas.{some_nfd, ends_long, ends_many, ends_fine}
use Rattle.uca_tailor.proofs.strings.ended.Goals as goal

pub returns-then-longest_run-gt-MAX_RUN : goal.returns-then-longest_run-gt-MAX_RUN
returns-then-longest_run-gt-MAX_RUN c =
    let xs : List ℕ = c.args.string.now in
    let some : 0 < length xs = grind (arith, nat_tests, c.is_empty.ensures, c.if-is_empty.false) in
    let is_nfd : c.extend_nfd.new.out.items ≡ nfd xs = c.in_ok-extend_nfd.ensures.ok ∙ ap (λ ys. ys ++ nfd xs) c.new-points.ensures.items in
    let run : c.longest_run.result ≡ longest_run (nfd xs) = c.longest_run.ensures.value ∙ ap longest_run (c.deref.ensures.value ∙ is_nfd) in
    ends_long xs some (omega (arith, run, c.if-longest_run-gt-MAX_RUN.true))

pub returns-then-len-gt-MAX_KEY : goal.returns-then-len-gt-MAX_KEY
returns-then-len-gt-MAX_KEY c =
    let xs : List ℕ = c.args.string.now in
    let some : 0 < length xs = grind (arith, nat_tests, c.is_empty.ensures, c.if-is_empty.false) in
    let is_nfd : c.extend_nfd.new.out.items ≡ nfd xs = c.in_ok-extend_nfd.ensures.ok ∙ ap (λ ys. ys ++ nfd xs) c.new-points.ensures.items in
    let run : c.longest_run.result ≡ longest_run (nfd xs) = c.longest_run.ensures.value ∙ ap longest_run (c.deref.ensures.value ∙ is_nfd) in
    let tie = c.extend_nfd.new.out.ok.0 in
    ends_many xs some (omega (arith, run, c.if-longest_run-gt-MAX_RUN.false)) (omega (arith, tie, ap (length {A = ℕ}) is_nfd, c.len.ensures, c.if-len-gt-MAX_KEY.true))

pub returns : goal.returns
returns c =
    let xs : List ℕ = c.args.string.now in
    let some : 0 < length xs = grind (arith, nat_tests, c.is_empty.ensures, c.if-is_empty.false) in
    let is_nfd : c.extend_nfd.new.out.items ≡ nfd xs = c.in_ok-extend_nfd.ensures.ok ∙ ap (λ ys. ys ++ nfd xs) c.new-points.ensures.items in
    let run : c.longest_run.result ≡ longest_run (nfd xs) = c.longest_run.ensures.value ∙ ap longest_run (c.deref.ensures.value ∙ is_nfd) in
    let tie = c.extend_nfd.new.out.ok.0 in
    let few : length c.extend_nfd.new.out.items ≤ MAX_KEY = omega (arith, tie, c.len.ensures, c.if-len-gt-MAX_KEY.false) in
    let long : 1 ≤ length c.extend_nfd.new.out.items = subst (λ ys. 1 ≤ length ys) (sym is_nfd) (some_nfd xs some) in
    λ at. (is_nfd, record { some = long; few = few; scalars = subst (λ ys. All IsScalar ys) c.deref.ensures.value c.longest_run.ensures.scalars }, ends_fine xs some (omega (arith, run, c.if-longest_run-gt-MAX_RUN.false)) (subst (λ ys. length ys ≤ MAX_KEY) is_nfd few) at)
