use Rattle.std.proofs.Common.{◌≡◌, ◌<◌, ◌≤◌, ◌∷◌, ◌++◌, length, take, take-append-drop, arith, sym, subst, ap, ◌∙◌, List, ℕ}
use Rattle.std.proofs.lemmas.List.{length-take, nil_from_length}
use Rattle.std.proofs.lemmas.Bool.Decides.{nat_tests}
use Rattle.std.specs.List.{position_or_len}
use Rattle.uca_io.specs.Words.{words, is_blank}
use Rattle.uca_io.proofs.WordLemmas.{words-skip, words-first, skip-first, length-skip}
use Rattle.uca_io.proofs.words.next_word.Goals as goal

pub returns-then-is_empty-clause-words : goal.returns-then-is_empty-clause-words
returns-then-is_empty-clause-words c =
    let text = c.args.text.now in
    let rest = c.skip_blanks-rest.result.now in
    sym (words-skip text) ∙ ap words (sym c.skip_blanks-rest.ensures ∙ nil_from_length rest (grind (arith, nat_tests)))

pub returns-clause-words : goal.returns-clause-words
returns-clause-words c =
    let text = c.args.text.now in
    let rest = c.skip_blanks-rest.result.now in
    let end : ℕ = c.word_len-end.result in
    let some : 0 < length rest = grind (arith, nat_tests) in
    let shorter : length rest ≤ length text = subst (λ (xs : List ℕ). length xs ≤ length text) (sym c.skip_blanks-rest.ensures) (length-skip text) in
    let front : 0 < position_or_len is_blank rest = subst (λ (xs : List ℕ). 0 < position_or_len is_blank xs) (sym c.skip_blanks-rest.ensures) (skip-first text (subst (λ (xs : List ℕ). 0 < length xs) c.skip_blanks-rest.ensures some)) in
    let long : 0 < end = omega (arith, c.word_len-end.ensures.value) in
    let same : words text ≡ words rest = sym (words-skip text) ∙ ap words (sym c.skip_blanks-rest.ensures) in
    (same ∙ words-first rest end c.word_len-end.ensures.value c.word_len-end.ensures.within long ∙ ap (λ (xs : List ℕ). take end rest ∷ words xs) (sym c.from_place.ensures.value), (omega (arith, c.from_place.ensures.len), omega (arith, c.from_place.ensures.len, length-take end rest)))

pub returns-clause-rest : goal.returns-clause-rest
returns-clause-rest c =
    let rest = c.skip_blanks-rest.result.now in
    let end : ℕ = c.word_len-end.result in
    sym c.skip_blanks-rest.ensures ∙ sym (take-append-drop end rest) ∙ ap (λ (xs : List ℕ). take end rest ++ xs) (sym c.from_place.ensures.value)
