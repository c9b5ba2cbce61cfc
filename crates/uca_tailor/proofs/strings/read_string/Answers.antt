use Rattle.std.proofs.Common.{◌≡◌, ◌++◌, List, ℕ, ap, sym, subst, ◌∙◌}
use Rattle.unicode_normalization.specs.Forms.{nfd}
use Rattle.uca_model.specs.RuleText.{string_of, end_faults}
use Rattle.uca_tailor.specs.Strings.{left_of, string_faults, BeginsAt}
use Rattle.uca_tailor.proofs.StringLemmas.{string_read, string_refused, same_place}
use Rattle.uca_tailor.proofs.ParsingLemmas.{begins-at}
use Rattle.uca_tailor.proofs.strings.read_string.Goals as goal

pub returns-in-Ok : goal.returns-in-Ok
returns-in-Ok c =
    let s = c.args.scanner.now in
    let string : List ℕ = c.next_operator.new.string.items in
    let whole : string ≡ string_of (left_of s).leading = c.in_ok-found.ensures.string ∙ ap (λ xs. xs ++ string_of (left_of s).leading) c.new-string.ensures.items in
    let ends = c.in-Ok.ensures s.at in
    string_read s c.next_operator.new.scanner c.in_ok-found.found string c.in-Ok.string.items c.in_ok-found.ensures.next whole (ends.0 ∙ ap nfd c.deref.ensures.value) ends.1 (ap (end_faults s.at) (sym c.deref.ensures.value) ∙ ends.2)

pub returns : goal.returns
returns c =
    let s = c.args.scanner.now in
    let string : List ℕ = c.next_operator.new.string.items in
    let whole : string ≡ string_of (left_of s).leading = c.in_ok-found.ensures.string ∙ ap (λ xs. xs ++ string_of (left_of s).leading) c.new-string.ensures.items in
    begins-at c.fault_at.result s.at c.in-Err.cause (string_faults s) c.fault_at.ensures.cause (same_place c.fault_at.result.at c.at-after.result s.at c.in-Err.cause c.at-after.ensures c.fault_at.ensures.at)
    (string_refused s c.next_operator.new.scanner c.in_ok-found.found string c.in-Err.cause c.in_ok-found.ensures.next whole (subst (λ xs. BeginsAt s.at c.in-Err.cause (end_faults s.at xs)) c.deref.ensures.value (c.in-Err.ensures s.at)))
