use Rattle.uca_key.proofs.Common.{All, chars, sym, ap, subst, ◌∙◌, IsScalar, end_of_prefix}
use Rattle.uca_levels.proofs.WithoutFront.{scalars-text}
use Rattle.uca_window.specs.Passage.{text_of}
use Rattle.uca_key.proofs.BoundLemmas.{between_exactly, between_longer}
use Rattle.uca_key.proofs.bounds.prefix_bounds.Goals as goal

pub returns-clause-exactly : goal.returns-clause-exactly
returns-clause-exactly c =
    let scalars : All IsScalar (text_of c.args.p.now) = subst (λ bytes. All IsScalar (chars bytes)) c.as_str-text.ensures.text (scalars-text c.as_str-text.result.now c.as_str-text.utf8) in
    between_exactly c.args.t.now c.args.v (text_of c.args.p.now) c.in_ok-lower.lower.items _ c.longest-longest.ensures.valid scalars c.in_ok-lower.ensures.value (c.in_ok-upper.ensures ∙ ap end_of_prefix c.as_slice.ensures.value)

pub returns-clause-longer : goal.returns-clause-longer
returns-clause-longer c = λ s x complete.
    between_longer c.args.t.now c.args.v (text_of c.args.p.now) c.in_ok-lower.lower.items _ (sym c.is_complete-complete.ensures ∙ complete) c.in_ok-lower.ensures.value (c.in_ok-upper.ensures ∙ ap end_of_prefix c.as_slice.ensures.value) s x
