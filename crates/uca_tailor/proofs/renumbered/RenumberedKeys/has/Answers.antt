use Rattle.std.proofs.Common.{◌≡◌, ◌||◌, Option, Some, None, is_some, option_copied, Bor, List, refl, sym, ap, subst, ◌∙◌}
use Rattle.uca_weights.specs.declared.element.Element.{Element}
use Rattle.uca_model.specs.Table.{is_key}
use Rattle.uca_match.specs.Keys.{AreKeys, key_set}
use Rattle.uca_tailor.proofs.RenumberedLemmas.{is_key-renumbered}
use Rattle.uca_tailor.proofs.renumbered.RenumberedKeys.has.Goals as goal

pub returns-then-contains_key-clause-value : goal.returns-then-contains_key-clause-value
returns-then-contains_key-clause-value c =
    c.if-contains_key.true ∙ sym (is_key-renumbered c.self.inside.moves c.self.inside.items.entries c.self.inside.table.now c.args.self.now c.args.key.now c.self.view_is ∙ ap (λ b. b || is_key c.self.inside.table.now c.args.key.now) (sym c.contains_key.ensures ∙ c.if-contains_key.true))

copied_some : (o : Option (Bor (List Element))) → is_some o ≡ is_some (option_copied o)
copied_some None = refl
copied_some (Some x) = refl

pub returns-else-contains_key-clause-value : goal.returns-else-contains_key-clause-value
returns-else-contains_key-clause-value c =
    c.is_some.ensures ∙ copied_some c.get.result ∙ ap is_some c.get.ensures.value
    ∙ sym (is_key-renumbered c.self.inside.moves c.self.inside.items.entries c.self.inside.table.now c.args.self.now c.args.key.now c.self.view_is ∙ ap (λ b. b || is_key c.self.inside.table.now c.args.key.now) (sym c.contains_key.ensures ∙ c.if-contains_key.false))

pub returns-then-contains_key-clause-keys : goal.returns-then-contains_key-clause-keys
returns-then-contains_key-clause-keys c = subst (λ u. AreKeys (key_set u)) c.self.view_is c.self.invariant.keys.are_keys

pub returns-else-contains_key-clause-keys : goal.returns-else-contains_key-clause-keys
returns-else-contains_key-clause-keys c = subst (λ u. AreKeys (key_set u)) c.self.view_is c.self.invariant.keys.are_keys
