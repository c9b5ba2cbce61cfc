use Rattle.uca_key.proofs.Common.{◌+◌, ◌&&◌, ◌∙◌, nat_lt, nat_le, ap₂}
use Rattle.uca_key.proofs.weight_bytes.is_in_window.Goals as goal

pub returns : goal.returns
returns c = c.has_slot.ensures ∙ ap₂ (λ f x. nat_le f x && nat_lt x (f + 119)) c.requires.placed.slot c.of.ensures.slot
