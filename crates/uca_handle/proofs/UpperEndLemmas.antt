-- The upper end of a range of keys has at least one byte.
use Rattle.std.proofs.Common.{◌≡◌, ℕ, List, [], ◌∷◌, length, Some, arith}
use Rattle.std.proofs.lemmas.Grind.{common_steps}
use Rattle.std.specs.Option.{option_map}
use Rattle.uca_model.specs.Prefix.{end_of_prefix}

pub end_has_a_byte : (bs : List ℕ) → option_map length (end_of_prefix bs) ≡ Some 0 → ⊥
unfolding end_of_prefix
end_has_a_byte [] e = absurd (cc)
end_has_a_byte (b ∷ bs) e = grind (arith, common_steps)
