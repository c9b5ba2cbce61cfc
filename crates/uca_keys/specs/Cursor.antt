-- What a walk along the entries of keys shows.
use Rattle.std.specs.Prelude.{ℕ, List}
use Rattle.uca_weights.specs.declared.element.Element.{Element}

pub record CursorState : Type 0 where
  -- the key of the entry that it came to last
  pub key : List ℕ
  -- the entries after it
  pub coming : List (List ℕ × List Element)
