-- What every call does that yields the first of what remains over a source.
use Rattle.std.specs.Prelude.{◌≡◌, ℕ, List, [], ◌∷◌, Option, MatchOption}
use Rattle.uca_model.specs.Source.{SourceState, unread}
use Rattle.uca_model.specs.Window.{WindowState, ReadsOn}

-- the first of a list was yielded and the others stay, or none where there is none
abbrev pub YieldsFirst : {A : Type 0} → List A → Option A → List A → Type 0
YieldsFirst old given new = MatchOption given ((old ≡ []) × (new ≡ [])) (λ x. old ≡ x ∷ new)

-- the first of what remains over the unread characters was yielded, and no more was read than the window's credit fell by
pub record Yields {W A : Type 0} (remaining : W → List ℕ → List A) (window : W → WindowState) (old : W) (before : SourceState) (given : Option A) (new : W) (after : SourceState) : Type 0 where
  pub reads : ReadsOn (window old) before (window new) after
  pub first : YieldsFirst (remaining old (unread before)) given (remaining new (unread after))
