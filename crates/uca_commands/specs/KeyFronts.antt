-- The front of a sort key: its first bytes as one number, by which most keys are told apart.
use Rattle.std.specs.Prelude.{◌≡◌, ℕ, zero, suc, ◌+◌, ◌*◌, ◌<◌, List, get_or}

-- the first n bytes as a number in base 256, the first byte first, with zeros after the end of the key
unfoldable pub front : ℕ → List ℕ → ℕ
front zero key = 0
front (suc n) key = front n key * 256 + get_or key n 0

-- a number is that of the first n bytes of a key
pub record IsFront (n : ℕ) (key : List ℕ) (number : ℕ) : Type 0 where
  pub bytes : (i : ℕ) → i < n → get_or key i 0 < 256
  pub value : number ≡ front n key

-- the first n bytes of two keys are the same
abbrev pub HaveSameFront : ℕ → List ℕ → List ℕ → Type 0
HaveSameFront n a b = (i : ℕ) → i < n → get_or a i 0 ≡ get_or b i 0
