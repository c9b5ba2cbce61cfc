-- Bytes that may come in UTF-8 after the two before them, where no character has four bytes.
use Rattle.std.specs.Prelude.{◌≡◌, ℕ, ◌-◌, ◌≤◌, ◌<◌, Bool, false, not, cond, ◌||◌, ◌==◌, nat_lt, nat_le, List, ◌∷◌, slice_index}
use Rattle.uca_window.specs.Passing.{is_within}

-- just one of two
abbrev pub is_one_of : Bool → Bool → Bool
is_one_of a b = cond a (not b) b

-- after a byte z, where no character has more than two bytes: b continues a character though z begins none, or does not though z begins
-- one, or z is another byte from C0 on, with which only longer characters or overlong forms begin
abbrev pub is_unpaired : ℕ → ℕ → Bool
is_unpaired z b = is_one_of (is_within 0x80 0xC0 b) (is_within 0xC2 0xE0 z) || is_one_of (is_within 0xC2 0xE0 z) (nat_le 0xC0 z)

-- after the bytes y and z: the same where characters of three bytes are allowed too; or z and b begin an overlong form of three bytes, or
-- the form of a surrogate
abbrev pub is_fault : ℕ → ℕ → ℕ → Bool
is_fault y z b =
    is_one_of (is_within 0x80 0xC0 b) (is_within 0xC2 0xF0 z || nat_le 0xE0 y) || is_one_of (is_within 0xC2 0xF0 z) (nat_le 0xC0 z) || (z == cond (nat_lt b 0xA0) 0xE0 0xED)

-- from a place on and before another one, no byte is unpaired
abbrev pub ArePaired : ℕ → ℕ → List ℕ → Type 0
ArePaired from to bytes = (k : ℕ) → from ≤ k → k < to → is_unpaired (slice_index bytes (k - 1)) (slice_index bytes k) ≡ false

-- no byte there is a fault; zeros come before the text
abbrev pub AreFine : ℕ → ℕ → List ℕ → Type 0
AreFine from to bytes = (k : ℕ) → from ≤ k → k < to → is_fault (slice_index (0 ∷ 0 ∷ bytes) k) (slice_index (0 ∷ bytes) k) (slice_index bytes k) ≡ false
