-- How many bytes were read where the last call gave some.
use Rattle.std.proofs.Common.{◌≡◌, ℕ, ◌+◌, ◌-◌, ◌<◌, ◌≤◌, List, ◌++◌, length, take, arith, length-append}
use Rattle.std.proofs.lemmas.List.{length-take}

-- the bytes so far and n more are one too many, where no more were requested
pub too_many : (limit : ℕ) (bytes buf : List ℕ) (n : ℕ) → length bytes ≤ limit → n ≤ length buf → length buf ≤ limit - length bytes + 1 → limit - length bytes < n → length (bytes ++ take n buf) ≡ limit + 1
too_many limit bytes buf n within fits asked more = omega (arith, length-append bytes (take n buf), length-take n buf)

-- the bytes so far and n more are some, and not too many
pub some_within : (limit : ℕ) (bytes buf : List ℕ) (n : ℕ) → n ≤ length buf → 0 < n → n ≤ limit - length bytes → (0 < length (bytes ++ take n buf)) × (length (bytes ++ take n buf) ≤ limit)
some_within limit bytes buf n within some fits = (omega (arith, length-append bytes (take n buf), length-take n buf), omega (arith, length-append bytes (take n buf), length-take n buf))
