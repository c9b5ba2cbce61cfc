-- Numbers in hexadecimal digits.
use Rattle.std.proofs.Common.{ℕ, suc, zero, ◌<◌, ◌^◌, arith}

-- five digits leave space for one more in 32 bits
pub five_digits : (n i : ℕ) → n < 16 ^ i → i < 6 → n < 2 ^ 20
five_digits n zero low few = omega arith
five_digits n (suc zero) low few = omega arith
five_digits n (suc (suc zero)) low few = omega arith
five_digits n (suc (suc (suc zero))) low few = omega arith
five_digits n (suc (suc (suc (suc zero)))) low few = omega arith
five_digits n (suc (suc (suc (suc (suc zero))))) low few = omega arith
five_digits n (suc (suc (suc (suc (suc (suc i)))))) low few = absurd (omega arith)
