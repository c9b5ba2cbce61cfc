-- How large a number of some hexadecimal digits is.
use Rattle.std.proofs.Common.{◌≡◌, ℕ, ◌+◌, ◌*◌, ◌^◌, ◌<◌, arith, add-one}
use Rattle.std.proofs.Math.Nat.{pow-suc}

pub digit_more : (n d i : ℕ) → n < 16 ^ i → d < 16 → n * 16 + d < 16 ^ (i + 1)
digit_more n d i low digit =
    let more : 16 ^ (i + 1) ≡ 16 ^ i * 16 = rw (add-one, pow-suc 16 i) in
    omega arith
