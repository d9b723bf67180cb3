-- Powers of the number of symbols: how many states some digits have.
use Rattle.std.proofs.Common.{ℕ, suc, ◌+◌, ◌*◌, ◌^◌, ◌<◌, ◌≤◌, inl, inr, le_trans, mul-le-mul_right, mul_assoc, mul-le-mul, mul-le-mul_left, pow-suc, arith}
use native.Mathlib.Nat.{pow-zero, pow-le-pow_right}
use Rattle.std.proofs.lemmas.Nat.{mul-lt}
use Rattle.std.proofs.lemmas.Bool.{cases_lt}

pub power_positive : (q d : ℕ) → 0 < q → 0 < q ^ d
power_positive q d h = omega (arith, pow-le-pow_right h {i = 0} {j = d} (omega arith), pow-zero q)

-- a digit more is within the digits that there are
pub power_more : (q d digits : ℕ) → 0 < q → d < digits → q ^ d * q ≤ q ^ digits
power_more q d digits h b = rw (← pow-suc q d) (pow-le-pow_right h {i = suc d} {j = digits} (omega arith))

root : (a m : ℕ) → a * a ≤ m * m → a ≤ m
root a m h = elim (cases_lt m a) [ inl b ↦ absurd (omega (arith, mul-lt m m a a b b)) | inr b ↦ b ]

-- of at most 4,096 states the lower half has at most 64
pub few_low : (q high low : ℕ) → 0 < q → low ≤ high → q ^ high * q ^ low ≤ 4096 → q ^ low ≤ 64
few_low q high low p h few = root (q ^ low) 64 (le_trans (mul-le-mul_right (q ^ low) (pow-le-pow_right p {i = low} {j = high} h)) few)

-- and the upper half at most 256, as it has one digit more at most
pub few_high : (q high low : ℕ) → 0 < q → q ≤ 16 → high ≤ low + 1 → q ^ high * q ^ low ≤ 4096 → q ^ high ≤ 256
few_high q high low p most h few =
    let up : q ^ high ≤ q ^ low * q = rw (← pow-suc q low) (pow-le-pow_right p {i = high} {j = suc low} (omega arith)) in
    let square : q ^ high * q ^ high ≤ q ^ high * q ^ low * q = rw mul_assoc (mul-le-mul_left (q ^ high) up) in
    root (q ^ high) 256 (le_trans square (mul-le-mul few most))
