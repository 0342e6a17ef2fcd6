-- The signed size of a frequency rate. Assumes nothing.
use Prim.Native.Nat.{ℕ, ◌*◌, ◌^◌, ◌≤◌, ◌<◌}
use mathlib.Core.Path.{refl}
use mathlib.Core.List.{List}
use native.Mathlib.Nat.{mul-le-mul, pow-le-pow_right}
use native.Mathlib.Omega.{arith}
use lib.Dec.{lit<}
use Rattle.bits.specs.Bits.{get_bits}
use Rattle.bits.proofs.Decimal.{decimal-room}
use Rattle.fields.specs.Field.{start, bit_width, digit_count, value_of}
use Rattle.fields.proofs.OneField.{value-lt}
use Rattle.header.specs.Rows.{frequency_rate_digits, frequency_rate_power}
use Rattle.frequency_rate.specs.FrequencyRate.{digits_below}

-- digits and power of any bytes
pub digits_small : (b : List ℕ) → value_of frequency_rate_digits b < digits_below
unfolding value_of
digits_small b = omega (
  arith,
  decimal-room (digit_count frequency_rate_digits)
      (get_bits (start frequency_rate_digits) (bit_width frequency_rate_digits) b),
)

pub power_small : (b : List ℕ) → value_of frequency_rate_power b < 8
power_small b = value-lt frequency_rate_power b refl refl

-- a power of ten below 8, and the size: digits times that power
pub ten_bound : (m : ℕ) → m < 8 → 10 ^ m ≤ 10000000
ten_bound m h = pow-le-pow_right {n = 10} (lit< tt) {i = m} {j = 7} (omega arith)

pub size_bound : (d m : ℕ) → d < digits_below → m < 8 → d * 10 ^ m < 2 ^ 63
size_bound d m p q =
    omega (arith, mul-le-mul {n₁ = d} {m₁ = 10 ^ m} {n₂ = digits_below} {m₂ = 10000000} (omega arith) (ten_bound m q))
