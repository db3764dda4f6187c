-- Each law of E14 (Requests) that has hypotheses, at literals that meet them: antt computes that they do. A law that nothing meets would have
-- no line here.
-- Assumes nothing.
use Prim.Native.Nat.{ℕ, ◌+◌, ◌-◌, ◌*◌, ◌%◌, ◌^◌, ◌<◌, ◌≤◌}
use mathlib.Core.Bool.{true, false}
use mathlib.Core.Option.{some}
use mathlib.Core.Path.{◌≡◌, refl}
use native.Mathlib.Nat.{mul-le-mul_right}
use native.Mathlib.Omega.{arith}
use lib.Ieee.{size}
use lib.Pow.{pow_pos}
use Rattle.wgsl.specs.Types.{f32, f16, abstract_int, abstract_float, scalar_kind}
use Rattle.wgsl.specs.Said.{good, ◌>>=◌, or_refuse}
use Rattle.wgsl.specs.Rule.{when, and_then, scalar_of_kind}
use Rattle.wgsl.specs.Rank.{from_abstract_int, from_abstract_float, scalar_rank}
use Rattle.wgsl.specs.Literal.{half, sign_of, infinity, lowest, worth, stepped, rounded_by, rounded, Literal, whole_of, literal_of, float_of, unit_of, in_format, in_i32, in_u32, from_int, from_float, if_same, converted, pattern_bits, convert_call}
use Rattle.wgsl.specs.LiteralClaim.{IsNearest, IsFloat, literal_in, format_of, widened}
use Rattle.wgsl.proofs.Requests as requests

-- 2,049, and 65,519 below zero
abbrev tie : Literal
tie = record { negative = false; worth = 2049 * 2 ^ 1074 }

abbrev large : Literal
large = record { negative = true; worth = 65519 * 2 ^ 1074 }

pub record LiteralWitnesses : Type 0 where
  pub rounded_nearest : IsNearest 10 (unit_of half) (2049 * 2 ^ 1074) 26624
  pub nearest_one : ◌≡◌ {A = ℕ} 26624 26624
  pub exact_stays : rounded 10 (unit_of half) (unit_of half * worth 10 31743) ≡ 31743
  pub order_kept : rounded 10 (unit_of half) (2049 * 2 ^ 1074) ≤ rounded 10 (unit_of half) (2050 * 2 ^ 1074)
  pub float_is : IsFloat half large 64511
  pub float_if : in_format half large ≡ some 64511
  pub float_one : ◌≡◌ {A = ℕ} 64511 64511
  pub convert_float : (l : Literal) × (literal_in abstract_int (2049 % 2 ^ 64) ≡ some l) × IsFloat half l 26624
  pub convert_same : convert_call 4 (2 ^ 40 + 31745) 4 ≡ good 31745
  pub convert_i32 : 2 ^ 64 - 1 ≡ widened (2 ^ 32 - 1)
  pub convert_i32_if : convert_call 5 (widened (2 ^ 32 - 1)) 1 ≡ good (2 ^ 32 - 1)
  pub convert_u32 : ◌≡◌ {A = ℕ} 7 7
  pub convert_u32_if : convert_call 5 7 2 ≡ good 7
  pub convert_ranked : (r : ℕ) × (scalar_rank abstract_int f16 ≡ some r)
  pub ranked_convert : (p : ℕ) × (convert_call 6 0 3 ≡ good p)
  pub convert_bits : 64511 < 2 ^ 16
  pub convert_refuses : (◌≡◌ {A = ℕ} 25 25) × (◌≡◌ {A = ℕ} 0 0)

pub literal_witnesses : LiteralWitnesses
unfolding size scalar_kind ◌>>=◌ or_refuse when and_then scalar_of_kind from_abstract_int from_abstract_float scalar_rank sign_of infinity lowest worth stepped rounded_by rounded whole_of literal_of float_of unit_of in_format in_i32 in_u32 from_int from_float if_same converted pattern_bits convert_call literal_in format_of widened
literal_witnesses =
    let near = requests.rounded_nearest 10 (unit_of half) (2049 * 2 ^ 1074) (omega arith) (pow_pos 1050) in
    let is : IsFloat half large 64511 = requests.float_is half large (omega arith) refl in
    record {
      rounded_nearest = near;
      nearest_one = requests.nearest_one 10 (unit_of half) (2049 * 2 ^ 1074) (pow_pos 1050) near near;
      exact_stays = requests.exact_stays half 31743 (omega arith);
      order_kept = requests.order_kept half (2049 * 2 ^ 1074) (2050 * 2 ^ 1074) (omega arith) (mul-le-mul_right {m = 2049} {n = 2050} (2 ^ 1074) (omega arith));
      float_is = is;
      float_if = requests.float_if half large (omega arith) is;
      float_one = requests.float_one half large (omega arith) is is;
      convert_float = requests.convert_float 5 2049 4 half refl refl (λ e. omega (arith, e)) refl refl;
      convert_same = requests.convert_same 4 (2 ^ 40 + 31745) {s = f16} refl;
      convert_i32 = requests.convert_i32 (2 ^ 64 - 1) (2 ^ 32 - 1) (omega arith) refl;
      convert_i32_if = requests.convert_i32_if (2 ^ 32 - 1) (omega arith);
      convert_u32 = requests.convert_u32 7 7 (omega arith) refl;
      convert_u32_if = requests.convert_u32_if 7 (omega arith);
      convert_ranked = requests.convert_ranked 5 2049 4 {s = abstract_int} {t = f16} refl refl refl;
      ranked_convert = requests.ranked_convert 6 3 {s = abstract_float} {t = f32} refl refl refl;
      convert_bits = requests.convert_bits 5 (2 ^ 64 - 65519) 4 {t = f16} refl refl;
      convert_refuses = requests.convert_refuses 5 65520 4 refl;
    }
