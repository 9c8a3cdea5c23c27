-- Numbers with a sign aren't among those of 64 bits without one.
use Rattle.std.proofs.Common.{◌≡◌, ◌^◌, ◌&&◌, ℤ, Bool, true, false, cond, Option, Some, None, option_and_then, Float, refl}
use Rattle.std.specs.Prelude.{nat_lt, nat_le}
use Rattle.std.specs.Float.{binary64, float_is_finite}
use Rattle.fast_float.specs.Text.{Parts, digits_of, nearest, with_sign}
use Rattle.serde_json.specs.Data.{Num, negative, float}
use Rattle.serde_json.specs.Find.{as_u64}
use Rattle.serde_json.specs.Read.{is_integer, float_of, number_from}

no_float : (b : Bool) (x : Float) → option_and_then as_u64 (cond b (Some (float x)) None) ≡ None
no_float true x = refl
no_float false x = refl

no_negative : (b : Bool) (z : ℤ) (o : Option Num) → option_and_then as_u64 o ≡ None → option_and_then as_u64 (cond b (Some (negative z)) o) ≡ None
no_negative true z o h = refl
no_negative false z o h = h

-- no text with a sign writes one
pub below_zero : (p : Parts) → option_and_then as_u64 (number_from true p) ≡ None
below_zero p = no_negative (is_integer p && nat_lt 0 (digits_of p) && nat_le (digits_of p) (2 ^ 63)) (with_sign true (digits_of p)) (float_of true p)
    (no_float (float_is_finite (nearest binary64 true p)) (nearest binary64 true p))
