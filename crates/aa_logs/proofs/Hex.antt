-- A name in hexadecimal digits, and another.
use Rattle.std.proofs.Common.{◌≡◌, ℕ, Bool, true, false, cond, List, Option, Some, None, ap, refl}
use Rattle.aa_base.specs.Hex.{is_hex, bytes_of_hex, digits_in}

some_is : (x y : List ℕ) → Some x ≡ Some y → x ≡ y
some_is x y e = ap (λ (o : Option (List ℕ)). of o) e
  where
    of : Option (List ℕ) → List ℕ
    of None = x
    of (Some z) = z

found : (t : Bool) (text digits bytes : List ℕ) → Some bytes ≡ cond t (Some digits) None → bytes ≡ cond t digits text
found true text digits bytes e = some_is bytes digits e
found false text digits bytes e = absurd cc

pub of_digits : (text bytes : List ℕ) → Some bytes ≡ digits_in text → bytes ≡ cond (is_hex text) (bytes_of_hex text) text
of_digits text bytes e = found (is_hex text) text (bytes_of_hex text) bytes e

kept : (t : Bool) (text digits : List ℕ) → None ≡ cond t (Some digits) None → text ≡ cond t digits text
kept true text digits e = absurd cc
kept false text digits e = refl

pub of_others : (text : List ℕ) → None ≡ digits_in text → text ≡ cond (is_hex text) (bytes_of_hex text) text
of_others text e = kept (is_hex text) text (bytes_of_hex text) e
