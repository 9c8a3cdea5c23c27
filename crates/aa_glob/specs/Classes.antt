-- What a class lists.
use Rattle.std.specs.Prelude.{ℕ, suc, zero, ◌&&◌, Bool, not, List, [], ◌∷◌, ◌++◌, length, if◌then◌else◌, nat_le, nat_lt, Option, Some, None}
use Rattle.std.specs.List.{list_any, list_all}
use Rattle.aa_glob.specs.declared.sign.Sign.{Sign}
use Rattle.aa_glob.specs.declared.sign.Range.{Range}
use Rattle.aa_pattern.specs.declared.item.Item.{Item, Class}
use Rattle.aa_glob.specs.Signs.{stands_for}

-- a dash between two signs of which none is a bare dash makes a range
abbrev pub is_range : Sign → Sign → Sign → Bool
is_range x dash y = stands_for 45 dash && not (stands_for 45 x) && not (stands_for 45 y)

-- the range of one byte
abbrev pub only : Sign → Range
only s = record { first = s.byte; last = s.byte }

-- the ranges that a class names, from left to right: every other sign stands for itself
unfoldable pub ranges : List Sign → List Range
ranges [] = []
ranges (x ∷ []) = only x ∷ []
ranges (x ∷ y ∷ []) = only x ∷ ranges (y ∷ [])
ranges (x ∷ y ∷ z ∷ rest) = if is_range x y z then record { first = x.byte; last = z.byte } ∷ ranges rest else only x ∷ ranges (y ∷ z ∷ rest)

-- its first byte is no larger than its last
abbrev pub is_rising : Range → Bool
is_rising r = nat_le r.first r.last

-- the byte is in the range
abbrev pub holds : ℕ → Range → Bool
holds b r = nat_le r.first b && nat_le b r.last

-- the class allows the byte
abbrev pub is_listed : Bool → List Range → ℕ → Bool
is_listed negated rs b = if negated then not (list_any (holds b) rs) else list_any (holds b) rs

-- for each byte below n, whether the class lists it
unfoldable pub flags_below : Bool → List Range → ℕ → List Bool
flags_below negated rs zero = []
flags_below negated rs (suc n) = flags_below negated rs n ++ is_listed negated rs n ∷ []

-- how many signs stand before the first ] that no backslash keeps
unfoldable pub class_len : List Sign → ℕ
class_len [] = 0
class_len (s ∷ ss) = if stands_for 93 s then 0 else suc (class_len ss)

-- the class with these signs in it
unfoldable pub class_of : Bool → List Sign → Option Item
class_of negated body = if nat_lt 0 (length body) && list_all is_rising (ranges body) then Some (Class (flags_below negated (ranges body) 256)) else None
