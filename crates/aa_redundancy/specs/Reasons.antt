-- Why the rules of a place are redundant.
-- Source: own.
use Rattle.std.specs.Prelude.{◌≡◌, ℕ, ◌<◌, ◌==◌, List, Bool, true, false, not, ◌&&◌, ◌||◌, nat_lt, length, map}
use Rattle.std.specs.List.{list_any, All}
use Rattle.aa_redundancy.specs.declared.reasons.Reason.{Reason}
use Rattle.aa_redundancy.specs.Plain.{positions_from}

-- the number is one of these
abbrev pub is_one_of : List ℕ → ℕ → Bool
is_one_of ns n = list_any (λ m. n == m) ns

-- of so many places all but these are gone
abbrev pub all_but : ℕ → List ℕ → ℕ → Bool
all_but count ns n = nat_lt n count && not (is_one_of ns n)

-- so is one more
abbrev pub and_one : ℕ → (ℕ → Bool) → ℕ → Bool
and_one i gone n = gone n || n == i

-- one isn't
abbrev pub but_one : ℕ → (ℕ → Bool) → ℕ → Bool
but_one i gone n = gone n && not (n == i)

-- all others than one are
abbrev pub others_than : ℕ → ℕ → Bool
others_than i n = not (n == i)

-- beside the rules that aren't gone, those of one place change nothing
abbrev pub ChangesNothing : ((ℕ → Bool) → (ℕ → Bool) → Type 0) → ℕ → (ℕ → Bool) → Type 0
ChangesNothing Alike i gone = Alike gone (but_one i gone)

-- other places, of so many, beside whose rules alone those of the place change nothing, none of which can be left out; they say all that those of
-- the place say, or else they decide otherwise somewhere
pub record IsReason (Alike Within : (ℕ → Bool) → (ℕ → Bool) → Type 0) (count : ℕ) (r : Reason) : Type 0 where
  pub there : (n : ℕ) → is_one_of r.beside.items n ≡ true → n < count
  pub others : is_one_of r.beside.items r.place ≡ false
  pub suffice : ChangesNothing Alike r.place (all_but count r.beside.items)
  pub needed : (n : ℕ) → is_one_of r.beside.items n ≡ true → ChangesNothing Alike r.place (and_one n (all_but count r.beside.items)) → ⊥
  pub covered : r.is_covered ≡ true → Within (others_than r.place) (all_but count r.beside.items)
  pub overruled : r.is_covered ≡ false → Within (others_than r.place) (all_but count r.beside.items) → ⊥

-- one for each place that is marked, in order
pub record AreReasons (Alike Within : (ℕ → Bool) → (ℕ → Bool) → Type 0) (flags : List Bool) (rs : List Reason) : Type 0 where
  pub places : map (λ r. r.place) rs ≡ positions_from (λ (b : Bool). b) 0 flags
  pub each : All (IsReason Alike Within (length flags)) rs
