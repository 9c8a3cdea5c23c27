-- Tests that hold wherever others do.
use Rattle.std.proofs.Common.{◌≡◌, List, [], ◌∷◌, Bool, true, false, true≢false, refl, sym, ◌∙◌}
use Rattle.std.specs.Prelude.{◌&&◌, ◌||◌}
use Rattle.std.specs.List.{list_any}

-- what follows from a test that fails
pub fails : (b c : Bool) → (b ≡ true → c ≡ true) → c ≡ false → b ≡ false
fails true c grows none = absurd (true≢false (sym (grows refl) ∙ none))
fails false c grows none = refl

pub left : (a b : Bool) → (a && b) ≡ true → a ≡ true
left true b e = refl
left false b e = e

pub right : (a b : Bool) → (a && b) ≡ true → b ≡ true
right true b e = e
right false b e = absurd (true≢false (sym e))

pub both : (a b : Bool) → a ≡ true → b ≡ true → (a && b) ≡ true
both true b e f = f
both false b e f = absurd (true≢false (sym e))

pub or_grows : (a b c : Bool) → (b ≡ true → c ≡ true) → (a || b) ≡ true → (a || c) ≡ true
or_grows true b c grows e = refl
or_grows false b c grows e = grows e

pub any_grows : {X : Type 0} (f g : X → Bool) → ((x : X) → g x ≡ true → f x ≡ true) → (xs : List X) → list_any g xs ≡ true → list_any f xs ≡ true
any_grows f g grows [] e = e
any_grows f g grows (x ∷ xs) e = at (g x) (f x) (grows x) (any_grows f g grows xs) e
  where
    at : (b c : Bool) → (b ≡ true → c ≡ true) → (list_any g xs ≡ true → list_any f xs ≡ true) → (b || list_any g xs) ≡ true → (c || list_any f xs) ≡ true
    at b true first rest h = refl
    at true false first rest h = absurd (true≢false (sym (first refl)))
    at false false first rest h = rest h
