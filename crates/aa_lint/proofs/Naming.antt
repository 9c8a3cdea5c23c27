-- Elements of lists that pass a test.
use Rattle.std.proofs.Common.{◌≡◌, List, [], ◌∷◌, refl, ap, Bool, map}
use Rattle.std.specs.Prelude.{◌||◌}
use Rattle.std.specs.List.{list_any}

-- some value passes the test where what is made of it does
pub any_map : {A B : Type 0} (f : B → Bool) (g : A → B) (xs : List A) → list_any (λ x. f (g x)) xs ≡ list_any f (map g xs)
any_map f g [] = refl
any_map f g (x ∷ xs) = ap (λ (b : Bool). f (g x) || b) (any_map f g xs)
