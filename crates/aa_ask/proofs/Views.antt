-- What is found among the rules of a verdict, and among what it says that no rule allows.
use Rattle.std.proofs.Common.{◌≡◌, List, [], ◌∷◌, map, refl, ap, Bool, ◌||◌}
use Rattle.std.specs.List.{list_any}
use Rattle.aa_ask.specs.declared.explained.DeciderLine.{DeciderLine}
use Rattle.aa_ask.specs.declared.explained.Lack.{Lack}
use Rattle.aa_ask.specs.Named.{Named, Lacked, named, lacked}

any_of_map : {A B : Type 0} (p : B → Bool) (f : A → B) (xs : List A) → list_any p (map f xs) ≡ list_any (λ x. p (f x)) xs
any_of_map p f [] = refl
any_of_map p f (x ∷ xs) = ap (λ (b : Bool). p (f x) || b) (any_of_map p f xs)

pub any_denies : (lines : List DeciderLine) → list_any (λ (n : Named). n.denies) (map named lines) ≡ list_any (λ (l : DeciderLine). l.denies) lines
any_denies lines = any_of_map (λ (n : Named). n.denies) named lines

pub any_at_target : (lines : List DeciderLine) → list_any (λ (n : Named). n.is_target) (map named lines) ≡ list_any (λ (l : DeciderLine). l.is_target) lines
any_at_target lines = any_of_map (λ (n : Named). n.is_target) named lines

pub any_lack_at_target : (lacks : List Lack) → list_any (λ (k : Lacked). k.is_target) (map lacked lacks) ≡ list_any (λ (k : Lack). k.is_target) lacks
any_lack_at_target lacks = any_of_map (λ (k : Lacked). k.is_target) lacked lacks
