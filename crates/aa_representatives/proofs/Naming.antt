-- Names that the same patterns match, of those that tell names apart, name the same.
use Rattle.std.proofs.Common.{◌≡◌, ℕ, zero, suc, ◌+◌, List, [], ◌∷◌, length, Bool, cond, Option, Some, None, Contains, refl, ap, ◌∙◌, arith}
use Rattle.std.specs.Prelude.{not, nat_lt, codes, option_map, position}
use Rattle.std.specs.List.{slice_get, prefix_len}
use Rattle.std.specs.Option.{option_and_then, option_map_or}
use Rattle.std.specs.Str.{bytes_eq}
use Rattle.std.proofs.lemmas.List.Elements.{Contains-append_left, Contains-append_right}
use Rattle.aa_model.specs.Lawful.{names_of}
use Rattle.aa_model.specs.declared.policy.Policy.{Policy}
use Rattle.aa_model.specs.declared.policy.Profile.{Profile}
use Rattle.aa_model.specs.declared.label.Label.{Label}
use Rattle.aa_model.specs.declared.label.Label.TheVariants.{Unconfined, Confined}
use Rattle.aa_compile.specs.Labels.{policy_number, label_in}
use Rattle.aa_compile.specs.Transitions.{named}
use Rattle.aa_representatives.specs.Alike.{NameAlike}
use Rattle.aa_representatives.specs.Names.{profiles_at, told_apart}
use Rattle.aa_representatives.proofs.Adding.{none_in}

module _ {X : Type 0} (f g : X → Bool) where
  prefix_in : (xs : List X) → ((x : X) → Contains xs x → f x ≡ g x) → prefix_len (λ x. not (f x)) xs ≡ prefix_len (λ x. not (g x)) xs
  prefix_in [] agree = refl
  prefix_in (x ∷ xs) agree =
      ap (λ (b : Bool). cond (not b) (1 + prefix_len (λ y. not (f y)) xs) 0) (agree x (Contains-append_left (x ∷ []) xs x (0, omega arith, refl)))
      ∙ ap (λ (n : ℕ). cond (not (g x)) (1 + n) 0) (prefix_in xs (λ y c. agree y (Contains-append_right (x ∷ []) xs y c)))

  position_in : (xs : List X) → ((x : X) → Contains xs x → f x ≡ g x) → position f xs ≡ position g xs
  position_in xs agree = ap (λ (n : ℕ). cond (nat_lt n (length xs)) (Some n) None) (prefix_in xs agree)

name_in : (profiles : List Profile) (p : Profile) → Contains profiles p → Contains (names_of profiles) p.name
name_in [] p c = absurd (none_in p c)
name_in (q ∷ profiles) p (zero, lt, e) = (0, omega arith, ap (λ (x : Profile). x.name) e)
name_in (q ∷ profiles) p (suc k, lt, e) = Contains-append_right (q.name ∷ []) (names_of profiles) p.name (name_in profiles p (k, omega arith, e))

abbrev Tells : List Profile → List ℕ → List ℕ → Type 0
Tells profiles s u = (n : List ℕ) → Contains (told_apart profiles) n → bytes_eq s n ≡ bytes_eq u n

named_alike : (profiles : List Profile) (s u : List ℕ) → Tells profiles s u → named profiles s ≡ named profiles u
named_alike profiles s u tells =
    position_in (λ (p : Profile). bytes_eq s p.name) (λ (p : Profile). bytes_eq u p.name) profiles
    (λ p c. tells p.name (Contains-append_right ([] ∷ codes "unconfined" ∷ []) (names_of profiles) p.name (name_in profiles p c)))

by_policy : (k : ℕ) (o : Option Policy) (s u : List ℕ) → Tells (option_map_or (λ (p : Policy). p.profiles) o []) s u → option_and_then (label_in k s) o ≡ option_and_then (label_in k u) o
by_policy k None s u tells = refl
by_policy k (Some policy) s u tells =
    ap (λ (b : Bool). cond b (Some (Unconfined k)) (option_map (Confined k) (named policy.profiles s))) (tells (codes "unconfined") (1, omega arith, refl))
    ∙ ap (λ (o : Option ℕ). cond (bytes_eq u (codes "unconfined")) (Some (Unconfined k)) (option_map (Confined k) o)) (named_alike policy.profiles s u tells)

pub names_alike : (policies : List Policy) (label : Label) (s u : List ℕ) → Tells (profiles_at policies label) s u → NameAlike policies label s u
names_alike policies label s u tells = by_policy (policy_number label) (slice_get policies (policy_number label)) s u tells
