-- Attachment patterns are counted below each parent.
use Rattle.std.proofs.Common.{◌≡◌, ℕ, ◌≤◌, List, [], ◌∷◌, length, true, Option, Some, None, refl, ap, subst, ◌∙◌, arith}
use Rattle.std.specs.Prelude.{if◌then◌else◌}
use Rattle.std.specs.List.{AllZip, sum_by}
use Rattle.std.specs.Option.{option_eq}
use Rattle.std.specs.Bool.{nat_eq}
use Rattle.std.proofs.lemmas.Bool.{eqb-true}
use Rattle.std.proofs.lemmas.List.Elements.{length_all_zip}
use Rattle.std.proofs.lemmas.List.Sums.{sum_by-cons}
use Rattle.aa_model.specs.declared.policy.Profile.{Profile}
use Rattle.aa_model.specs.Lawful.{attachments_with, attachment_patterns}
use Rattle.aa_policy.specs.Sameness.{SameProfile}

-- ---- parents that compare equal are one

pub same_parent : (p q : Option ℕ) → option_eq nat_eq p q ≡ true → p ≡ q
same_parent None None e = refl
same_parent None (Some n) e = absurd cc
same_parent (Some m) None e = absurd cc
same_parent (Some m) (Some n) e = ap (λ (k : ℕ). Some k) (eqb-true m n e)

-- ---- what is the same of profiles that are the same

pub same_sum : {X : Type 0} (f : X → ℕ) (R : X → X → Type 0) → ((x y : X) → R x y → f x ≡ f y) → (xs ys : List X) → AllZip R xs ys → sum_by f xs ≡ sum_by f ys
same_sum f R e [] [] h = refl
same_sum f R e [] (y ∷ ys) h = absurd h
same_sum f R e (x ∷ xs) [] h = absurd h
same_sum f R e (x ∷ xs) (y ∷ ys) h =
    let here = e x y h.0 in
    let rest = same_sum f R e xs ys h.1 in
    let one = sum_by-cons f x xs in
    let other = sum_by-cons f y ys in
    omega (arith, here, rest, one, other)

same_with : (parent : Option ℕ) (p q : Profile) → SameProfile p q → attachments_with parent p ≡ attachments_with parent q
same_with parent p q s =
    ap (λ (o : Option ℕ). if option_eq nat_eq o parent then length p.attachments else 0) s.parent
    ∙ ap (λ (n : ℕ). if option_eq nat_eq q.parent parent then n else 0) (length_all_zip _ p.attachments q.attachments s.attachments)

pub same_attachments : (parent : Option ℕ) (ps qs : List Profile) → AllZip SameProfile ps qs → attachment_patterns parent ps ≡ attachment_patterns parent qs
same_attachments parent ps qs h = same_sum (attachments_with parent) SameProfile (same_with parent) ps qs h

pub same_few : (ps qs : List Profile) → AllZip SameProfile ps qs → ((parent : Option ℕ) → attachment_patterns parent ps ≤ 65535) → (parent : Option ℕ) → attachment_patterns parent qs ≤ 65535
same_few ps qs h few parent = subst (λ (n : ℕ). n ≤ 65535) (same_attachments parent ps qs h) (few parent)
