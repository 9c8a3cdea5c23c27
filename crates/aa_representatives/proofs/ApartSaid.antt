-- Paths of which the rules at two labels say the same, and which of them one more pattern matches.
use Rattle.std.proofs.Common.{◌≡◌, ℕ, ◌⊎◌, inl, inr, ⊎_elim, List, [], ◌∷◌, ◌++◌, map}
use Rattle.std.proofs.Common.{Bool, true, false, Option, Contains, refl, sym, ◌∙◌, subst, arith}
use Rattle.std.specs.Prelude.{not}
use Rattle.std.specs.Bool.{beq}
use Rattle.std.proofs.lemmas.List.Elements.{Contains-append_left, Contains-append_right}
use Rattle.aa_pattern.specs.declared.pattern.Pattern.{Pattern}
use Rattle.aa_pattern.specs.Matching.{is_match}
use Rattle.aa_model.specs.declared.policy.Policy.{Policy}
use Rattle.aa_model.specs.declared.label.Label.{Label}
use Rattle.aa_regions.specs.declared.regions.Region.{Region}
use Rattle.aa_regions.specs.Regions.{IsAsked, ArePathRegions}
use Rattle.aa_representatives.specs.declared.said.Said.{Said}
use Rattle.aa_representatives.specs.declared.said.SaidClass.{SaidClass}
use Rattle.aa_representatives.specs.Alike.{MatchAlike}
use Rattle.aa_representatives.specs.Both.{deciding_both, IsSaidAt, IsSaidAtBoth, IsSaidClass}
use Rattle.aa_representatives.specs.Apart.{IsClassApart, HasClassApart, AreLinkPathsApart}
use Rattle.aa_representatives.proofs.BothSaid.{image_in, image_of, through, made_said, one_alike, other_alike}
use Rattle.aa_representatives.proofs.Standing.{region_of}

alike : (a b : Bool) → not (beq a b) ≡ false → a ≡ b
alike true true e = refl
alike true false e = absurd cc
alike false true e = absurd cc
alike false false e = refl

-- the path has one of these classes
abbrev pub HasClassAt : List Policy → Label → List Policy → Label → List SaidClass → List ℕ → Type 0
HasClassAt ps l qs m classes path = (c : SaidClass) × Contains classes c × IsSaidAtBoth ps l qs m path c

-- paths that all patterns match alike
module _ (patterns : List Pattern) (p : Pattern) where
  pub alike_front : (s u : List ℕ) → MatchAlike (patterns ++ p ∷ []) s u → MatchAlike patterns s u
  alike_front s u alike q c = alike q (Contains-append_left patterns (p ∷ []) q c)

  pub alike_last : (s u : List ℕ) → MatchAlike (patterns ++ p ∷ []) s u → is_match p.items.items s ≡ is_match p.items.items u
  alike_last s u alike = alike p (Contains-append_right patterns (p ∷ []) p (0, omega arith, refl))

module _ (ps : List Policy) (l : Label) (qs : List Policy) (m : Label) (p : Pattern) where
  pub paths_apart : (regions : List Region) (classes : List SaidClass) → ArePathRegions (deciding_both ps l qs m ++ p ∷ []) regions
      → ((c : SaidClass) → Contains classes c → IsSaidClass ps l qs m c)
      → ((r : Region) → Contains regions r → HasClassApart ps l qs m p classes r.witness)
      → AreLinkPathsApart ps l qs m p (map (λ (c : SaidClass). c.path) classes)
  paths_apart regions classes are each all = record {
    each = λ s d. let c = image_of (λ (x : SaidClass). x.path) classes s d in subst IsAsked c.2 (each c.0 c.1).asked;
    all = λ s asked.
        let r = region_of (deciding_both ps l qs m ++ p ∷ []) regions are s asked in
        let w = r.0.witness in
        let alike = alike_front (deciding_both ps l qs m) p s w r.2 in
        let has = all r.0 r.1 in
        let c = has.class in
        let own = each c has.there in
        let u = c.path in (
          u,
          image_in (λ (x : SaidClass). x.path) classes c has.there,
          through ps l s w u c.one (one_alike ps l qs m s w alike) has.said.one own.said.one,
          through qs m s w u c.other (other_alike ps l qs m s w alike) has.said.other own.said.other,
          λ e. alike_last (deciding_both ps l qs m) p s w r.2 ∙ has.matched e,
        );
  }

  -- the class of a path that the pattern matches as is wanted
  made_class : (is : Bool) (path : List ℕ) (one other : Option Said) (c : SaidClass) → IsAsked path
      → is_match p.items.items path ≡ is → IsSaidAt ps l path one → IsSaidAt qs m path other
      → c.path ≡ path → c.one ≡ one → c.other ≡ other → IsClassApart ps l qs m p is c
  made_class is path one other c asked matched a b at e f = record {
    class = record {
      asked = subst IsAsked (sym at) asked;
      said = subst (λ (x : List ℕ). IsSaidAtBoth ps l qs m x c) (sym at) (made_said ps l qs m path one other c a b e f);
    };
    matched = subst (λ (x : List ℕ). is_match p.items.items x ≡ is) (sym at) matched;
  }

  pub each_with : (is : Bool) (was now : List SaidClass) (path : List ℕ) (found : Bool) (one other : Option Said)
      → IsAsked path → found ≡ is_match p.items.items path → not (beq found is) ≡ false → IsSaidAt ps l path one → IsSaidAt qs m path other
      → ((c : SaidClass) → Contains now c → Contains was c ⊎ ((c.path ≡ path) × (c.one ≡ one) × (c.other ≡ other)))
      → (c : SaidClass) → Contains now c → Contains was c ⊎ IsClassApart ps l qs m p is c
  each_with is was now path found one other asked matched wanted a b each c d =
      ⊎_elim inl
      (λ (e : (c.path ≡ path) × (c.one ≡ one) × (c.other ≡ other)).
      inr (made_class is path one other c asked (sym matched ∙ alike found is wanted) a b e.0 e.1 e.2))
      (each c d)

  -- the classes of paths that the pattern doesn't match, and then those of paths that it matches
  module _ (none some all : List SaidClass) (empty : none ≡ []) (kept : (c : SaidClass) → Contains some c → Contains all c)
      (each_some : (c : SaidClass) → Contains some c → Contains none c ⊎ IsClassApart ps l qs m p false c)
      (each_all : (c : SaidClass) → Contains all c → Contains some c ⊎ IsClassApart ps l qs m p true c) where
    unmatched : (c : SaidClass) → Contains some c → IsClassApart ps l qs m p false c
    unmatched c d = ⊎_elim (λ (e : Contains none c). absurd (nothing c (subst (λ (x : List SaidClass). Contains x c) empty e))) (λ i. i) (each_some c d)
      where
        nothing : (c : SaidClass) → Contains [] c → ⊥
        nothing c d = omega (arith, d.1)

    pub each_class : (c : SaidClass) → Contains all c → IsSaidClass ps l qs m c
    each_class c d = ⊎_elim (λ (e : Contains some c). (unmatched c e).class) (λ (i : IsClassApart ps l qs m p true c). i.class) (each_all c d)

    pub class_of : (path : List ℕ) → (is_match p.items.items path ≡ false → (c : SaidClass) × Contains some c × IsSaidAtBoth ps l qs m path c)
        → (is_match p.items.items path ≡ true → (c : SaidClass) × Contains all c × IsSaidAtBoth ps l qs m path c) → HasClassApart ps l qs m p all path
    class_of path of_unmatched of_matched = by (is_match p.items.items path) refl
      where
        by : (b : Bool) → is_match p.items.items path ≡ b → HasClassApart ps l qs m p all path
        by true e = let c = of_matched e in record { class = c.0; there = c.1; said = c.2; matched = λ _. e }
        by false e =
            let c = of_unmatched e in
            let is : is_match p.items.items c.0.path ≡ false = (unmatched c.0 c.1).matched in
            record { class = c.0; there = kept c.0 c.1; said = c.2; matched = λ f. absurd (let x : true ≡ false = sym f ∙ is in cc) }
