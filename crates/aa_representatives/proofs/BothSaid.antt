-- Paths of which the rules at two labels say the same.
use Rattle.std.proofs.Common.{◌≡◌, ℕ, ◌<◌, ◌≤◌, ◌+◌, ◌⊎◌, ⊎_elim, zero, suc, get_or, List, [], ◌∷◌, map, length, true, false, Option, Some, None, Contains, refl, sym, ap, ◌∙◌, subst, arith}
use Rattle.std.specs.List.{slice_get}
use Rattle.std.proofs.lemmas.List.Elements.{Contains-append_left, Contains-append_right}
use Rattle.std.proofs.lemmas.Option.{slice_get_past}
use Rattle.aa_model.specs.declared.rule.FileRule.{FileRule}
use Rattle.aa_model.specs.declared.policy.Policy.{Policy}
use Rattle.aa_model.specs.declared.policy.Profile.{Profile}
use Rattle.aa_model.specs.declared.label.Label.{Label}
use Rattle.aa_model.specs.declared.label.Label.TheVariants.{Unconfined, Confined}
use Rattle.aa_regions.specs.declared.regions.Region.{Region}
use Rattle.aa_regions.specs.Regions.{IsAsked, ArePathRegions}
use Rattle.aa_compile.specs.FileRules.{way_of}
use Rattle.aa_compile.specs.Labels.{policy_number}
use Rattle.aa_representatives.specs.declared.said.Said.{Said}
use Rattle.aa_representatives.specs.declared.said.SaidClass.{SaidClass}
use Rattle.aa_representatives.specs.Alike.{MatchAlike, deciding_at, deciding_by, deciding}
use Rattle.aa_representatives.specs.Both.{deciding_both, IsSaid, IsSaidIn, IsSaidBy, IsSaidAt, IsSaidAtBoth, AreSaidClasses, AreLinkPathsOfBoth}
use Rattle.aa_representatives.specs.Classes.{SayAlike, SayAlikeIn, SayAlikeBy, SayAlikeAt}
use Rattle.aa_representatives.proofs.Adding.{none_in}
use Rattle.aa_representatives.proofs.Linking.{one_way, say_then, elements_more}
use Rattle.aa_representatives.proofs.Matched.{verdict_alike, chosen_alike}
use Rattle.aa_representatives.proofs.Replied.{files_alike}
use Rattle.aa_representatives.proofs.Standing.{region_of}

-- the image of an element is among the images, and each is one
pub image_in : {X Y : Type 0} (f : X → Y) (xs : List X) (x : X) → Contains xs x → Contains (map f xs) (f x)
image_in f [] x c = absurd (none_in x c)
image_in f (q ∷ xs) x (zero, lt, e) = (0, omega arith, ap f e)
image_in f (q ∷ xs) x (suc k, lt, e) = Contains-append_right (f q ∷ []) (map f xs) (f x) (image_in f xs x (k, omega arith, e))

pub image_of : {X Y : Type 0} (f : X → Y) (xs : List X) (y : Y) → Contains (map f xs) y → (x : X) × Contains xs x × (f x ≡ y)
image_of f [] y c = absurd (none_in y c)
image_of f (q ∷ xs) y (zero, lt, e) = (q, Contains-append_left (q ∷ []) xs q (0, omega arith, refl), e)
image_of f (q ∷ xs) y (suc k, lt, e) = let r = image_of f xs y (k, omega arith, e) in (r.0, Contains-append_right (q ∷ []) xs r.0 r.1, r.2)

said_same : (rules : List FileRule) (s u : List ℕ) (x : Said) → IsSaid rules s x → IsSaid rules u x → SayAlike rules s u
said_same rules s u x a b true = (sym a.owned.sets ∙ b.owned.sets, one_way rules s u true x.owned a.owned b.owned)
said_same rules s u x a b false = (sym a.other.sets ∙ b.other.sets, one_way rules s u false x.other a.other b.other)

matched_same : (profiles : List Profile) (n : ℕ) (p : Profile) (s u : List ℕ) → MatchAlike (deciding_at profiles n (Some p)) s u → SayAlike p.files s u
matched_same profiles n p s u alike owned =
    let files = files_alike profiles n p s u alike in
    (verdict_alike s u owned p.files files, ap way_of (chosen_alike s u owned p.files files))

-- a path that is matched as one of which the same is said as of a third
through_in : (profiles : List Profile) (n : ℕ) (o : Option Profile) (s w u : List ℕ) (v : Option Said) → MatchAlike (deciding_at profiles n o) s w → IsSaidIn o w v → IsSaidIn o u v → SayAlikeIn o s u
through_in profiles n (Some p) s w u (Some x) alike a b = say_then p.files s w u (matched_same profiles n p s w alike) (said_same p.files w u x a b)
through_in profiles n (Some p) s w u None alike a b = absurd a
through_in profiles n None s w u v alike a b = tt

through_by : (label : Label) (o : Option Policy) (s w u : List ℕ) (v : Option Said) → MatchAlike (deciding_by label o) s w → IsSaidBy label o w v → IsSaidBy label o u v → SayAlikeBy label o s u
through_by (Confined k n) (Some policy) s w u v alike a b = through_in policy.profiles n (slice_get policy.profiles n) s w u v alike a b
through_by (Unconfined k) (Some policy) s w u v alike a b = tt
through_by (Confined k n) None s w u v alike a b = tt
through_by (Unconfined k) None s w u v alike a b = tt

pub through : (policies : List Policy) (label : Label) (s w u : List ℕ) (v : Option Said) → MatchAlike (deciding policies label) s w → IsSaidAt policies label w v → IsSaidAt policies label u v → SayAlikeAt policies label s u
through policies label s w u v alike a b = through_by label (slice_get policies (policy_number label)) s w u v alike a b

module _ (ps : List Policy) (l : Label) (qs : List Policy) (m : Label) where
  pub one_alike : (s u : List ℕ) → MatchAlike (deciding_both ps l qs m) s u → MatchAlike (deciding ps l) s u
  one_alike s u alike p c = alike p (Contains-append_left (deciding ps l) (deciding qs m) p c)

  pub other_alike : (s u : List ℕ) → MatchAlike (deciding_both ps l qs m) s u → MatchAlike (deciding qs m) s u
  other_alike s u alike p c = alike p (Contains-append_right (deciding ps l) (deciding qs m) p c)

  pub paths_said : (regions : List Region) (classes : List SaidClass) → ArePathRegions (deciding_both ps l qs m) regions → AreSaidClasses ps l qs m regions (length regions) classes
      → AreLinkPathsOfBoth ps l qs m (map (λ (c : SaidClass). c.path) classes)
  paths_said regions classes are of = record {
    each = λ s d. let c = image_of (λ (x : SaidClass). x.path) classes s d in subst IsAsked c.2 (of.each c.0 c.1).asked;
    all = λ s asked.
        let r = region_of (deciding_both ps l qs m) regions are s asked in
        let w = r.0.witness in
        let c = of.all r.1.0 r.0 r.1.1 r.1.2 in
        let own = of.each c.0 c.1 in
        let u = c.0.path in (
          u,
          image_in (λ (x : SaidClass). x.path) classes c.0 c.1,
          through ps l s w u c.0.one (one_alike s w r.2) c.2.one own.said.one,
          through qs m s w u c.0.other (other_alike s w r.2) c.2.other own.said.other,
        );
  }

  pub made_said : (path : List ℕ) (one other : Option Said) (c : SaidClass) → IsSaidAt ps l path one → IsSaidAt qs m path other → c.one ≡ one → c.other ≡ other → IsSaidAtBoth ps l qs m path c
  made_said path one other c a b e f = record { one = subst (λ (v : Option Said). IsSaidAt ps l path v) (sym e) a; other = subst (λ (v : Option Said). IsSaidAt qs m path v) (sym f) b }

  pub classes_more : (regions : List Region) (i : ℕ) (r : Region) (was now : List SaidClass) (path : List ℕ) (one other : Option Said) → i < length regions → r ≡ get_or regions i r → path ≡ r.witness → IsAsked r.witness
      → IsSaidAt ps l path one → IsSaidAt qs m path other
      → ((c : SaidClass) → Contains was c → Contains now c)
      → ((c : SaidClass) → Contains now c → Contains was c ⊎ ((c.path ≡ path) × (c.one ≡ one) × (c.other ≡ other)))
      → ((c : SaidClass) × Contains now c × (c.one ≡ one) × (c.other ≡ other))
      → AreSaidClasses ps l qs m regions i was → AreSaidClasses ps l qs m regions (i + 1) now
  classes_more regions i r was now path one other lt is at asked a b kept each has before = record {
    each = λ c d. ⊎_elim (before.each c)
        (λ (e : (c.path ≡ path) × (c.one ≡ one) × (c.other ≡ other)).
        record { asked = subst IsAsked (sym (e.0 ∙ at)) asked; said = subst (λ (x : List ℕ). IsSaidAtBoth ps l qs m x c) (sym e.0) (made_said path one other c a b e.1 e.2) })
        (each c d);
    all = elements_more regions i r (λ (q : Region). (c : SaidClass) × Contains was c × IsSaidAtBoth ps l qs m q.witness c) (λ (q : Region). (c : SaidClass) × Contains now c × IsSaidAtBoth ps l qs m q.witness c) lt is
        (λ q h. (h.0, kept h.0 h.1, h.2))
        (has.0, has.1, subst (λ (x : List ℕ). IsSaidAtBoth ps l qs m x has.0) at (made_said path one other has.0 a b has.2 has.3)) before.all;
  }

  pub no_classes : (regions : List Region) (classes : List SaidClass) → classes ≡ [] → AreSaidClasses ps l qs m regions 0 classes
  no_classes regions classes e = record {
    each = λ c d. absurd (none_in c (subst (λ (x : List SaidClass). Contains x c) e d));
    all = λ k r lt f. absurd (omega (arith, lt));
  }

-- what is said at labels of each kind
pub said_free : (policies : List Policy) (label : Label) (k : ℕ) (path : List ℕ) (v : Option Said) → label ≡ Unconfined k → IsSaidAt policies label path v
said_free policies label k path v e = subst (λ (l : Label). IsSaidAt policies l path v) (sym e) (free (slice_get policies k))
  where
    free : (o : Option Policy) → IsSaidBy (Unconfined k) o path v
    free None = tt
    free (Some policy) = tt

pub said_absent : (policies : List Policy) (label : Label) (k n : ℕ) (path : List ℕ) (v : Option Said) → label ≡ Confined k n → slice_get policies k ≡ None → IsSaidAt policies label path v
said_absent policies label k n path v e none =
    subst (λ (l : Label). IsSaidAt policies l path v) (sym e) (subst (λ (o : Option Policy). IsSaidBy (Confined k n) o path v) (sym none) tt)

pub said_missing : (policies : List Policy) (label : Label) (k n : ℕ) (policy : Policy) (path : List ℕ) (v : Option Said) → label ≡ Confined k n → slice_get policies k ≡ Some policy → length policy.profiles ≤ n
    → IsSaidAt policies label path v
said_missing policies label k n policy path v e there past =
    subst (λ (l : Label). IsSaidAt policies l path v) (sym e)
    (subst (λ (o : Option Policy). IsSaidBy (Confined k n) o path v) (sym there)
    (subst (λ (o : Option Profile). IsSaidIn o path v) (sym (slice_get_past policy.profiles n past)) tt))

pub said_there : (policies : List Policy) (label : Label) (k n : ℕ) (policy : Policy) (p : Profile) (path : List ℕ) (x : Said) → label ≡ Confined k n
    → slice_get policies k ≡ Some policy → slice_get policy.profiles n ≡ Some p
    → IsSaid p.files path x → IsSaidAt policies label path (Some x)
said_there policies label k n policy p path x e there is said =
    subst (λ (l : Label). IsSaidAt policies l path (Some x)) (sym e)
    (subst (λ (o : Option Policy). IsSaidBy (Confined k n) o path (Some x)) (sym there)
    (subst (λ (o : Option Profile). IsSaidIn o path (Some x)) (sym is) said))
