-- Requests for links at paths of which the rules say the same stand for each other.
use Rattle.std.proofs.Common.{◌≡◌, ℕ, ◌+◌, ◌<◌, ◌≤◌, List, [], ◌∷◌, ◌++◌, map, length, get_or, zero, suc, Bool, true, false}
use Rattle.std.proofs.Common.{Option, Some, None, Result, Ok, Err, IfOk, Contains, refl, sym, ap, ◌∙◌, subst, arith, ⊎_elim}
use Rattle.std.specs.List.{slice_get}
use Rattle.std.specs.Prelude.{option_map}
use Rattle.std.specs.Option.{option_eq}
use Rattle.std.proofs.lemmas.Bool.{cases_lt}
use Rattle.std.proofs.lemmas.List.{get_or_default}
use Rattle.std.proofs.lemmas.List.Elements.{All-cons, All-nil, Contains-append_left, Contains-append_right, Contains-push, Contains-push_cases}
use Rattle.std.proofs.lemmas.Option.{same_Some, slice_get_past}
use Rattle.aa_pattern.specs.declared.pattern.Pattern.{Pattern}
use Rattle.aa_model.specs.declared.rule.Exec.{Exec}
use Rattle.aa_model.specs.declared.rule.FileRule.{FileRule}
use Rattle.aa_model.specs.declared.policy.Policy.{Policy}
use Rattle.aa_model.specs.declared.policy.Profile.{Profile}
use Rattle.aa_model.specs.declared.label.Label.{Label}
use Rattle.aa_model.specs.declared.label.Label.TheVariants.{Unconfined, Confined}
use Rattle.aa_model.specs.declared.request.Request.{Request}
use Rattle.aa_model.specs.declared.request.Request.TheVariants.{File, Link, Exec as Execution, Cap, Net, Change, Reload}
use Rattle.aa_regions.specs.declared.regions.Region.{Region}
use Rattle.aa_regions.specs.Regions.{IsAsked, ArePathRegions}
use Rattle.aa_compile.specs.declared.sets.RuleSets.{RuleSets}
use Rattle.aa_compile.specs.declared.side.Verdict.{Verdict}
use Rattle.aa_compile.specs.FileRules.{file_verdict, chosen, way_of}
use Rattle.aa_compile.specs.Labels.{policy_number}
use Rattle.aa_compile.specs.Rows.{IsVerdictOf, patterns_of}
use Rattle.aa_compile.specs.Ways.{way_by}
use Rattle.aa_mediate.specs.Links.{same_exec, link_bits_of}
use Rattle.aa_mediate.specs.Reply.{kept, reply_at, reply_by, reply}
use Rattle.aa_compile.proofs.WayLemmas.{tells_apart}
use Rattle.aa_compile.proofs.Transitions.{Says, chosen_says}
use Rattle.aa_representatives.specs.declared.classes.Class.{Class}
use Rattle.aa_representatives.specs.Alike.{MatchAlike, deciding_at, deciding_by, deciding}
use Rattle.aa_representatives.specs.Askable.{IsLink}
use Rattle.aa_representatives.specs.Classes.{SayAlike, SayAlikeIn, SayAlikeBy, SayAlikeAt, IsClass, IsClassOf, AreClasses, ArePathsOf, AreLinkPaths}
use Rattle.aa_representatives.specs.Representatives.{AreRepresentatives, Adds, HasLinks}
use Rattle.aa_representatives.proofs.Adding.{adds_each, none_in}
use Rattle.aa_representatives.proofs.Matched.{verdict_alike, chosen_alike}
use Rattle.aa_representatives.proofs.Replied.{files_alike}
use Rattle.aa_representatives.proofs.Standing.{region_of}

abbrev pub link_at : List ℕ → List ℕ → Bool → Request
link_at s v owned = Link (record { link = s; target = v; owned = owned })

-- links between paths of which the same is said are answered alike
module _ (policies : List Policy) (s u v w : List ℕ) (owned : Bool) where
  said_at : (k : ℕ) (profiles : List Profile) (n : ℕ) (o : Option Profile) → SayAlikeIn o s u → SayAlikeIn o v w → reply_at policies k profiles n o (link_at s v owned) ≡ reply_at policies k profiles n o (link_at u w owned)
  said_at k profiles n (Some p) one other =
      let a = one owned in
      let b = other owned in
      let say : List ℕ → RuleSets = λ x. file_verdict p.files x owned in
      let way : List ℕ → Option Exec = λ x. way_of (chosen p.files x owned) in
      ap (λ (x : RuleSets). kept k n p (link_bits_of x (say v) (option_eq same_exec (way s) (way v)))) a.0
      ∙ ap (λ (x : RuleSets). kept k n p (link_bits_of (say u) x (option_eq same_exec (way s) (way v)))) b.0
      ∙ ap (λ (x : Option Exec). kept k n p (link_bits_of (say u) (say w) (option_eq same_exec x (way v)))) a.1
      ∙ ap (λ (x : Option Exec). kept k n p (link_bits_of (say u) (say w) (option_eq same_exec (way u) x))) b.1
  said_at k profiles n None one other = refl

  said_by : (label : Label) (o : Option Policy) → SayAlikeBy label o s u → SayAlikeBy label o v w → reply_by policies label o (link_at s v owned) ≡ reply_by policies label o (link_at u w owned)
  said_by (Unconfined k) (Some policy) one other = refl
  said_by (Confined k n) (Some policy) one other = said_at k policy.profiles n (slice_get policy.profiles n) one other
  said_by (Unconfined k) None one other = refl
  said_by (Confined k n) None one other = refl

  pub links_said_alike : (label : Label) → SayAlikeAt policies label s u → SayAlikeAt policies label v w → reply policies label (link_at s v owned) ≡ reply policies label (link_at u w owned)
  unfolding reply
  links_said_alike label one other = said_by label (slice_get policies (policy_number label)) one other

-- ways with one number are the same
numbers_same : (rules : List FileRule) (s t : Option Exec) → ((e : Exec) → s ≡ Some e → Says rules e) → ((e : Exec) → t ≡ Some e → Says rules e) → option_map (way_by rules) s ≡ option_map (way_by rules) t → s ≡ t
numbers_same rules None None f g e = refl
numbers_same rules None (Some t) f g e = absurd (let h = e in cc)
numbers_same rules (Some s) None f g e = absurd (let h = e in cc)
numbers_same rules (Some s) (Some t) f g e =
    let x = f s refl in
    let y = g t refl in
    ap Some (tells_apart rules x.rule y.rule s t x.in_rules y.in_rules x.says y.says (same_Some (way_by rules s) (way_by rules t) e))

-- two paths with one verdict
pub one_way : (rules : List FileRule) (s u : List ℕ) (owned : Bool) (x : Verdict) → IsVerdictOf (way_by rules) rules s owned x
    → IsVerdictOf (way_by rules) rules u owned x → way_of (chosen rules s owned) ≡ way_of (chosen rules u owned)
one_way rules s u owned x a b =
    numbers_same rules (way_of (chosen rules s owned)) (way_of (chosen rules u owned)) (λ e. chosen_says rules s owned e) (λ e. chosen_says rules u owned e) (sym a.way ∙ b.way)

say_from : (rules : List FileRule) (s u : List ℕ) (c : Class) → IsClassOf rules s c → IsClassOf rules u c → SayAlike rules s u
say_from rules s u c a b true = (sym a.owned.sets ∙ b.owned.sets, one_way rules s u true c.owned a.owned b.owned)
say_from rules s u c a b false = (sym a.other.sets ∙ b.other.sets, one_way rules s u false c.other a.other b.other)

pub say_then : (rules : List FileRule) (s u w : List ℕ) → SayAlike rules s u → SayAlike rules u w → SayAlike rules s w
say_then rules s u w f g owned = ((f owned).0 ∙ (g owned).0, (f owned).1 ∙ (g owned).1)

-- what holds of the first elements, and of one more
pub elements_more : {X : Type 0} (xs : List X) (i : ℕ) (x : X) (P Q : X → Type 0) → i < length xs → x ≡ get_or xs i x → ((y : X) → P y → Q y) → Q x → ((k : ℕ) (y : X) → k < i → get_or xs k y ≡ y → P y)
    → (k : ℕ) (y : X) → k < i + 1 → get_or xs k y ≡ y → Q y
elements_more xs i x P Q lt is on more before k y l e =
    ⊎_elim
    (λ (below : k < i). on y (before k y below e))
    (λ (above : i ≤ k).
    let same : i ≡ k = omega (arith, l, above) in
    subst Q (is ∙ get_or_default xs i x y lt ∙ ap (λ (n : ℕ). get_or xs n y) same ∙ e) more)
    (cases_lt k i)

path_in : (classes : List Class) (c : Class) → Contains classes c → Contains (map (λ (x : Class). x.path) classes) c.path
path_in [] c d = absurd (none_in c d)
path_in (q ∷ classes) c (zero, lt, e) = (0, omega arith, ap (λ (x : Class). x.path) e)
path_in (q ∷ classes) c (suc k, lt, e) = Contains-append_right (q.path ∷ []) (map (λ (x : Class). x.path) classes) c.path (path_in classes c (k, omega arith, e))

class_in : (classes : List Class) (s : List ℕ) → Contains (map (λ (x : Class). x.path) classes) s → (c : Class) × Contains classes c × (c.path ≡ s)
class_in [] s d = absurd (none_in s d)
class_in (q ∷ classes) s (zero, lt, e) = (q, Contains-append_left (q ∷ []) classes q (0, omega arith, refl), e)
class_in (q ∷ classes) s (suc k, lt, e) = let r = class_in classes s (k, omega arith, e) in (r.0, Contains-append_right (q ∷ []) classes r.0 r.1, r.2)

pub paths_are : (rules : List FileRule) (regions : List Region) (classes : List Class) → AreClasses rules regions (length regions) classes → ArePathsOf rules regions (map (λ (x : Class). x.path) classes)
paths_are rules regions classes are = record {
  each = λ s d. let c = class_in classes s d in subst IsAsked c.2 (are.each c.0 c.1).asked;
  all = λ r d.
      let c = are.all d.0 r d.1 d.2 in
      (c.0.path, path_in classes c.0 c.1, say_from rules r.witness c.0.path c.0 c.2 (are.each c.0 c.1).said);
}

-- the paths of a profile that is there
pub profile_paths : (policies : List Policy) (k n : ℕ) (policy : Policy) (p : Profile) (regions : List Region) (paths : List (List ℕ)) → slice_get policies k ≡ Some policy → slice_get policy.profiles n ≡ Some p
    → ArePathRegions (deciding policies (Confined k n)) regions → ArePathsOf p.files regions paths → AreLinkPaths policies (Confined k n) paths
profile_paths policies k n policy p regions paths there is are of = record {
  each = of.each;
  all = λ s asked.
      let r = region_of (deciding policies (Confined k n)) regions are s asked in
      let decides : deciding policies (Confined k n) ≡ deciding_at policy.profiles n (Some p) = decided_by (slice_get policies k) there ∙ ap (deciding_at policy.profiles n) is in
      let alike : MatchAlike (patterns_of p.files) s r.0.witness = files_alike policy.profiles n p s r.0.witness (subst (λ (l : List Pattern). MatchAlike l s r.0.witness) decides r.2) in
      let same : SayAlike p.files s r.0.witness = λ owned. (verdict_alike s r.0.witness owned p.files alike, ap way_of (chosen_alike s r.0.witness owned p.files alike)) in
      let u = of.all r.0 r.1 in
      let said = say_then p.files s r.0.witness u.0 same u.2 in
      (u.0, u.1, says (slice_get policies k) there (slice_get policy.profiles n) is s u.0 said);
}
  where
    decided_by : (o : Option Policy) → o ≡ Some policy → deciding_by (Confined k n) o ≡ deciding_at policy.profiles n (slice_get policy.profiles n)
    decided_by o e = ap (deciding_by (Confined k n)) e

    says : (o : Option Policy) → o ≡ Some policy → (q : Option Profile) → q ≡ Some p → (s u : List ℕ) → SayAlike p.files s u → SayAlikeBy (Confined k n) o s u
    says o e q f s u said = subst (λ (x : Option Policy). SayAlikeBy (Confined k n) x s u) (sym e) (subst (λ (y : Option Profile). SayAlikeIn y s u) (sym is) said)

-- where nothing is said, one path serves
pub no_paths : (policies : List Policy) (label : Label) (paths : List (List ℕ)) → paths ≡ (47 ∷ []) ∷ [] → ((s u : List ℕ) → SayAlikeAt policies label s u) → AreLinkPaths policies label paths
no_paths policies label paths e says = record {
  each = λ s d. asked s (subst (λ (l : List (List ℕ)). Contains l s) e d);
  all = λ s a. (47 ∷ [], subst (λ (l : List (List ℕ)). Contains l (47 ∷ [])) (sym e) (0, omega arith, refl), says s (47 ∷ []));
}
  where
    slash : IsAsked (47 ∷ [])
    slash = (All-cons (λ b. b < 256) 47 [] (omega arith) (All-nil (λ b. b < 256)), refl)

    asked : (s : List ℕ) → Contains ((47 ∷ []) ∷ []) s → IsAsked s
    asked s d = ⊎_elim (λ (c : Contains [] s). absurd (none_in s c)) (λ (f : 47 ∷ [] ≡ s). subst IsAsked f slash) (Contains-push_cases [] (47 ∷ []) s d)

pub no_classes : (rules : List FileRule) (regions : List Region) (classes : List Class) → classes ≡ [] → AreClasses rules regions 0 classes
no_classes rules regions classes e = record {
  each = λ c d. absurd (none_in c (subst (λ (l : List Class). Contains l c) e d));
  all = λ k r lt f. absurd (omega (arith, lt));
}

-- a class that is made of a path
pub class_made : (rules : List FileRule) (x : Class) (path : List ℕ) → x.path ≡ path → IsAsked path → IsClassOf rules path x → IsClass rules x
class_made rules x path e asked said = record { asked = subst IsAsked (sym e) asked; said = subst (λ (s : List ℕ). IsClassOf rules s x) (sym e) said }

pub class_pushed : (rules : List FileRule) (was now : List Class) (x : Class) → now ≡ was ++ x ∷ [] → IsClass rules x → ((c : Class) → Contains was c → IsClass rules c) → (c : Class) → Contains now c → IsClass rules c
class_pushed rules was now x e is before c d =
    ⊎_elim (before c) (λ (f : x ≡ c). subst (IsClass rules) f is) (Contains-push_cases was x c (subst (λ (l : List Class). Contains l c) e d))

pub class_there : (was now : List Class) (x : Class) → now ≡ was ++ x ∷ [] → Contains now x
class_there was now x e = subst (λ (l : List Class). Contains l x) (sym e) (Contains-push was x)

pub some_profile : (profiles : List Profile) (n : ℕ) → n < length profiles → (p : Profile) × (slice_get profiles n ≡ Some p)
some_profile [] n lt = absurd (omega (arith, lt))
some_profile (p ∷ profiles) zero lt = (p, refl)
some_profile (p ∷ profiles) (suc n) lt = some_profile profiles n (omega (arith, lt))

pub label_paths : (policies : List Policy) (label : Label) (k n : ℕ) (policy : Policy) (p : Profile) (regions : List Region) (paths : List (List ℕ))
    → label ≡ Confined k n → slice_get policies k ≡ Some policy → slice_get policy.profiles n ≡ Some p
    → ArePathRegions (deciding policies label) regions → ArePathsOf p.files regions paths → AreLinkPaths policies label paths
label_paths policies label k n policy p regions paths e there is are of =
    subst (λ (l : Label). AreLinkPaths policies l paths) (sym e)
    (profile_paths policies k n policy p regions paths there is (subst (λ (l : Label). ArePathRegions (deciding policies l) regions) e are) of)

pub free_says : (policies : List Policy) (label : Label) (k : ℕ) → label ≡ Unconfined k → (s u : List ℕ) → SayAlikeAt policies label s u
free_says policies label k e s u = subst (λ (l : Label). SayAlikeAt policies l s u) (sym e) (free (slice_get policies k))
  where
    free : (o : Option Policy) → SayAlikeBy (Unconfined k) o s u
    free None = tt
    free (Some policy) = tt

pub absent_says : (policies : List Policy) (label : Label) (k n : ℕ) → label ≡ Confined k n → slice_get policies k ≡ None → (s u : List ℕ) → SayAlikeAt policies label s u
absent_says policies label k n e none s u =
    subst (λ (l : Label). SayAlikeAt policies l s u) (sym e) (subst (λ (o : Option Policy). SayAlikeBy (Confined k n) o s u) (sym none) tt)

pub missing_says : (policies : List Policy) (label : Label) (k n : ℕ) (policy : Policy) → label ≡ Confined k n → slice_get policies k ≡ Some policy
    → length policy.profiles ≤ n → (s u : List ℕ) → SayAlikeAt policies label s u
missing_says policies label k n policy e there past s u =
    subst (λ (l : Label). SayAlikeAt policies l s u) (sym e)
    (subst (λ (o : Option Policy). SayAlikeBy (Confined k n) o s u) (sym there)
    (subst (λ (o : Option Profile). SayAlikeIn o s u) (sym (slice_get_past policy.profiles n past)) tt))

module _ (policies : List Policy) (label : Label) (paths : List (List ℕ)) (are : AreLinkPaths policies label paths) (rs : List Request)
    (has : (s u : List ℕ) → Contains paths s → Contains paths u → HasLinks s u rs) where
  link_for : (r : Request) → IsLink r → (q : Request) × Contains rs q × (reply policies label r ≡ reply policies label q)
  link_for (Link l) asked =
      let a = are.all l.link asked.0 in
      let b = are.all l.target asked.1 in
      (link_at a.0 b.0 l.owned, has a.0 b.0 a.1 b.1 l.owned, links_said_alike policies l.link a.0 l.target b.0 l.owned label a.2 b.2)
  link_for (File f) asked = absurd asked
  link_for (Execution x) asked = absurd asked
  link_for (Cap c) asked = absurd asked
  link_for (Net f s) asked = absurd asked
  link_for (Change name) asked = absurd asked
  link_for (Reload m) asked = absurd asked

  pub links_stand : (none : List Request) → none ≡ [] → Adds IsLink none rs → AreRepresentatives policies label IsLink rs
  links_stand none e adds = record { each = adds_each IsLink none rs e adds; all = link_for }
