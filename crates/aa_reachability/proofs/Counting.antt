-- How many patterns decide at a label.
use Rattle.std.proofs.Common.{◌≡◌, ◌≤◌, ◌<◌, ◌+◌, ◌*◌, ℕ, suc, List, [], ◌∷◌, ◌++◌, map, length, Bool, true, false, cond, Option, Some, None, refl, sym, ap, ◌∙◌, subst}
use Rattle.std.proofs.Common.{arith, length-append}
use Rattle.std.specs.List.{flat_map, slice_get, sum_by}
use Rattle.std.specs.Option.{option_map_or, option_and_then}
use Rattle.std.proofs.lemmas.List.{length-map}
use Rattle.std.proofs.lemmas.List.Sums.{sum_by-cons}
use Rattle.aa_pattern.specs.declared.pattern.Pattern.{Pattern}
use Rattle.aa_model.specs.declared.policy.Policy.{Policy}
use Rattle.aa_model.specs.declared.policy.Profile.{Profile}
use Rattle.aa_model.specs.declared.label.Label.{Label}
use Rattle.aa_model.specs.declared.label.Label.TheVariants.{Unconfined, Confined}
use Rattle.aa_model.specs.Lawful.{attachments_with, attachment_patterns, has_parent}
use Rattle.aa_compile.specs.Rows.{patterns_of}
use Rattle.aa_compile.specs.Attached.{at_number, attachments_at, attachments_by, numbers_below, pattern_of}
use Rattle.aa_compile.specs.Checks.{attached_patterns}
use Rattle.aa_compile.specs.Transitions.{tops, children}
use Rattle.aa_compile.specs.Labels.{profile_in}
use Rattle.aa_representatives.specs.Alike.{deciding, deciding_by, deciding_at, changing, changing_by, changing_at}
use Rattle.aa_reachability.specs.declared.extent.Extent.{Extent}
use Rattle.aa_reachability.specs.Extents.{IsExtent, IsFewAt}

module _ (get : ℕ → Option Profile) (parent : Option ℕ) where
  abbrev got : ℕ → List Pattern
  got n = option_map_or (λ (p : Profile). p.attachments) (get n) []

  abbrev numbered : ℕ → List (ℕ × Pattern)
  numbered n = map (at_number n) (got n)

  many : (rest : List Profile) (k : ℕ) → ((i n : ℕ) → n ≡ k + i → get n ≡ slice_get rest i)
      → length (flat_map numbered (numbers_below parent k rest)) ≡ sum_by (attachments_with parent) rest
  many [] k gets = refl
  many (p ∷ rest) k gets =
      let here : length (numbered k) ≡ length p.attachments =
      length-map (got k) (at_number k) ∙ ap (λ o. length (option_map_or (λ (p : Profile). p.attachments) o [])) (gets 0 k (omega arith)) in
      let later = many rest (suc k) (λ i n e. gets (suc i) n (omega (arith, e))) in
      at (has_parent parent p) here later ∙ sym (sum_by-cons (attachments_with parent) p rest)
    where
      at : (b : Bool) → length (numbered k) ≡ length p.attachments
          → length (flat_map numbered (numbers_below parent (suc k) rest)) ≡ sum_by (attachments_with parent) rest
          → length (flat_map numbered (cond b (k ∷ numbers_below parent (suc k) rest) (numbers_below parent (suc k) rest)))
          ≡ cond b (length p.attachments) 0 + sum_by (attachments_with parent) rest
      at true here later = omega (arith, length-append (numbered k) (flat_map numbered (numbers_below parent (suc k) rest)), here, later)
      at false here later = omega (arith, later)

many_attached : (profiles : List Profile) (parent : Option ℕ)
    → length (attached_patterns profiles (numbers_below parent 0 profiles)) ≡ attachment_patterns parent profiles
many_attached profiles parent =
    length-map (attachments_by profiles (numbers_below parent 0 profiles)) pattern_of
    ∙ many (slice_get profiles) parent profiles 0 (λ i n e. let f : n ≡ i = omega (arith, e) in ap (slice_get profiles) f)

many_deciding : (profiles : List Profile) (n a : ℕ) (p : Profile) → ((parent : Option ℕ) → attachment_patterns parent profiles ≤ a)
    → length (deciding_at profiles n (Some p)) ≤ length (patterns_of p.files) + 2 * a
many_deciding profiles n a p most =
    let files = patterns_of p.files in
    let above = attached_patterns profiles (tops profiles) in
    let below = attached_patterns profiles (children profiles n) in
    omega (arith, length-append (files ++ above) below, length-append files above, many_attached profiles None, many_attached profiles (Some n), most None, most (Some n))

-- a profile that is there is that of a policy that is there
pub in_policy : (o : Option Policy) (n : ℕ) (p : Profile) → option_and_then (λ (q : Policy). slice_get q.profiles n) o ≡ Some p
    → (policy : Policy) × (o ≡ Some policy) × (slice_get policy.profiles n ≡ Some p)
in_policy (Some policy) n p e = (policy, refl, e)
in_policy None n p e = absurd (let f : None ≡ Some p = e in cc)

pub few_at : (ps : List Policy) (e : Extent) (n : ℕ) (p : Profile) → IsExtent ps e → profile_in ps e.policy n ≡ Some p → e.attachments < 65536
    → length (patterns_of p.files) + 2 * e.attachments ≤ 65535 → IsFewAt ps (Confined e.policy n) p
few_at ps e n p extent at low few =
    let there = in_policy (slice_get ps e.policy) n p at in
    let policy = there.0 in
    let most : (parent : Option ℕ) → attachment_patterns parent policy.profiles ≤ e.attachments = λ parent. extent.most policy parent there.1 low in
    let it : length (deciding_by (Confined e.policy n) (Some policy)) ≤ length (patterns_of p.files) + 2 * e.attachments =
    subst (λ (o : Option Profile). length (deciding_at policy.profiles n o) ≤ length (patterns_of p.files) + 2 * e.attachments) (sym there.2)
    (many_deciding policy.profiles n e.attachments p most) in
    let all : length (deciding ps (Confined e.policy n)) ≤ length (patterns_of p.files) + 2 * e.attachments =
    subst (λ (o : Option Policy). length (deciding_by (Confined e.policy n) o) ≤ length (patterns_of p.files) + 2 * e.attachments) (sym there.1) it in
    record { at = at; few = omega (arith, all, few) }

-- the patterns of its rules on changes are those at the label
changing_of : (o : Option Policy) (k n : ℕ) → changing_by (Confined k n) o ≡ changing_at (option_and_then (λ (p : Policy). slice_get p.profiles n) o)
changing_of (Some policy) k n = refl
changing_of None k n = refl

pub changing_in : (ps : List Policy) (k n : ℕ) → changing ps (Confined k n) ≡ changing_at (profile_in ps k n)
changing_in ps k n = changing_of (slice_get ps k) k n

changing_free : (o : Option Policy) (k : ℕ) → changing_by (Unconfined k) o ≡ []
changing_free (Some policy) k = refl
changing_free None k = refl

pub changing_none : (ps : List Policy) (k : ℕ) → changing ps (Unconfined k) ≡ []
changing_none ps k = changing_free (slice_get ps k) k
