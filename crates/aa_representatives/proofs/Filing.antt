-- Requests to use files are answered by the file rules alone.
use Rattle.std.proofs.Common.{◌≡◌, ℕ, ◌≤◌, List, [], ◌∷◌, ◌++◌, length, Bool, Option, Some, None, refl, ap, subst, arith, length-append}
use Rattle.std.specs.Prelude.{slice_index_or}
use Rattle.std.specs.List.{slice_get}
use Rattle.std.specs.Option.{option_and_then}
use Rattle.std.proofs.lemmas.List.{append_assoc}
use Rattle.std.proofs.lemmas.List.Elements.{Contains-append_left, Contains-append_right}
use Rattle.aa_base.specs.declared.perms.Perms.{Perms}
use Rattle.aa_pattern.specs.declared.pattern.Pattern.{Pattern}
use Rattle.aa_pattern.specs.Places.{SamePlaces}
use Rattle.aa_auto.specs.Tables.{HasPlaces}
use Rattle.aa_auto.proofs.JoinLemmas.{SamePlaces-append}
use Rattle.aa_model.specs.declared.policy.Policy.{Policy}
use Rattle.aa_model.specs.declared.policy.Profile.{Profile}
use Rattle.aa_model.specs.declared.label.Label.{Label}
use Rattle.aa_model.specs.declared.label.Label.TheVariants.{Unconfined, Confined}
use Rattle.aa_model.specs.declared.request.Request.TheVariants.{File}
use Rattle.aa_compile.specs.declared.sets.RuleSets.{RuleSets}
use Rattle.aa_compile.specs.Rows.{patterns_of}
use Rattle.aa_compile.specs.Checks.{attached_patterns}
use Rattle.aa_compile.specs.Transitions.{tops, children}
use Rattle.aa_mediate.specs.Bits.{plain_bits, file_bits}
use Rattle.aa_mediate.specs.Reply.{kept, reply_at, reply_by, reply}
use Rattle.aa_representatives.specs.Alike.{MatchAlike, FilesAlike, deciding_at, deciding_by, deciding, filing_at, filing}
use Rattle.aa_representatives.specs.Both.{deciding_both, filing_both}
use Rattle.aa_representatives.proofs.Matched.{verdict_alike}
use Rattle.aa_representatives.proofs.Replied.{file_at}

module _ (policies : List Policy) (s u : List ℕ) where
  in_profile : (k n : ℕ) (p : Profile) → MatchAlike (patterns_of p.files) s u → (mask : Perms) (owned : Bool)
      → kept k n p (file_bits p.files (file_at s mask owned)) ≡ kept k n p (file_bits p.files (file_at u mask owned))
  in_profile k n p alike mask owned = ap (λ (v : RuleSets). kept k n p (plain_bits mask.0 v)) (verdict_alike s u owned p.files alike)

  at_profile : (k : ℕ) (profiles : List Profile) (n : ℕ) (o : Option Profile) → MatchAlike (filing_at o) s u → (mask : Perms) (owned : Bool)
      → reply_at policies k profiles n o (File (file_at s mask owned)) ≡ reply_at policies k profiles n o (File (file_at u mask owned))
  at_profile k profiles n (Some p) alike mask owned = in_profile k n p alike mask owned
  at_profile k profiles n None alike mask owned = refl

  by_policy : (k n : ℕ) (o : Option Policy) → MatchAlike (filing_at (option_and_then (λ (p : Policy). slice_get p.profiles n) o)) s u
      → (mask : Perms) (owned : Bool)
      → reply_by policies (Confined k n) o (File (file_at s mask owned)) ≡ reply_by policies (Confined k n) o (File (file_at u mask owned))
  by_policy k n (Some policy) alike mask owned = at_profile k policy.profiles n (slice_get policy.profiles n) alike mask owned
  by_policy k n None alike mask owned = refl

  free : (k : ℕ) (o : Option Policy) (mask : Perms) (owned : Bool)
      → reply_by policies (Unconfined k) o (File (file_at s mask owned)) ≡ reply_by policies (Unconfined k) o (File (file_at u mask owned))
  free k (Some policy) mask owned = refl
  free k None mask owned = refl

  pub files_by_rules : (label : Label) → MatchAlike (filing policies label) s u → FilesAlike policies label s u
  unfolding reply
  files_by_rules (Confined k n) alike mask owned = by_policy k n (slice_get policies k) alike mask owned
  files_by_rules (Unconfined k) alike mask owned = free k (slice_get policies k) mask owned

-- the patterns of the file rules stand first among those that decide
abbrev StandsFirst : List Pattern → List Pattern → Type 0
StandsFirst first all = (rest : List Pattern) × (all ≡ first ++ rest)

first_at : (profiles : List Profile) (n : ℕ) (o : Option Profile) → StandsFirst (filing_at o) (deciding_at profiles n o)
first_at profiles n (Some p) =
    let files = patterns_of p.files in
    let above = attached_patterns profiles (tops profiles) in
    let below = attached_patterns profiles (children profiles n) in
    (above ++ below, append_assoc files above below)
first_at profiles n None = ([], refl)

first_by : (k n : ℕ) (o : Option Policy)
    → StandsFirst (filing_at (option_and_then (λ (p : Policy). slice_get p.profiles n) o)) (deciding_by (Confined k n) o)
first_by k n (Some policy) = first_at policy.profiles n (slice_get policy.profiles n)
first_by k n None = ([], refl)

stands_first : (policies : List Policy) (label : Label) → StandsFirst (filing policies label) (deciding policies label)
stands_first policies (Confined k n) = first_by k n (slice_get policies k)
stands_first policies (Unconfined k) = (deciding policies (Unconfined k), refl)

-- texts that some patterns tell apart are told apart by those that tell as much
pub places_more : (ps qs : List Pattern) (n : ℕ) → ((s u : List ℕ) → SamePlaces qs s u → SamePlaces ps s u) → HasPlaces ps n → HasPlaces qs n
places_more ps qs n less h = record {
  texts = h.texts;
  many = h.many;
  bytes = h.bytes;
  apart = λ i j li lj same. h.apart i j li lj (less (slice_index_or h.texts i []) (slice_index_or h.texts j []) same);
}

same_first : (first all : List Pattern) (s u : List ℕ) → StandsFirst first all → SamePlaces all s u → SamePlaces first s u
same_first first all s u is same = ((SamePlaces-append first is.0 s u).0 (subst (λ (ps : List Pattern). SamePlaces ps s u) is.1 same)).0

same_both : (ps qs others more : List Pattern) (s u : List ℕ)
    → (SamePlaces ps s u → SamePlaces qs s u) → (SamePlaces others s u → SamePlaces more s u)
    → SamePlaces (ps ++ others) s u → SamePlaces (qs ++ more) s u
same_both ps qs others more s u f g same =
    let parts = (SamePlaces-append ps others s u).0 same in
    (SamePlaces-append qs more s u).1 (f parts.0, g parts.1)

module _ (ps : List Policy) (l : Label) (qs : List Policy) (m : Label) where
  same_filing : (s u : List ℕ) → SamePlaces (deciding_both ps l qs m) s u → SamePlaces (filing_both ps l qs m) s u
  same_filing s u =
      same_both (deciding ps l) (filing ps l) (deciding qs m) (filing qs m) s u
      (same_first (filing ps l) (deciding ps l) s u (stands_first ps l)) (same_first (filing qs m) (deciding qs m) s u (stands_first qs m))

  -- so the patterns that decide are no fewer, and tell as many texts apart
  pub filing_few : length (filing_both ps l qs m) ≤ length (deciding_both ps l qs m)
  filing_few =
      let one = stands_first ps l in
      let other = stands_first qs m in
      omega (
        arith,
        length-append (filing ps l) (filing qs m),
        length-append (deciding ps l) (deciding qs m),
        ap length one.1,
        length-append (filing ps l) one.0,
        ap length other.1,
        length-append (filing qs m) other.0,
      )

  pub filing_places : (n : ℕ) → HasPlaces (filing_both ps l qs m) n → HasPlaces (deciding_both ps l qs m) n
  filing_places n = places_more (filing_both ps l qs m) (deciding_both ps l qs m) n same_filing

  pub filing_places_and : (p : Pattern) (n : ℕ) → HasPlaces (filing_both ps l qs m ++ p ∷ []) n → HasPlaces (deciding_both ps l qs m ++ p ∷ []) n
  filing_places_and p n =
      places_more (filing_both ps l qs m ++ p ∷ []) (deciding_both ps l qs m ++ p ∷ []) n
      (λ s u. same_both (deciding_both ps l qs m) (filing_both ps l qs m) (p ∷ []) (p ∷ []) s u (same_filing s u) (λ same. same))

  -- files at paths that these patterns match alike are answered alike at each of the labels
  pub one_by_rules : (s u : List ℕ) → MatchAlike (filing_both ps l qs m) s u → FilesAlike ps l s u
  one_by_rules s u alike = files_by_rules ps s u l (λ q c. alike q (Contains-append_left (filing ps l) (filing qs m) q c))

  pub other_by_rules : (s u : List ℕ) → MatchAlike (filing_both ps l qs m) s u → FilesAlike qs m s u
  other_by_rules s u alike = files_by_rules qs s u m (λ q c. alike q (Contains-append_right (filing ps l) (filing qs m) q c))
