-- The attachments that match a path, of the profiles below a parent or of the top-level ones.
use Rattle.std.proofs.Common.{◌≡◌, ℕ, zero, suc, ◌+◌, List, [], ◌∷◌, map, Bool, true, false, true≢false, cond, Option, Some, None, refl, sym, ap, ◌∙◌, subst, Contains, arith, ⊎_elim}
use Rattle.std.specs.Bool.{nat_eq}
use Rattle.std.specs.List.{filter, slice_get}
use Rattle.std.specs.Option.{option_eq, option_map_or}
use Rattle.std.proofs.lemmas.Bool.{eq-eqb, eqb-true}
use Rattle.std.proofs.lemmas.Option.{none-some, same_Some, slice_get_within, get_or_from_slice_get, slice_get-get_or}
use Rattle.aa_pattern.specs.declared.pattern.Pattern.{Pattern}
use Rattle.aa_pattern.specs.Matching.{is_match}
use Rattle.aa_model.specs.declared.policy.Profile.{Profile}
use Rattle.aa_model.specs.Lawful.{has_parent}
use Rattle.aa_compile.specs.declared.attach.Attachment.{Attachment}
use Rattle.aa_compile.specs.Attached.{at_number, attachment_by, attachment_of, attachments_at, attachments_by, numbers_below}
use Rattle.aa_skipping.proofs.Elements.{in_filter, filter_in, in_map, map_in, in_flat_map, flat_map_in}
use Rattle.aa_compile.proofs.ConflictLemmas.{in_head, in_tail, in_cases, not_in}

pub in_got : {X : Type 0} (xs : List X) (x : X) → Contains xs x → (n : ℕ) × (slice_get xs n ≡ Some x)
in_got xs x c = (c.0, slice_get-get_or xs c.0 x c.1 ∙ ap Some c.2)

-- ---- parents

options_same : (s t : Option ℕ) → option_eq nat_eq s t ≡ true → s ≡ t
options_same None None e = refl
options_same None (Some t) e = absurd (true≢false (sym e))
options_same (Some s) None e = absurd (true≢false (sym e))
options_same (Some s) (Some t) e = ap Some (eqb-true s t e)

same_option : (t : Option ℕ) → option_eq nat_eq t t ≡ true
same_option None = refl
same_option (Some t) = eq-eqb t t refl

pub parent_of : (parent : Option ℕ) (p : Profile) → has_parent parent p ≡ true → p.parent ≡ parent
parent_of parent p e = options_same p.parent parent e

pub of_parent : (parent : Option ℕ) (p : Profile) → p.parent ≡ parent → has_parent parent p ≡ true
of_parent parent p e = ap (λ (o : Option ℕ). option_eq nat_eq o parent) e ∙ same_option parent

-- ---- numbers of the profiles below one

record IsBelow (parent : Option ℕ) (k : ℕ) (rest : List Profile) (n : ℕ) : Type 0 where
  index : ℕ
  profile : Profile
  number : n ≡ k + index
  at : slice_get rest index ≡ Some profile
  below : has_parent parent profile ≡ true

below_later : (parent : Option ℕ) (k : ℕ) (x : Profile) (rest : List Profile) (n : ℕ) → IsBelow parent (suc k) rest n → IsBelow parent k (x ∷ rest) n
below_later parent k x rest n b = record { index = suc b.index; profile = b.profile; number = omega (arith, b.number); at = b.at; below = b.below }

in_below : (parent : Option ℕ) (k : ℕ) (rest : List Profile) (n : ℕ) → Contains (numbers_below parent k rest) n → IsBelow parent k rest n
in_below parent k [] n c = absurd (not_in n c)
in_below parent k (x ∷ rest) n c = at (in_below parent (suc k) rest n) (has_parent parent x) refl c
  where
    at : (Contains (numbers_below parent (suc k) rest) n → IsBelow parent (suc k) rest n) → (b : Bool) → has_parent parent x ≡ b
        → Contains (cond b (k ∷ numbers_below parent (suc k) rest) (numbers_below parent (suc k) rest)) n → IsBelow parent k (x ∷ rest) n
    at later true e d =
        ⊎_elim
        (λ (same : k ≡ n). record { index = 0; profile = x; number = omega (arith, same); at = refl; below = e })
        (λ (r : Contains (numbers_below parent (suc k) rest) n). below_later parent k x rest n (later r))
        (in_cases k n (numbers_below parent (suc k) rest) d)
    at later false e d = below_later parent k x rest n (later d)

below_in : (parent : Option ℕ) (k : ℕ) (rest : List Profile) (i n : ℕ) (p : Profile) → slice_get rest i ≡ Some p → has_parent parent p ≡ true → n ≡ k + i → Contains (numbers_below parent k rest) n
below_in parent k [] i n p e h is = absurd (none-some p e)
below_in parent k (x ∷ rest) zero n p e h is =
    let same : has_parent parent x ≡ true = ap (has_parent parent) (same_Some x p e) ∙ h in
    let first : k ≡ n = omega (arith, is) in
    subst (λ (b : Bool). Contains (cond b (k ∷ numbers_below parent (suc k) rest) (numbers_below parent (suc k) rest)) n) (sym same)
    (subst (λ (m : ℕ). Contains (k ∷ numbers_below parent (suc k) rest) m) first (in_head k (numbers_below parent (suc k) rest)))
below_in parent k (x ∷ rest) (suc i) n p e h is = at (has_parent parent x) (below_in parent (suc k) rest i n p e h (omega (arith, is)))
  where
    at : (b : Bool) → Contains (numbers_below parent (suc k) rest) n → Contains (cond b (k ∷ numbers_below parent (suc k) rest) (numbers_below parent (suc k) rest)) n
    at true c = in_tail k n (numbers_below parent (suc k) rest) c
    at false c = c

-- ---- attachments that match

pub record IsHit (profiles : List Profile) (parent : Option ℕ) (path : List ℕ) (x : Attachment) : Type 0 where
  pub number : ℕ
  pub profile : Profile
  pub pattern : Pattern
  pub at : slice_get profiles number ≡ Some profile
  pub below : profile.parent ≡ parent
  pub among : Contains profile.attachments pattern
  pub matched : is_match pattern.items.items path ≡ true
  pub are : attachment_by number pattern ≡ x

module _ (profiles : List Profile) (parent : Option ℕ) (path : List ℕ) where
  abbrev matches_path : ℕ × Pattern → Bool
  matches_path h = is_match h.1.items.items path

  abbrev numbered : ℕ → List (ℕ × Pattern)
  numbered n = map (at_number n) (attachments_at profiles n)

  abbrev pub hits : List Attachment
  hits = map attachment_of (filter (λ h. is_match h.1.items.items path) (attachments_by profiles (numbers_below parent 0 profiles)))

  attachments_are : (n : ℕ) (p : Profile) → slice_get profiles n ≡ Some p → attachments_at profiles n ≡ p.attachments
  attachments_are n p e = ap (λ (o : Option Profile). option_map_or (λ (q : Profile). q.attachments) o []) e

  pub in_hits : (x : Attachment) → Contains hits x → IsHit profiles parent path x
  in_hits x c =
      let m = in_map attachment_of (filter (λ h. is_match h.1.items.items path) (attachments_by profiles (numbers_below parent 0 profiles))) x c in
      let f = in_filter matches_path (attachments_by profiles (numbers_below parent 0 profiles)) m.0 m.1 in
      let n = in_flat_map numbered (numbers_below parent 0 profiles) m.0 f.0 in
      let b = in_below parent 0 profiles n.0 n.1 in
      let a = in_map (at_number n.0) (attachments_at profiles n.0) m.0 n.2 in
      let same : n.0 ≡ b.index = omega (arith, b.number) in
      let here : slice_get profiles n.0 ≡ Some b.profile = ap (slice_get profiles) same ∙ b.at in
      record {
        number = n.0;
        profile = b.profile;
        pattern = a.0;
        at = here;
        below = parent_of parent b.profile b.below;
        among = subst (λ (l : List Pattern). Contains l a.0) (attachments_are n.0 b.profile here) a.1;
        matched = ap matches_path a.2 ∙ f.1;
        are = ap attachment_of a.2 ∙ m.2;
      }

  pub hits_in : (x : Attachment) → IsHit profiles parent path x → Contains hits x
  hits_in x h =
      let h_at : ℕ × Pattern = (h.number, h.pattern) in
      let there = below_in parent 0 profiles h.number h.number h.profile h.at (of_parent parent h.profile h.below) (omega arith) in
      let own = subst (λ (l : List Pattern). Contains l h.pattern) (sym (attachments_are h.number h.profile h.at)) h.among in
      let all = flat_map_in numbered (numbers_below parent 0 profiles) h.number h_at there (map_in (at_number h.number) (attachments_at profiles h.number) h.pattern own) in
      let kept = filter_in matches_path (attachments_by profiles (numbers_below parent 0 profiles)) h_at all h.matched in
      subst (λ (y : Attachment). Contains hits y) h.are (map_in attachment_of (filter (λ h. is_match h.1.items.items path) (attachments_by profiles (numbers_below parent 0 profiles))) h_at kept)
