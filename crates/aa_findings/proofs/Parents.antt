-- The paths at which profiles tie, by the parent of these.
use Rattle.std.proofs.Common.{◌≡◌, ◌⊎◌, ℕ, zero, suc, ◌+◌, List, [], ◌∷◌, ◌++◌, length, cond, Bool, true, false, true≢false, Option, Some, None, Contains}
use Rattle.std.proofs.Common.{refl, sym, ap, ◌∙◌, subst, ⊎_elim, inl, inr, add-one, arith}
use Rattle.std.specs.Prelude.{map, not, is_some, ◌||◌, ◌==◌}
use Rattle.std.specs.List.{slice_get, flat_map, list_any}
use Rattle.std.specs.Bool.{nat_eq}
use Rattle.std.specs.Option.{option_eq}
use Rattle.std.specs.Str.{bytes_eq}
use Rattle.std.proofs.lemmas.Bool.{cases_Bool, ne_eqb, eqb-true, eq-eqb}
use Rattle.std.proofs.lemmas.List.{length-append, append-nil}
use Rattle.std.proofs.lemmas.Grind.{flat_map-append}
use Rattle.std.proofs.lemmas.Slice.Eq.{bytes_eq-Decides}
use Rattle.aa_auto.specs.Tables.{ListsMatching}
use Rattle.aa_model.specs.declared.policy.Profile.{Profile}
use Rattle.aa_model.specs.Lawful.{has_parent}
use Rattle.aa_regions.specs.declared.regions.Region.{Region}
use Rattle.aa_regions.specs.Regions.{ArePathRegions}
use Rattle.aa_compile.specs.declared.attach.Attachment.{Attachment}
use Rattle.aa_compile.specs.Attached.{attachment_of, attachments_by, numbers_below, strongest}
use Rattle.aa_compile.proofs.ConflictLemmas.{in_head, in_tail, in_cases, not_in}
use Rattle.aa_compile.proofs.Pickeds.{picked-map}
use Rattle.aa_compile.proofs.Hits.{hits_at}
use Rattle.aa_findings.specs.declared.attached.Shared.{Shared}
use Rattle.aa_findings.specs.declared.below.Below.{Below}
use Rattle.aa_findings.specs.declared.below.Below.TheVariants.{Shown, Excessive}
use Rattle.aa_findings.specs.declared.fault.FindingsFault.{FindingsFault}
use Rattle.aa_findings.specs.declared.finding.Finding.{Finding}
use Rattle.aa_findings.specs.Faults.{IsFaultOf}
use Rattle.aa_findings.specs.Places.{places, places_from, has}
use Rattle.aa_findings.specs.Shortest.{nearest}
use Rattle.aa_findings.specs.Attached.{patterns_at, kept_at, numbers_of, strong_at, tied_by, are_several, Sharing, sharing, shared_at, shared_in, shared_if, shared_by}
use Rattle.aa_findings.specs.Attached.{tied_in, tied_path, tied_paths, tie_at, ties_at, other_at, ties_among, ties_of, AddsTie}
use Rattle.aa_findings.specs.Below.{IsBelow, parent_at, place_of, row_of_parent, AreBelow, ShowsBelow, ExceedsBelow}
use Rattle.aa_findings.proofs.Elements.{any_in, in_any, in_flat_map}
use Rattle.aa_findings.proofs.Nearest.{IsNear, near}
use Rattle.aa_findings.proofs.Placing.{eqs_alike, places_ext, places_map}

-- an element of a list with one more is of that list, or it is that one
pub get_either : {X : Type 0} (x : X) (xs : List X) (n : ℕ) (y : X) → slice_get (xs ++ x ∷ []) n ≡ Some y → (slice_get xs n ≡ Some y) ⊎ ((length xs ≡ n) × (x ≡ y))
get_either x [] zero y e = inr (refl, cc e)
get_either x [] (suc n) y e = absurd (cc e)
get_either x (z ∷ xs) zero y e = inl e
get_either x (z ∷ xs) (suc n) y e = ⊎_elim (λ h. inl h) (λ h. inr (ap suc h.0, h.1)) (get_either x xs n y e)

-- these are of regions that stand for all paths that can be asked for
abbrev pub IsShown : List Profile → List ℕ → List Shared → Type 0
IsShown profiles group shared = (regions : List Region) × ArePathRegions (patterns_at profiles group) regions × (map sharing shared ≡ shared_by profiles group regions)

module _ (profiles : List Profile) (limit : ℕ) where
  pub none_below : AreBelow profiles limit 0 []
  none_below = record { many = refl; each = λ k b e. absurd (cc e) }

  pub more_below : (n : ℕ) (parent : Option ℕ) (all new : List Below) (b : Below) → parent ≡ parent_at n → AreBelow profiles limit n all → IsBelow profiles (numbers_below parent 0 profiles) limit b → new ≡ all ++ b ∷ []
      → AreBelow profiles limit (n + 1) new
  more_below n parent all new b of are is added = subst (λ (l : List Below). AreBelow profiles limit (n + 1) l) (sym added) (record {
    many = length-append all (b ∷ []) ∙ ap (λ (m : ℕ). m + 1) are.many;
    each = λ k other e.
        ⊎_elim
        (λ (there : slice_get all k ≡ Some other). are.each k other there)
        (λ (last : (length all ≡ k) × (b ≡ other)).
        subst (λ (x : Below). IsBelow profiles (numbers_below (parent_at k) 0 profiles) limit x) last.1
        (subst (λ (p : Option ℕ). IsBelow profiles (numbers_below p 0 profiles) limit b) (of ∙ ap parent_at (sym are.many ∙ last.0)) is))
        (get_either b all k other e);
  })

  -- the parent of a parent's place
  pub parent_there : (parent : Option ℕ) → parent_at (place_of parent) ≡ parent
  parent_there None = refl
  parent_there (Some n) = ap parent_at (add-one n)

  pub below_there : (n : ℕ) (all : List Below) (parent : Option ℕ) (b : Below) → AreBelow profiles limit n all → slice_get all (place_of parent) ≡ Some b → IsBelow profiles (numbers_below parent 0 profiles) limit b
  below_there n all parent b are there = subst (λ (p : Option ℕ). IsBelow profiles (numbers_below p 0 profiles) limit b) (parent_there parent) (are.each (place_of parent) b there)

  module _ (n : ℕ) (all : List Below) (are : AreBelow profiles limit n all) (parent : Option ℕ) where
    shows : (shared : List Shared) (o : Option Below) → slice_get all (place_of parent) ≡ o → ShowsBelow o shared → IsShown profiles (numbers_below parent 0 profiles) shared
    shows shared None e s = absurd s
    shows shared (Some (Shown list)) e s = let b = below_there n all parent (Shown list) are e in (b.0, b.1, ap (map sharing) s ∙ b.2)
    shows shared (Some (Excessive other)) e s = absurd s

    pub shown_there : (shared : List Shared) → ShowsBelow (slice_get all (place_of parent)) shared → IsShown profiles (numbers_below parent 0 profiles) shared
    shown_there shared s = shows shared (slice_get all (place_of parent)) refl s

    exceeds : (why : FindingsFault) (o : Option Below) → slice_get all (place_of parent) ≡ o → ExceedsBelow o why → IsFaultOf (patterns_at profiles (numbers_below parent 0 profiles)) limit why
    exceeds why None e s = subst (λ (x : FindingsFault). IsFaultOf (patterns_at profiles (numbers_below parent 0 profiles)) limit x) (sym s) tt
    exceeds why (Some (Shown list)) e s = absurd s
    exceeds why (Some (Excessive other)) e s =
        subst (λ (x : FindingsFault). IsFaultOf (patterns_at profiles (numbers_below parent 0 profiles)) limit x) (sym s) (below_there n all parent (Excessive other) are e)

    pub exceeds_there : (why : FindingsFault) → ExceedsBelow (slice_get all (place_of parent)) why → IsFaultOf (patterns_at profiles (numbers_below parent 0 profiles)) limit why
    exceeds_there why s = exceeds why (slice_get all (place_of parent)) refl s

-- the numbers of the profiles below a parent are the places of those that have it
below_is : (parent : Option ℕ) (k : ℕ) (profiles : List Profile) → places_from (has_parent parent) k profiles ≡ numbers_below parent k profiles
below_is parent k [] = refl
below_is parent k (p ∷ rest) = ap (λ l. cond (has_parent parent p) (k ∷ l) l) (below_is parent (suc k) rest)

at_parent : (k : ℕ) (o : Option ℕ) → has k (place_of o ∷ []) ≡ option_eq nat_eq o (parent_at k)
at_parent zero None = refl
at_parent zero (Some m) = ap (λ b. b || false) (ne_eqb (m + 1) 0 (λ s. absurd (omega (arith, s))))
at_parent (suc j) None = ap (λ b. b || false) (ne_eqb 0 (suc j) (λ s. absurd (omega (arith, s))))
at_parent (suc j) (Some m) = ap (λ b. b || false) (eqs_alike (m + 1) (suc j) m j (λ e. omega (arith, e)) (λ e. omega (arith, e))) ∙ or_none (m == j)
  where
    or_none : (b : Bool) → (b || false) ≡ b
    or_none true = refl
    or_none false = refl

pub groups_are : (k : ℕ) (profiles : List Profile) → places (has k) (map row_of_parent profiles) ≡ numbers_below (parent_at k) 0 profiles
groups_are k profiles =
    places_map (has k) row_of_parent 0 profiles ∙ places_ext (λ p. has k (row_of_parent p)) (has_parent (parent_at k)) 0 profiles (λ (p : Profile). at_parent k p.parent) ∙ below_is (parent_at k) 0 profiles

flat_within : {X Y : Type 0} (f g : X → List Y) (xs : List X) → ((x : X) → Contains xs x → f x ≡ g x) → flat_map f xs ≡ flat_map g xs
flat_within f g [] same = refl
flat_within f g (x ∷ xs) same = ap (λ l. l ++ flat_map f xs) (same x (in_head x xs)) ∙ ap (λ l. g x ++ l) (flat_within f g xs (λ y c. same y (in_tail x y xs c)))

flat_flat : {X Y Z : Type 0} (f : Y → List Z) (g : X → List Y) (xs : List X) → flat_map f (flat_map g xs) ≡ flat_map (λ x. flat_map f (g x)) xs
flat_flat f g [] = refl
flat_flat f g (x ∷ xs) = flat_map-append f (g x) (flat_map g xs) ∙ ap (λ l. flat_map f (g x) ++ l) (flat_flat f g xs)

module _ (profiles : List Profile) (group : List ℕ) where
  -- the strongest attachments at a path, by the numbers of those that match
  pub strong_is : (r : Region) (path : List ℕ) → ListsMatching (patterns_at profiles group) path r.numbers → (shared_in (kept_at profiles group) r).profiles ≡ strong_at profiles group path
  strong_is r path lists =
      ap (λ (as' : List Attachment). numbers_of (strongest as'))
      (picked-map attachment_of (attachments_by profiles group) r.numbers ∙ ap (map attachment_of) (hits_at (attachments_by profiles group) path r.numbers lists))

  pub shared_are : (regions : List Region) → ArePathRegions (patterns_at profiles group) regions
      → flat_map (λ (r : Region). shared_if (shared_in (kept_at profiles group) r)) regions ≡ shared_by profiles group regions
  shared_are regions are =
      flat_within (λ (r : Region). shared_if (shared_in (kept_at profiles group) r)) (λ (r : Region). shared_if (shared_at profiles group r.witness)) regions
      (λ r c. ap (λ (ns : List ℕ). shared_if (record { path = r.witness; profiles = ns })) (strong_is r r.witness (are.each r c).lists))

  -- where all are one profile none ties
  one_alone : (n : ℕ) (ps : List ℕ) → are_several ps ≡ false → is_some (tied_by n ps) ≡ false
  one_alone n [] e = refl
  one_alone n (m ∷ rest) e = ⊎_elim first others (cases_Bool (m == n))
    where
      first : (m == n) ≡ true → is_some (tied_by n (m ∷ rest)) ≡ false
      first t = ap (λ b. is_some (cond (b || has n rest) (cond b None (Some m)) None)) t

      none : (m == n) ≡ false → has n rest ≡ false
      none f =
          ⊎_elim
          (λ (t : has n rest ≡ true). absurd (true≢false (sym (several t f) ∙ e)))
          (λ (no' : has n rest ≡ false). no')
          (cases_Bool (has n rest))
        where
          several : has n rest ≡ true → (m == n) ≡ false → list_any (λ k. not (k == m)) rest ≡ true
          several h f =
              let t = in_any (λ k. k == n) rest h in
              let is : t.0 ≡ n = eqb-true t.0 n t.2 in
              any_in (λ k. not (k == m)) rest t.0 t.1 (ap not (ne_eqb t.0 m (λ s. absurd (true≢false (sym (eq-eqb m n (sym s ∙ is)) ∙ f)))))

      others : (m == n) ≡ false → is_some (tied_by n (m ∷ rest)) ≡ false
      others f = ap (λ b. is_some (cond b (cond (m == n) None (Some m)) None)) (ap (λ b. b || has n rest) f ∙ none f)

  tied_kept : (n : ℕ) (s : Sharing) → flat_map (tied_in n) (shared_if s) ≡ tied_in n s
  tied_kept n s = at (are_several s.profiles) refl
    where
      at : (b : Bool) → are_several s.profiles ≡ b → flat_map (tied_in n) (cond b (s ∷ []) []) ≡ tied_in n s
      at true e = append-nil (tied_in n s)
      at false e = sym (ap (λ b. cond b (s.path ∷ []) []) (one_alone n s.profiles e))

  pub paths_kept : (n : ℕ) (regions : List Region) → flat_map (tied_in n) (shared_by profiles group regions) ≡ tied_paths profiles group n regions
  paths_kept n regions =
      flat_flat (tied_in n) (λ (r : Region). shared_if (shared_at profiles group r.witness)) regions
      ∙ flat_within (λ (r : Region). flat_map (tied_in n) (shared_if (shared_at profiles group r.witness))) (λ (r : Region). tied_path profiles group n r.witness) regions
      (λ r c. tied_kept n (shared_at profiles group r.witness))

  -- the earlier profile at a path is that at the first of those that have the path
  other_is : (n : ℕ) (path : List ℕ) (ss : List Sharing) → ((s : Sharing) → Contains ss s → s.profiles ≡ strong_at profiles group s.path) → (s : Sharing) → Contains ss s → s.path ≡ path
      → other_at n ss path ≡ tied_by n (strong_at profiles group path)
  other_is n path [] each s c e = absurd (not_in s c)
  other_is n path (t ∷ ts) each s c e = ⊎_elim here (later (λ d. other_is n path ts (λ x f. each x (in_tail t x ts f)) s d e)) (cases_Bool (bytes_eq t.path path))
    where
      here : bytes_eq t.path path ≡ true → other_at n (t ∷ ts) path ≡ tied_by n (strong_at profiles group path)
      here y =
          ap (λ b. cond b (tied_by n t.profiles) (other_at n ts path)) y
          ∙ ap (tied_by n) (each t (in_head t ts) ∙ ap (strong_at profiles group) ((bytes_eq-Decides t.path path).0 y))

      later : (Contains ts s → other_at n ts path ≡ tied_by n (strong_at profiles group path)) → bytes_eq t.path path ≡ false → other_at n (t ∷ ts) path ≡ tied_by n (strong_at profiles group path)
      later rest f =
          ap (λ b. cond b (tied_by n t.profiles) (other_at n ts path)) f
          ∙ rest
          (⊎_elim
          (λ (same : t ≡ s). absurd (true≢false (sym ((bytes_eq-Decides t.path path).1 (ap (λ (x : Sharing). x.path) same ∙ e)) ∙ f)))
          (λ (d : Contains ts s). d)
          (in_cases t s ts c))

  in_shared : (s t : Sharing) → Contains (shared_if s) t → t ≡ s
  in_shared s t c = at (are_several s.profiles) c
    where
      at : (b : Bool) → Contains (cond b (s ∷ []) []) t → t ≡ s
      at true d = ⊎_elim (λ (e : s ≡ t). sym e) (λ (n : Contains [] t). absurd (not_in t n)) (in_cases s t [] d)
      at false d = absurd (not_in t d)

  each_strong : (regions : List Region) (s : Sharing) → Contains (shared_by profiles group regions) s → s.profiles ≡ strong_at profiles group s.path
  each_strong regions s c =
      let t = in_flat_map (λ (r : Region). shared_if (shared_at profiles group r.witness)) regions s c in
      let is = in_shared (shared_at profiles group t.0.witness) s t.2 in
      ap (λ (x : Sharing). x.profiles) is ∙ ap (strong_at profiles group) (sym (ap (λ (x : Sharing). x.path) is))

  in_tied : (n : ℕ) (s : Sharing) (path : List ℕ) → Contains (tied_in n s) path → s.path ≡ path
  in_tied n s path c = at (is_some (tied_by n s.profiles)) c
    where
      at : (b : Bool) → Contains (cond b (s.path ∷ []) []) path → s.path ≡ path
      at true d = ⊎_elim (λ (e : s.path ≡ path). e) (λ (x : Contains [] path). absurd (not_in path x)) (in_cases s.path path [] d)
      at false d = absurd (not_in path d)

  ties_are : (n : ℕ) (regions : List Region) (paths : List (List ℕ)) → paths ≡ flat_map (tied_in n) (shared_by profiles group regions) → (o : Option (List ℕ)) → IsNear paths (length paths) o
      → ties_among n (shared_by profiles group regions) o ≡ ties_at profiles group n o
  ties_are n regions paths is None none = refl
  ties_are n regions paths is (Some path) (there, least) =
      let t = in_flat_map (tied_in n) (shared_by profiles group regions) path (subst (λ (l : List (List ℕ)). Contains l path) is there) in
      ap (λ (other : Option ℕ). tie_at other path) (other_is n path (shared_by profiles group regions) (each_strong regions) t.0 t.1 (in_tied n t.0 path t.2))

  -- a tie is added by what is kept of the regions of attachments
  pub tie_shown : (n : ℕ) (list : List Shared) (was now : List Finding) → IsShown profiles group list → now ≡ was ++ ties_of n (map sharing list) → AddsTie profiles group n was now
  tie_shown n list was now shown added =
      let regions = shown.0 in
      let paths : List (List ℕ) = flat_map (tied_in n) (shared_by profiles group regions) in
      record {
        regions = regions;
        are = shown.1;
        added =
            added
            ∙ ap (λ (l : List Finding). was ++ l)
            (ap (ties_of n) shown.2
            ∙ ties_are n regions paths refl (nearest paths (length paths)) (near paths (length paths) (omega arith))
            ∙ ap (λ (ps : List (List ℕ)). ties_at profiles group n (nearest ps (length ps))) (paths_kept n regions));
      }
