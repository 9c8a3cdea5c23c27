-- What regions of attachments tell of a profile is so of the paths that can be asked for.
use Rattle.std.proofs.Common.{◌≡◌, ℕ, ◌<◌, ◌≤◌, List, [], ◌∷◌, length, get_or, Bool, true, false, cond, Option, Some, None, Contains, refl, sym, ap, ◌∙◌, subst, arith, ⊎_elim}
use Rattle.std.specs.Prelude.{is_some}
use Rattle.std.proofs.lemmas.List.{get_or_default}
use Rattle.aa_model.specs.declared.policy.Profile.{Profile}
use Rattle.aa_regions.specs.declared.regions.Region.{Region}
use Rattle.aa_regions.specs.Regions.{ArePathRegions}
use Rattle.aa_compile.proofs.ConflictLemmas.{in_head, in_cases, not_in}
use Rattle.aa_findings.proofs.Elements.{in_flat_map, flat_map_in}
use Rattle.aa_findings.proofs.Nearest.{IsNear, near}
use Rattle.aa_findings.proofs.Parents.{strong_is}
use Rattle.aa_findings.specs.Shortest.{nearest}
use Rattle.aa_findings.specs.Attached.{patterns_at, strong_at, tied_by, tied_path, tied_paths}
use Rattle.aa_findings.specs.Laws.{IsTiedAt, IsNearestTie}

module _ (profiles : List Profile) (group : List ℕ) (regions : List Region) (are : ArePathRegions (patterns_at profiles group) regions) (n : ℕ) where
  abbrev paths : List (List ℕ)
  paths = tied_paths profiles group n regions

  abbrev ties : List ℕ → Bool
  ties path = is_some (tied_by n (strong_at profiles group path))

  in_path : (path other : List ℕ) → Contains (tied_path profiles group n path) other → (ties path ≡ true) × (path ≡ other)
  in_path path other c = at (ties path) refl c
    where
      at : (b : Bool) → ties path ≡ b → Contains (cond b (path ∷ []) []) other → (ties path ≡ true) × (path ≡ other)
      at true e d = (e, ⊎_elim (λ (s : path ≡ other). s) (λ (x : Contains [] other). absurd (not_in other x)) (in_cases path other [] d))
      at false e d = absurd (not_in other d)

  path_in : (path : List ℕ) → ties path ≡ true → Contains (tied_path profiles group n path) path
  path_in path e = subst (λ (b : Bool). Contains (cond b (path ∷ []) []) path) (sym e) (in_head path [])

  found : (path : List ℕ) → Contains paths path → IsTiedAt profiles group n path
  found path c =
      let t = in_flat_map (λ (r : Region). tied_path profiles group n r.witness) regions path c in
      let s = in_path t.0.witness path t.2 in
      subst (IsTiedAt profiles group n) s.1 ((are.each t.0 t.1).asked, s.0)

  listed : (other : List ℕ) → IsTiedAt profiles group n other → (k : ℕ) × (k < length paths) × (length (get_or paths k []) ≤ length other)
  listed other tied =
      let r = are.all other tied.0 in
      let region = are.each r.0 r.1 in
      let same : strong_at profiles group r.0.witness ≡ strong_at profiles group other =
      sym (strong_is profiles group r.0 r.0.witness region.lists) ∙ strong_is profiles group r.0 other r.2 in
      let d = flat_map_in (λ (x : Region). tied_path profiles group n x.witness) regions r.0 r.0.witness r.1 (path_in r.0.witness (ap (λ (ps : List ℕ). is_some (tied_by n ps)) same ∙ tied.1)) in
      let same_path = get_or_default paths d.0 [] r.0.witness d.1 ∙ d.2 in
      (d.0, d.1, subst (λ (x : List ℕ). length x ≤ length other) (sym same_path) (region.shortest other tied.0 r.2))

  nearest_of : (o : Option (List ℕ)) → IsNear paths (length paths) o → IsNearestTie profiles group n o
  nearest_of None none = λ path tied. let l = listed path tied in absurd (omega (arith, none, l.1))
  nearest_of (Some best) (there, least) = (found best there, λ other tied. let l = listed other tied in let k = least l.0 l.1 in omega (arith, k, l.2))

  pub tie_told : IsNearestTie profiles group n (nearest paths (length paths))
  tie_told = nearest_of (nearest paths (length paths)) (near paths (length paths) (omega arith))
