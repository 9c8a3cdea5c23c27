-- The rules of the patterns that match are the rules that match.
use Rattle.std.proofs.Common.{◌≡◌, ℕ, suc, ◌+◌, ◌<◌, ◌≤◌, List, [], ◌∷◌, ◌++◌, length, get_or, drop, add-one, append_assoc, map, Bool, true, false, cond, eqb, Option}
use Rattle.std.proofs.Common.{Some, None, refl, sym, ap, ◌∙◌, subst, ⊎_elim, arith}
use Rattle.std.specs.Prelude.{◌&&◌, ◌||◌}
use Rattle.std.specs.List.{filter, list_any, dedup, dedup_from, slice_get}
use Rattle.std.specs.Option.{option_map_or}
use Rattle.std.proofs.lemmas.Bool.{cases_Bool, eq-eqb, eqb-true}
use Rattle.std.proofs.lemmas.List.{map-append, at_drop_more}
use Rattle.std.proofs.lemmas.Option.{slice_get_cases}
use Rattle.aa_pattern.specs.declared.pattern.Pattern.{Pattern}
use Rattle.aa_pattern.specs.Matching.{is_match}
use Rattle.aa_model.specs.declared.rule.FileRule.{FileRule}
use Rattle.aa_model.specs.declared.policy.Profile.{Profile}
use Rattle.aa_auto.specs.Tables.{ListsMatching, IsText, list_at, place_of}
use Rattle.aa_compile.specs.FileRules.{any_sort}
use Rattle.aa_compile.specs.Gathered.{picked}
use Rattle.aa_compile.specs.Checks.{IsRight}
use Rattle.aa_compile.specs.Matched.{files_at, matching_from, rules_matching, owners_from}
use Rattle.aa_compile.specs.declared.tables.ProfileRows.{ProfileRows}
use Rattle.aa_compile.specs.Rows.{patterns_of}
use Rattle.aa_compile.proofs.Hits.{map_map, hits_at}
use Rattle.aa_compile.proofs.Pickeds.{picked-map}

-- each pattern with the number of its rule
abbrev numbered_hits : ℕ → List FileRule → List (ℕ × Pattern)
numbered_hits n [] = []
numbered_hits n (r ∷ rs) = map (λ p. (n, p)) r.patterns ++ numbered_hits (suc n) rs

map_same : {X : Type 0} (xs : List X) → xs ≡ map (λ (x : X). x) xs
map_same [] = refl
map_same (x ∷ xs) = ap (λ l. x ∷ l) (map_same xs)

owners_are : (n : ℕ) (rules : List FileRule) → owners_from n rules ≡ map (λ h. h.0) (numbered_hits n rules)
owners_are n [] = refl
owners_are n (r ∷ rs) =
    ap (λ l. map (λ (p : Pattern). n) r.patterns ++ l) (owners_are (suc n) rs)
    ∙ ap (λ l. l ++ map (λ h. h.0) (numbered_hits (suc n) rs)) (sym (map_map (λ (h : ℕ × Pattern). h.0) (λ p. (n, p)) r.patterns))
    ∙ sym (map-append (λ (h : ℕ × Pattern). h.0) (map (λ p. (n, p)) r.patterns) (numbered_hits (suc n) rs))

-- the owners of one rule's patterns more
pub owners_go : (rules : List FileRule) (n : ℕ) (r : FileRule) (old new : List ℕ) → n < length rules → r ≡ get_or rules n r → new ≡ old ++ map (λ (p : Pattern). n) r.patterns
    → old ++ owners_from n (drop n rules) ≡ owners_from 0 rules → new ++ owners_from (n + 1) (drop (n + 1) rules) ≡ owners_from 0 rules
owners_go rules n r old new lt is e so_far =
    let own : List ℕ = map (λ (p : Pattern). n) r.patterns in
    let rest : List FileRule = drop (n + 1) rules in
    ap (λ l. l ++ owners_from (n + 1) rest) e
    ∙ append_assoc old own (owners_from (n + 1) rest)
    ∙ ap (λ l. old ++ l)
    (ap (λ k. own ++ owners_from k rest) (add-one n)
    ∙ ap (λ (q : FileRule). map (λ (p : Pattern). n) q.patterns ++ owners_from (suc n) rest) is
    ∙ sym (at_drop_more (owners_from n) rules n r lt))
    ∙ so_far

patterns_are : (n : ℕ) (rules : List FileRule) → patterns_of rules ≡ map (λ h. h.1) (numbered_hits n rules)
patterns_are n [] = refl
patterns_are n (r ∷ rs) =
    ap (λ l. r.patterns ++ l) (patterns_are (suc n) rs)
    ∙ ap (λ l. l ++ map (λ h. h.1) (numbered_hits (suc n) rs)) (map_same r.patterns ∙ sym (map_map (λ (h : ℕ × Pattern). h.1) (λ p. (n, p)) r.patterns))
    ∙ sym (map-append (λ (h : ℕ × Pattern). h.1) (map (λ p. (n, p)) r.patterns) (numbered_hits (suc n) rs))

module _ (path : List ℕ) where
  abbrev matches : Pattern → Bool
  matches p = is_match p.items.items path

  -- the number once for each of its patterns that match, and what is behind
  abbrev before : ℕ → List Pattern → List ℕ → List ℕ
  before n [] behind = behind
  before n (p ∷ ps) behind = cond (matches p) (n ∷ before n ps behind) (before n ps behind)

  -- the numbers of the rules, each once for each pattern that matches
  abbrev repeated : ℕ → List FileRule → List ℕ
  repeated n [] = []
  repeated n (r ∷ rs) = before n r.patterns (repeated (suc n) rs)

  number_if : (b : Bool) (n : ℕ) (p : Pattern) (hs : List (ℕ × Pattern)) → map (λ h. h.0) (cond b ((n, p) ∷ hs) hs) ≡ cond b (n ∷ map (λ h. h.0) hs) (map (λ h. h.0) hs)
  number_if true n p hs = refl
  number_if false n p hs = refl

  before_is : (n : ℕ) (ps : List Pattern) (hs : List (ℕ × Pattern)) → map (λ h. h.0) (filter (λ h. matches h.1) (map (λ p. (n, p)) ps ++ hs)) ≡ before n ps (map (λ h. h.0) (filter (λ h. matches h.1) hs))
  before_is n [] hs = refl
  before_is n (p ∷ ps) hs =
      number_if (matches p) n p (filter (λ h. matches h.1) (map (λ p. (n, p)) ps ++ hs))
      ∙ ap (λ l. cond (matches p) (n ∷ l) l) (before_is n ps hs)

  repeated_is : (n : ℕ) (rules : List FileRule) → map (λ h. h.0) (filter (λ h. matches h.1) (numbered_hits n rules)) ≡ repeated n rules
  repeated_is n [] = refl
  repeated_is n (r ∷ rs) = before_is n r.patterns (numbered_hits (suc n) rs) ∙ ap (before n r.patterns) (repeated_is (suc n) rs)

  -- the same number again
  again : (n : ℕ) (ps : List Pattern) (behind : List ℕ) → dedup_from eqb n (before n ps behind) ≡ dedup_from eqb n behind
  again n [] behind = refl
  again n (p ∷ ps) behind = at (matches p) (again n ps behind)
    where
      at : (b : Bool) → dedup_from eqb n (before n ps behind) ≡ dedup_from eqb n behind → dedup_from eqb n (cond b (n ∷ before n ps behind) (before n ps behind)) ≡ dedup_from eqb n behind
      at true rest = ap (λ b. cond b (dedup_from eqb n (before n ps behind)) (n ∷ dedup_from eqb n (before n ps behind))) (eq-eqb n n refl) ∙ rest
      at false rest = rest

  -- a smaller number stays
  less_before : (k n : ℕ) (ps : List Pattern) (behind : List ℕ) → k < n → dedup_from eqb k behind ≡ k ∷ dedup eqb behind → dedup_from eqb k (before n ps behind) ≡ k ∷ dedup eqb (before n ps behind)
  less_before k n [] behind lt e = e
  less_before k n (p ∷ ps) behind lt e = at (matches p) (less_before k n ps behind lt e)
    where
      apart : eqb n k ≡ false
      apart = grind arith

      at : (b : Bool) → dedup_from eqb k (before n ps behind) ≡ k ∷ dedup eqb (before n ps behind)
          → dedup_from eqb k (cond b (n ∷ before n ps behind) (before n ps behind)) ≡ k ∷ dedup eqb (cond b (n ∷ before n ps behind) (before n ps behind))
      at true rest = ap (λ b. cond b (dedup_from eqb k (before n ps behind)) (k ∷ dedup_from eqb n (before n ps behind))) apart
      at false rest = rest

  less : (k n : ℕ) (rules : List FileRule) → k < n → dedup_from eqb k (repeated n rules) ≡ k ∷ dedup eqb (repeated n rules)
  less k n [] lt = refl
  less k n (r ∷ rs) lt = less_before k n r.patterns (repeated (suc n) rs) lt (less k (suc n) rs (omega arith))

  once_before : (n : ℕ) (ps : List Pattern) (behind : List ℕ) → dedup_from eqb n behind ≡ n ∷ dedup eqb behind
      → dedup eqb (before n ps behind) ≡ cond (list_any (λ p. any_sort p && matches p) ps) (n ∷ dedup eqb behind) (dedup eqb behind)
  once_before n [] behind e = refl
  once_before n (p ∷ ps) behind e = at (matches p) (once_before n ps behind e)
    where
      at : (b : Bool) → dedup eqb (before n ps behind) ≡ cond (list_any (λ p. any_sort p && matches p) ps) (n ∷ dedup eqb behind) (dedup eqb behind)
          → dedup eqb (cond b (n ∷ before n ps behind) (before n ps behind)) ≡ cond (b || list_any (λ p. any_sort p && matches p) ps) (n ∷ dedup eqb behind) (dedup eqb behind)
      at true rest = again n ps behind ∙ e
      at false rest = rest

  once : (n : ℕ) (rules : List FileRule) → dedup eqb (repeated n rules) ≡ matching_from path n rules
  once n [] = refl
  once n (r ∷ rs) =
      once_before n r.patterns (repeated (suc n) rs) (less n (suc n) rs (omega arith))
      ∙ ap (λ l. cond (list_any (λ p. any_sort p && matches p) r.patterns) (n ∷ l) l) (once (suc n) rs)

  pub rules_are : (rules : List FileRule) (owners numbers : List ℕ) → owners ≡ owners_from 0 rules → ListsMatching (patterns_of rules) path numbers → dedup eqb (picked owners numbers) ≡ matching_from path 0 rules
  rules_are rules owners numbers own lists =
      let hits = numbered_hits 0 rules in
      let lists' : ListsMatching (map (λ h. h.1) hits) path numbers = subst (λ ps. ListsMatching ps path numbers) (patterns_are 0 rules) lists in
      ap (λ l. dedup eqb (picked l numbers)) (own ∙ owners_are 0 rules)
      ∙ ap (dedup eqb) (picked-map (λ (h : ℕ × Pattern). h.0) hits numbers ∙ ap (map (λ (h : ℕ × Pattern). h.0)) (hits_at hits path numbers lists') ∙ repeated_is 0 rules)
      ∙ once 0 rules

-- the same of what is kept for a profile
pub met : (profiles : List Profile) (number : ℕ) (path : List ℕ) (r : ProfileRows) (owners numbers : List ℕ) → number < length profiles
    → ((p : Profile) → slice_get profiles number ≡ Some p → IsRight profiles number p r) → IsText path
    → owners ≡ r.owners.items → numbers ≡ list_at r.files.table (place_of r.files.table path) → dedup eqb (picked owners numbers) ≡ rules_matching profiles number path
met profiles number path r owners numbers lt is text own list =
    ⊎_elim
    (λ (x : (p : Profile) × (number < length profiles) × (slice_get profiles number ≡ Some p) × (get_or profiles number p ≡ p)).
    let right = is x.0 x.2 in
    let lists : ListsMatching (patterns_of x.0.files) path numbers = subst (λ l. ListsMatching (patterns_of x.0.files) path l) (sym list) (right.automaton.matching path text) in
    rules_are path x.0.files owners numbers (own ∙ right.owners) lists
    ∙ sym (ap (λ (o : Option Profile). matching_from path 0 (option_map_or (λ (p : Profile). p.files) o [])) x.2))
    (λ (x : (length profiles ≤ number) × (slice_get profiles number ≡ None)). absurd (omega (arith, lt, x.0)))
    (slice_get_cases profiles number).1
