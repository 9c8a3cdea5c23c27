-- How many patterns an automaton is made of.
use Rattle.std.proofs.Common.{◌≡◌, ◌≤◌, ◌<◌, ◌+◌, ℕ, List, [], ◌∷◌, map, length, get_or, Bool, true, false, cond, Option, suc, refl, sym, ap, ◌∙◌, arith, length-append}
use Rattle.std.specs.List.{flat_map, slice_get, sum_by}
use Rattle.std.specs.Option.{option_map_or}
use Rattle.std.proofs.lemmas.List.{length-map}
use Rattle.std.proofs.lemmas.List.Concat.{length-flat_map}
use Rattle.std.proofs.lemmas.List.Sums.{sum_by-cons}
use Rattle.aa_pattern.specs.declared.pattern.Pattern.{Pattern}
use Rattle.aa_model.specs.declared.rule.FileRule.{FileRule}
use Rattle.aa_model.specs.declared.policy.Profile.{Profile}
use Rattle.aa_model.specs.Lawful.{IsWithinLimits, attachments_with, has_parent}
use Rattle.aa_compile.specs.Rows.{patterns_of}
use Rattle.aa_compile.specs.Attached.{at_number, attachments_by, numbers_below}

pub files_few : (profiles : List Profile) → IsWithinLimits profiles → (k : ℕ) (p : Profile) → k < length profiles → p ≡ get_or profiles k p → length (patterns_of p.files) ≤ 65535
files_few profiles limits k p lt is =
    let few = limits.counts.few_patterns k p lt in
    omega (arith, length-flat_map (λ (r : FileRule). r.patterns) p.files, ap (λ (q : Profile). sum_by (λ (r : FileRule). length r.patterns) q.files) is, few)

module _ (get : ℕ → Option Profile) (parent : Option ℕ) where
  abbrev got : ℕ → List Pattern
  got n = option_map_or (λ (p : Profile). p.attachments) (get n) []

  abbrev numbered : ℕ → List (ℕ × Pattern)
  numbered n = map (at_number n) (got n)

  many : (rest : List Profile) (k : ℕ) → ((i n : ℕ) → n ≡ k + i → get n ≡ slice_get rest i) → length (flat_map numbered (numbers_below parent k rest)) ≡ sum_by (attachments_with parent) rest
  many [] k gets = refl
  many (p ∷ rest) k gets =
      let here : length (numbered k) ≡ length p.attachments = length-map (got k) (at_number k) ∙ ap (λ o. length (option_map_or (λ (p : Profile). p.attachments) o [])) (gets 0 k (omega arith)) in
      let later = many rest (suc k) (λ i n e. gets (suc i) n (omega (arith, e))) in
      at (has_parent parent p) here later ∙ sym (sum_by-cons (attachments_with parent) p rest)
    where
      at : (b : Bool) → length (numbered k) ≡ length p.attachments → length (flat_map numbered (numbers_below parent (suc k) rest)) ≡ sum_by (attachments_with parent) rest
          → length (flat_map numbered (cond b (k ∷ numbers_below parent (suc k) rest) (numbers_below parent (suc k) rest))) ≡ cond b (length p.attachments) 0 + sum_by (attachments_with parent) rest
      at true here later = omega (arith, length-append (numbered k) (flat_map numbered (numbers_below parent (suc k) rest)), here, later)
      at false here later = omega (arith, later)

pub attachments_few : (profiles : List Profile) (parent : Option ℕ) → IsWithinLimits profiles → length (attachments_by profiles (numbers_below parent 0 profiles)) ≤ 65535
attachments_few profiles parent limits = omega (arith, many (slice_get profiles) parent profiles 0 (λ i n e. let f : n ≡ i = omega (arith, e) in ap (slice_get profiles) f), limits.few_attachments parent)
