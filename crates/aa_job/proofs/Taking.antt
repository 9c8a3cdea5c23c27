-- What one record more gives of a job, and what one line more.
use Rattle.std.proofs.Common.{◌≡◌, ℕ, ◌+◌, Bool, true, false, cond, List, [], ◌∷◌, ◌++◌, Option, Some, None, refl, sym, ap, ◌∙◌, arith}
use Rattle.std.specs.Prelude.{filter, count_by, min, not}
use Rattle.std.specs.Borrow.{Bor}
use Rattle.std.specs.List.{cons_option}
use Rattle.std.proofs.lemmas.List.Sums.{fold-append, sum_by-append}
use Rattle.std.proofs.lemmas.List.Elements.{filter-append, filter_map-append}
use Rattle.std.proofs.lemmas.List.{append-nil}
use Rattle.aa_logs.specs.Outcomes.{RecordData}
use Rattle.aa_logs.specs.declared.chosen.Choice.{Choice}
use Rattle.aa_logs.specs.Tasks.{with_record, fits}
use Rattle.aa_notation.specs.declared.job.JobPolicy.{JobPolicy}
use Rattle.aa_logs.specs.LogLines.{LogLine}
use Rattle.aa_job.specs.declared.job.JobTasks.{JobTasks}
use Rattle.aa_job.specs.Tasks.{asked_by_line, asked_by_lines, is_stranger, Asking, with_asked, asking, Given, most_strangers, given_by, given, HasTaken, one_stranger, one_asked, one_more, with_found}

-- those that a profile of the policies asks
abbrev known : List JobPolicy → List RecordData → List RecordData
known ps rs = filter (λ r. not (is_stranger ps r)) rs

abbrev told : Asking → ℕ → Given
told a n = record { tasks = a.tasks; strangers = n; over = a.over }

asks_one : (a : Asking) (n : ℕ) (r : RecordData) → told (with_asked a r) n ≡ one_asked r (told a n)
asks_one a n r = by (fits r a.tasks)
  where
    by : (b : Bool) → told (cond b (record { tasks = with_record r a.tasks; over = a.over }) (record { tasks = a.tasks; over = true })) n ≡ cond b
        (record { tasks = with_record r a.tasks; strangers = n; over = a.over }) (record { tasks = a.tasks; strangers = n; over = true })
    by true = refl
    by false = refl

counted : (p : RecordData → Bool) (rs : List RecordData) (r : RecordData) → count_by p (rs ++ r ∷ []) ≡ count_by p rs + (0 + cond (p r) 1 0)
counted p rs r = sum_by-append (λ x. cond (p x) 1 0) rs (r ∷ [])

one_more_up_to : (n most : ℕ) → min (n + (0 + 1)) most ≡ min (min n most + 1) most
one_more_up_to n most = omega arith

kept_is : (ps : List JobPolicy) (rs : List RecordData) (r : RecordData) → known ps (rs ++ r ∷ []) ≡ known ps rs ++ cond (not (is_stranger ps r)) (r ∷ []) []
kept_is ps rs r = filter-append (λ x. not (is_stranger ps x)) rs (r ∷ [])

pub given_more : (ps : List JobPolicy) (rs : List RecordData) (r : RecordData) → given_by ps (rs ++ r ∷ []) ≡ one_more ps r (given_by ps rs)
given_more ps rs r = ap (λ (l : List RecordData). told (asking l) (min (count_by (is_stranger ps) (rs ++ r ∷ [])) most_strangers)) (kept_is ps rs r)
    ∙ ap (λ (n : ℕ). told (asking (known ps rs ++ cond (not (is_stranger ps r)) (r ∷ []) [])) (min n most_strangers)) (counted (is_stranger ps) rs r)
    ∙ by (is_stranger ps r)
  where
    by : (b : Bool) → told (asking (known ps rs ++ cond (not b) (r ∷ []) [])) (min (count_by (is_stranger ps) rs + (0 + cond b 1 0)) most_strangers) ≡ cond b (one_stranger (given_by ps rs)) (one_asked r (given_by ps rs))
    by true = ap (λ (l : List RecordData). told (asking l) (min (count_by (is_stranger ps) rs + (0 + 1)) most_strangers)) (append-nil (known ps rs))
        ∙ ap (λ (n : ℕ). told (asking (known ps rs)) n) (one_more_up_to (count_by (is_stranger ps) rs) most_strangers)
    by false = ap (λ (a : Asking). told a (min (count_by (is_stranger ps) rs + (0 + 0)) most_strangers)) (fold-append with_asked (record { tasks = []; over = false }) (known ps rs) (r ∷ []))
        ∙ ap (λ (n : ℕ). told (with_asked (asking (known ps rs)) r) (min n most_strangers)) (omega arith)
        ∙ asks_one (asking (known ps rs)) (min (count_by (is_stranger ps) rs) most_strangers) r

found_more : (ps : List JobPolicy) (rs : List RecordData) (o : Option RecordData) → given_by ps (rs ++ cons_option o []) ≡ with_found ps o (given_by ps rs)
found_more ps rs None = ap (given_by ps) (append-nil rs)
found_more ps rs (Some r) = given_more ps rs r

-- a line more
pub takes_more : (old new : JobTasks) (before : List LogLine) (l : LogLine)
    → new.policies ≡ old.policies → new.choice ≡ old.choice
    → given new ≡ with_found old.policies.now (asked_by_line old.choice l) (given old)
    → HasTaken old before → HasTaken new (before ++ l ∷ [])
takes_more old new before l same_policies same_choice step taken =
    step
    ∙ ap (with_found old.policies.now (asked_by_line old.choice l)) taken
    ∙ sym (found_more old.policies.now (asked_by_lines old.choice before) (asked_by_line old.choice l))
    ∙ ap (given_by old.policies.now) (sym (filter_map-append (asked_by_line old.choice) before (l ∷ [])))
    ∙ sym (ap (λ (c : Choice). given_by old.policies.now (asked_by_lines c (before ++ l ∷ []))) same_choice)
    ∙ sym (ap (λ (p : Bor (List JobPolicy)). given_by p.now (asked_by_lines new.choice (before ++ l ∷ []))) same_policies)
