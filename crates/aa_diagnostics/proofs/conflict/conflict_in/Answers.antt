use Rattle.std.proofs.Common.{◌≡◌, ◌⊎◌, ℕ, ◌+◌, List, [], sym, subst, rules}
use Rattle.std.proofs.lemmas.Result.{err_from_is_err_and}
use Rattle.std.specs.Prelude.{map}
use Rattle.aa_base.specs.declared.fault.Spot.{Spot}
use Rattle.aa_model.specs.declared.policy.Profile.{Profile}
use Rattle.aa_words.specs.Splits.{WordData, words_data}
use Rattle.aa_policy.specs.Bodies.{IsPolicy}
use Rattle.aa_policy.proofs.Refusals.{refused_by}
use Rattle.aa_explain.specs.declared.places.ProfilePlaces.{ProfilePlaces}
use Rattle.aa_explain.specs.Places.{places_data}
use Rattle.aa_files.specs.declared.unit.Unit as unit
use Rattle.aa_load.specs.UnitPolicy.{limit_of}
use Rattle.aa_diagnostics.specs.Conflicts.{ShowsOne, NoneHas}
use Rattle.aa_diagnostics.proofs.Conflicting.{shown_or_none, own_shown}
use Rattle.aa_diagnostics.proofs.conflict.conflict_in.Goals as goal

pub returns-in_err-found-clause-refused : goal.returns-in_err-found-clause-refused
returns-in_err-found-clause-refused c = λ h policy w.
    let q = err_from_is_err_and c.from_residual.result c.from_residual.ensures.1 in
    c.in_err-found.ensures.refused (refused_by c.from_residual.result _ _ q.1 q.2 h) w.vars w.tree w.written

pub returns-in_err-policy-clause-refused : goal.returns-in_err-policy-clause-refused
returns-in_err-policy-clause-refused c = λ h policy w.
    let r = c.from_residual-in_err-policy in
    let q = err_from_is_err_and r.result r.ensures.1 in
    c.in_err-policy.ensures.refused (refused_by r.result _ _ q.1 q.2 h) policy w

-- what is there of the policy and of the places that were read
abbrev Either : unit.Unit → List Profile → List ProfilePlaces → Spot → ℕ → List (List ℕ) → Type 0
Either u profiles found at limit lines = (NoneHas profiles at (limit + 1) × (lines ≡ [])) ⊎ ShowsOne u profiles (map places_data found) at lines

either : (u : unit.Unit) (ps profiles : List Profile) (fs found : List ProfilePlaces) (at : Spot) (n limit : ℕ) (lines : List (List ℕ)) → ps ≡ profiles
    → fs ≡ found → n ≡ limit → Either u ps fs at n lines → Either u profiles found at limit lines
either u ps profiles fs found at n limit lines p f l h =
    subst (λ (m : ℕ). Either u profiles found at m lines) l (subst (λ (xs : List ProfilePlaces). Either u profiles xs at n lines) f (subst (λ (xs : List Profile). Either u xs fs at n lines) p h))

pub returns-clause-shown : goal.returns-clause-shown
returns-clause-shown c =
    let u = c.args.unit.now in
    let ws = words_data c.args.list.now.list.items in
    let policy = c.in_ok-policy.policy in
    shown_or_none u (limit_of c.args.states) c.args.at ws policy (map places_data c.in_ok-found.found.items) _ c.requires c.in_ok-policy.ensures.spelled c.in_ok-found.ensures.placed
    (either u c.as_slice-profiles.result.now policy.profiles c.as_slice.result.now c.in_ok-found.found.items c.args.at _
    (limit_of c.args.states) _ c.as_slice-profiles.ensures c.as_slice.ensures.value (search rules) c.in_ok-clash_lines.ensures)

pub returns-clause-own : goal.returns-clause-own
returns-clause-own c = λ given too refused.
    let u = c.args.unit.now in
    let ws = words_data c.args.list.now.list.items in
    let policy = c.in_ok-policy.policy in
    own_shown u (limit_of c.args.states) c.args.at ws policy given (map places_data c.in_ok-found.found.items) _ c.requires c.in_ok-policy.ensures.spelled c.in_ok-found.ensures.placed too refused
    (either u c.as_slice-profiles.result.now policy.profiles c.as_slice.result.now c.in_ok-found.found.items c.args.at _
    (limit_of c.args.states) _ c.as_slice-profiles.ensures c.as_slice.ensures.value (search rules) c.in_ok-clash_lines.ensures)
