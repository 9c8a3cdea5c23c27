use Rattle.std.proofs.Common.{ap, sym, ◌∙◌, List, ℕ, add-one}
use Rattle.aa_model.specs.declared.policy.Profile.{Profile}
use Rattle.aa_load.specs.Faults.{number_of}
use Rattle.aa_load.proofs.Places.{repeated_at, unrepeated_more}
use Rattle.aa_load.proofs.numbers.first_repeated.Goals as goal

pub returns-in-Some : goal.returns-in-Some
returns-in-Some c = λ earlier are.
    let p = c.index-profiles-later in
    sym (repeated_at earlier c.args.profiles.now c.loop-later.later c.in-Some.earlier.now p.result c.loop-later-test.true (c.loop-later.invariant earlier are)
    (ap (λ (q : Profile). number_of q.name earlier) (sym p.is) ∙ ap (λ (t : List ℕ). number_of t earlier) (sym c.as_slice.ensures) ∙ sym (are c.as_slice.result.now) ∙ sym c.in-Some.ensures.value))

pub loop-later-preserved : goal.loop-later-preserved
loop-later-preserved c = λ earlier are.
    let p = c.index-profiles-later in
    rw add-one (unrepeated_more earlier c.args.profiles.now c.loop-later.later p.result c.loop-later-test.true (c.loop-later.invariant earlier are)
    (ap (λ (q : Profile). number_of q.name earlier) (sym p.is) ∙ ap (λ (t : List ℕ). number_of t earlier) (sym c.as_slice.ensures) ∙ sym (are c.as_slice.result.now) ∙ sym c.in_default.ensures.value))
