use Rattle.std.proofs.Common.{◌≡◌, ◌≤◌, None, Result, Ok, Err, IfErr, length, inl, inr, ⊎_elim, refl, sym, subst, ◌∙◌, arith}
use Rattle.std.specs.Result.{IsErrAnd}
use Rattle.std.proofs.lemmas.Option.{slice_get_read}
use Rattle.aa_compile.specs.Attached.{attachments_by}
use Rattle.aa_base.specs.declared.fault.PolicyFault.{PolicyFault}
use Rattle.aa_base.specs.Kinds.{no_memory}
use Rattle.aa_compile.specs.Checks.{attached_patterns, Refuses, AtProfile}
use Rattle.aa_compile.specs.Patterns.{HasAutomaton}
use Rattle.aa_compile.proofs.Counts.{attachments_few}
use Rattle.aa_compile.proofs.compiling.tables_of.Goals as goal

handed_on : {T : Type 0} (r : Result T PolicyFault) (P Q : PolicyFault → Type 0) → IsErrAnd r P → ((y : PolicyFault) → P y → Q y) → IfErr r Q
handed_on (Ok t) P Q h f = absurd h
handed_on (Err y) P Q h f = f y h

pub build-requires-clause-few : goal.build-requires-clause-few
build-requires-clause-few c =
    let e = c.as_slice.ensures.value ∙ c.in_ok-numbers.ensures in
    subst (λ ns. length (attachments_by c.args.profiles.now ns) ≤ 65535) (sym e) (attachments_few c.args.profiles.now None c.requires.limits)

pub groups_of-requires-clause-parents : goal.groups_of-requires-clause-parents
groups_of-requires-clause-parents c = λ k n p lt is up.
    let at = slice_get_read c.args.profiles.now (length c.args.profiles.now) k p refl lt is in
    let before = (c.requires.parents k n p at up).0 in
    omega (arith, lt, before)

pub returns-in_err-rows-clause-refused : goal.returns-in_err-rows-clause-refused
returns-in_err-rows-clause-refused c =
    let f = c.in_err-rows.field-0.0 in
    let above = subst (λ ns. HasAutomaton (attached_patterns c.args.profiles.now ns) c.args.limit) (c.as_slice.ensures.value ∙ c.in_ok-numbers.ensures) c.in-Ok.ensures.fits in
    handed_on c.from_residual-in_err-rows.result _ _ c.from_residual-in_err-rows.ensures.1
    (λ y p. rw p (⊎_elim (λ (e : f ≡ no_memory). inl e) (λ (x : Refuses c.args.profiles.now c.args.limit f). inr (AtProfile above x)) c.in_err-rows.ensures.fails))

pub returns-clause-accepted : goal.returns-clause-accepted
returns-clause-accepted c = record {
  above = subst (λ ns. HasAutomaton (attached_patterns c.args.profiles.now ns) c.args.limit) (c.as_slice.ensures.value ∙ c.in_ok-numbers.ensures) c.in-Ok.ensures.fits;
  each = c.in_ok-rows.ensures.passes;
}
