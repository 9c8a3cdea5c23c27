use Rattle.std.proofs.Common.{◌≡◌, ℕ, length, Some, None, Contains, refl, sym, ap, ◌∙◌, subst}
use Rattle.std.specs.Prelude.{option_map}
use Rattle.std.specs.Borrow.{Bor}
use Rattle.std.specs.List.{slice_get}
use Rattle.std.proofs.lemmas.Option.{same_Some, slice_get_read}
use Rattle.aa_model.specs.declared.policy.Profile.{Profile}
use Rattle.aa_model.specs.declared.label.Label.TheVariants.{Confined}
use Rattle.aa_compile.specs.Labels.{profile_in}
use Rattle.aa_compile.specs.Transitions.{named}
use Rattle.aa_differences.specs.declared.labels.Labels.{Labels}
use Rattle.aa_differences.proofs.Pairing.{called_number, called_same, pushed_pair, pair_there}
use Rattle.aa_differences.proofs.labels.add_profile.Goals as goal

pub returns-in_default-find-clause-has : goal.returns-in_default-find-clause-has
returns-in_default-find-clause-has c = λ p j at same.
    let ps = c.args.old.now in
    let qs = c.args.new.now in
    let k = c.args.policy in
    let found = c.in-Some-get.ensures.lookup in
    let there : slice_get qs k ≡ Some c.in-Some-get.compiled.now = slice_get_read qs (length qs) k c.in-Some-get.compiled.now refl found.3.0 found.1 in
    let here : profile_in ps k c.args.number ≡ Some c.in-Some.profile.now = sym c.profile_of.ensures ∙ ap (option_map (λ (x : Bor Profile). x.now)) c.in-Some.is in
    let none : None ≡ Some j = sym c.in_default-find.is ∙ c.find.ensures ∙ ap (named c.in-Some-get.compiled.now.profiles) c.as_slice.ensures
    ∙ called_number ps qs k c.args.number j c.in-Some.profile.now c.in-Some-get.compiled.now here there same in
    absurd (let h = none in cc)

pub returns-clause-adds : goal.returns-clause-adds
returns-clause-adds c =
    let ps = c.args.old.now in
    let qs = c.args.new.now in
    let k = c.args.policy in
    let found = c.in-Some-get.ensures.lookup in
    let there : slice_get qs k ≡ Some c.in-Some-get.compiled.now = slice_get_read qs (length qs) k c.in-Some-get.compiled.now refl found.3.0 found.1 in
    let here : profile_in ps k c.args.number ≡ Some c.in-Some.profile.now = sym c.profile_of.ensures ∙ ap (option_map (λ (x : Bor Profile). x.now)) c.in-Some.is in
    let is : named c.in-Some-get.compiled.now.profiles c.in-Some.profile.now.name ≡ Some c.in-Some-find.other =
    sym (ap (named c.in-Some-get.compiled.now.profiles) c.as_slice.ensures) ∙ sym c.find.ensures ∙ c.in-Some-find.is in
    let x : Labels = record { from = Confined k c.args.number; to = Confined k c.in-Some-find.other } in
    pushed_pair ps qs c.args.labels.now.items c.push.new.self.items x c.in_ok-push.ensures.items
    (called_same ps qs k c.args.number c.in-Some-find.other c.in-Some.profile.now c.in-Some-get.compiled.now here there is)

pub returns-clause-has : goal.returns-clause-has
returns-clause-has c = λ p j at same.
    let ps = c.args.old.now in
    let qs = c.args.new.now in
    let k = c.args.policy in
    let found = c.in-Some-get.ensures.lookup in
    let there : slice_get qs k ≡ Some c.in-Some-get.compiled.now = slice_get_read qs (length qs) k c.in-Some-get.compiled.now refl found.3.0 found.1 in
    let here : profile_in ps k c.args.number ≡ Some c.in-Some.profile.now = sym c.profile_of.ensures ∙ ap (option_map (λ (x : Bor Profile). x.now)) c.in-Some.is in
    let is : c.in-Some-find.other ≡ j =
    same_Some c.in-Some-find.other j
    (sym c.in-Some-find.is ∙ c.find.ensures ∙ ap (named c.in-Some-get.compiled.now.profiles) c.as_slice.ensures
    ∙ called_number ps qs k c.args.number j c.in-Some.profile.now c.in-Some-get.compiled.now here there same) in
    let x : Labels = record { from = Confined k c.args.number; to = Confined k c.in-Some-find.other } in
    subst (λ (i : ℕ). Contains c.push.new.self.items (record { from = Confined k c.args.number; to = Confined k i })) is (pair_there c.args.labels.now.items c.push.new.self.items x c.in_ok-push.ensures.items)
