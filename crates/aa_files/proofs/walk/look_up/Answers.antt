use Rattle.std.proofs.Common.{◌≡◌, List, ℕ, Option, Some, None, refl, sym, ap, ◌∙◌, rules}
use Rattle.std.proofs.lemmas.Result.{on_ok_weaker}
use Rattle.aa_files.specs.declared.unit.Source.{Source}
use Rattle.aa_files.specs.Walks.{Entry, known_of}
use Rattle.aa_files.specs.WalkData.{asked}
use Rattle.aa_files.specs.WalkData.Adds.{Old}
use Rattle.aa_files.proofs.Faulted.{look_up_faults}
use Rattle.aa_files.proofs.walk.look_up.Goals as goal

pub returns-in-Some-Some-clause-adds : goal.returns-in-Some-Some-clause-adds
returns-in-Some-Some-clause-adds g c =
    let files = g.T.Tree.files c.args.tree.now in
    let unit = c.args.unit.now in
    let name : known_of unit.known.entries c.args.wanted.name.items ≡ Some c.in-Some-Some.field-0 =
    ap (λ (q : List ℕ). known_of unit.known.entries q) (sym c.as_slice.ensures.value) ∙ sym c.get.ensures.value ∙ sym c.copied-known.ensures ∙ c.in-Some-Some.is in
    let known : known_of unit.known.entries c.args.wanted.name.items ≡ Some (Some c.in-Some-Some.index) = name ∙ ap (λ (o : Option ℕ). Some o) (search rules) in
    on_ok_weaker c.check_known.result
    (λ h. record { path = refl {A = List ℕ}; text = refl {A = List ℕ}; adds = Old (Some c.in-Some-Some.index) known h (refl {A = List Source}) (refl {A = List Entry}) })
    c.check_known.ensures.agrees

pub returns-in-Some-None-clause-adds : goal.returns-in-Some-None-clause-adds
returns-in-Some-None-clause-adds g c =
    let unit = c.args.unit.now in
    let name : known_of unit.known.entries c.args.wanted.name.items ≡ Some c.in-Some-None.field-0 =
    ap (λ (q : List ℕ). known_of unit.known.entries q) (sym c.as_slice.ensures.value) ∙ sym c.get.ensures.value ∙ sym c.copied-known.ensures ∙ c.in-Some-None.is in
    let known : known_of unit.known.entries c.args.wanted.name.items ≡ Some None = name ∙ ap (λ (o : Option ℕ). Some o) (search rules) in
    on_ok_weaker c.check_missing.result
    (λ h. record { path = refl {A = List ℕ}; text = refl {A = List ℕ}; adds = Old None known h (refl {A = List Source}) (refl {A = List Entry}) })
    c.check_missing.ensures.agrees

pub returns-in-None-clause-fault : goal.returns-in-None-clause-fault
returns-in-None-clause-fault g c =
    look_up_faults (g.T.Tree.files c.args.tree.now) c.args.unit.now c.args.node c.args.wanted.byte (asked c.args.wanted) c.look_up_new.result c.look_up_new.ensures.fault

pub check_known-requires : goal.check_known-requires
check_known-requires g c =
    let unit = c.args.unit.now in
    let name : known_of unit.known.entries c.args.wanted.name.items ≡ Some c.in-Some-Some.field-0 =
    ap (λ (q : List ℕ). known_of unit.known.entries q) (sym c.as_slice.ensures.value) ∙ sym c.get.ensures.value ∙ sym c.copied-known.ensures ∙ c.in-Some-Some.is in
    name ∙ ap (λ (o : Option ℕ). Some o) (search rules)

pub check_missing-requires : goal.check_missing-requires
check_missing-requires g c =
    let unit = c.args.unit.now in
    let name : known_of unit.known.entries c.args.wanted.name.items ≡ Some c.in-Some-None.field-0 =
    ap (λ (q : List ℕ). known_of unit.known.entries q) (sym c.as_slice.ensures.value) ∙ sym c.get.ensures.value ∙ sym c.copied-known.ensures ∙ c.in-Some-None.is in
    name ∙ ap (λ (o : Option ℕ). Some o) (search rules)
