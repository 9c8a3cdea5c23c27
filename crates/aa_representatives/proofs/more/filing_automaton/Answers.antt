use Rattle.std.proofs.Common.{length, refl, sym, subst}
use Rattle.std.proofs.lemmas.Option.{slice_get_read}
use Rattle.aa_auto.specs.Pairs.{IsBuilt}
use Rattle.aa_representatives.proofs.Making.{filing_found, filing_lost}
use Rattle.aa_representatives.proofs.more.filing_automaton.Goals as goal

pub returns-in-Some : goal.returns-in-Some
returns-in-Some c =
    let found = c.in-Some.ensures.lookup in
    let there = slice_get_read c.args.policies.now (length c.args.policies.now) c.in-Confined.policy c.in-Some.compiled.now refl found.3.0 found.1 in
    let is = filing_found c.args.policies.now c.args.label c.in-Confined.policy c.in-Confined.number c.in-Some.compiled.now c.in-Confined.is there in
    subst (λ ps. IsBuilt ps c.filing_in.result.now) (sym is) c.filing_in.ensures

pub returns-in-None : goal.returns-in-None
returns-in-None c =
    let none = filing_lost c.args.policies.now c.args.label c.in-Confined.policy c.in-Confined.number c.in-Confined.is c.in-None.ensures.lookup.3 in
    subst (λ ps. IsBuilt ps c.args.none.now) (sym none) c.requires
