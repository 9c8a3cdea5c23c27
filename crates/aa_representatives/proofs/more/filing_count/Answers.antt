use Rattle.std.proofs.Common.{length, refl, sym, ap, ◌∙◌}
use Rattle.std.proofs.lemmas.Option.{slice_get_read}
use Rattle.aa_representatives.proofs.Making.{filing_found, filing_lost}
use Rattle.aa_representatives.proofs.more.filing_count.Goals as goal

pub returns-in-Some : goal.returns-in-Some
returns-in-Some c =
    let found = c.in-Some.ensures.lookup in
    let there = slice_get_read c.args.policies.now (length c.args.policies.now) c.in-Confined.policy c.in-Some.compiled.now refl found.3.0 found.1 in
    let is = filing_found c.args.policies.now c.args.label c.in-Confined.policy c.in-Confined.number c.in-Some.compiled.now c.in-Confined.is there in
    c.filing_count_in.ensures ∙ sym (ap length is)

pub returns-in-None : goal.returns-in-None
returns-in-None c =
    sym (ap length (filing_lost c.args.policies.now c.args.label c.in-Confined.policy c.in-Confined.number c.in-Confined.is c.in-None.ensures.lookup.3))
