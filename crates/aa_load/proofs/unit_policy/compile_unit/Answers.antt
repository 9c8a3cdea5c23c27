use Rattle.std.proofs.Common.{ℕ, List, subst, rules}
use Rattle.aa_policies.specs.Policies.{Source, IsFaultOfText}
use Rattle.aa_load.specs.UnitPolicy.{texts_of, limit_of, OfText}
use Rattle.aa_load.proofs.unit_policy.compile_unit.Goals as goal

pub returns-clause-cause : goal.returns-clause-cause
returns-clause-cause c = λ other.
    let sources = texts_of c.args.unit.now in
    let e = c.in-Err-compile_text.fault in
    OfText c.in-Ok.ensures.fit
    (subst (λ (text : List ℕ). IsFaultOfText sources (limit_of c.args.states) text e) c.as_slice.ensures.value
    (subst (λ (n : ℕ). IsFaultOfText sources n c.as_slice.result.now e) c.limit_of.ensures
    (subst (λ (s : List Source). IsFaultOfText s c.limit_of.result c.as_slice.result.now e) c.in-Ok.ensures.gathered (c.in-Err-compile_text.ensures.cause other))))

pub returns-in-Ok-compile_text-clause-compiled : goal.returns-in-Ok-compile_text-clause-compiled
returns-in-Ok-compile_text-clause-compiled c = search rules
