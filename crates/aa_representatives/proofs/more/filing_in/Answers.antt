use Rattle.std.proofs.Common.{sym, subst}
use Rattle.aa_auto.specs.Pairs.{IsBuilt}
use Rattle.aa_compile.proofs.HeldLemmas.{profile_there}
use Rattle.aa_representatives.proofs.Making.{filing_is, no_filing}
use Rattle.aa_representatives.proofs.more.filing_in.Goals as goal

pub file_automaton-requires : goal.file_automaton-requires
file_automaton-requires c = c.has_profile.ensures.0 c.if-has_profile.true

pub returns-then-has_profile : goal.returns-then-has_profile
returns-then-has_profile c =
    let ps = c.args.compiled.now.profiles in
    let n = c.args.number in
    let there = profile_there ps n (c.has_profile.ensures.0 c.if-has_profile.true) in
    subst (λ qs. IsBuilt qs c.file_automaton.result.now) (sym (filing_is ps n there.0 there.1)) (c.file_automaton.ensures there.0 there.1)

pub returns : goal.returns
returns c =
    let none = no_filing c.args.compiled.now.profiles c.args.number c.has_profile.result c.has_profile.ensures c.if-has_profile.false in
    subst (λ qs. IsBuilt qs c.args.none.now) (sym none) c.requires
