use Rattle.std.proofs.Common.{length, sym, ap, ◌∙◌}
use Rattle.aa_compile.proofs.HeldLemmas.{profile_there}
use Rattle.aa_representatives.proofs.Making.{filing_is, no_filing}
use Rattle.aa_representatives.proofs.more.filing_count_in.Goals as goal

pub file_patterns-requires : goal.file_patterns-requires
file_patterns-requires c = c.has_profile.ensures.0 c.if-has_profile.true

pub returns-then-has_profile : goal.returns-then-has_profile
returns-then-has_profile c =
    let ps = c.args.compiled.now.profiles in
    let n = c.args.number in
    let there = profile_there ps n (c.has_profile.ensures.0 c.if-has_profile.true) in
    c.file_patterns.ensures.count there.0 there.1 ∙ sym (ap length (filing_is ps n there.0 there.1))

pub returns : goal.returns
returns c =
    sym (ap length (no_filing c.args.compiled.now.profiles c.args.number c.has_profile.result c.has_profile.ensures c.if-has_profile.false))
