use Rattle.std.proofs.Common.{◌++◌, length, sym, ap, arith, length-append}
use Rattle.aa_compile.specs.Rows.{patterns_of}
use Rattle.aa_compile.specs.Checks.{attached_patterns}
use Rattle.aa_compile.specs.Transitions.{tops, children}
use Rattle.aa_compile.proofs.HeldLemmas.{profile_there}
use Rattle.aa_representatives.proofs.Making.{deciding_is, none_there}
use Rattle.aa_representatives.proofs.automata.count_in_profile.Goals as goal

pub file_patterns-requires : goal.file_patterns-requires
file_patterns-requires c = c.has_profile.ensures.0 c.if-has_profile.true

pub child_patterns-requires : goal.child_patterns-requires
child_patterns-requires c = c.has_profile.ensures.0 c.if-has_profile.true

pub returns-then-has_profile : goal.returns-then-has_profile
returns-then-has_profile c =
    let ps = c.args.compiled.now.profiles in
    let n = c.args.number in
    let there = profile_there ps n (c.has_profile.ensures.0 c.if-has_profile.true) in
    let files = patterns_of there.0.files in
    let above = attached_patterns ps (tops ps) in
    let below = attached_patterns ps (children ps n) in
    omega (
      arith,
      ap length (deciding_is ps n there.0 there.1),
      length-append (files ++ above) below,
      length-append files above,
      c.file_patterns.ensures.count there.0 there.1,
      c.top_patterns.ensures.count,
      c.child_patterns.ensures.count,
    )

pub returns : goal.returns
returns c =
    sym (ap length (none_there c.args.compiled.now.profiles c.args.number c.has_profile.result c.has_profile.ensures c.if-has_profile.false))
