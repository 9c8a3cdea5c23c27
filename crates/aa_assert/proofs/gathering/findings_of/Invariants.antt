use Rattle.std.proofs.Common.{take}
use Rattle.aa_compile.specs.Labels.{first_profiles}
use Rattle.aa_load.specs.UnitPolicy.{limit_of}
use Rattle.aa_assert.specs.Findings.{AreFoundOf, all_found}
use Rattle.aa_assert.proofs.gathering.findings_of.Given as goal

abbrev pub invariant-loop-number : goal.invariant-loop-number
invariant-loop-number l =
    AreFoundOf l.claim.is_first l.part (limit_of l.claim.states) l.claim.words.now l.claim.asked.now l.claim.word.now.text.items
    (take l.number (first_profiles l.part.decided.policies.now)) (all_found l.findings)
