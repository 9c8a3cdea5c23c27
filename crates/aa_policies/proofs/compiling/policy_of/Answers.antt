use Rattle.aa_policies.specs.Policies.{OfText}
use Rattle.aa_policies.proofs.Rows.{spelled_by, fault_of_words}
use Rattle.aa_policies.proofs.compiling.policy_of.Goals as goal

pub returns-in-Ok-clause-spelled : goal.returns-in-Ok-clause-spelled
returns-in-Ok-clause-spelled c = spelled_by _ c.args.text.now _ c.parse.result c.in-Ok.ensures.split c.parse.ensures.spelled

pub returns-in-Ok-clause-cause : goal.returns-in-Ok-clause-cause
returns-in-Ok-clause-cause c =
    let e = c.parse.ensures in
    let w = c.in-Ok.ensures in
    fault_of_words _ c.args.text.now c.in-Ok.list.list.items c.in-Ok.list.end c.parse.result w.split w.end e.refused e.twice e.undefined e.at_path e.duplicate e.too_large e.unwritten e.unsupported e.kinds e.exact

pub returns-in-Err-clause-cause : goal.returns-in-Err-clause-cause
returns-in-Err-clause-cause c = λ other limit. OfText (c.in-Err.ensures.refused other) c.in-Err.ensures.fault
