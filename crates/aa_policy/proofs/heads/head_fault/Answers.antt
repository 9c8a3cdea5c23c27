use Rattle.std.proofs.Common.{codes, ◌+◌, rules}
use Rattle.aa_rules.specs.Grammar.{Keyword, LacksKeyword}
use Rattle.aa_rules.specs.Reading.{rest_of}
use Rattle.aa_policy.specs.HeadFaults.{Attributes, Other}
use Rattle.aa_policy.proofs.heads.head_fault.Goals as goal

pub returns-then-keyword_stands-clause-stops : goal.returns-then-keyword_stands-clause-stops
returns-then-keyword_stands-clause-stops c =
    let keyword : Keyword (codes "xattrs") (rest_of c.args.words.now c.args.at) (rest_of c.args.words.now (c.args.at + 1)) = search rules in
    Attributes _ keyword c.fault.ensures.kind

pub returns-clause-stops : goal.returns-clause-stops
returns-clause-stops c =
    let none : LacksKeyword (codes "xattrs") (rest_of c.args.words.now c.args.at) = search rules in
    Other none c.fault-2.ensures.kind
