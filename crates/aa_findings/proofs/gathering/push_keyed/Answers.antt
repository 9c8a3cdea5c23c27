use Rattle.std.proofs.Common.{List, ℕ, Option, Some, None, cond, take, ap, ◌∙◌}
use Rattle.std.specs.Prelude.{position}
use Rattle.std.specs.Option.{option_or}
use Rattle.std.specs.Str.{bytes_eq}
use Rattle.aa_findings.specs.Keys.{key_with, key_of}
use Rattle.aa_findings.proofs.Keying.{first_same, firsts_more}
use Rattle.aa_findings.proofs.gathering.push_keyed.Goals as goal

pub push_file-requires-clause-earlier : goal.push_file-requires-clause-earlier
push_file-requires-clause-earlier c =
    let rows = c.args.rows.now in
    let r = c.args.rule.now in
    let before = take c.args.number c.args.rules.now in
    c.in_ok-earlier.ensures.found
    ∙ c.requires.firsts (key_with r c.args.applied.now)
    ∙ ap (λ (places : List ℕ). position (λ q. bytes_eq (key_with r places) (key_of rows q)) before) c.requires.applied
    ∙ first_same rows r before

pub returns-clause-firsts : goal.returns-clause-firsts
returns-clause-firsts c = λ key.
    let rows = c.args.rows.now in
    let r = c.args.rule.now in
    let n = c.args.number in
    let rules = c.args.rules.now in
    let was = position (λ q. bytes_eq key (key_of rows q)) (take n rules) in
    c.in_ok-earlier.ensures.added key
    ∙ ap (λ (o : Option ℕ). option_or o (cond (bytes_eq key (key_with r c.args.applied.now)) (Some n) None)) (c.requires.firsts key)
    ∙ ap (λ (places : List ℕ). option_or was (cond (bytes_eq key (key_with r places)) (Some n) None)) c.requires.applied
    ∙ firsts_more rows rules n r key c.requires.rule
