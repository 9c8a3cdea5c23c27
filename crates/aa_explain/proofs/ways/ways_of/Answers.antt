use Rattle.std.proofs.Common.{◌++◌, ◌+◌, length, refl, sym, ap, ◌∙◌, subst}
use Rattle.std.proofs.lemmas.Option.{slice_get_read}
use Rattle.aa_auto.specs.Nodes.{pointed}
use Rattle.aa_explain.specs.Clashes.{AreOwners}
use Rattle.aa_explain.proofs.Owning.{theirs, owners_more, executing_more}
use Rattle.aa_explain.proofs.ways.ways_of.Goals as goal

pub loop-number-preserved : goal.loop-number-preserved
loop-number-preserved c =
    let rules = c.args.rules.now in
    let k = c.loop-number.number in
    let r = c.index-rules-number.result in
    let was = c.loop-number.ways in
    let patterns = pointed was.patterns.items in
    let at = slice_get_read rules (length rules) k r refl c.loop-number-test.true c.index-rules-number.is in
    let made = c.in_ok-add_rule.ensures in
    record {
      patterns = made.patterns ∙ ap (λ ps. ps ++ theirs r r.patterns) c.loop-number.invariant.patterns ∙ sym (executing_more rules k r at);
      owners = subst (λ ps. AreOwners rules (k + 1) ps c.add_rule.new.ways.owners.items) (sym made.patterns)
          (subst (λ os. AreOwners rules (k + 1) (patterns ++ theirs r r.patterns) os) (sym made.owners) (owners_more rules k r at patterns was.owners.items c.loop-number.invariant.owners));
    }
