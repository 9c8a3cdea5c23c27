use Rattle.std.proofs.Common.{List, subst, sym}
use Rattle.aa_model.specs.declared.policy.Profile.{Profile}
use Rattle.aa_model.specs.Lawful.{IsLawful}
use Rattle.aa_policy.specs.Bodies.{tree_data}
use Rattle.aa_policy.proofs.Meaning.{few_trees}
use Rattle.aa_policy.proofs.Spelled.{lawful}
use Rattle.aa_policy.proofs.parser.policy_of.Goals as goal

pub rules_passed_over-requires : goal.rules_passed_over-requires
rules_passed_over-requires c =
    let meant = c.in_ok-profiles.ensures.meant in
    record { few = few_trees c.args.vars.now c.args.tree.now c.in_ok-profiles.profiles.items meant.means meant.limits.counts.few }

pub invariant_of-result : goal.invariant_of-result
invariant_of-result c =
    let w = c.requires.written in
    let meant = c.in_ok-profiles.ensures.meant in
    record {
      lawful = subst (λ (ps : List Profile). IsLawful ps) (sym c.from_vec.ensures)
          (lawful w.0 c.args.vars.now (tree_data c.args.tree.now) c.in_ok-profiles.profiles.items w.1 meant.means meant.distinct meant.limits);
    }
