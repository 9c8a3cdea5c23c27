use Rattle.std.proofs.Common.{arith, ◌∙◌, refl}
use Rattle.std.proofs.lemmas.Grind.{common_steps}
use Rattle.aa_load.specs.Joined.{rows_of}
use Rattle.aa_load.specs.Kept.{kept_rows}
use Rattle.aa_load.proofs.Joins.{parents_ready, rules_ready, more_kept}
use Rattle.aa_load.proofs.kept.take_in.Goals as goal

pub move_profiles-requires : goal.move_profiles-requires
move_profiles-requires c =
    parents_ready (kept_rows c.args.kept.now) (rows_of c.args.policy) _ c.len-before.result c.args.policy.lawful.parents c.requires.ready.joinable
    (c.deref_mut.ensures.value ∙ c.into_vec-profiles.ensures) (omega (arith, c.len-before.ensures, c.args.kept.now.profiles.ok))

pub move_rules-requires : goal.move_rules-requires
move_rules-requires c =
    rules_ready (kept_rows c.args.kept.now) (rows_of c.args.policy) _ c.len-before.result c.requires.ready.joinable
    (c.deref_mut-2.ensures.value ∙ c.into_vec-rules.ensures) (omega (arith, c.len-before.ensures, c.args.kept.now.profiles.ok))

pub returns-clause-kept : goal.returns-clause-kept
returns-clause-kept c = more_kept c.args.kept.now _ c.args.policy c.requires.ready (grind (arith, common_steps)) refl c.requires.count
