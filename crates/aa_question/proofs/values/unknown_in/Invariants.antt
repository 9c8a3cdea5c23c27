use Rattle.std.proofs.Common.{◌≡◌}
use Rattle.serde_json.specs.View.{members_view}
use Rattle.aa_files.specs.Texts.{slices}
use Rattle.aa_question.specs.Values.{unknown_in}
use Rattle.aa_question.proofs.Members.{first_key}
use Rattle.aa_question.proofs.values.unknown_in.Given as goal

abbrev pub invariant-loop-key : goal.invariant-loop-key
invariant-loop-key l = first_key (slices l.names) l.key-iterator ≡ unknown_in (slices l.names) (members_view l.members.entries)
