use Rattle.std.proofs.Common.{◌≡◌, length}
use Rattle.serde_json.specs.View.{items_view}
use Rattle.aa_messages.specs.Journal.{bytes_of}
use Rattle.aa_messages.proofs.Bytes.{behind}
use Rattle.aa_messages.proofs.journal.bytes_of.Given as goal

abbrev pub invariant-loop-rest : goal.invariant-loop-rest
invariant-loop-rest l = behind l.bytes.items (bytes_of (items_view l.rest)) ≡ bytes_of (items_view l.values)

abbrev pub decreases-loop-rest : goal.decreases-loop-rest
decreases-loop-rest l = length l.rest
