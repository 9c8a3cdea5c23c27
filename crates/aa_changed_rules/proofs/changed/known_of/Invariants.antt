use Rattle.std.proofs.Common.{take}
use Rattle.aa_changed_rules.specs.Forms.{lists}
use Rattle.aa_changed_rules.specs.Changed.{AreKnown}
use Rattle.aa_changed_rules.proofs.changed.known_of.Given as goal

abbrev pub invariant-loop-form : goal.invariant-loop-form
invariant-loop-form l = AreKnown l.known.keys (lists (take l.form-index l.forms))
