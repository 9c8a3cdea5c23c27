-- Numbers of labels.
-- Source: own.
use Rattle.std.specs.Prelude.{ℕ, ◌+◌, ◌*◌, ◌<◌}
use Rattle.aa_model.specs.declared.label.Label.{Label}
use Rattle.aa_model.specs.declared.label.Label.TheVariants.{Unconfined, Confined}

-- the number of a label, which no other has: those of tasks without a profile first
abbrev pub code : Label → ℕ
code (Unconfined k) = k
code (Confined k n) = 65536 + 65536 * k + n

-- its numbers are those of policies and profiles that can be
abbrev pub IsFit : Label → Type 0
IsFit (Unconfined k) = k < 65536
IsFit (Confined k n) = (k < 65536) × (n < 65536)

-- labels have no higher numbers
abbrev pub most_labels : ℕ
most_labels = 4295032832
