-- What is decided of logs is what the policy of all files answers, whatever profiles the skipped ones have.
-- Source: own.
use Rattle.std.specs.Prelude.{◌≡◌, ℕ, List, [], ◌∷◌}
use Rattle.aa_model.specs.declared.policy.Policy.{Policy}
use Rattle.aa_command.specs.declared.decided.Decided.{Decided}
use Rattle.aa_skipped.specs.declared.skipped.Skipped.{Skipped}
use Rattle.aa_undecided.specs.Holding.{IsWhole}
use Rattle.aa_log.specs.declared.logging.Entry.{Entry}
use Rattle.aa_log.specs.Replayed.{now_for}
use Rattle.aa_log.specs.Against.{now_of}
use Rattle.aa_against.specs.Parted.{files_for}

-- a request of logs that no skipped file could decide is answered now by that policy as it is by the files that are read
abbrev pub ReplaysHold : Type 0
ReplaysHold = (d : Decided) (skipped : List Skipped) (read whole : Policy) (place : ℕ → ℕ) → IsWhole d skipped read whole place
    → (e : Entry) → files_for d skipped e ≡ [] → now_for (whole ∷ []) e.profile.items e.request ≡ now_of d e
