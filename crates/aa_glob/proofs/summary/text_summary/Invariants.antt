use Rattle.std.proofs.Common.{ℕ, ◌≤◌, List, length}
use Rattle.aa_glob.specs.Variables.{Variable}
use Rattle.aa_glob.specs.Pieces.{pieces_from}
use Rattle.aa_glob.specs.Expansions.{joined, outcome, outcome_of}
use Rattle.aa_glob.specs.Settled.{times}
use Rattle.aa_glob.specs.Known.{AreKnown, AreRight}
use Rattle.aa_glob.proofs.Summaries.{GoesOn}
use Rattle.aa_glob.proofs.summary.text_summary.Given as goal

abbrev pub invariant-loop-part : goal.invariant-loop-part
invariant-loop-part l = record {
  known : AreKnown l.done.entries (pieces_from l.kept 0 l.rest);
  small : l.summary.count ≤ 1025;
  goes : (depth : ℕ) (vars : List Variable) → AreRight depth vars l.done.entries → GoesOn times (outcome_of depth vars l.text) (joined (outcome depth vars) (pieces_from l.kept 0 l.rest)) l.summary;
}

abbrev pub decreases-loop-part : goal.decreases-loop-part
decreases-loop-part l = length l.rest
