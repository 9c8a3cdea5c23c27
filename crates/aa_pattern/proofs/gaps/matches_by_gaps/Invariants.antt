use Rattle.std.proofs.Common.{◌<◌, length, take}
use Rattle.aa_pattern.specs.Flags.{StandsIn}
use Rattle.aa_pattern.proofs.gaps.matches_by_gaps.Given as goal

abbrev pub invariant-loop-byte : goal.invariant-loop-byte
invariant-loop-byte g l = record {
  long : length l.items < length l.gaps;
  stands : StandsIn l.gaps l.items (take l.byte-index l.text);
}
