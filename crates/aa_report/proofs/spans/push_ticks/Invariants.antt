use Rattle.std.proofs.Common.{◌≡◌, ◌++◌, take, flat_map}
use Rattle.aa_report.specs.Spans.{tick_if}
use Rattle.aa_report.proofs.spans.push_ticks.Given as goal

abbrev pub invariant-loop-byte : goal.invariant-loop-byte
invariant-loop-byte l = l.out.items ≡ l.initial.out.items ++ flat_map tick_if (take l.byte-index l.text)
