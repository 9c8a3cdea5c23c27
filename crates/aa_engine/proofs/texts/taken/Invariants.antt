use Rattle.std.proofs.Common.{flat_map, string_bytes}
use Rattle.aa_engine.proofs.Writing.{Joining}
use Rattle.aa_engine.proofs.texts.taken.Given as goal

abbrev pub invariant-loop-text : goal.invariant-loop-text
invariant-loop-text g l = Joining (flat_map string_bytes l.parts.items) l.text-iterator.rest.items l.fn.texts.items
