use Rattle.std.proofs.Common.{flat_map, take}
use Rattle.std.specs.Io.KnownBytes.{Appends}
use Rattle.std.specs.String.{string_bytes}
use Rattle.aa_engine.proofs.stream.write_parts.Given as goal

abbrev pub invariant-loop-part : goal.invariant-loop-part
invariant-loop-part g l =
    let contents = g.W.Write.contents in
    Appends (contents l.fn.writer) (contents l.writer) (flat_map string_bytes (take l.part-index l.parts))
