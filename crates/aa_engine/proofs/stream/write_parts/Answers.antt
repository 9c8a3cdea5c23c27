use Rattle.std.proofs.Common.{◌≡◌, ◌∙◌, ℕ, ◌+◌, ◌≤◌, List, length, take, get_or, ap, subst, string_bytes}
use Rattle.std.specs.Io.KnownBytes.{Appends}
use Rattle.std.proofs.KnownBytes.{Appends-trans}
use Rattle.aa_engine.proofs.Streams.{bytes_of, front_of, front_within}
use Rattle.aa_engine.proofs.stream.write_parts.Goals as goal

pub returns-in-Err-clause-err : goal.returns-in-Err-clause-err
returns-in-Err-clause-err g c =
    let contents = g.W.Write.contents in
    let parts = c.args.parts.now in
    let i = c.loop-part.part-index in
    let d = c.part-item.result in
    let text-is : c.as_bytes.result.now ≡ string_bytes (get_or parts i d) = c.as_bytes.ensures.value ∙ ap string_bytes c.part-item.is in
    let written = subst (λ (t : List ℕ). (n : ℕ) × (n ≤ length t) × Appends (contents c.loop-part.writer) (contents c.write_text.new.writer) (take n t)) text-is c.in-Err.ensures.err in (
      length (bytes_of (take i parts)) + written.0,
      front_within parts i d written.0 c.loop-part-test.true written.1,
      subst (λ (bs : List ℕ). Appends (contents c.args.writer.now) (contents c.write_text.new.writer) bs) (front_of parts i d written.0 c.loop-part-test.true written.1)
          (Appends-trans _ _ _ _ _ c.loop-part.invariant written.2),
    )
