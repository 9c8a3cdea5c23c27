use Rattle.std.proofs.Common.{sym, subst, arith, drop, length, ◌-◌, List}
use Rattle.std.specs.Prelude.{ℕ}
use Rattle.std.specs.Io.KnownBytes.{Appends}
use Rattle.std.proofs.KnownBytes.{Appends-trans}
use Rattle.std.proofs.lemmas.List.{length-take, length-drop}
use Rattle.aa_command.proofs.Streams.{more}
use Rattle.aa_command.proofs.writing.write_text.Goals as goal

pub writes-preserved : goal.writes-preserved
writes-preserved g c =
    let contents = g.W.Write.contents in
    let text = c.args.text.now in
    let at = c.writes.at in
    let n = c.in-Ok.n in
    record {
      written = subst (λ (bs : List ℕ). Appends (contents c.args.writer.now) (contents c.write_some.new.writer) bs) (sym (more text at n)) (Appends-trans _ _ _ _ _ c.writes.invariant.written c.in-Ok.ensures.bytes);
      within = omega (arith, c.in-Ok.ensures.bound, length-take (length text - at) (drop at text), length-drop at text);
    }
