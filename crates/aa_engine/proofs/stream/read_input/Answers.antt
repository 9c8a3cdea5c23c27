use Rattle.std.proofs.Common.{◌≡◌, ◌∙◌, ◌<◌, ◌++◌, List, [], sym, ap, arith, take, length}
use Rattle.std.specs.Prelude.{ℕ}
use Rattle.std.proofs.KnownBytes.{Consumes-trans, Consumes-whole}
use Rattle.std.proofs.lemmas.List.{append-nil}
use Rattle.aa_engine.proofs.Streams.{front_kept}
use Rattle.aa_engine.proofs.stream.read_input.Goals as goal

pub returns-then-n-eq0-clause-kept : goal.returns-then-n-eq0-clause-kept
returns-then-n-eq0-clause-kept g c =
    let b = c.in-Ok.ensures.bytes in
    let i = c.loop.invariant in
    let buf = c.read.new.buf in
    let none : take c.in-Ok.n buf ≡ [] = ap (λ (m : ℕ). take m buf) c.if-n-eq0.true in
    let room : 0 < length buf = omega arith in
    let whole : i.0 ≡ i.0 ++ take c.in-Ok.n buf = sym (append-nil i.0) ∙ ap (λ (x : List ℕ). i.0 ++ x) (sym none) in
    Consumes-whole _ _ _ (λ input. c.loop.kept.items ≡ take 16777217 input) (Consumes-trans _ _ _ _ _ i.1 b.0) (b.1 c.if-n-eq0.true room) (i.2 ∙ ap (take 16777217) whole)

pub loop-preserved : goal.loop-preserved
loop-preserved g c =
    let b = c.in-Ok.ensures.bytes in
    let i = c.loop.invariant in
    let bytes = take c.in-Ok.n c.read.new.buf in
    (i.0 ++ bytes, Consumes-trans _ _ _ _ _ i.1 b.0, c.in_ok-keep.ensures.ok ∙ ap (λ (x : List ℕ). take 16777217 (x ++ bytes)) i.2 ∙ front_kept 16777217 i.0 bytes, c.in_ok-keep.ensures.room)
