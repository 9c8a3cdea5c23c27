use Rattle.std.proofs.Common.{◌≡◌, ◌∙◌, ◌<◌, ◌++◌, List, [], length, take, map, refl, sym, ap, subst, arith, append-nil}
use Rattle.std.specs.Prelude.{ℕ}
use Rattle.std.proofs.KnownBytes.{Consumes-nil, Consumes-trans, Consumes-whole}
use Rattle.std.proofs.lemmas.Result.{on_ok_weaker}
use Rattle.aa_logs.specs.LogLines.{LogLine, kept, numbered, ended, log_lines}
use Rattle.aa_logs.proofs.Cutting.{kept_whole, none_taken, none_held, none_ended, chunk_held, chunk_number, chunk_taken, end_taken}
use Rattle.aa_logs.proofs.lines.read_lines.Goals as goal

pub loop-init : goal.loop-init
loop-init g c =
    let empty : length c.new.result.items ≡ 0 = ap length c.new.ensures.items in (
      [],
      Consumes-nil (g.R.Read.remaining c.args.reader.now),
      omega (arith, empty),
      c.new.ensures.items ∙ sym (kept_whole [] (omega arith)) ∙ ap kept (sym (none_held [])),
      omega (arith, none_ended []),
      refl,
      λ before h. subst (g.L.Lines.has_taken c.args.lines.now) (sym (none_taken (g.L.Lines.log c.args.lines.now) 1 before [])) h,
      λ first h. h,
    )

pub returns-then-n-eq0-clause-taken : goal.returns-then-n-eq0-clause-taken
returns-then-n-eq0-clause-taken g c =
    let i = c.loop.invariant in
    let b = c.in_ok-n.ensures.bytes in
    let buffer = c.read_some.new.buffer in
    let none : take c.in_ok-n.n buffer ≡ [] = ap (λ (m : ℕ). take m buffer) c.if-n-eq0.true in
    let room : 0 < length buffer = omega arith in
    let whole : i.0 ≡ i.0 ++ take c.in_ok-n.n buffer = sym (append-nil i.0) ∙ ap (λ (x : List ℕ). i.0 ++ x) (sym none) in
    let log = g.L.Lines.log c.args.lines.now in
    let has = g.L.Lines.has_taken in
    on_ok_weaker c.take_last.result
    (λ last. Consumes-whole _ _ _
    (λ input. (before : List LogLine) → has c.args.lines.now before → has c.take_last.new.lines (before ++ log_lines log input))
    (Consumes-trans _ _ _ _ _ i.1 b.0) (b.1 c.if-n-eq0.true room)
    (λ before h. subst (λ (all : List ℕ). has c.take_last.new.lines (before ++ log_lines log all)) whole
    (subst (has c.take_last.new.lines)
    (end_taken log (g.L.Lines.log c.loop.lines) c.loop.held.number before i.0 c.loop.held.bytes.items i.5 i.3 i.4)
    (last (before ++ numbered log 1 (map kept (ended [] i.0))) (i.6 before h)))))
    c.take_last.ensures.taken

pub returns-then-n-eq0-clause-some : goal.returns-then-n-eq0-clause-some
returns-then-n-eq0-clause-some g c =
    let i = c.loop.invariant in
    let log = g.L.Lines.log c.args.lines.now in
    let has = g.L.Lines.has_taken in
    on_ok_weaker c.take_last.result
    (λ last. (
      i.0,
      λ before h. subst (has c.take_last.new.lines)
          (end_taken log (g.L.Lines.log c.loop.lines) c.loop.held.number before i.0 c.loop.held.bytes.items i.5 i.3 i.4)
          (last (before ++ numbered log 1 (map kept (ended [] i.0))) (i.6 before h)),
    ))
    c.take_last.ensures.taken

pub returns-then-n-eq0-clause-keeps : goal.returns-then-n-eq0-clause-keeps
returns-then-n-eq0-clause-keeps g c = on_ok_weaker c.take_last.result (λ last first h. last first (c.loop.invariant.7 first h)) c.take_last.ensures.keeps

pub loop-preserved : goal.loop-preserved
loop-preserved g c =
    let i = c.loop.invariant in
    let b = c.in_ok-n.ensures.bytes in
    let bytes = take c.in_ok-n.n c.read_some.new.buffer in
    let e = c.in_ok-take_ended.ensures in
    let log = g.L.Lines.log c.args.lines.now in (
      i.0 ++ bytes,
      Consumes-trans _ _ _ _ _ i.1 b.0,
      e.room,
      chunk_held i.0 bytes c.loop.held.bytes.items c.take_ended.new.held.bytes.items i.3 e.bytes,
      chunk_number i.0 bytes c.loop.held.bytes.items c.loop.held.number c.take_ended.new.held.number i.3 i.4 e.number,
      e.log ∙ i.5,
      λ before h. subst (g.L.Lines.has_taken c.take_ended.new.lines)
          (chunk_taken log (g.L.Lines.log c.loop.lines) c.loop.held.number before i.0 bytes c.loop.held.bytes.items i.5 i.3 i.4)
          (e.taken (before ++ numbered log 1 (map kept (ended [] i.0))) (i.6 before h)),
      λ first h. e.keeps first (i.7 first h),
    )
