use Rattle.std.proofs.Common.{◌≡◌, ◌∙◌, ◌+◌, ◌-◌, ◌++◌, List, [], ◌∷◌, length, take, drop, map, refl, sym, ap, subst, arith}
use Rattle.std.specs.Prelude.{ℕ}
use Rattle.aa_logs.specs.LogLines.{kept, numbered, ended}
use Rattle.aa_logs.proofs.Cutting.{kept_whole, none_taken, none_held, none_ended, last_held, last_ended, begins, step_bytes, step_held, step_ended, step_number, step_taken}
use Rattle.aa_logs.proofs.lines.take_ended.Goals as goal

pub lines-init : goal.lines-init
lines-init g c =
    let front = c.args.held.now.bytes.items in (
      [],
      refl,
      c.requires,
      sym (kept_whole front c.requires)
          ∙ ap kept (sym (none_held front)),
      omega (arith, none_ended front),
      refl,
      λ before h. subst (g.L.Lines.has_taken c.args.lines.now) (sym (none_taken (g.L.Lines.log c.args.lines.now) c.args.held.now.number before front)) h,
      λ first h. h,
    )

pub returns-in_default-clause-bytes : goal.returns-in_default-clause-bytes
returns-in_default-clause-bytes g c =
    let i = c.lines.invariant in
    let s = c.split_at in
    last_held c.args.held.now.bytes.items c.args.bytes.now i.0 c.lines.rest.now s.result.0.now s.result.1.now c.lines.held.bytes.items c.keep.new.line.items
    c.line_len.result i.1 i.3 c.line_len.ensures.count s.ensures.front s.ensures.by_index.0 c.in_default.len_below c.in_ok-keep.ensures.ok

pub returns-in_default-clause-number : goal.returns-in_default-clause-number
returns-in_default-clause-number g c =
    let i = c.lines.invariant in
    let s = c.split_at in
    i.4 ∙ ap (λ (l : List (List ℕ)). c.args.held.now.number + length l)
    (last_ended c.args.held.now.bytes.items c.args.bytes.now i.0 c.lines.rest.now s.result.0.now s.result.1.now c.line_len.result i.1 c.line_len.ensures.count s.ensures.front s.ensures.by_index.0 c.in_default.len_below)

pub returns-in_default-clause-taken : goal.returns-in_default-clause-taken
returns-in_default-clause-taken g c = λ before h.
    let i = c.lines.invariant in
    let s = c.split_at in
    let log = g.L.Lines.log c.args.lines.now in
    subst (λ (l : List (List ℕ)). g.L.Lines.has_taken c.lines.lines (before ++ numbered log c.args.held.now.number (map kept l)))
    (last_ended c.args.held.now.bytes.items c.args.bytes.now i.0 c.lines.rest.now s.result.0.now s.result.1.now c.line_len.result i.1 c.line_len.ensures.count s.ensures.front s.ensures.by_index.0 c.in_default.len_below)
    (i.6 before h)

pub lines-preserved : goal.lines-preserved
lines-preserved g c =
    let i = c.lines.invariant in
    let s = c.split_at in
    let front = c.args.held.now.bytes.items in
    let line = s.result.0.now in
    let behind = s.result.1.now in
    let rest = c.lines.rest.now in
    let after = take (length behind - 1) (drop 1 behind) in
    let first = begins behind c.in-len1-up.len_at_least in
    let n = c.line_len.result in
    let more = step_ended front i.0 rest line behind after first.byte n c.line_len.ensures.count s.ensures.front s.ensures.back first.is in
    let e = c.in_ok-end_line.ensures in (
      i.0 ++ (line ++ first.byte ∷ []),
      step_bytes c.args.bytes.now i.0 rest line behind after first.byte i.1 s.ensures.by_index.0 first.is,
      (let empty : length c.end_line.new.held.bytes.items ≡ 0 = ap length e.bytes in omega (arith, empty)),
      step_held front i.0 rest line behind after c.end_line.new.held.bytes.items first.byte n c.line_len.ensures.count s.ensures.front s.ensures.back first.is e.bytes,
      step_number front i.0 line first.byte c.args.held.now.number c.lines.held.number c.end_line.new.held.number more i.4 e.number,
      e.log ∙ i.5,
      λ before h. subst (g.L.Lines.has_taken c.end_line.new.lines)
          (step_taken (g.L.Lines.log c.args.lines.now) (g.L.Lines.log c.lines.lines) c.args.held.now.number c.lines.held.number before front i.0 line c.lines.held.bytes.items first.byte i.5 i.4 i.3 more)
          (e.taken (before ++ numbered (g.L.Lines.log c.args.lines.now) c.args.held.now.number (map kept (ended front i.0))) (i.6 before h)),
      λ first h. e.keeps first (i.7 first h),
    )
