use Rattle.std.proofs.Common.{◌≡◌, ℕ, List, [], ◌∷◌, ◌++◌, length, OnOk, sym, ap, ◌∙◌, subst}
use Rattle.std.proofs.lemmas.Bool.{eqb-true}
use Rattle.aa_logs.specs.LogLines.{LogLine, log_line}
use Rattle.aa_logs.proofs.Cutting.{kept_alone}
use Rattle.aa_logs.proofs.lines.hand_on.Goals as goal

pub returns-then-bytes-le-MOST-clause-taken : goal.returns-then-bytes-le-MOST-clause-taken
returns-then-bytes-le-MOST-clause-taken g c =
    let held = c.args.held.now.bytes.items in
    let none : length held ≡ 0 = sym (ap length c.as_slice.ensures.value) ∙ eqb-true _ 0 (sym c.is_empty.ensures ∙ c.if-is_empty.true) in
    subst (λ (line : List ℕ). OnOk c.take_line.result ((before : List LogLine) → g.L.Lines.has_taken c.args.lines.now before
    → g.L.Lines.has_taken c.take_line.new.self (before ++ log_line (g.L.Lines.log c.args.lines.now) c.args.held.now.number line ∷ [])))
    (sym (kept_alone held c.args.bytes.now none c.if-bytes-le-MOST.true)) c.take_line.ensures.taken
