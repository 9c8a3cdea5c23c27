use Rattle.std.proofs.Common.{◌≡◌, ◌∙◌, ◌++◌, List, [], ◌∷◌, sym, ap, subst}
use Rattle.std.specs.Prelude.{ℕ}
use Rattle.std.proofs.lemmas.Result.{on_ok_weaker}
use Rattle.aa_logs.specs.LogLines.{log_line}
use Rattle.aa_logs.proofs.Cutting.{none_where, some_where, no_last, one_last}
use Rattle.aa_logs.proofs.lines.take_last.Goals as goal

pub returns-then-is_empty-clause-taken : goal.returns-then-is_empty-clause-taken
returns-then-is_empty-clause-taken g c = λ before h.
    let empty : c.args.held.now.bytes.items ≡ [] = sym c.as_slice-bytes.ensures.value ∙ none_where c.as_slice-bytes.result.now c.is_empty.result c.is_empty.ensures c.if-is_empty.true in
    subst (g.L.Lines.has_taken c.args.lines.now) (sym (no_last (g.L.Lines.log c.args.lines.now) c.args.held.now.number before c.args.held.now.bytes.items empty)) h

pub returns-clause-taken : goal.returns-clause-taken
returns-clause-taken g c =
    let some = some_where c.as_slice-bytes.result.now c.is_empty.result c.is_empty.ensures c.if-is_empty.false in
    on_ok_weaker c.take_line.result
    (λ all. λ before h. subst (g.L.Lines.has_taken c.take_line.new.self)
    (ap (λ (l : List ℕ). before ++ log_line (g.L.Lines.log c.args.lines.now) c.args.held.now.number l ∷ []) c.as_slice-bytes.ensures.value
    ∙ one_last (g.L.Lines.log c.args.lines.now) c.args.held.now.number before c.args.held.now.bytes.items (λ none. some (c.as_slice-bytes.ensures.value ∙ none)))
    (all before h))
    c.take_line.ensures.taken
