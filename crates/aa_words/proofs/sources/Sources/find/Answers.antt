use Rattle.std.proofs.Common.{ℕ, ◌+◌, List, Some, None, sym, ap, ◌∙◌}
use Rattle.aa_words.proofs.Named.{source_numbered}
use Rattle.aa_words.proofs.sources.Sources.find.Goals as goal

pub returns-in_err-index-clause-none : goal.returns-in_err-index-clause-none
returns-in_err-index-clause-none c =
    rw c.from_residual.ensures (source_numbered c.args.name.now _ c.args.self.now None None c.in_err-index.ensures.index c.in_err-index.ensures.value c.self.view_is)

pub returns-clause-some : goal.returns-clause-some
returns-clause-some c =
    source_numbered c.args.name.now _ c.args.self.now (Some c.in_ok-index.index) (Some c.in_ok-index.text.now) c.in_ok-index.ensures.index c.in_ok-index.ensures.value c.self.view_is
    ∙ ap (λ (t : List ℕ). Some (c.in_ok-index.index + 1, t)) (sym c.as_slice.ensures.value)
