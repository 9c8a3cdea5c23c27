use Rattle.std.proofs.Common.{get_or, refl, arith}
use Rattle.std.proofs.lemmas.Option.{slice_get-get_or, slice_get_past}
use Rattle.aa_faults.specs.Blanks.{NoneThere, OneThere}
use Rattle.aa_faults.proofs.blanking.blank_at.Goals as goal

pub returns-then-index-sources : goal.returns-then-index-sources
returns-then-index-sources c =
    let sources = c.args.sources.now in
    let d = c.index-sources-index.result in
    OneThere (get_or sources c.args.index d) c.blank_source.new.source (slice_get-get_or sources c.args.index d (omega arith)) c.blank_source.ensures refl

pub returns-else-index-sources : goal.returns-else-index-sources
returns-else-index-sources c = NoneThere (slice_get_past c.args.sources.now c.args.index (omega arith)) refl
