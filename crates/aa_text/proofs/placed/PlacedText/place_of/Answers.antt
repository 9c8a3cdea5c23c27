use Rattle.std.proofs.Common.{◌/◌, ℕ, List, ap, ◌∙◌, arith}
use Rattle.aa_text.specs.Places.{place_in}
use Rattle.aa_text.proofs.Counting.{kept_within, kept_at, place_end}
use Rattle.aa_text.proofs.placed.PlacedText.place_of.Goals as goal

pub index-requires : goal.index-requires
index-requires c = let in_kept = kept_within c.self.inside.text.now c.self.inside.kept.items (c.min-end.result / 256) c.self.invariant (omega arith) in omega (arith, in_kept, c.self.inside.kept.ok.0)

pub place_from-requires-clause-place : goal.place_from-requires-clause-place
place_from-requires-clause-place c = kept_at c.self.inside.text.now c.self.inside.kept.items _ c.index.result.now c.self.invariant (omega arith) c.index.ensures

pub returns : goal.returns
returns c =
    c.place_from.ensures ∙ place_end c.self.inside.text.now c.args.byte c.min-end.result (omega arith) ∙ ap (λ (text : List ℕ). place_in text c.args.byte) c.self.view_is
