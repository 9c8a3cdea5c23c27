use Rattle.std.proofs.Common.{◌≡◌, List, Option, Some, None, ap, sym, subst, ◌∙◌}
use Rattle.std.specs.Prelude.{ℕ, option_map}
use Rattle.std.proofs.lemmas.Result.{on_ok_weaker}
use Rattle.aa_files.specs.Texts.{texts}
use Rattle.aa_merge.specs.declared.part.PartUnclear.{PartUnclear}
use Rattle.aa_merge.specs.Held.{unclear_row, unclear_data}
use Rattle.aa_merge.specs.Parts.{Unclear, both_unclear}
use Rattle.aa_merge.specs.Wholes.{IsHeld}
use Rattle.aa_merge.proofs.Holding.{both_none, unclear_first, unclear_more}
use Rattle.aa_merge.proofs.adding.Merging.add_unclear.Goals as goal

pub returns-in_default : goal.returns-in_default
returns-in_default c = λ r h.
    let none : option_map unclear_data c.args.part.now.unclear ≡ None = ap (option_map unclear_data) c.in_default.is in
    let same : r.unclear ≡ both_unclear r.unclear (option_map unclear_data c.args.part.now.unclear) = both_none r.unclear
    ∙ ap (both_unclear r.unclear) (sym none) in
    subst (λ (u : Option Unclear). IsHeld (record r { unclear = u }) c.args.self.now) same h

pub returns-then-is_some : goal.returns-then-is_some
returns-then-is_some c = λ r h.
    let m = c.args.self.now in
    let u : PartUnclear = c.in-Some.unclear in
    let some : option_map unclear_data c.args.part.now.unclear ≡ Some (unclear_data u) = ap (option_map unclear_data) c.in-Some.is in
    let paths : List (List ℕ) = texts m.paths.items in
    let more = unclear_more paths m.said.unclear m.said.first_unclear r.unclear (unclear_data u) h.said.unclear (sym c.is_some.ensures ∙ c.if-is_some.true) in
    record {
      said = record {
        requests = h.said.requests;
        skipped = h.said.skipped;
        each = h.said.each;
        lines = h.said.lines;
        asking = h.said.asking;
        skipped_count = h.said.skipped_count;
        other = h.said.other;
        left_out = h.said.left_out;
        unclear = ap (λ (n : ℕ). option_map (unclear_row paths n) m.said.first_unclear) c.saturating_add-self.ensures ∙ more
            ∙ ap (λ (o : Option Unclear). option_map Some (both_unclear r.unclear o)) (sym some);
      };
      rows = h.rows;
    }

pub returns : goal.returns
returns c =
    let m = c.args.self.now in
    let u : PartUnclear = c.in-Some.unclear in
    let some : option_map unclear_data c.args.part.now.unclear ≡ Some (unclear_data u) = ap (option_map unclear_data) c.in-Some.is in
    on_ok_weaker c.note_unclear.result (λ noted r h.
    let first : Some (unclear_data u) ≡ both_unclear r.unclear (Some (unclear_data u)) = unclear_first
    (texts m.paths.items) m.said.unclear m.said.first_unclear r.unclear (unclear_data u) h.said.unclear (sym c.is_some.ensures ∙ c.if-is_some.false) in
    subst (λ (o : Option Unclear). IsHeld (record r { unclear = o }) c.note_unclear.new.self) (first ∙ ap (both_unclear r.unclear) (sym some))
    (noted r h)) c.note_unclear.ensures
