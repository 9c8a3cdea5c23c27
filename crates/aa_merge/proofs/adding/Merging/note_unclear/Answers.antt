use Rattle.std.proofs.Common.{◌≡◌, ◌++◌, ◌∷◌, [], List, Some, ap, sym, ◌∙◌}
use Rattle.std.specs.Prelude.{ℕ}
use Rattle.std.proofs.lemmas.List.{length-map}
use Rattle.aa_files.specs.Texts.{texts}
use Rattle.aa_merge.specs.Held.{HasMore}
use Rattle.aa_merge.proofs.Holding.{said_still, requests_still, first_noted}
use Rattle.aa_merge.proofs.adding.Merging.note_unclear.Goals as goal

pub returns : goal.returns
returns c = λ r h.
    let m = c.args.self.now in
    let u = c.args.unclear.now in
    let paths : List (List ℕ) = texts m.paths.items in
    let all : List (List ℕ) = texts c.add_path.new.paths.items in
    let path : c.in_ok-path.path.items ≡ u.path.items = c.in_ok-path.ensures.items ∙ c.as_slice.ensures.value in
    let is : all ≡ paths ++ u.path.items ∷ [] = c.in_ok-log.ensures.added ∙ ap (λ (b : List ℕ). paths ++ b ∷ []) path in
    let more : HasMore paths all = (u.path.items ∷ [], is) in
    let log = c.in_ok-log.ensures.number ∙ sym (length-map m.paths.items (λ v. v.items)) in
    let s = said_still r paths all m.said more h.said in
    record {
      said = record {
        requests = s.requests;
        skipped = s.skipped;
        each = s.each;
        lines = s.lines;
        asking = s.asking;
        skipped_count = s.skipped_count;
        other = s.other;
        left_out = s.left_out;
        unclear = ap Some (rw is (first_noted paths u c.in_ok-log.log log));
      };
      rows = requests_still r.requests paths all m.said.report.entries.items m.numbers more h.rows;
    }
