use Rattle.std.proofs.Common.{◌≡◌, ◌∙◌, sym, ap, arith, ℕ, List, map, length}
use Rattle.std.specs.Prelude.{option_map}
use Rattle.std.specs.Map.{lookup}
use Rattle.std.specs.List.{position}
use Rattle.std.specs.Str.{bytes_eq}
use Rattle.aa_notation.specs.Kinds.{word_text}
use Rattle.aa_files.specs.Texts.{texts}
use Rattle.aa_log.specs.declared.logging.Entry.{Entry}
use Rattle.aa_log.specs.declared.logging.LogReport.{LogReport}
use Rattle.aa_log.specs.Counted.{firsts}
use Rattle.aa_log.specs.Found.{entry_key, requests_in, skipped_in, others_in, left_in}
use Rattle.aa_log.specs.Joined.{total}
use Rattle.aa_merge.specs.Held.{entry_row, skipped_row, unclear_row}
use Rattle.aa_merge.proofs.Nothing.{no_entries, none_skipped, nothing_each}
use Rattle.aa_merge.proofs.adding.Merging.new.Goals as goal

pub returns : goal.returns
unfolding firsts requests_in skipped_in others_in left_in total
returns c =
    let r : LogReport = c.new-said.result.report in
    let s = c.new-said.ensures.empty in
    let none = no_entries r s.found in
    let paths : List (List ℕ) = texts c.new-2.result.items in
    record {
      said = record {
        requests = ap (map (entry_row paths)) none;
        skipped = ap (map (skipped_row paths)) (none_skipped r s.found);
        each = nothing_each paths r c.args.first.now s.found (c.new-said.ensures.each ∙ c.is_some.ensures);
        lines = s.found.lines;
        asking = s.found.requests;
        skipped_count = s.found.skipped_count;
        other = s.found.other;
        left_out = c.none_left_out-report.ensures;
        unclear = ap (option_map (unclear_row paths c.new-said.result.unclear)) s.first;
      };
      rows = record {
        rows_are = ap (map (entry_row paths)) none;
        words = ap (map (λ (e : Entry). e.word.items)) none ∙ sym (ap (map (λ (e : Entry). word_text e.request)) none);
        numbered = λ key. ap (lookup (λ k. bytes_eq key k.items)) c.new.ensures.empty
            ∙ sym (ap (λ (es : List Entry). position (λ (k : List ℕ). bytes_eq k key) (map entry_key es)) none);
        within = (let zero : length r.entries.items ≡ 0 = ap length none in omega arith);
      };
    }
