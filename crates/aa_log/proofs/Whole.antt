-- What two logs hold, one behind the other.
use Rattle.std.proofs.Common.{◌≡◌, ℕ, ◌+◌, min, List, ◌++◌, length, flat_map, sym, ap, ◌∙◌, arith}
use Rattle.std.proofs.lemmas.List.{length-append}
use Rattle.std.proofs.lemmas.List.Elements.{filter-append}
use Rattle.std.proofs.lemmas.List.Concat.{flat_map-append}
use Rattle.aa_logs.specs.declared.chosen.Choice.{Choice}
use Rattle.aa_logs.specs.LogLines.{LogLine}
use Rattle.aa_logs.specs.Records.{line_in}
use Rattle.aa_log.specs.Counted.{greatest, counted}
use Rattle.aa_log.specs.Found.{Asked, Skipped, asked_by, skipped_by, asked_key, skipped_key, requests_in, skipped_in, is_wanted, wanted}
use Rattle.aa_log.specs.Joined.{added}
use Rattle.aa_log.specs.Whole.{AreMergedLines}
use Rattle.aa_log.proofs.Joining.{counted_both, counted_total}

requests_both : (c : Choice) (ls ms : List LogLine) → requests_in c (ls ++ ms) ≡ requests_in c ls ++ requests_in c ms
unfolding requests_in
requests_both c ls ms =
    let asks : LogLine → List Asked = λ l. asked_by l (line_in l.bytes) in
    ap (flat_map asks) (filter-append (λ (l : LogLine). is_wanted c l.bytes) ls ms) ∙ flat_map-append asks (wanted c ls) (wanted c ms)

skipped_both : (c : Choice) (ls ms : List LogLine) → skipped_in c (ls ++ ms) ≡ skipped_in c ls ++ skipped_in c ms
unfolding skipped_in
skipped_both c ls ms =
    let skips : LogLine → List Skipped = λ l. skipped_by l (line_in l.bytes) in
    ap (flat_map skips) (filter-append (λ (l : LogLine). is_wanted c l.bytes) ls ms) ∙ flat_map-append skips (wanted c ls) (wanted c ms)

sum_of : (a b : ℕ) → added (min a greatest) (min b greatest) ≡ min (a + b) greatest
sum_of a b = (let same : min (min a greatest + min b greatest) greatest ≡ min (a + b) greatest = omega arith in same)

pub lines_merged : (c : Choice) (ls ms : List LogLine) → AreMergedLines c ls ms
lines_merged c ls ms = record {
  requests = counted_both asked_key (requests_in c ls) (requests_in c ms) ∙ ap (counted asked_key) (sym (requests_both c ls ms));
  skipped = counted_both skipped_key (skipped_in c ls) (skipped_in c ms) ∙ ap (counted skipped_key) (sym (skipped_both c ls ms));
  skipped_count = counted_total skipped_key (skipped_in c ls);
  lines = sum_of (length ls) (length ms) ∙ ap (λ (n : ℕ). min n greatest) (sym (length-append ls ms));
  asking = sum_of (length (requests_in c ls)) (length (requests_in c ms)) ∙ ap (λ (n : ℕ). min n greatest) (sym (ap length (requests_both c ls ms) ∙ length-append (requests_in c ls) (requests_in c ms)));
}
