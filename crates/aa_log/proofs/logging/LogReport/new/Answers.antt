use Rattle.std.proofs.Common.{◌≡◌, ◌∙◌, sym, ap, refl, arith, List, length, map}
use Rattle.std.specs.Prelude.{ℕ}
use Rattle.std.specs.List.{position}
use Rattle.std.specs.Map.{lookup}
use Rattle.std.specs.Str.{bytes_eq}
use Rattle.aa_notation.specs.Kinds.{word_text}
use Rattle.aa_log.specs.declared.logging.Entry.{Entry}
use Rattle.aa_log.specs.Counted.{firsts}
use Rattle.aa_log.specs.Found.{entry_data, entry_key, skipped_data, requests_in, skipped_in, others_in, left_in}
use Rattle.aa_log.proofs.logging.LogReport.new.Goals as goal

pub returns-clause-empty : goal.returns-clause-empty
unfolding firsts requests_in skipped_in others_in left_in
returns-clause-empty c =
    let none = c.new.ensures.items in record {
      found = record {
        counts = ap (map entry_data) none;
        words = ap (map (λ (e : Entry). e.word.items)) none ∙ sym (ap (map (λ (e : Entry). word_text e.request)) none);
        numbered = λ key. ap (lookup (λ k. bytes_eq key k.items)) c.new-2.ensures.empty ∙ sym (ap (λ (es : List Entry). position (λ (k : List ℕ). bytes_eq k key) (map entry_key es)) none);
        within = (let zero : length c.new.result.items ≡ 0 = ap length none in omega arith);
      };
      skipped = ap (map skipped_data) c.new-3.ensures.items;
      each = c.none_noted.ensures.each;
      lines = refl;
      requests = refl;
      skipped_count = refl;
      other = refl;
      left_out = c.none_left_out-left_out.ensures;
    }
