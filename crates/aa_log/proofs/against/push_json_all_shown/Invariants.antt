use Rattle.std.proofs.Common.{◌≡◌, ◌++◌, map, take}
use Rattle.aa_text.specs.Jsons.{with_commas}
use Rattle.aa_log.specs.Commas.{is_some_of}
use Rattle.aa_log.specs.Against.{IsNewlyDenied, AreCounted, json_changes}
use Rattle.aa_log.proofs.against.push_json_all_shown.Given as goal

abbrev pub invariant-loop-entry : goal.invariant-loop-entry
invariant-loop-entry l = record {
  newly : IsNewlyDenied l.decided (map (λ e. e.now) (take l.entry-index l.entries)) l.counts;
  counted : AreCounted l.decided (map (λ e. e.now) (take l.entry-index l.entries)) l.counts;
  later : l.is_later ≡ is_some_of (json_changes (map (λ log. log.now) l.logs) l.decided l.wants_all (map (λ e. e.now) (take l.entry-index l.entries)));
  text : l.out.items ≡ l.initial.out.items ++ with_commas (json_changes (map (λ log. log.now) l.logs) l.decided l.wants_all (map (λ e. e.now) (take l.entry-index l.entries)));
}
