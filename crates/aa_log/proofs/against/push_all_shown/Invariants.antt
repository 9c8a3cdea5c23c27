use Rattle.std.proofs.Common.{◌≡◌, ◌++◌, map, take}
use Rattle.aa_log.specs.Against.{IsNewlyDenied, AreCounted, changes_text}
use Rattle.aa_log.proofs.against.push_all_shown.Given as goal

abbrev pub invariant-loop-entry : goal.invariant-loop-entry
invariant-loop-entry l = record {
  newly : IsNewlyDenied l.decided (map (λ e. e.now) (take l.entry-index l.entries)) l.counts;
  counted : AreCounted l.decided (map (λ e. e.now) (take l.entry-index l.entries)) l.counts;
  text : l.out.items ≡ l.initial.out.items ++ changes_text (map (λ log. log.now) l.logs) l.decided l.wants_all (map (λ e. e.now) (take l.entry-index l.entries));
}
