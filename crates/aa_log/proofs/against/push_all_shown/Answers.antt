use Rattle.std.proofs.Common.{◌≡◌, ◌+◌, ◌++◌, List, [], ◌∷◌, map, take, Bor}
use Rattle.std.specs.Prelude.{ℕ}
use Rattle.aa_log.specs.declared.logging.Entry.{Entry}
use Rattle.aa_log.proofs.Answered.{next_taken, counted_more, newly_more, text_more}
use Rattle.aa_log.proofs.against.push_all_shown.Goals as goal

pub loop-entry-preserved : goal.loop-entry-preserved
loop-entry-preserved c =
    let logs : List (List ℕ) = map (λ (log : Bor (List ℕ)). log.now) c.args.logs.now in
    let e : Entry = c.entry-item.result.now in
    let es : List Entry = map (λ (x : Bor Entry). x.now) (take c.loop-entry.entry-index c.args.entries.now) in
    let more : List Entry = map (λ (x : Bor Entry). x.now) (take (c.loop-entry.entry-index + 1) c.args.entries.now) in
    let is : more ≡ es ++ e ∷ [] = next_taken (λ (x : Bor Entry). x.now) c.args.entries.now c.loop-entry.entry-index c.entry-item.result c.loop-entry-test.true c.entry-item.is in
    let now = c.in_ok-answer.ensures.now in record {
      newly = newly_more c.args.decided es more e c.in_ok-answer.answer c.loop-entry.counts c.add.new.self now c.add.ensures.newly is c.loop-entry.invariant.newly;
      counted = counted_more c.args.decided es more e c.in_ok-answer.answer c.loop-entry.counts c.add.new.self now c.add.ensures.one is c.loop-entry.invariant.counted;
      text = text_more logs c.args.decided c.args.wants_all es more e c.args.out.now.items c.loop-entry.out.items c.push_shown.new.out.items is c.loop-entry.invariant.text c.in_ok-answer.ensures.text;
    }
