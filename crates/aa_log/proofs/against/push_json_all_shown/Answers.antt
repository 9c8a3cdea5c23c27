use Rattle.std.proofs.Common.{◌≡◌, ◌∙◌, ◌+◌, ◌++◌, List, [], ◌∷◌, ◌||◌, map, take, ap, sym, refl, append-nil, Bool, Bor}
use Rattle.std.specs.Prelude.{ℕ}
use Rattle.aa_logs.specs.Answers.{changes}
use Rattle.aa_log.specs.declared.logging.Entry.{Entry}
use Rattle.aa_log.specs.Against.{json_changes}
use Rattle.aa_log.proofs.Answered.{next_taken, counted_none, counted_more, newly_more, shown_more, later_more}
use Rattle.aa_log.proofs.against.push_json_all_shown.Goals as goal
use Rattle.aa_log.proofs.against.push_json_all_shown.Goals.{then-is_later, else-is_later}

pub loop-entry-init : goal.loop-entry-init
unfolding json_changes
loop-entry-init c = record {
  newly = c.none-counts.ensures.newly;
  counted = counted_none c.args.decided c.none-counts.result c.none-counts.ensures.none;
  later = refl;
  text = sym (append-nil c.args.out.now.items);
}

pub loop-entry-preserved : goal.loop-entry-preserved
loop-entry-preserved c =
    let logs : List (List ℕ) = map (λ (log : Bor (List ℕ)). log.now) c.args.logs.now in
    let e : Entry = c.entry-item.result.now in
    let es : List Entry = map (λ (x : Bor Entry). x.now) (take c.loop-entry.entry-index c.args.entries.now) in
    let more : List Entry = map (λ (x : Bor Entry). x.now) (take (c.loop-entry.entry-index + 1) c.args.entries.now) in
    let is : more ≡ es ++ e ∷ [] = next_taken (λ (x : Bor Entry). x.now) c.args.entries.now c.loop-entry.entry-index c.entry-item.result c.loop-entry-test.true c.entry-item.is in
    let now = c.in_ok-now.ensures.now in
    let shows : Bool = c.args.wants_all || changes e.then c.in_ok-now.now in
    let last : c.if-is_later.is_later ≡ (c.loop-entry.is_later || shows) = elim c.if-is_later.branch [
      | then-is_later w ↦ w.is_later-is ∙ w.if-is_later.true ∙ sym (ap (λ (b : Bool). b || shows) w.if-is_later.true)
      | else-is_later w ↦ w.is_later-is ∙ w.is_shown-is_later.ensures ∙ sym (ap (λ (b : Bool). b || shows) w.if-is_later.false)
    ] in record {
      newly = newly_more c.args.decided es more e c.in_ok-now.now c.loop-entry.counts c.add.new.self now c.add.ensures.newly is c.loop-entry.invariant.newly;
      counted = counted_more c.args.decided es more e c.in_ok-now.now c.loop-entry.counts c.add.new.self now c.add.ensures.one is c.loop-entry.invariant.counted;
      later = later_more logs c.args.decided c.args.wants_all es more e c.in_ok-now.now c.loop-entry.is_later c.if-is_later.is_later is now c.loop-entry.invariant.later last;
      text = shown_more logs c.args.decided c.args.wants_all es more e c.loop-entry.is_later c.args.out.now.items c.loop-entry.out.items
          c.push_json_shown.new.out.items is c.loop-entry.invariant.later c.loop-entry.invariant.text c.in_ok-now.ensures.text;
    }
