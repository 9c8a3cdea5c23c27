use Rattle.std.proofs.Common.{◌≡◌, ◌+◌, ◌++◌, List, [], ◌∷◌, map, take, Bor, refl}
use Rattle.aa_log.specs.declared.logging.Entry.{Entry}
use Rattle.aa_log.proofs.Answered.{next_taken}
use Rattle.aa_undecided.specs.Answers.{PlacedFile, placed_all}
use Rattle.aa_against.specs.Parted.{files_for, decided_if, open_if, open_data}
use Rattle.aa_against.proofs.Parted.{parted_more}
use Rattle.aa_against.proofs.parting.part.Goals as goal

pub loop-entry-preserved : goal.loop-entry-preserved
loop-entry-preserved c =
    let e : Entry = c.entry-item.result.now in
    let es : List Entry = map (λ (x : Bor Entry). x.now) (take c.loop-entry.entry-index c.args.entries.now) in
    let more : List Entry = map (λ (x : Bor Entry). x.now) (take (c.loop-entry.entry-index + 1) c.args.entries.now) in
    let is : more ≡ es ++ e ∷ [] = next_taken (λ (x : Bor Entry). x.now) c.args.entries.now c.loop-entry.entry-index c.entry-item.result c.loop-entry-test.true c.entry-item.is in
    let files : Entry → List PlacedFile = files_for c.args.decided c.args.skipped.now in
    let found : List PlacedFile = placed_all c.in_ok-files.files.items in record {
      decided = parted_more (λ (x : Entry). decided_if x (files x)) decided_if files es more e found (map (λ (x : Bor Entry). x.now) c.loop-entry.parted.decided.items)
          (map (λ (x : Bor Entry). x.now) c.put.new.parted.decided.items) (λ x. refl) is c.in_ok-files.ensures c.loop-entry.invariant.decided c.in_ok-put.ensures.decided;
      opens = parted_more (λ (x : Entry). open_if x (files x)) open_if files es more e found (map open_data c.loop-entry.parted.opens.items)
          (map open_data c.put.new.parted.opens.items) (λ x. refl) is c.in_ok-files.ensures c.loop-entry.invariant.opens c.in_ok-put.ensures.opens;
    }
