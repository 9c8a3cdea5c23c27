use Rattle.std.proofs.Common.{◌≡◌, ◌∙◌, sym, ap, Some, None, List}
use Rattle.std.specs.Prelude.{ℕ}
use Rattle.std.specs.HashMap.{get_by}
use Rattle.std.specs.Str.{bytes_eq}
use Rattle.aa_logs.specs.Outcomes.{record_data}
use Rattle.aa_log.specs.declared.logging.Entry.{Entry}
use Rattle.aa_log.specs.Counted.{Counted}
use Rattle.aa_log.specs.Found.{Asked, asked_at, asked_key, entry_key}
use Rattle.aa_log.specs.Printed.{key_text}
use Rattle.aa_log.proofs.Entries.{found_again, found_new, too_many}
use Rattle.aa_log.proofs.Results.{on_ok_three, if_refused}
use Rattle.aa_log.proofs.logging.count_request.Goals as goal

pub returns-in-Some-clause-found : goal.returns-in-Some-clause-found
returns-in-Some-clause-found c = λ before f.
    let key = c.in_ok-key.key.items in
    let found : get_by (λ k. bytes_eq key k.items) c.args.numbers.now ≡ Some c.in-Some.number =
    ap (λ (b : List ℕ). get_by (λ k. bytes_eq b k.items) c.args.numbers.now) (sym c.as_slice.ensures.value) ∙ sym c.number_of.ensures ∙ c.in-Some.is in
    found_again before c.args.entries.now.items c.count_again.new.entries.items c.args.numbers.now c.in-Some.number (asked_at (record_data c.args.asked) c.args.place) key c.in_ok-key.ensures found
    c.count_again.ensures.counted f

pub returns : goal.returns
returns c =
    let e : Entry = c.in_ok-entry.entry in
    let a : Asked = asked_at (record_data c.args.asked) c.args.place in
    let key = c.in_ok-key.key.items in
    let none : get_by (λ k. bytes_eq key k.items) c.args.numbers.now ≡ None =
    ap (λ (b : List ℕ). get_by (λ k. bytes_eq b k.items) c.args.numbers.now) (sym c.as_slice.ensures.value) ∙ sym c.number_of.ensures ∙ c.in_default.is in
    let spelled : entry_key e ≡ key = ap (key_text e.then e.profile.items) c.in_ok-entry.ensures.word ∙ ap (λ (d : Counted Asked). asked_key d.item) c.in_ok-entry.ensures.asked ∙ sym c.in_ok-key.ensures in record {
      found = on_ok_three c.add_entry.result _ _ _ _ (λ is adds room before f.
          found_new before c.args.entries.now.items c.add_entry.new.entries.items c.args.numbers.now c.add_entry.new.numbers e a key c.in_ok-key.ensures none
          (adds none) room is c.in_ok-entry.ensures.asked c.in_ok-entry.ensures.word spelled f) c.add_entry.ensures.entries c.add_entry.ensures.numbers c.add_entry.ensures.most;
      room = if_refused c.add_entry.result _ _ (λ full before f. too_many before c.args.entries.now.items c.args.numbers.now a key c.in_ok-key.ensures none full f) c.add_entry.ensures.room;
    }
