use Rattle.std.proofs.Common.{◌≡◌, ◌<◌, ◌≤◌, ◌++◌, ◌∷◌, [], List, Some, None, length, ap, sym, subst, ◌∙◌, arith}
use Rattle.std.specs.Prelude.{ℕ}
use Rattle.std.specs.HashMap.{get_by}
use Rattle.std.specs.Str.{bytes_eq}
use Rattle.std.proofs.lemmas.Result.{err_from_is_err_and}
use Rattle.aa_log.specs.declared.logging.Entry.{Entry}
use Rattle.aa_log.specs.Found.{AddsKey}
use Rattle.aa_log.specs.Joined.{with_row}
use Rattle.aa_files.specs.Texts.{texts}
use Rattle.std.proofs.lemmas.List.{length-map}
use Rattle.aa_log.specs.Counted.{Counted}
use Rattle.aa_merge.specs.Held.{row_data, AreRows, IsEntryOf}
use Rattle.aa_merge.specs.Parts.{Asking, asking_key}
use Rattle.aa_merge.proofs.Further.{no_more}
use Rattle.aa_merge.proofs.Results.{too_many}
use Rattle.aa_merge.proofs.Rowing.{rows_again, rows_new, row_too_many}
use Rattle.aa_merge.proofs.rows.add_row.Goals as goal

pub returns-in-Some-clause-rows : goal.returns-in-Some-clause-rows
returns-in-Some-clause-rows c = λ rows f.
    let r = c.args.row.now in
    let key : List ℕ = c.in_ok-key.key.items in
    let key_is : key ≡ asking_key (row_data r).item = cc (c.in_ok-key.ensures, c.in_ok-word.ensures, c.as_slice.ensures.value, c.as_slice-2.ensures.value) in
    let found : get_by (λ k. bytes_eq key k.items) c.args.numbers.now ≡ Some c.in-Some.number =
    ap (λ (b : List ℕ). get_by (λ k. bytes_eq b k.items) c.args.numbers.now) (sym c.as_slice-3.ensures.value) ∙ sym c.number_of.ensures
    ∙ c.in-Some.is in
    rows_again rows
    (texts c.args.paths.now.items) c.args.entries.now.items c.raise.new.entries.items c.args.numbers.now c.in-Some.number r key key_is found c.raise.ensures f

pub returns-in-Some-clause-paths : goal.returns-in-Some-clause-paths
returns-in-Some-clause-paths c = no_more (texts c.args.paths.now.items)

pub returns-in_err-add_number-clause-room : goal.returns-in_err-add_number-clause-room
returns-in_err-add_number-clause-room c =
    let r = c.args.row.now in
    let key : List ℕ = c.in_ok-key.key.items in
    let key_is : key ≡ asking_key (row_data r).item = cc (c.in_ok-key.ensures, c.in_ok-word.ensures, c.as_slice.ensures.value, c.as_slice-2.ensures.value) in
    let none : get_by (λ k. bytes_eq key k.items) c.args.numbers.now ≡ None =
    ap (λ (b : List ℕ). get_by (λ k. bytes_eq b k.items) c.args.numbers.now) (sym c.as_slice-3.ensures.value) ∙ sym c.number_of.ensures
    ∙ c.in_default.is in
    let len : c.len.result ≡ length c.args.entries.now.items = omega (arith, c.args.entries.now.ok) in
    let full : 1000000 ≤ c.len.result → (rows : List (Counted Asking))
    → AreRows rows (texts c.args.paths.now.items) c.args.entries.now.items c.args.numbers.now
    → 1000000 < length (with_row asking_key rows (row_data r)) =
    λ many rows f. row_too_many rows (texts c.args.paths.now.items) c.args.entries.now.items c.args.numbers.now r key key_is none
    (omega (arith, len, many)) f in
    let p = err_from_is_err_and c.from_residual-in_err-add_number.result c.from_residual-in_err-add_number.ensures.1 in
    rw (p.1, p.2) (too_many _ _ full c.in_err-add_number.field-0.0 c.in_err-add_number.ensures.room)

pub returns-clause-rows : goal.returns-clause-rows
returns-clause-rows c = λ rows f.
    let r = c.args.row.now in
    let es : List Entry = c.args.entries.now.items in
    let paths : List (List ℕ) = texts c.args.paths.now.items in
    let key : List ℕ = c.in_ok-key.key.items in
    let key_is : key ≡ asking_key (row_data r).item = cc (c.in_ok-key.ensures, c.in_ok-word.ensures, c.as_slice.ensures.value, c.as_slice-2.ensures.value) in
    let none : get_by (λ k. bytes_eq key k.items) c.args.numbers.now ≡ None =
    ap (λ (b : List ℕ). get_by (λ k. bytes_eq b k.items) c.args.numbers.now) (sym c.as_slice-3.ensures.value) ∙ sym c.number_of.ensures
    ∙ c.in_default.is in
    let len : c.len.result ≡ length es = omega (arith, c.args.entries.now.ok) in
    let adds : AddsKey c.args.numbers.now key (length es) c.add_number.new.numbers = subst
    (λ (n : ℕ). AddsKey c.args.numbers.now key n c.add_number.new.numbers) len (c.in_ok-add_number.ensures.numbers none) in
    let room : length es < 1000000 = omega (arith, len, c.in_ok-add_number.ensures.most) in
    let p = c.in_ok-push_entry.ensures in
    let of_row : IsEntryOf r (length paths) p.0 = subst (λ (n : ℕ). IsEntryOf r n p.0) (sym (length-map c.args.paths.now.items (λ v. v.items))) p.1 in
    let is : AreRows (with_row asking_key rows (row_data r)) (paths ++ r.path.items ∷ []) c.push_entry.new.entries.items c.add_number.new.numbers =
    rows_new rows paths es c.push_entry.new.entries.items c.args.numbers.now c.add_number.new.numbers p.0 r key key_is none adds room p.3 of_row
    (p.2 ∙ c.in_ok-word.ensures) f in
    subst (λ (ps : List (List ℕ)). AreRows (with_row asking_key rows (row_data r)) ps c.push_entry.new.entries.items c.add_number.new.numbers) (sym p.4) is

pub returns-clause-paths : goal.returns-clause-paths
returns-clause-paths c = (c.args.row.now.path.items ∷ [], c.in_ok-push_entry.ensures.4)
