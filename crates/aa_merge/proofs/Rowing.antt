-- Entries and skipped lines, once a row more is added.
use Rattle.std.proofs.Common.{◌≡◌, ℕ, ◌+◌, ◌<◌, ◌≤◌, List, [], ◌∷◌, ◌++◌, length, map, set, Option, Some, None, refl, sym, ap}
use Rattle.std.proofs.Common.{subst, ◌∙◌, arith}
use Rattle.std.specs.Prelude.{slice_get, option_map}
use Rattle.std.specs.List.{position}
use Rattle.std.specs.Str.{bytes_eq}
use Rattle.std.specs.HashMap.{HashMap, get_by}
use Rattle.std.specs.declared.vec.Vec.{Vec}
use Rattle.std.proofs.lemmas.List.{map-append, length-map, length-set, length-append}
use Rattle.std.proofs.lemmas.List.Quantifiers.{position-Some}
use Rattle.aa_notation.specs.Kinds.{word_text}
use Rattle.aa_log.specs.declared.logging.Entry.{Entry}
use Rattle.aa_log.specs.declared.logging.LinePlace.{LinePlace}
use Rattle.aa_log.specs.declared.logging.SkippedLines.{SkippedLines}
use Rattle.aa_log.specs.Counted.{Counted}
use Rattle.aa_log.specs.Found.{entry_key, AddsKey, HaveWords}
use Rattle.aa_log.specs.Orders.{reason_key}
use Rattle.aa_log.specs.Printed.{key_text}
use Rattle.aa_log.proofs.Entries.{there_is, keep_map, words_new, numbered_new, position-map}
use Rattle.aa_merge.specs.declared.part.PartRow.{PartRow}
use Rattle.aa_merge.specs.declared.part.PartSkipped.{PartSkipped}
use Rattle.aa_merge.specs.Held.{row_data, passed_data, entry_row, skipped_row, AreRows, IsEntryOf}
use Rattle.aa_merge.specs.Parts.{Asking, Passed, asking_key, passed_key}
use Rattle.aa_log.specs.Joined.{added, raised, with_row}
use Rattle.aa_merge.proofs.Placed.{behind_them, rows_still, raised_there, keys_alike, rows_length, place_by_keys, row_again, row_new}

-- ---- requests

-- an entry with a path
entry_at : Entry → List ℕ → Counted Asking
entry_at e path = record {
  item = record { became = e.then; profile = e.profile.items; request = e.request; path = path; line = e.first.line };
  count = e.count;
}

pub entries_still : (paths more : List (List ℕ)) (es : List Entry) (rows : List (Counted Asking)) → map (entry_row paths) es ≡ map Some rows
    → map (entry_row (paths ++ more)) es ≡ map Some rows
unfolding entry_at
entries_still paths more es rows e = rows_still entry_at (λ (x : Entry). x.first.log) paths more es rows e

plain_key : Entry → List ℕ
plain_key e = key_text e.then e.profile.items (word_text e.request)

plain_keys : (es : List Entry) → HaveWords es → map entry_key es ≡ map plain_key es
unfolding plain_key
plain_keys [] w = refl
plain_keys (e ∷ es) w =
    let head : e.word.items ≡ word_text e.request = cc in
    let tail : HaveWords es = cc in
    ap (λ (k : List ℕ). k ∷ map entry_key es) (ap (key_text e.then e.profile.items) head)
    ∙ ap (λ (l : List (List ℕ)). plain_key e ∷ l) (plain_keys es tail)

key_alike : (paths : List (List ℕ)) (e : Entry) (r : Counted Asking) → entry_row paths e ≡ Some r → plain_key e ≡ asking_key r.item
unfolding plain_key entry_at
key_alike paths e r is =
    (elim (slice_get paths e.first.log) as (λ o. option_map (entry_at e) o ≡ Some r → plain_key e ≡ asking_key r.item) [
      | None ↦ λ none. absurd (cc)
      | Some path ↦ λ some. (let same : entry_at e path ≡ r = cc in ap (λ (x : Counted Asking). asking_key x.item) same)
    ]) is

entry_keys : (paths : List (List ℕ)) (es : List Entry) (rows : List (Counted Asking)) → HaveWords es → map (entry_row paths) es ≡ map Some rows
    → map entry_key es ≡ map (λ (c : Counted Asking). asking_key c.item) rows
entry_keys paths es rows w is = plain_keys es w ∙ keys_alike (entry_row paths) plain_key asking_key (key_alike paths) es rows is

entry_of_row : (paths : List (List ℕ)) (r : PartRow) (n : ℕ) (e : Entry) → IsEntryOf r n e → slice_get paths n ≡ Some r.path.items
    → entry_row paths e ≡ Some (row_data r)
unfolding entry_at
entry_of_row paths r n e f there =
    let place : slice_get paths e.first.log ≡ Some r.path.items = ap (λ (p : LinePlace). slice_get paths p.log) f.first ∙ there in
    ap (option_map (entry_at e)) place
    ∙ rw (f.became, f.profile, f.request, f.count, f.first) refl

raised_entry : (paths : List (List ℕ)) (e : Entry) (count : ℕ) (r : Counted Asking) → entry_row paths e ≡ Some r
    → entry_row paths (record e { count = added e.count count }) ≡ Some (raised r count)
unfolding entry_at
raised_entry paths e count r is =
    (elim (slice_get paths e.first.log) as
    (λ o. option_map (entry_at e) o ≡ Some r → option_map (entry_at (record e { count = added e.count count })) o ≡ Some (raised r count)) [
      | None ↦ λ none. absurd (cc)
      | Some path ↦ λ some. (let same : entry_at e path ≡ r = cc in ap (λ (x : Counted Asking). Some (raised x count)) same)
    ]) is

words_still : (es : List Entry) (n : ℕ) (e new : Entry) → slice_get es n ≡ Some e → new.word.items ≡ e.word.items
    → word_text new.request ≡ word_text e.request → HaveWords es → HaveWords (set es n new)
words_still es n e new there word text w = keep_map (λ (x : Entry). x.word.items) es n e new there word ∙ w
    ∙ sym (keep_map (λ (x : Entry). word_text x.request) es n e new there text)

module _ {Y S : Type 0} where
  -- the place of a key among the rows
  found_row : (rows : List (Counted Asking)) (paths : List (List ℕ)) (es : List Entry) (numbers : HashMap (Vec ℕ Y) ℕ S) (key : List ℕ)
      (o : Option ℕ) → get_by (λ k. bytes_eq key k.items) numbers ≡ o → AreRows rows paths es numbers
      → position (λ (c : Counted Asking). bytes_eq (asking_key c.item) key) rows ≡ o
  found_row rows paths es numbers key o found f = place_by_keys asking_key (map entry_key es) rows key (entry_keys paths es rows f.words f.rows_are)
      ∙ sym (f.numbered key) ∙ found

  -- a row whose key is there
  pub rows_again : (rows : List (Counted Asking)) (paths : List (List ℕ)) (es new : List Entry) (numbers : HashMap (Vec ℕ Y) ℕ S) (number : ℕ)
      (r : PartRow) (key : List ℕ) → key ≡ asking_key (row_data r).item
      → get_by (λ k. bytes_eq key k.items) numbers ≡ Some number
      → ((e : Entry) → slice_get es number ≡ Some e → new ≡ set es number (record e { count = added e.count r.count }))
      → AreRows rows paths es numbers → AreRows (with_row asking_key rows (row_data r)) paths new numbers
  rows_again rows paths es new numbers number r key key_is found again f =
      let row : Counted Asking = row_data r in
      let place : position (λ (k : List ℕ). bytes_eq k key) (map entry_key es) ≡ Some number = sym (f.numbered key) ∙ found in
      let within = position-Some (λ (k : List ℕ). bytes_eq k key) (map entry_key es) number [] place in
      let there = there_is es number (omega (arith, within.0, length-map es entry_key)) in
      let e : Entry = there.element in
      let e' : Entry = record e { count = added e.count r.count } in
      let is : new ≡ set es number e' = again e there.is in
      let at : position (λ (c : Counted Asking). bytes_eq (asking_key c.item) (asking_key row.item)) rows ≡ Some number =
      ap (λ (k : List ℕ). position (λ (c : Counted Asking). bytes_eq (asking_key c.item) k) rows) (sym key_is)
      ∙ found_row rows paths es numbers key (Some number) found f in record {
        rows_are = ap (map (entry_row paths)) is
            ∙ raised_there (entry_row paths) es rows number e e' row r.count f.rows_are there.is (raised_entry paths e r.count)
            ∙ ap (map Some) (sym (row_again asking_key rows row number row at));
        words = (let w : HaveWords (set es number e') = words_still es number e e' there.is refl refl f.words in subst (λ (l : List Entry). HaveWords l)
            (sym is) w);
        numbered = λ other. f.numbered other
            ∙ ap (position (λ (k : List ℕ). bytes_eq k other)) (sym (ap (map entry_key) is ∙ keep_map entry_key es number e e' there.is refl));
        within = (let same : length new ≡ length es = ap length is ∙ length-set es number e' in omega (arith, same, f.within));
      }

  -- a row whose key is new
  pub rows_new : (rows : List (Counted Asking)) (paths : List (List ℕ)) (es new : List Entry) (numbers after : HashMap (Vec ℕ Y) ℕ S) (e : Entry)
      (r : PartRow) (key : List ℕ) → key ≡ asking_key (row_data r).item
      → get_by (λ k. bytes_eq key k.items) numbers ≡ None → AddsKey numbers key (length es) after → length es < 1000000 → new ≡ es ++ e ∷ []
      → IsEntryOf r (length paths) e → e.word.items ≡ word_text r.request
      → AreRows rows paths es numbers → AreRows (with_row asking_key rows (row_data r)) (paths ++ r.path.items ∷ []) new after
  rows_new rows paths es new numbers after e r key key_is none adds room is of_row word f =
      let row : Counted Asking = row_data r in
      let all : List (List ℕ) = paths ++ r.path.items ∷ [] in
      let nowhere : position (λ (c : Counted Asking). bytes_eq (asking_key c.item) (asking_key row.item)) rows ≡ None =
      ap (λ (k : List ℕ). position (λ (c : Counted Asking). bytes_eq (asking_key c.item) k) rows) (sym key_is)
      ∙ found_row rows paths es numbers key None none f in
      let is_row : entry_row all e ≡ Some row = entry_of_row all r (length paths) e of_row (behind_them paths r.path.items) in
      let entry_is_key : entry_key e ≡ key = rw (of_row.became, of_row.profile, word) (sym key_is) in record {
        rows_are = ap (map (entry_row all)) is ∙ map-append (entry_row all) es (e ∷ [])
            ∙ ap (λ (l : List (Option (Counted Asking))). l ++ entry_row all e ∷ []) (entries_still paths (r.path.items ∷ []) es rows f.rows_are)
            ∙ ap (λ (o : Option (Counted Asking)). map Some rows ++ o ∷ []) is_row ∙ sym (map-append Some rows (row ∷ []))
            ∙ ap (map Some) (sym (row_new asking_key rows row nowhere));
        words = words_new es new e f.words is (word ∙ ap word_text (sym of_row.request));
        numbered = numbered_new numbers after es new e key f.numbered adds is entry_is_key;
        within = (let longer : length new ≡ length es + 1 = ap length is ∙ length-append es (e ∷ []) in omega (arith, longer));
      }

  -- a row that would be one too many
  pub row_too_many : (rows : List (Counted Asking)) (paths : List (List ℕ)) (es : List Entry) (numbers : HashMap (Vec ℕ Y) ℕ S) (r : PartRow)
      (key : List ℕ) → key ≡ asking_key (row_data r).item
      → get_by (λ k. bytes_eq key k.items) numbers ≡ None → 1000000 ≤ length es → AreRows rows paths es numbers
      → 1000000 < length (with_row asking_key rows (row_data r))
  row_too_many rows paths es numbers r key key_is none full f =
      let row : Counted Asking = row_data r in
      let nowhere : position (λ (c : Counted Asking). bytes_eq (asking_key c.item) (asking_key row.item)) rows ≡ None =
      ap (λ (k : List ℕ). position (λ (c : Counted Asking). bytes_eq (asking_key c.item) k) rows) (sym key_is)
      ∙ found_row rows paths es numbers key None none f in
      let many : length (with_row asking_key rows row) ≡ length es + 1 =
      ap length (row_new asking_key rows row nowhere) ∙ length-append rows (row ∷ [])
      ∙ ap (λ (n : ℕ). n + 1) (rows_length (entry_row paths) es rows f.rows_are) in
      omega (arith, many)

-- ---- lines that ask nothing

-- skipped lines with a path
skipped_at : SkippedLines → List ℕ → Counted Passed
skipped_at s path = record { item = record { order = s.reason.0; name = s.reason.1.now; path = path; line = s.first.line }; count = s.count }

pub skipped_still : (paths more : List (List ℕ)) (xs : List SkippedLines) (rows : List (Counted Passed)) → map (skipped_row paths) xs ≡ map Some rows
    → map (skipped_row (paths ++ more)) xs ≡ map Some rows
unfolding skipped_at
skipped_still paths more xs rows e = rows_still skipped_at (λ (x : SkippedLines). x.first.log) paths more xs rows e

reason_alike : (paths : List (List ℕ)) (s : SkippedLines) (r : Counted Passed) → skipped_row paths s ≡ Some r → reason_key s ≡ passed_key r.item
unfolding skipped_at
reason_alike paths s r is =
    (elim (slice_get paths s.first.log) as (λ o. option_map (skipped_at s) o ≡ Some r → reason_key s ≡ passed_key r.item) [
      | None ↦ λ none. absurd (cc)
      | Some path ↦ λ some. (let same : skipped_at s path ≡ r = cc in ap (λ (x : Counted Passed). passed_key x.item) same)
    ]) is

raised_skipped : (paths : List (List ℕ)) (s : SkippedLines) (count : ℕ) (r : Counted Passed) → skipped_row paths s ≡ Some r
    → skipped_row paths (record s { count = added s.count count }) ≡ Some (raised r count)
unfolding skipped_at
raised_skipped paths s count r is =
    (elim (slice_get paths s.first.log) as
    (λ o. option_map (skipped_at s) o ≡ Some r → option_map (skipped_at (record s { count = added s.count count })) o ≡ Some (raised r count)) [
      | None ↦ λ none. absurd (cc)
      | Some path ↦ λ some. (let same : skipped_at s path ≡ r = cc in ap (λ (x : Counted Passed). Some (raised x count)) same)
    ]) is

-- the place of a reason among the rows
found_reason : (paths : List (List ℕ)) (xs : List SkippedLines) (rows : List (Counted Passed)) (key : List ℕ)
    → map (skipped_row paths) xs ≡ map Some rows
    → position (λ (c : Counted Passed). bytes_eq (passed_key c.item) key) rows ≡ position (λ (s : SkippedLines). bytes_eq (reason_key s) key) xs
found_reason paths xs rows key e =
    place_by_keys passed_key (map reason_key xs) rows key (keys_alike (skipped_row paths) reason_key passed_key (reason_alike paths) xs rows e)
    ∙ position-map (λ (k : List ℕ). bytes_eq k key) reason_key xs

-- for a reason that is there
pub reason_again : (paths : List (List ℕ)) (xs new : List SkippedLines) (rows : List (Counted Passed)) (n : ℕ) (s : SkippedLines) (r : PartSkipped)
    → position (λ (s : SkippedLines). bytes_eq (reason_key s) (r.reason.0 ∷ r.reason.1.now)) xs ≡ Some n
    → slice_get xs n ≡ Some s → new ≡ set xs n (record s { count = added s.count r.count }) → map (skipped_row paths) xs ≡ map Some rows
    → map (skipped_row paths) new ≡ map Some (with_row passed_key rows (passed_data r))
reason_again paths xs new rows n s r found there is e =
    let row : Counted Passed = passed_data r in
    ap (map (skipped_row paths)) is
    ∙ raised_there (skipped_row paths) xs rows n s (record s { count = added s.count r.count }) row r.count e there (raised_skipped paths s r.count)
    ∙ ap (map Some) (sym (row_again passed_key rows row n row (found_reason paths xs rows (passed_key row.item) e ∙ found)))

-- lines behind the others
pub skipped_push : (paths : List (List ℕ)) (xs new : List SkippedLines) (rows : List (Counted Passed)) (s : SkippedLines) (r : PartSkipped)
    → new ≡ xs ++ s ∷ [] → s ≡ record { reason = r.reason; count = r.count; first = record { log = length paths; line = r.line } }
    → map (skipped_row paths) xs ≡ map Some rows → map (skipped_row (paths ++ r.path.items ∷ [])) new ≡ map Some (rows ++ passed_data r ∷ [])
unfolding skipped_at
skipped_push paths xs new rows s r is s_is e =
    let row : Counted Passed = passed_data r in
    let all : List (List ℕ) = paths ++ r.path.items ∷ [] in
    let is_row : skipped_row all s ≡ Some row = ap (skipped_row all) s_is
    ∙ ap (option_map (skipped_at (record { reason = r.reason; count = r.count; first = record { log = length paths; line = r.line } })))
    (behind_them paths r.path.items) in
    ap (map (skipped_row all)) is ∙ map-append (skipped_row all) xs (s ∷ [])
    ∙ ap (λ (l : List (Option (Counted Passed))). l ++ skipped_row all s ∷ []) (skipped_still paths (r.path.items ∷ []) xs rows e)
    ∙ ap (λ (o : Option (Counted Passed)). map Some rows ++ o ∷ []) is_row ∙ sym (map-append Some rows (row ∷ []))

-- for a reason that is new
pub reason_new : (paths : List (List ℕ)) (xs : List SkippedLines) (rows : List (Counted Passed)) (r : PartSkipped)
    → position (λ (s : SkippedLines). bytes_eq (reason_key s) (r.reason.0 ∷ r.reason.1.now)) xs ≡ None → map (skipped_row paths) xs ≡ map Some rows
    → with_row passed_key rows (passed_data r) ≡ rows ++ passed_data r ∷ []
reason_new paths xs rows r none e = row_new passed_key rows (passed_data r) (found_reason paths xs rows (passed_key (passed_data r).item) e ∙ none)
