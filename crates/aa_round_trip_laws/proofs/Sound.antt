-- Words of an audit line are not broken, and a line without a return is what it is.
use Rattle.std.proofs.Common.{◌≡◌, ℕ, zero, suc, ◌+◌, ◌-◌, ◌<◌, ◌≤◌, Bool, true, false, not, ◌&&◌, ◌||◌, ◌==◌, List, []}
use Rattle.std.proofs.Common.{◌∷◌, length, take, cond, refl, sym, ◌∙◌, ap, arith, codes, count_by, nat_lt, nat_eq, flat_map, drop, Option, Some}
use Rattle.std.proofs.Common.{None, Ok, Err, slice_get, true≢false, option_and_then}
use Rattle.std.specs.List.{list_all, list_any, fold, starts_with}
use Rattle.std.specs.Str.{bytes_eq}
use Rattle.std.proofs.lemmas.Bool.{and_parts, and_from, or_from, false_from_ne_true, ltb-true}
use Rattle.aa_base.specs.Hex.{hex_pair}
use Rattle.aa_base.specs.Values.{is_shown}
use Rattle.aa_model.specs.declared.request.Request.{Request}
use Rattle.aa_logs.specs.declared.word.Form.TheVariants.{Quoted, Plain}
use Rattle.aa_logs.specs.declared.line.Then.{Then}
use Rattle.aa_logs.specs.declared.line.Reason.TheVariants.{Broken}
use Rattle.aa_logs.specs.Words.{WordData, words_of}
use Rattle.aa_logs.specs.Fields.{raw_in, number_in}
use Rattle.aa_logs.specs.Asked.{Because, asked_in}
use Rattle.aa_logs.specs.Outcomes.{RecordData, Another, AsksFor}
use Rattle.aa_logs.specs.Records.{begins_stamp, is_false_stamp, is_open, is_time, is_broken, told_in, profile_in, by_told, with_profile, with_request, record_by, record_in, is_record, is_return, outcome_by, outcome_of, line_in}
use Rattle.aa_round_trip_laws.proofs.Names.{named}
use Rattle.aa_round_trip_laws.proofs.Parts.{stays}
use Rattle.aa_notation.proofs.Splits.{not_true}

abbrev pub is_sound : WordData → Bool
is_sound w = not (is_open w) && not (begins_stamp w)

none_open : (ws : List WordData) → list_all is_sound ws ≡ true → list_any is_open ws ≡ false
none_open [] h = refl
none_open (w ∷ ws) h =
    let both = and_parts (is_sound w) (list_all is_sound ws) h in
    or_from (is_open w) (list_any is_open ws) (not_true (is_open w) (and_parts (not (is_open w)) (not (begins_stamp w)) both.0).0) (none_open ws both.1)

begins_none : (w : WordData) → is_sound w ≡ true → begins_stamp w ≡ false
begins_none w h = not_true (begins_stamp w) (and_parts (not (is_open w)) (not (begins_stamp w)) h).1

none_false : (ws : List WordData) → list_all is_sound ws ≡ true → list_any is_false_stamp ws ≡ false
none_false [] h = refl
none_false (w ∷ ws) h =
    let both = and_parts (is_sound w) (list_all is_sound ws) h in
    or_from (is_false_stamp w) (list_any is_false_stamp ws) (ap (λ (b : Bool). b && not (is_time (drop 6 w.text))) (begins_none w both.0)) (none_false ws both.1)

none_counted : (n : ℕ) (ws : List WordData) → list_all is_sound ws ≡ true → fold (λ a w. a + cond (begins_stamp w) 1 0) n ws ≡ n
none_counted n [] h = refl
none_counted n (w ∷ ws) h =
    let both = and_parts (is_sound w) (list_all is_sound ws) h in
    let same : n + 0 ≡ n = omega arith in
    ap (λ (m : ℕ). fold (λ a v. a + cond (begins_stamp v) 1 0) m ws) (ap (λ (b : Bool). n + cond b 1 0) (begins_none w both.0) ∙ same) ∙ none_counted n ws both.1

unbroken : (ws : List WordData) → list_all is_sound ws ≡ true → is_broken ws ≡ false
unfolding is_broken
unbroken ws h =
    or_from (list_any is_open ws || list_any is_false_stamp ws) (nat_lt 1 (count_by begins_stamp ws))
    (or_from (list_any is_open ws) (list_any is_false_stamp ws) (none_open ws h) (none_false ws h))
    (ap (nat_lt 1) (none_counted 0 ws h))

sound_by : (t : Bool) (k text : List ℕ) → bytes_eq k (codes "msg") ≡ false → is_sound (record { form = cond t Quoted Plain; key = k; text = text }) ≡ true
sound_by true k text h = refl
sound_by false k text h = ap (λ (b : Bool). not (b && starts_with nat_eq text (codes "audit("))) h

sound_named : (k name : List ℕ) → bytes_eq k (codes "msg") ≡ false → is_sound (named k name) ≡ true
sound_named k name h = sound_by (list_all is_shown name) k (cond (list_all is_shown name) name (flat_map hex_pair name)) h

pub sound_on : (k name : List ℕ) (ws : List WordData) → bytes_eq k (codes "msg") ≡ false → list_all is_sound ws ≡ true → list_all is_sound (named k name ∷ ws) ≡ true
sound_on k name ws h g = and_from (is_sound (named k name)) (list_all is_sound ws) (sound_named k name h) g

abbrev pub own_record : Then → List ℕ → Request → RecordData
own_record t profile r = record { became = t; profile = profile; request = r; pid = None }

pub record_from : (ws : List WordData) (t : Then) (profile : List ℕ) (r : Request) → list_all is_sound ws ≡ true → by_told ws (told_in ws) ≡ with_profile ws t (profile_in ws) → profile_in ws ≡ Ok profile
    → asked_in ws ≡ Ok r → option_and_then number_in (raw_in (codes "pid") ws) ≡ None → record_by ws ≡ Ok (Some (own_record t profile r))
unfolding record_by
record_from ws t profile r h a b c d =
    ap (λ (x : Bool). cond x (Err (Because Broken)) (by_told ws (told_in ws))) (unbroken ws h)
    ∙ (a
    ∙ (ap (with_profile ws t) b
    ∙ (ap (with_request ws t profile) c
    ∙ ap (λ (o : Option ℕ). Ok (Some (record { became = t; profile = profile; request = r; pid = o }))) d)))

kept : (xs : List ℕ) (i : ℕ) → list_all stays xs ≡ true → is_return (slice_get xs i) ≡ false
kept [] i h = refl
kept (x ∷ xs) zero h = not_true (x == 13) (and_parts (stays x) (list_all stays xs) h).0
kept (x ∷ xs) (suc i) h = kept xs i (and_parts (stays x) (list_all stays xs) h).1

pub line_from : (text : List ℕ) (ws : List WordData) (r : RecordData) → words_of text ≡ ws → record_by ws ≡ Ok (Some r) → length text ≤ 65536 → is_record text ≡ true → list_all stays text ≡ true
    → line_in text ≡ AsksFor r
unfolding line_in record_in
line_from text ws r e f short is kept_all =
    let fits : nat_lt 65536 (length text) ≡ false = false_from_ne_true (nat_lt 65536 (length text)) (λ over. let more : 65536 < length text = ltb-true 65536 (length text) over in omega arith) in
    ap (λ (b : Bool). outcome_of (cond b (take (length text - 1) text) text)) (kept text (length text - 1) kept_all)
    ∙ (ap (λ (b : Bool). cond b (outcome_by (record_in text)) Another) is
    ∙ (ap (λ (b : Bool). outcome_by (cond b (Err (Because Broken)) (record_by (words_of text)))) fits
    ∙ (ap (λ (t : List WordData). outcome_by (record_by t)) e
    ∙ ap outcome_by f)))
