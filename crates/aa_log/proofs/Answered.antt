-- A request more that is answered, counted and shown.
use Rattle.std.proofs.Common.{◌≡◌, ℕ, ◌+◌, ◌<◌, List, [], ◌∷◌, ◌++◌, ◌||◌, length, map, take, get_or, Bool, true, false, cond, refl, sym, ap, ◌∙◌, arith, append-nil, append_assoc}
use Rattle.std.specs.Prelude.{min, flat_map, count_by}
use Rattle.std.specs.List.{list_any}
use Rattle.std.proofs.lemmas.List.{take_more, map-append}
use Rattle.std.proofs.lemmas.List.Sums.{sum_by_push}
use Rattle.std.proofs.lemmas.List.Concat.{flat_map-append}
use Rattle.aa_text.specs.Jsons.{with_commas, more_of}
use Rattle.aa_logs.specs.declared.answer.Now.{Now}
use Rattle.aa_logs.specs.declared.counts.Counts.{Counts}
use Rattle.aa_logs.specs.Answers.{row_of, column_of, changes, is_newly_denied}
use Rattle.aa_logs.specs.Counts.{count_in, is_so, AreNone, HasOneMore}
use Rattle.aa_command.specs.declared.decided.Decided.{Decided}
use Rattle.aa_log.specs.declared.logging.Entry.{Entry}
use Rattle.aa_log.specs.Counted.{greatest}
use Rattle.aa_log.specs.Commas.{is_some_of}
use Rattle.aa_log.proofs.Listing.{two_parts, two_later}
use Rattle.aa_log.specs.Against.{now_of, IsNewlyDenied, AreCounted, is_shown, shown_text, changes_text, json_shown, json_changes}

or_none : (b : Bool) → (b || false) ≡ b
or_none true = refl
or_none false = refl

-- what is read of the elements so far, once there is one more
pub next_taken : {X Y : Type 0} (f : X → Y) (xs : List X) (i : ℕ) (x : X) → i < length xs → x ≡ get_or xs i x → map f (take (i + 1) xs) ≡ map f (take i xs) ++ f x ∷ []
next_taken {X} {Y} f xs i x lt is = ap (map f) (take_more xs i x lt) ∙ map-append f (take i xs) (get_or xs i x ∷ []) ∙ ap (λ (y : X). map f (take i xs) ++ f y ∷ []) (sym is)

counted_so : (p : Bool) (n : ℕ) → cond p (min (min n greatest + 1) greatest) (min n greatest) ≡ min (n + cond p 1 0) greatest
counted_so true n = omega arith
counted_so false n = omega arith

-- counts of no requests
pub counted_none : (d : Decided) (counts : Counts) → AreNone counts.rows → AreCounted d [] counts
counted_none d counts none = λ before after. none before after

-- counts of a request more
pub counted_more : (d : Decided) (es more : List Entry) (e : Entry) (now : Now) (old new : Counts) → now ≡ now_of d e
    → HasOneMore e.then now old.rows new.rows → more ≡ es ++ e ∷ [] → AreCounted d es old → AreCounted d more new
counted_more d es more e now old new now_is one is f = λ before after.
    let so : Entry → Bool = λ x. is_so before after x.then (now_of d x) in
    let had : ℕ = count_in (row_of before) (column_of after) old.rows in
    one before after ∙ ap (λ (n : Now). cond (is_so before after e.then n) (min (had + 1) greatest) had) now_is
    ∙ ap (λ (n : ℕ). cond (so e) (min (n + 1) greatest) n) (f before after)
    ∙ counted_so (so e) (count_by so es)
    ∙ ap (λ (n : ℕ). min n greatest) (sym (sum_by_push (λ (x : Entry). cond (so x) 1 0) es e))
    ∙ ap (λ (l : List Entry). min (count_by so l) greatest) (sym is)

or_both : (a b c : Bool) → ((a || b) || c) ≡ (a || (b || c))
or_both true b c = refl
or_both false b c = refl

shown_some : (s : Bool) (text : List ℕ) → is_some_of (cond s (text ∷ []) []) ≡ s
shown_some true text = refl
shown_some false text = refl

changes_more : (logs : List (List ℕ)) (d : Decided) (all : Bool) (es : List Entry) (e : Entry) → json_changes logs d all (es ++ e ∷ []) ≡ json_changes logs d all es ++ json_shown logs d all e
unfolding json_changes
changes_more logs d all es e = flat_map-append (json_shown logs d all) es (e ∷ []) ∙ ap (λ (l : List (List ℕ)). json_changes logs d all es ++ l) (append-nil (json_shown logs d all e))

-- the text of those that are shown, with one more
pub shown_more : (logs : List (List ℕ)) (d : Decided) (all : Bool) (es more : List Entry) (e : Entry) (later : Bool) (out mid new : List ℕ) → more ≡ es ++ e ∷ [] → later ≡ is_some_of (json_changes logs d all es)
    → mid ≡ out ++ with_commas (json_changes logs d all es) → new ≡ mid ++ more_of later (json_shown logs d all e) → new ≡ out ++ with_commas (json_changes logs d all more)
shown_more logs d all es more e later out mid new is later_is so_far step =
    two_parts false later out mid new (json_changes logs d all es) (json_shown logs d all e) so_far later_is step
    ∙ ap (λ (l : List (List ℕ)). out ++ with_commas l) (sym (changes_more logs d all es e) ∙ ap (json_changes logs d all) (sym is))

-- whether some are shown, with one more
pub later_more : (logs : List (List ℕ)) (d : Decided) (all : Bool) (es more : List Entry) (e : Entry) (now : Now) (later last : Bool) → more ≡ es ++ e ∷ [] → now ≡ now_of d e → later ≡ is_some_of (json_changes logs d all es)
    → last ≡ (later || (all || changes e.then now)) → last ≡ is_some_of (json_changes logs d all more)
later_more logs d all es more e now later last is now_is later_is last_is =
    let shown : last ≡ (later || is_some_of (json_shown logs d all e)) =
    last_is ∙ ap (λ (n : Now). later || (all || changes e.then n)) now_is ∙ ap (λ (b : Bool). later || b) (sym (shown_some (is_shown d all e) _)) in
    two_later false later last (json_changes logs d all es) (json_shown logs d all e) later_is shown ∙ ap is_some_of (sym (changes_more logs d all es e) ∙ ap (json_changes logs d all) (sym is))

any_push : (p : Entry → Bool) (es : List Entry) (e : Entry) → list_any p (es ++ e ∷ []) ≡ (list_any p es || p e)
any_push p [] e = or_none (p e)
any_push p (x ∷ xs) e = ap (λ (b : Bool). p x || b) (any_push p xs e) ∙ sym (or_both (p x) (list_any p xs) (p e))

-- whether one is newly denied, with one more
pub newly_more : (d : Decided) (es more : List Entry) (e : Entry) (now : Now) (old new : Counts) → now ≡ now_of d e
    → new.has_newly_denied ≡ (old.has_newly_denied || is_newly_denied e.then now) → more ≡ es ++ e ∷ [] → IsNewlyDenied d es old
    → IsNewlyDenied d more new
newly_more d es more e now old new now_is step is f =
    let p : Entry → Bool = λ x. is_newly_denied x.then (now_of d x) in
    step ∙ ap (λ (b : Bool). b || is_newly_denied e.then now) f ∙ ap (λ (n : Now). list_any p es || is_newly_denied e.then n) now_is ∙ sym (any_push p es e) ∙ ap (list_any p) (sym is)

-- the text of those that are shown, with one more
pub text_more : (logs : List (List ℕ)) (d : Decided) (all : Bool) (es more : List Entry) (e : Entry) (out mid new : List ℕ) → more ≡ es ++ e ∷ []
    → mid ≡ out ++ changes_text logs d all es → new ≡ mid ++ shown_text logs d all e → new ≡ out ++ changes_text logs d all more
unfolding changes_text
text_more logs d all es more e out mid new is so_far step =
    step ∙ ap (λ (l : List ℕ). l ++ shown_text logs d all e) so_far ∙ append_assoc out (flat_map (shown_text logs d all) es) (shown_text logs d all e)
    ∙ ap (λ (l : List ℕ). out ++ (flat_map (shown_text logs d all) es ++ l)) (sym (append-nil (shown_text logs d all e)))
    ∙ ap (λ (l : List ℕ). out ++ l) (sym (flat_map-append (shown_text logs d all) es (e ∷ [])) ∙ ap (flat_map (shown_text logs d all)) (sym is))
