-- Skipped lines, once a line more asks nothing.
use Rattle.std.proofs.Common.{◌≡◌, ℕ, ◌+◌, List, [], ◌∷◌, ◌++◌, map, set, get_or, Some, None, refl, sym, ap, ◌∙◌}
use Rattle.std.specs.Prelude.{min}
use Rattle.std.specs.List.{position}
use Rattle.std.specs.Str.{bytes_eq}
use Rattle.std.proofs.Math.ListN.{get_or-map}
use Rattle.std.proofs.lemmas.List.{map-append, map-set}
use Rattle.aa_logs.specs.declared.line.Reason.{Reason}
use Rattle.aa_logs.specs.declared.line.Reason.TheVariants.{Rule, NoProfile, Namespace, Stacked, NoNewPrivs, Path, Mask, Name, Capability, Socket, Operation, Status, OldForm, Broken}
use Rattle.aa_logs.specs.Asked.{cause_of}
use Rattle.aa_logs.specs.Reasons.{rank, word_of}
use Rattle.aa_log.specs.declared.logging.LinePlace.{LinePlace}
use Rattle.aa_log.specs.declared.logging.SkippedLines.{SkippedLines}
use Rattle.aa_log.specs.Counted.{greatest, Counted, counted}
use Rattle.aa_log.specs.Orders.{reason_key}
use Rattle.aa_log.specs.Found.{Skipped, skipped_key, skipped_data, skipped_for}
use Rattle.aa_log.proofs.Counting.{with_one, more_of_it, at_place, behind_all, counted-more}
use Rattle.aa_log.proofs.Entries.{position-map}

place_in : (xs : List SkippedLines) (key : List ℕ) → position (λ (c : Counted Skipped). bytes_eq (skipped_key c.item) key) (map skipped_data xs) ≡ position (λ (s : SkippedLines). bytes_eq (reason_key s) key) xs
place_in xs key = position-map (λ (c : Counted Skipped). bytes_eq (skipped_key c.item) key) skipped_data xs

-- for a reason that is there
pub reason_again : (before : List Skipped) (xs new : List SkippedLines) (n : ℕ) (e : SkippedLines) (k : Skipped) → position (λ s. bytes_eq (reason_key s) (skipped_key k)) xs ≡ Some n → e ≡ get_or xs n e
    → new ≡ set xs n (record { reason = e.reason; count = min (e.count + 1) greatest; first = e.first }) → map skipped_data xs ≡ counted skipped_key before → map skipped_data new ≡ counted skipped_key (before ++ k ∷ [])
reason_again before xs new n e k found there is f =
    let more : SkippedLines = record { reason = e.reason; count = min (e.count + 1) greatest; first = e.first } in
    let d : Counted Skipped = skipped_data e in
    let at : position (λ (c : Counted Skipped). bytes_eq (skipped_key c.item) (skipped_key k)) (map skipped_data xs) ≡ Some n = place_in xs (skipped_key k) ∙ found in
    ap (map skipped_data) is ∙ map-set skipped_data xs n more
    ∙ ap (λ (c : Counted Skipped). set (map skipped_data xs) n (more_of_it c)) (ap skipped_data there ∙ sym (get_or-map skipped_data xs n e))
    ∙ sym (at_place skipped_key (map skipped_data xs) k n d at)
    ∙ ap (λ (cs : List (Counted Skipped)). with_one skipped_key cs k) f ∙ sym (counted-more skipped_key before k)

-- for a reason that is new
pub reason_new : (before : List Skipped) (xs new : List SkippedLines) (s : SkippedLines) (k : Skipped)
    → position (λ s. bytes_eq (reason_key s) (skipped_key k)) xs ≡ None → new ≡ xs ++ s ∷ [] → skipped_data s ≡ record { item = k; count = 1 }
    → map skipped_data xs ≡ counted skipped_key before → map skipped_data new ≡ counted skipped_key (before ++ k ∷ [])
reason_new before xs new s k none is data_is f =
    ap (map skipped_data) is ∙ map-append skipped_data xs (s ∷ []) ∙ ap (λ (c : Counted Skipped). map skipped_data xs ++ c ∷ []) data_is
    ∙ sym (behind_all skipped_key (map skipped_data xs) k (place_in xs (skipped_key k) ∙ none))
    ∙ ap (λ (cs : List (Counted Skipped)). with_one skipped_key cs k) f ∙ sym (counted-more skipped_key before k)

caused : (r : Reason) (p : LinePlace) → record { order = rank r; name = word_of r; place = p } ≡ skipped_for (cause_of r) p
caused (Rule word) p = refl
caused NoProfile p = refl
caused Namespace p = refl
caused Stacked p = refl
caused NoNewPrivs p = refl
caused Path p = refl
caused Mask p = refl
caused Name p = refl
caused Capability p = refl
caused Socket p = refl
caused Operation p = refl
caused Status p = refl
caused OldForm p = refl
caused Broken p = refl

-- a line that is skipped for a reason, by the reason's order and name
pub as_caused : (r : Reason) (order : ℕ) (name : List ℕ) (p q : LinePlace) → order ≡ rank r → name ≡ word_of r → p ≡ q → record { order = order; name = name; place = p } ≡ skipped_for (cause_of r) q
as_caused r order name p q is_rank is_word is_place =
    ap (λ (n : ℕ). record { order = n; name = name; place = p }) is_rank ∙ ap (λ (w : List ℕ). record { order = rank r; name = w; place = p }) is_word
    ∙ ap (λ (x : LinePlace). record { order = rank r; name = word_of r; place = x }) is_place ∙ caused r q
