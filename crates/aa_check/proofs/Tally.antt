-- Each keyword with how many rules have it, one rule more.
use Rattle.std.proofs.Common.{◌≡◌, ℕ, ◌+◌, ◌<◌, List, [], ◌∷◌, ◌++◌, length, map, take, get_or, Bool, true, false, Vec, refl, sym, ap, ◌∙◌}
use Rattle.std.specs.Prelude.{◌||◌}
use Rattle.std.specs.List.{list_any}
use Rattle.std.specs.Str.{bytes_eq}
use Rattle.std.specs.declared.alloc.Global.{Global}
use Rattle.std.proofs.lemmas.Bool.{cond-true, cond-false}
use Rattle.std.proofs.lemmas.List.{take_more, map-append}
use Rattle.aa_model.specs.declared.policy.PassedOver.{PassedOver}
use Rattle.aa_check.specs.declared.report.Passed.{Passed}
use Rattle.aa_check.specs.Counts.{distinct, keywords_of, times, counted_keyword, passed_data}
use Rattle.aa_check.proofs.Keywords.{is_among, distinct_push}

any_map : {X Y : Type 0} (p : Y → Bool) (f : X → Y) (xs : List X) → list_any p (map f xs) ≡ list_any (λ x. p (f x)) xs
any_map p f [] = refl
any_map p f (x ∷ xs) = ap (λ b. p (f x) || b) (any_map p f xs)

-- one of these has the keyword
abbrev pub is_seen : List ℕ → List Passed → Bool
is_seen k passed = list_any (λ p. bytes_eq p.keyword.items k) passed

pub known : (slice seen : List Passed) (k kind : List ℕ) → slice ≡ seen → k ≡ kind → is_seen k slice ≡ is_seen kind seen
known slice seen k kind e d = ap (is_seen k) e ∙ ap (λ j. is_seen j seen) d

abbrev tally : List PassedOver → List (List ℕ) → List (List ℕ × ℕ)
tally rules ks = map (counted_keyword rules) (distinct ks)

same_seen : (rules : List PassedOver) (ks : List (List ℕ)) (seen : List Passed) (k : List ℕ) → map passed_data seen ≡ tally rules ks → is_among k (distinct ks) ≡ is_seen k seen
same_seen rules ks seen k so_far =
    sym (any_map (λ (d : List ℕ × ℕ). bytes_eq d.0 k) (counted_keyword rules) (distinct ks))
    ∙ ap (list_any (λ (d : List ℕ × ℕ). bytes_eq d.0 k)) (sym so_far)
    ∙ any_map (λ (d : List ℕ × ℕ). bytes_eq d.0 k) passed_data seen

keywords_more : (rules : List PassedOver) (i : ℕ) (r : PassedOver) → i < length rules → r ≡ get_or rules i r → keywords_of (take (i + 1) rules) ≡ keywords_of (take i rules) ++ r.kind ∷ []
keywords_more rules i r lt item =
    ap keywords_of (take_more rules i r lt ∙ ap (λ x. take i rules ++ x ∷ []) (sym item)) ∙ map-append (λ (x : PassedOver). x.kind) (take i rules) (r ∷ [])

-- a keyword that came before
pub tallied_old : (rules : List PassedOver) (i : ℕ) (r : PassedOver) (seen : List Passed) → i < length rules → r ≡ get_or rules i r → map passed_data seen ≡ tally rules (keywords_of (take i rules))
    → is_seen r.kind seen ≡ true → map passed_data seen ≡ tally rules (keywords_of (take (i + 1) rules))
tallied_old rules i r seen lt item so_far old =
    let ks = keywords_of (take i rules) in
    so_far ∙ ap (map (counted_keyword rules)) (sym (
    ap distinct (keywords_more rules i r lt item) ∙ distinct_push ks r.kind
    ∙ cond-true (is_among r.kind (distinct ks)) (distinct ks) (distinct ks ++ r.kind ∷ []) (same_seen rules ks seen r.kind so_far ∙ old)))

-- one that didn't
pub tallied_new : (rules : List PassedOver) (i : ℕ) (r : PassedOver) (seen more : List Passed) (count : ℕ) (key : Vec ℕ Global) → i < length rules
    → r ≡ get_or rules i r → map passed_data seen ≡ tally rules (keywords_of (take i rules))
    → is_seen r.kind seen ≡ false → key.items ≡ r.kind → count ≡ times rules r.kind → more ≡ seen ++ record { keyword = key; count = count } ∷ []
    → map passed_data more ≡ tally rules (keywords_of (take (i + 1) rules))
tallied_new rules i r seen more count key lt item so_far new is_key is_count is_more =
    let ks = keywords_of (take i rules) in
    let one : List ℕ × ℕ = (key.items, count) in
    let same : one ≡ counted_keyword rules r.kind = ap (λ (k : List ℕ). (k, count)) is_key ∙ ap (λ (n : ℕ). (r.kind, n)) is_count in
    ap (map passed_data) is_more ∙ map-append passed_data seen (record { keyword = key; count = count } ∷ [])
    ∙ ap (λ (l : List (List ℕ × ℕ)). l ++ one ∷ []) so_far
    ∙ ap (λ (d : List ℕ × ℕ). tally rules ks ++ d ∷ []) same
    ∙ sym (map-append (counted_keyword rules) (distinct ks) (r.kind ∷ []))
    ∙ ap (map (counted_keyword rules)) (sym (
    ap distinct (keywords_more rules i r lt item) ∙ distinct_push ks r.kind
    ∙ cond-false (is_among r.kind (distinct ks)) (distinct ks) (distinct ks ++ r.kind ∷ []) (same_seen rules ks seen r.kind so_far ∙ new)))
