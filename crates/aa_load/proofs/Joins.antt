-- A joined policy is lawful.
use Rattle.std.proofs.Common.{◌≡◌, ℕ, zero, suc, ◌+◌, ◌-◌, ◌<◌, ◌≤◌, Bool, true, false, ◌||◌, cond, List, [], ◌∷◌, ◌++◌}
use Rattle.std.proofs.Common.{map, length, get_or, Option, Some, None, option_map, refl, sym, ap, subst, ◌∙◌, arith, ⊎_elim}
use Rattle.std.specs.Prelude.{nat_lt, IfSome, option_and_then, codes}
use Rattle.std.specs.List.{All, slice_get, list_any, IsDistinct}
use Rattle.std.specs.Option.{option_or}
use Rattle.std.specs.Str.{bytes_eq}
use Rattle.std.proofs.lemmas.Bool.{cases_lt, le-ltb}
use Rattle.std.proofs.lemmas.List.{map-append, length-append, length-map}
use Rattle.std.proofs.lemmas.List.Elements.{All-nil, All-cons, All-append, All-map, All-weaker}
use Rattle.std.proofs.lemmas.List.Folds.{list_any-append, list_any_none}
use Rattle.std.proofs.lemmas.Option.{slice_get-map, slice_get-get_or}
use borrow.Author.Tests.{ltb-false}
use Rattle.aa_model.specs.declared.policy.Profile.{Profile}
use Rattle.aa_model.specs.declared.policy.PassedOver.{PassedOver}
use Rattle.aa_model.specs.Lawful.{names_of, file_patterns, attachment_patterns, ParentsComeFirst, IsLawful, IsLawfulRule}
use Rattle.aa_model.specs.declared.policy.Policy.{Policy}
use Rattle.aa_load.specs.declared.kept.Kept.{Kept}
use Rattle.aa_load.specs.declared.join_fault.Repeated.{Repeated}
use Rattle.aa_load.specs.declared.join_fault.JoinFault.TheVariants.{DuplicateProfile, TooLarge}
use Rattle.aa_load.specs.Rows.{Rows}
use Rattle.aa_load.specs.Joined.{rows_of, moved, moved_rule, joined}
use Rattle.aa_load.specs.Faults.{number_of, repeated, is_too_large, fault_of}
use Rattle.aa_load.specs.Numbers.{noted, AreNew}
use Rattle.aa_load.specs.Kept.{kept_rows, IsKept, IsReady}
use Rattle.aa_load.proofs.Names.{names_moved, number_moved, distinct_joined}
use Rattle.aa_load.proofs.Places.{unknown_at}
use Rattle.aa_load.proofs.Counts.{few_joined}
use Rattle.aa_policy.proofs.Distinct.{distinct_none}

-- ---- faults

pub fault_repeated : (first second : Rows) (r : Repeated) → repeated first.profiles second.profiles ≡ Some r → fault_of first second ≡ Some (DuplicateProfile r)
fault_repeated first second r e =
    ap (λ (o : Option Repeated). option_or (option_map DuplicateProfile o) (cond (is_too_large (joined first second)) (Some TooLarge) None)) e

pub fault_otherwise : (first second : Rows) (b : Bool) → repeated first.profiles second.profiles ≡ None → is_too_large (joined first second) ≡ b
    → fault_of first second ≡ cond b (Some TooLarge) None
fault_otherwise first second b e f =
    ap (λ (o : Option Repeated). option_or (option_map DuplicateProfile o) (cond (is_too_large (joined first second)) (Some TooLarge) None)) e
    ∙ ap (λ (v : Bool). cond v (Some TooLarge) None) f

none_repeated : (o : Option Repeated) (b : Bool) → option_or (option_map DuplicateProfile o) (cond b (Some TooLarge) None) ≡ None → o ≡ None
none_repeated None b e = refl
none_repeated (Some r) b e = absurd cc

none_large : (o : Option Repeated) (b : Bool) → option_or (option_map DuplicateProfile o) (cond b (Some TooLarge) None) ≡ None → b ≡ false
none_large (Some r) b e = absurd cc
none_large None true e = absurd cc
none_large None false e = refl

pub unrepeated : (first second : Rows) → fault_of first second ≡ None → repeated first.profiles second.profiles ≡ None
unrepeated first second e = none_repeated (repeated first.profiles second.profiles) (is_too_large (joined first second)) e

not_large : (first second : Rows) → fault_of first second ≡ None → is_too_large (joined first second) ≡ false
not_large first second e = none_large (repeated first.profiles second.profiles) (is_too_large (joined first second)) e

-- ---- limits

left_false : (a b : Bool) → (a || b) ≡ false → a ≡ false
left_false true b e = absurd cc
left_false false b e = refl

right_false : (a b : Bool) → (a || b) ≡ false → b ≡ false
right_false true b e = absurd cc
right_false false b e = e

none_any : {X : Type 0} (p : X → Bool) (xs : List X) → list_any p xs ≡ false → All (λ x. p x ≡ false) xs
none_any p [] e = All-nil (λ x. p x ≡ false)
none_any p (x ∷ xs) e =
    All-cons (λ y. p y ≡ false) x xs (left_false (p x) (list_any p xs) e) (none_any p xs (right_false (p x) (list_any p xs) e))

any_map : {X Y : Type 0} (p : Y → Bool) (f : X → Y) (xs : List X) → list_any p (map f xs) ≡ list_any (λ x. p (f x)) xs
any_map p f [] = refl
any_map p f (x ∷ xs) = ap (λ (b : Bool). p (f x) || b) (any_map p f xs)

pub few_profiles : (first second : Rows) → fault_of first second ≡ None → length (joined first second).profiles ≤ 4096
few_profiles first second e =
    ltb-false 4096 _ (left_false _ _ (left_false _ _ (not_large first second e)))

pub few_together : (first second : Rows) → fault_of first second ≡ None → length first.profiles + length second.profiles ≤ 4096
few_together first second e =
    let few = few_profiles first second e in
    let long = length-append first.profiles (map (moved (length first.profiles)) second.profiles) in
    let same = length-map second.profiles (moved (length first.profiles)) in
    omega (arith, few, long, same)

pub few_tops : (first second : Rows) → fault_of first second ≡ None → attachment_patterns None (joined first second).profiles ≤ 65535
few_tops first second e =
    ltb-false 65535 _ (right_false (nat_lt 4096 (length (joined first second).profiles)) _ (left_false _ _ (not_large first second e)))

none_far : (first second : Rows) → fault_of first second ≡ None → list_any (λ (r : PassedOver). nat_lt 65535 r.profile) (joined first second).passed_over ≡ false
none_far first second e =
    right_false (nat_lt 4096 (length (joined first second).profiles) || nat_lt 65535 (attachment_patterns None (joined first second).profiles)) _ (not_large first second e)

pub all_near : (first second : Rows) → fault_of first second ≡ None → All (λ r. r.profile ≤ 65535) (joined first second).passed_over
all_near first second e =
    All-weaker (λ (r : PassedOver). nat_lt 65535 r.profile ≡ false) (λ r. r.profile ≤ 65535) (λ r f. ltb-false 65535 r.profile f) (joined first second).passed_over
    (none_any (λ (r : PassedOver). nat_lt 65535 r.profile) (joined first second).passed_over (none_far first second e))

-- rules that may move
pub rules_fit : (first second : Rows) → fault_of first second ≡ None → All (λ r. r.profile + length first.profiles ≤ 65535) second.passed_over
rules_fit first second e =
    let count = length first.profiles in
    let test = λ (r : PassedOver). nat_lt 65535 r.profile in
    let theirs : list_any test (map (moved_rule count) second.passed_over) ≡ false =
    right_false (list_any test first.passed_over) _ (sym (list_any-append test first.passed_over (map (moved_rule count) second.passed_over)) ∙ none_far first second e) in
    All-weaker (λ (r : PassedOver). nat_lt 65535 (r.profile + count) ≡ false) (λ r. r.profile + count ≤ 65535) (λ r f. ltb-false 65535 (r.profile + count) f) second.passed_over
    (none_any (λ (r : PassedOver). nat_lt 65535 (r.profile + count)) second.passed_over (sym (any_map test (moved_rule count) second.passed_over) ∙ theirs))

-- whether a limit is passed, where it is told of the second's rules alone
pub large_is : (first second : Rows) (n : ℕ) → All (λ r. r.profile ≤ 65535) first.passed_over → n ≡ attachment_patterns None (joined first second).profiles
    → is_too_large (joined first second)
    ≡ (nat_lt 4096 (length first.profiles + length second.profiles) || nat_lt 65535 n || list_any (λ r. nat_lt 65535 (r.profile + length first.profiles)) second.passed_over)
large_is first second n near is =
    let count = length first.profiles in
    let test = λ (r : PassedOver). nat_lt 65535 r.profile in
    let long : length (joined first second).profiles ≡ count + length second.profiles =
    length-append first.profiles (map (moved count) second.profiles) ∙ ap (λ (m : ℕ). count + m) (length-map second.profiles (moved count)) in
    let ours : list_any test first.passed_over ≡ false =
    list_any_none test first.passed_over (All-weaker (λ r. r.profile ≤ 65535) (λ (r : PassedOver). nat_lt 65535 r.profile ≡ false) (λ r le. le-ltb 65535 r.profile le) first.passed_over near) in
    let rules : list_any test (joined first second).passed_over ≡ list_any (λ r. nat_lt 65535 (r.profile + count)) second.passed_over =
    list_any-append test first.passed_over (map (moved_rule count) second.passed_over)
    ∙ ap (λ (b : Bool). b || list_any test (map (moved_rule count) second.passed_over)) ours ∙ any_map test (moved_rule count) second.passed_over in
    ap (λ (m : ℕ). nat_lt 4096 m || nat_lt 65535 (attachment_patterns None (joined first second).profiles) || list_any test (joined first second).passed_over) long
    ∙ ap (λ (m : ℕ). nat_lt 4096 (count + length second.profiles) || nat_lt 65535 m || list_any test (joined first second).passed_over) (sym is)
    ∙ ap (λ (b : Bool). nat_lt 4096 (count + length second.profiles) || nat_lt 65535 n || b) rules

-- the same, where there are neither too many profiles nor too many attachment patterns
pub large_by_rules : (first second : Rows) (n before more : ℕ) (rules : List PassedOver) (over far : Bool) → All (λ r. r.profile ≤ 65535) first.passed_over
    → n ≡ attachment_patterns None (joined first second).profiles → before ≡ length first.profiles → more ≡ length second.profiles → rules ≡ second.passed_over
    → over ≡ (nat_lt 4096 (before + more) || nat_lt 65535 n) → over ≡ false → far ≡ list_any (λ r. nat_lt 65535 (r.profile + before)) rules → far ≡ is_too_large (joined first second)
large_by_rules first second n before more rules over far near count is there these over_is none far_is =
    let count_of = λ (m : ℕ). nat_lt 4096 (m + length second.profiles) || nat_lt 65535 n in
    let within : (nat_lt 4096 (length first.profiles + length second.profiles) || nat_lt 65535 n) ≡ false =
    ap count_of (sym is) ∙ ap (λ (m : ℕ). nat_lt 4096 (before + m) || nat_lt 65535 n) (sym there) ∙ sym over_is ∙ none in
    far_is ∙ ap (list_any (λ (r : PassedOver). nat_lt 65535 (r.profile + before))) these
    ∙ ap (λ (m : ℕ). list_any (λ (r : PassedOver). nat_lt 65535 (r.profile + m)) second.passed_over) is
    ∙ sym (large_is first second n near count ∙ ap (λ (b : Bool). b || list_any (λ r. nat_lt 65535 (r.profile + length first.profiles)) second.passed_over) within)

-- ---- parents

get_front : {X : Type 0} (xs ys : List X) (k : ℕ) → k < length xs → slice_get (xs ++ ys) k ≡ slice_get xs k
get_front [] ys k lt = absurd (omega arith)
get_front (x ∷ xs) ys zero lt = refl
get_front (x ∷ xs) ys (suc k) lt = get_front xs ys k (omega arith)

get_behind : {X : Type 0} (xs ys : List X) (k j : ℕ) → k ≡ j + length xs → slice_get (xs ++ ys) k ≡ slice_get ys j
get_behind [] ys k j e = let same : k ≡ j = omega arith in ap (slice_get ys) same
get_behind (x ∷ xs) ys zero j e = absurd (omega arith)
get_behind (x ∷ xs) ys (suc k) j e = get_behind xs ys k j (omega arith)

-- a top-level profile stays one
still_top : (n : ℕ) (o : Option Profile) → option_and_then (λ q. q.parent) o ≡ None → option_and_then (λ q. q.parent) (option_map (moved n) o) ≡ None
still_top n None e = refl
still_top n (Some q) e = ap (option_map (λ i. i + n)) e

pub parents_joined : (xs ys : List Profile) → ParentsComeFirst xs → ParentsComeFirst ys → ParentsComeFirst (xs ++ map (moved (length xs)) ys)
parents_joined xs ys a b k n p at is = ⊎_elim
    (λ (lt : k < length xs).
    let there = a k n p (sym (get_front xs behind k lt) ∙ at) is in
    let less : n < k = there.0 in
    (less, ap (option_and_then (λ (q : Profile). q.parent)) (get_front xs behind n (omega (arith, less, lt))) ∙ there.1))
    (λ (le : length xs ≤ k).
    let j = k - length xs in
    let here : k ≡ j + length xs = omega (arith, le) in
    second j here (slice_get ys j) refl (sym (slice_get-map (moved (length xs)) ys j) ∙ sym (get_behind xs behind k j here) ∙ at))
    (cases_lt k (length xs))
  where
    behind : List Profile
    behind = map (moved (length xs)) ys

    child : (j : ℕ) → k ≡ j + length xs → (q : Profile) → slice_get ys j ≡ Some q → (o : Option ℕ) → q.parent ≡ o → option_map (λ i. i + length xs) o ≡ Some n
        → (n < k) × (option_and_then (λ (x : Profile). x.parent) (slice_get (xs ++ behind) n) ≡ None)
    child j here q e None f g = absurd cc
    child j here q e (Some i) f g =
        let there = b j i q e f in
        let less : i < j = there.0 in
        let number : i + length xs ≡ n = cc in (
          omega (arith, less, number, here),
          ap (option_and_then (λ (x : Profile). x.parent)) (get_behind xs behind n i (sym number) ∙ slice_get-map (moved (length xs)) ys i) ∙ still_top (length xs) (slice_get ys i) there.1,
        )

    second : (j : ℕ) → k ≡ j + length xs → (o : Option Profile) → slice_get ys j ≡ o → option_map (moved (length xs)) o ≡ Some p
        → (n < k) × (option_and_then (λ (x : Profile). x.parent) (slice_get (xs ++ behind) n) ≡ None)
    second j here None e f = absurd cc
    second j here (Some q) e f =
        let same : moved (length xs) q ≡ p = cc in
        child j here q e q.parent refl (ap (λ (x : Profile). x.parent) same ∙ is)

parents_fit : (ys : List Profile) (count : ℕ) → ParentsComeFirst ys → count + length ys ≤ 4096 → All (λ p. IfSome p.parent (λ n. n + count ≤ 65535)) ys
parents_fit ys count first le = λ k d lt. by k (get_or ys k d) lt (slice_get-get_or ys k d lt) (get_or ys k d).parent refl
  where
    by : (k : ℕ) (p : Profile) → k < length ys → slice_get ys k ≡ Some p → (o : Option ℕ) → p.parent ≡ o → IfSome o (λ n. n + count ≤ 65535)
    by k p lt at None e = tt
    by k p lt at (Some n) e = let less : n < k = (first k n p at e).0 in omega (arith, less, lt, le)

-- parents and rules that may move
pub parents_ready : (first second : Rows) (ys : List Profile) (count : ℕ) → ParentsComeFirst second.profiles → fault_of first second ≡ None → ys ≡ second.profiles → count ≡ length first.profiles
    → All (λ p. IfSome p.parent (λ n. n + count ≤ 65535)) ys
parents_ready first second ys count parents e same is =
    let few = few_together first second e in
    subst (λ (l : List Profile). All (λ p. IfSome p.parent (λ n. n + count ≤ 65535)) l) (sym same) (parents_fit second.profiles count parents (omega (arith, few, is)))

pub rules_ready : (first second : Rows) (rs : List PassedOver) (count : ℕ) → fault_of first second ≡ None → rs ≡ second.passed_over → count ≡ length first.profiles
    → All (λ r. r.profile + count ≤ 65535) rs
rules_ready first second rs count e same is =
    subst (λ (l : List PassedOver). All (λ r. r.profile + count ≤ 65535) l) (sym same)
    (subst (λ (n : ℕ). All (λ r. r.profile + n ≤ 65535) second.passed_over) (sym is) (rules_fit first second e))

-- ---- all of it

pub lawful_joined : (first second : Rows) → IsLawful first.profiles → IsLawful second.profiles → fault_of first second ≡ None → IsLawful (joined first second).profiles
lawful_joined first second a b e =
    let xs = first.profiles in
    let ys = second.profiles in
    let n = length xs in
    let names : names_of (xs ++ ys) ≡ names_of (xs ++ map (moved n) ys) =
    map-append (λ (p : Profile). p.name) xs ys ∙ ap (λ (l : List (List ℕ)). names_of xs ++ l) (sym (names_moved n ys)) ∙ sym (map-append (λ (p : Profile). p.name) xs (map (moved n) ys)) in
    record {
      limits = record {
        counts = record {
          few = few_profiles first second e;
          short_names = All-append (λ p. length p.name ≤ 1024) xs (map (moved n) ys) a.limits.counts.short_names (All-map (λ p. length p.name ≤ 1024) (moved n) ys b.limits.counts.short_names);
          few_patterns = All-append (λ p. file_patterns p ≤ 65535) xs (map (moved n) ys) a.limits.counts.few_patterns (All-map (λ p. file_patterns p ≤ 65535) (moved n) ys b.limits.counts.few_patterns);
        };
        few_attachments = few_joined xs ys a.parents a.limits.few_attachments b.limits.few_attachments (few_tops first second e);
      };
      distinct = subst (λ (l : List (List ℕ)). IsDistinct bytes_eq l) names (distinct_joined xs ys a.distinct b.distinct (λ i d lt. unknown_at xs ys i d (unrepeated first second e) lt));
      confined = All-append (λ (p : Profile). bytes_eq p.name (codes "unconfined") ≡ false) xs (map (moved n) ys) a.confined (All-map (λ (p : Profile). bytes_eq p.name (codes "unconfined") ≡ false) (moved n) ys b.confined);
      parents = parents_joined xs ys a.parents b.parents;
      rules = All-append (λ (p : Profile). All IsLawfulRule p.files) xs (map (moved n) ys) a.rules (All-map (λ (p : Profile). All IsLawfulRule p.files) (moved n) ys b.rules);
    }

none_lawful : IsLawful []
none_lawful = record {
  limits = record {
    counts = record { few = omega arith; short_names = All-nil (λ (p : Profile). length p.name ≤ 1024); few_patterns = All-nil (λ p. file_patterns p ≤ 65535) };
    few_attachments = λ o. omega arith;
  };
  distinct = distinct_none;
  confined = All-nil (λ (p : Profile). bytes_eq p.name (codes "unconfined") ≡ false);
  parents = λ k n p at is. absurd cc;
  rules = All-nil (λ (p : Profile). All IsLawfulRule p.files);
}

-- no policy yet
pub nothing_kept : (k : Kept) → k.profiles.items ≡ [] → k.passed_over.items ≡ [] → k.numbers.entries ≡ [] → k.attachments ≡ 0 → IsKept k
nothing_kept k ps rs ns count = record {
  lawful = subst (λ (l : List Profile). IsLawful l) (sym ps) none_lawful;
  numbered = λ name. ap (noted name) ns ∙ sym (ap (number_of name) ps);
  counted = count ∙ sym (ap (attachment_patterns None) ps);
  near = subst (λ (l : List PassedOver). All (λ r. r.profile ≤ 65535) l) (sym rs) (All-nil (λ (r : PassedOver). r.profile ≤ 65535));
}

-- one policy more
pub more_kept : (k new : Kept) (policy : Policy) → IsReady k policy → kept_rows new ≡ joined (kept_rows k) (rows_of policy) → new.numbers.entries ≡ k.numbers.entries
    → new.attachments ≡ attachment_patterns None (joined (kept_rows k) (rows_of policy)).profiles → IsKept new
more_kept k new policy ready rows numbers attachments =
    let whole = joined (kept_rows k) (rows_of policy) in
    let profiles : new.profiles.items ≡ whole.profiles = ap (λ (r : Rows). r.profiles) rows in
    let rules : new.passed_over.items ≡ whole.passed_over = ap (λ (r : Rows). r.passed_over) rows in
    record {
      lawful = subst (λ (l : List Profile). IsLawful l) (sym profiles) (lawful_joined (kept_rows k) (rows_of policy) ready.lawful policy.lawful ready.joinable);
      numbered = λ name. ap (noted name) numbers ∙ ready.numbered name ∙ sym (number_moved name (length k.profiles.items) k.profiles.items policy.profiles) ∙ sym (ap (number_of name) profiles);
      counted = attachments ∙ sym (ap (attachment_patterns None) profiles);
      near = subst (λ (l : List PassedOver). All (λ r. r.profile ≤ 65535) l) (sym rules) (all_near (kept_rows k) (rows_of policy) ready.joinable);
    }

-- what is known of the names where a policy can be joined
pub names_new : (k : Kept) (policy : Policy) (n : ℕ) (profiles : List Profile) → IsKept k → fault_of (kept_rows k) (rows_of policy) ≡ None → n ≡ length k.profiles.items → profiles ≡ policy.profiles
    → AreNew k.numbers.entries n k.profiles.items profiles
names_new k policy n profiles kept e is same = record {
  numbered = kept.numbered;
  counted = sym is;
  unknown = ap (repeated k.profiles.items) same ∙ unrepeated (kept_rows k) (rows_of policy) e;
  distinct = subst (λ (l : List Profile). IsDistinct bytes_eq (names_of l)) (sym same) policy.lawful.distinct;
}
