-- Finding deciders rule by rule.
use Rattle.std.proofs.Common.{◌≡◌, ℕ, ◌+◌, ◌<◌, ◌≤◌, List, ◌++◌, Bool, false, length, drop, get_or, Option, ap, sym, ◌∙◌, append_assoc}
use Rattle.std.specs.Prelude.{option_to_list}
use Rattle.std.proofs.lemmas.List.{at_drop_more, at_drop_all, append-nil}
use Rattle.aa_compile.specs.Said.{minus}
use Rattle.aa_explain.specs.Deciders.{part_of, unnamed}
use Rattle.aa_explain.specs.Told.{sayings_of, named_by, first_told}
use Rattle.aa_explain.specs.declared.deciders.Decider.{Decider}
use Rattle.aa_explain.specs.declared.told.Told.{Told}

-- what a list has from n on, where what was found before n is in front of it
abbrev joined : List Decider → Option Decider → List Decider → List Decider
joined old d rest = old ++ (option_to_list d ++ rest)

pushed_on : (old new rest total : List Decider) (d : Option Decider) → new ≡ old ++ option_to_list d → joined old d rest ≡ total → new ++ rest ≡ total
pushed_on old new rest total d pushed e = ap (λ (t : List Decider). t ++ rest) pushed ∙ (append_assoc old (option_to_list d) rest ∙ e)

first_step : (left n : ℕ) (ts : List Told) (x : Told) → n < length ts
    → first_told left (drop n ts) ≡ option_to_list (named_by false left (get_or ts n x)) ++ first_told (minus left (part_of false (get_or ts n x).saying left)) (drop (n + 1) ts)
unfolding first_told
first_step left n ts x h = at_drop_more (first_told left) ts n x h

pub first_go : (left after n : ℕ) (ts : List Told) (x : Told) (old new total : List Decider) (d : Option Decider) (a : ℕ) → n < length ts → x ≡ get_or ts n x
    → a ≡ part_of false x.saying left → d ≡ named_by false left x → new ≡ old ++ option_to_list d → after ≡ minus left a
    → old ++ first_told left (drop n ts) ≡ total → new ++ first_told after (drop (n + 1) ts) ≡ total
first_go left after n ts x old new total d a h is e p pushed m so_far =
    let took : a ≡ part_of false (get_or ts n x).saying left = e ∙ ap (λ (y : Told). part_of false y.saying left) is in
    let rest = λ (b : ℕ). first_told b (drop (n + 1) ts) in
    pushed_on old new (rest after) total d pushed
    (ap (λ (t : List Decider). old ++ t)
    (ap (λ (v : Option Decider). option_to_list v ++ rest after) (p ∙ ap (named_by false left) is)
    ∙ (ap (λ (b : ℕ). option_to_list (named_by false left (get_or ts n x)) ++ rest b) (m ∙ ap (minus left) took)
    ∙ sym (first_step left n ts x h)))
    ∙ so_far)

pub first_end : (left n : ℕ) (ts : List Told) (old total : List Decider) → length ts ≤ n → old ++ first_told left (drop n ts) ≡ total → old ≡ total
unfolding first_told
first_end left n ts old total h so_far = sym (append-nil old) ∙ (ap (λ (t : List Decider). old ++ t) (sym (at_drop_all (first_told left) ts n h)) ∙ so_far)

unnamed_step : (deny : Bool) (left n : ℕ) (ts : List Told) (x : Told) → n < length ts
    → unnamed deny left (sayings_of (drop n ts)) ≡ unnamed deny (minus left (part_of deny (get_or ts n x).saying left)) (sayings_of (drop (n + 1) ts))
unfolding unnamed
unnamed_step deny left n ts x h = at_drop_more (λ (l : List Told). unnamed deny left (sayings_of l)) ts n x h

pub unnamed_go : (deny : Bool) (left after n : ℕ) (ts : List Told) (x : Told) (a total : ℕ) → n < length ts → x ≡ get_or ts n x → a ≡ part_of deny x.saying left → after ≡ minus left a
    → unnamed deny left (sayings_of (drop n ts)) ≡ total → unnamed deny after (sayings_of (drop (n + 1) ts)) ≡ total
unnamed_go deny left after n ts x a total h is e m so_far =
    ap (λ (b : ℕ). unnamed deny b (sayings_of (drop (n + 1) ts))) (m ∙ ap (minus left) (e ∙ ap (λ (y : Told). part_of deny y.saying left) is)) ∙ (sym (unnamed_step deny left n ts x h) ∙ so_far)

pub unnamed_end : (deny : Bool) (left n : ℕ) (ts : List Told) (total : ℕ) → length ts ≤ n → unnamed deny left (sayings_of (drop n ts)) ≡ total → left ≡ total
unfolding unnamed
unnamed_end deny left n ts total h so_far = sym (at_drop_all (λ (l : List Told). unnamed deny left (sayings_of l)) ts n h) ∙ so_far
