-- What the rules that speak of an object decide is what all rules decide.
use Rattle.std.proofs.Common.{◌≡◌, ℕ, ◌+◌, ◌<◌, ◌≤◌, List, [], ◌∷◌, ◌++◌, Bool, true, false, Option, Some, None, refl, ap, sym, ◌∙◌, arith, lit<}
use Rattle.std.specs.Prelude.{option_to_list, if◌then◌else◌}
use Rattle.std.specs.List.{filter_map, cons_option}
use Rattle.aa_base.specs.Permissions.{only_exec, beside_link_and_exec}
use Rattle.aa_base.specs.declared.perms.Perms.{Perms}
use Rattle.aa_compile.specs.FileRules.{is_nil}
use Rattle.aa_compile.specs.Said.{minus}
use Rattle.aa_explain.specs.declared.deciders.Decider.{Decider}
use Rattle.aa_explain.specs.declared.deciders.Listed.{Listed}
use Rattle.aa_explain.specs.declared.deciders.Listed.TheVariants.{Files}
use Rattle.aa_explain.specs.declared.told.Saying.{Saying}
use Rattle.aa_explain.specs.declared.told.Told.{Told}
use Rattle.aa_explain.specs.Deciders.{part_of, decider_if, naming_from, first_allowing_from, unnamed, Reasons, reasons_by, exec_reasons, granted_beside}
use Rattle.aa_explain.specs.Told.{speaking_from, sayings_of, named_by, first_told, reasons_told, exec_reasons_told}
use Rattle.aa_explain.proofs.Bits.{minus_le, minus_nothing}

abbrev saying : Bool → Bool → Perms → Saying
saying holds deny perms = record { holds = holds; deny = deny; perms = perms }

cons_or : {X : Type 0} (o : Option X) (xs : List X) → cons_option o xs ≡ option_to_list o ++ xs
cons_or None xs = refl
cons_or (Some x) xs = refl

naming_step : (verdict : Bool) (asked n : ℕ) (holds deny : Bool) (perms : Perms) (ss : List Saying) → filter_map (named_by verdict asked) (speaking_from (n + 1) ss) ≡ naming_from verdict asked (n + 1) ss
    → filter_map (named_by verdict asked) (speaking_from n (saying holds deny perms ∷ ss)) ≡ naming_from verdict asked n (saying holds deny perms ∷ ss)
unfolding naming_from
naming_step verdict asked n true deny perms ss rest =
    let d : Option Decider = decider_if n (part_of verdict (saying true deny perms) asked) in
    ap (cons_option d) rest ∙ cons_or d (naming_from verdict asked (n + 1) ss)
naming_step verdict asked n false deny perms ss rest = rest

naming_is : (verdict : Bool) (asked n : ℕ) (ss : List Saying) → filter_map (named_by verdict asked) (speaking_from n ss) ≡ naming_from verdict asked n ss
unfolding naming_from
naming_is verdict asked n [] = refl
naming_is verdict asked n (s ∷ ss) = naming_step verdict asked n s.holds s.deny s.perms ss (naming_is verdict asked (n + 1) ss)

unnamed_step : (verdict : Bool) (asked n : ℕ) (holds deny : Bool) (perms : Perms) (ss : List Saying) → asked < 256
    → ((left : ℕ) → left < 256 → unnamed verdict left (sayings_of (speaking_from (n + 1) ss)) ≡ unnamed verdict left ss)
    → unnamed verdict asked (sayings_of (speaking_from n (saying holds deny perms ∷ ss))) ≡ unnamed verdict asked (saying holds deny perms ∷ ss)
unfolding unnamed
unnamed_step verdict asked n true deny perms ss small rest =
    let part : ℕ = part_of verdict (saying true deny perms) asked in
    rest (minus asked part) (omega (arith, minus_le asked part))
unnamed_step verdict asked n false deny perms ss small rest = rest asked small ∙ ap (λ left. unnamed verdict left ss) (sym (minus_nothing asked small))

unnamed_is : (verdict : Bool) (asked n : ℕ) (ss : List Saying) → asked < 256 → unnamed verdict asked (sayings_of (speaking_from n ss)) ≡ unnamed verdict asked ss
unfolding unnamed
unnamed_is verdict asked n [] small = refl
unnamed_is verdict asked n (s ∷ ss) small = unnamed_step verdict asked n s.holds s.deny s.perms ss small (λ left less. unnamed_is verdict left (n + 1) ss less)

unnamed_le : (verdict : Bool) (asked : ℕ) (ss : List Saying) → unnamed verdict asked ss ≤ asked
unfolding unnamed
unnamed_le verdict asked [] = omega arith
unnamed_le verdict asked (s ∷ ss) =
    let part : ℕ = part_of verdict s asked in
    omega (arith, unnamed_le verdict (minus asked part) ss, minus_le asked part)

first_step : (asked n : ℕ) (holds deny : Bool) (perms : Perms) (ss : List Saying) → asked < 256
    → ((left : ℕ) → left < 256 → first_told left (speaking_from (n + 1) ss) ≡ first_allowing_from left (n + 1) ss)
    → first_told asked (speaking_from n (saying holds deny perms ∷ ss)) ≡ first_allowing_from asked n (saying holds deny perms ∷ ss)
unfolding first_told first_allowing_from
first_step asked n true deny perms ss small rest =
    let part : ℕ = part_of false (saying true deny perms) asked in
    ap (λ l. option_to_list (decider_if n part) ++ l) (rest (minus asked part) (omega (arith, minus_le asked part)))
first_step asked n false deny perms ss small rest = rest asked small ∙ ap (λ left. first_allowing_from left (n + 1) ss) (sym (minus_nothing asked small))

first_is : (asked n : ℕ) (ss : List Saying) → asked < 256 → first_told asked (speaking_from n ss) ≡ first_allowing_from asked n ss
unfolding first_told first_allowing_from
first_is asked n [] small = refl
first_is asked n (s ∷ ss) small = first_step asked n s.holds s.deny s.perms ss small (λ left less. first_is left (n + 1) ss less)

same_reasons : (listed : Listed) (d e a b : List Decider) (m k : ℕ) → d ≡ e → a ≡ b → m ≡ k
    → let one : Reasons = record { listed = listed; denies = d; allows = a; lacking = m } in
    let other : Reasons = record { listed = listed; denies = e; allows = b; lacking = k } in
    one ≡ other
same_reasons listed d e a b m k denies allows lacking = cc

-- of what is asked by one permission or more
pub told_is : (listed : Listed) (ss : List Saying) (asked : ℕ) → asked < 256 → reasons_told listed (speaking_from 0 ss) asked ≡ reasons_by listed ss asked
told_is listed ss asked small =
    let ts : List Told = speaking_from 0 ss in
    let left : unnamed true asked (sayings_of ts) ≡ unnamed true asked ss = unnamed_is true asked 0 ss small in
    let less : unnamed true asked ss < 256 = omega (arith, unnamed_le true asked ss) in
    same_reasons listed _ _ _ _ _ _
    (naming_is true asked 0 ss)
    (ap (λ a. first_told a ts) left ∙ first_is (unnamed true asked ss) 0 ss less)
    (ap (λ a. unnamed false a (sayings_of ts)) left ∙ unnamed_is false (unnamed true asked ss) 0 ss less)

-- of an execution
pub exec_is : (ss : List Saying) → exec_reasons_told (speaking_from 0 ss) ≡ exec_reasons ss
unfolding exec_reasons_told exec_reasons
exec_is ss =
    let ts : List Told = speaking_from 0 ss in
    let denies : filter_map (named_by true only_exec) ts ≡ naming_from true only_exec 0 ss = naming_is true only_exec 0 ss in
    same_reasons Files _ _ _ _ _ _ denies
    (ap (λ (d : List Decider). if is_nil d then filter_map (named_by false only_exec) ts else []) denies
    ∙ ap (λ (a : List Decider). if is_nil (naming_from true only_exec 0 ss) then a else []) (naming_is false only_exec 0 ss))
    (ap (λ (d : List Decider). if is_nil d then unnamed false only_exec (sayings_of ts) else 0) denies
    ∙ ap (λ (k : ℕ). if is_nil (naming_from true only_exec 0 ss) then k else 0) (unnamed_is false only_exec 0 ss (lit< tt)))

-- of what a link's target has to grant
pub granted_is : (ss : List Saying) → granted_beside (sayings_of (speaking_from 0 ss)) ≡ granted_beside ss
granted_is ss =
    let told : List Saying = sayings_of (speaking_from 0 ss) in
    let asked = beside_link_and_exec in
    let left : unnamed true asked told ≡ unnamed true asked ss = unnamed_is true asked 0 ss (lit< tt) in
    let less : unnamed true asked ss < 256 = omega (arith, unnamed_le true asked ss) in
    ap (λ (u : ℕ). minus u (unnamed false u told)) left
    ∙ ap (minus (unnamed true asked ss)) (unnamed_is false (unnamed true asked ss) 0 ss less)
