-- A change that the rules refuse whether its name is found or not.
use Rattle.std.proofs.Common.{◌≡◌, ℕ, List, [], ◌∷◌, map, Bool, true, false, true≢false, cond, Option, refl, ap, ◌∙◌}
use Rattle.std.specs.Prelude.{not, ◌&&◌, ◌||◌, ◌==◌, bit_and, bit_or, is_some}
use Rattle.std.specs.List.{filter, list_any}
use Rattle.aa_model.specs.declared.rule.ChangeRule.{ChangeRule}
use Rattle.aa_model.specs.declared.policy.Profile.{Profile}
use Rattle.aa_model.specs.declared.label.Label.{Label}
use Rattle.aa_model.specs.declared.label.Label.TheVariants.{Confined}
use Rattle.aa_compile.specs.declared.sets.RuleSets.{RuleSets}
use Rattle.aa_compile.specs.Said.{said, both, verdict, granted, minus}
use Rattle.aa_compile.specs.Holding.{change_holds}
use Rattle.aa_mediate.specs.declared.bits.RequestBits.{RequestBits}
use Rattle.aa_mediate.specs.Held.{saying, change_verdict}
use Rattle.aa_mediate.specs.Bits.{change_bits, sorted}
use Rattle.aa_mediate.specs.Decided.{decided, answered, grant_note, refusal_note, without_perms}
use Rattle.aa_mediate.specs.Reply.{change_reply, found_or}
use Rattle.aa_skipping.specs.Undecided.{holds_with, lets_change}

abbrev bit : Bool → ℕ
bit b = cond b 1 0

-- of the one bit, what rules say is whether one that holds denies or allows it
record SaysBit (rules : List ChangeRule) (name : List ℕ) (v : RuleSets) : Type 0 where
  allow : v.allow.0 ≡ bit (list_any (holds_with false name) rules)
  deny : v.deny.0 ≡ bit (list_any (holds_with true name) rules)

one : (a b : Bool) (n : ℕ) → n ≡ bit b → bit_or (bit a) n ≡ bit (a || b)
one true true n e = ap (bit_or 1) e
one true false n e = ap (bit_or 1) e
one false true n e = ap (bit_or 0) e
one false false n e = ap (bit_or 0) e

-- one more rule, if it holds
more : (audit deny holds ds as' : Bool) (rest : RuleSets) → rest.allow.0 ≡ bit as' → rest.deny.0 ≡ bit ds → (v : RuleSets) → v ≡ cond holds (both (said (saying audit deny)) rest) rest
    → (v.allow.0 ≡ bit ((not deny && holds) || as')) × (v.deny.0 ≡ bit ((deny && holds) || ds))
more audit true true ds as' rest e f v is = (ap (λ (w : RuleSets). w.allow.0) is ∙ one false as' rest.allow.0 e, ap (λ (w : RuleSets). w.deny.0) is ∙ one true ds rest.deny.0 f)
more audit false true ds as' rest e f v is = (ap (λ (w : RuleSets). w.allow.0) is ∙ one true as' rest.allow.0 e, ap (λ (w : RuleSets). w.deny.0) is ∙ one false ds rest.deny.0 f)
more audit true false ds as' rest e f v is = (ap (λ (w : RuleSets). w.allow.0) is ∙ e, ap (λ (w : RuleSets). w.deny.0) is ∙ f)
more audit false false ds as' rest e f v is = (ap (λ (w : RuleSets). w.allow.0) is ∙ e, ap (λ (w : RuleSets). w.deny.0) is ∙ f)

says : (name : List ℕ) (rules : List ChangeRule) → SaysBit rules name (change_verdict rules name)
says name [] = record { allow = refl; deny = refl }
says name (r ∷ rules) =
    let s = says name rules in
    let t = more r.audit r.deny (change_holds name r) (list_any (holds_with true name) rules) (list_any (holds_with false name) rules) (change_verdict rules name) s.allow s.deny (change_verdict (r ∷ rules) name)
    (held (change_holds name r)) in
    record { allow = t.0; deny = t.1 }
  where
    held : (b : Bool) → verdict (map (λ (q : ChangeRule). saying q.audit q.deny) (cond b (r ∷ filter (change_holds name) rules) (filter (change_holds name) rules)))
        ≡ cond b (both (said (saying r.audit r.deny)) (change_verdict rules name)) (change_verdict rules name)
    held true = refl
    held false = refl

-- nothing is granted where no rule allows it or one denies it
ungranted : (a d : Bool) (v : RuleSets) → v.allow.0 ≡ bit a → v.deny.0 ≡ bit d → (not d && a) ≡ false → minus 1 (granted v) ≡ 1
ungranted a d v e f lacks = ap (λ (n : ℕ). minus 1 (minus n v.deny.0)) e ∙ ap (λ (n : ℕ). minus 1 (minus (bit a) n)) f ∙ by a d lacks
  where
    by : (a d : Bool) → (not d && a) ≡ false → minus 1 (minus (bit a) (bit d)) ≡ 1
    by true true lacks = refl
    by false true lacks = refl
    by true false lacks = absurd (true≢false lacks)
    by false false lacks = refl

-- then what is asked for is missing, whether the name is found or not
missing_alike : (v : RuleSets) (found : Bool) → minus 1 (granted v) ≡ 1 → change_bits v found ≡ sorted 1 1 v
missing_alike v true e = ap (λ (n : ℕ). sorted 1 n v) e
missing_alike v false e = refl

blocked_by : (complain a d : Bool) (v : RuleSets) → v.deny.0 ≡ bit d → (not d && (complain || a)) ≡ false → (cond complain (bit_and 1 v.deny.0) 1 == 0) ≡ false
blocked_by false a d v f lacks = refl
blocked_by true a true v f lacks = ap (λ (n : ℕ). bit_and 1 n == 0) f
blocked_by true a false v f lacks = absurd (true≢false lacks)

not_allowed : (complain a d : Bool) → (not d && (complain || a)) ≡ false → (not d && a) ≡ false
not_allowed complain a true lacks = refl
not_allowed false a false lacks = lacks
not_allowed true a false lacks = absurd (true≢false lacks)

-- the answer does not depend on what is found
pub refused_alike : (k n : ℕ) (p : Profile) (name : List ℕ) → lets_change p name ≡ false → (found : Option Label)
    → change_reply k n p name found ≡ without_perms (answered false false (Confined k n) (refusal_note p (sorted 1 1 (change_verdict p.changes name))))
refused_alike k n p name lacks found =
    let v = change_verdict p.changes name in
    let s = says name p.changes in
    let a = list_any (holds_with false name) p.changes in
    let d = list_any (holds_with true name) p.changes in
    let same = missing_alike v (is_some found) (ungranted a d v s.allow s.deny (not_allowed p.complain a d lacks)) in
    ap (λ (b : RequestBits). without_perms (decided p (Confined k n) (found_or (Confined k n) found) false b)) same
    ∙ ap (λ (b : Bool). without_perms (cond b (answered true false (found_or (Confined k n) found) (grant_note p (sorted 1 1 v))) (answered false false (Confined k n) (refusal_note p (sorted 1 1 v)))))
    (blocked_by p.complain a d v s.deny lacks)
