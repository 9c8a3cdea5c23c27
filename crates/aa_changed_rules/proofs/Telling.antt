-- Rules have one form exactly where they say the same.
use Rattle.std.proofs.Common.{◌≡◌, ℕ, List, [], ◌∷◌, ◌++◌, map, length, Bool, true, false, Option, Some, None}
use Rattle.std.proofs.Common.{refl, sym, ap, ◌∙◌, subst, arith, append_assoc, Contains}
use Rattle.std.specs.Prelude.{flat_map}
use Rattle.std.specs.List.{list_any}
use Rattle.std.specs.Str.{bytes_eq}
use Rattle.std.proofs.lemmas.Cmp.{nat_list_eq_equiv}
use Rattle.std.proofs.lemmas.Slice.Eq.{bytes_eq-Decides}
use Rattle.std.proofs.lemmas.Map.Views.{Contains-from_any, list_any-from_Contains}
use Rattle.aa_pattern.specs.declared.pattern.Pattern.{Pattern}
use Rattle.aa_model.specs.declared.rule.Exec.{Exec}
use Rattle.aa_model.specs.declared.rule.ExecKind.{ExecKind}
use Rattle.aa_model.specs.declared.rule.ExecKind.TheVariants as kind
use Rattle.aa_model.specs.declared.rule.Fallback.{Fallback}
use Rattle.aa_model.specs.declared.rule.Fallback.TheVariants as fallback
use Rattle.aa_model.specs.declared.rule.FileRule.{FileRule}
use Rattle.aa_model.specs.declared.rule.CapRule.{CapRule}
use Rattle.aa_model.specs.declared.rule.NetRule.{NetRule}
use Rattle.aa_model.specs.declared.rule.ChangeRule.{ChangeRule}
use Rattle.aa_changed_rules.specs.Codes.{pattern_code}
use Rattle.aa_changed_rules.specs.Forms.{flag, kind_number, fallback_number, name_form, way_form, exec_form, ascending, counted, patterns_form}
use Rattle.aa_changed_rules.specs.Forms.{file_form, cap_form, net_form, any_form, change_form}
use Rattle.aa_changed_rules.specs.Sameness.{SamePattern, HasPattern, SamePatterns, SameFileRule, SameCapRule, SameNetRule, SameAny, SameChangeRule}
use Rattle.aa_changed_rules.proofs.Elements.{in_map, map_in, first_of, rest_of, split_at_length}
use Rattle.aa_changed_rules.proofs.Decoding.{same_bool, items_told, items_same}
use Rattle.aa_changed_rules.proofs.Sets.{ascending_same, ascending_told}

pub any_of : (q : List ℕ) (xs : List (List ℕ)) → Contains xs q → list_any (bytes_eq q) xs ≡ true
any_of q xs c = list_any-from_Contains nat_list_eq_equiv q xs c

pub of_any : (q : List ℕ) (xs : List (List ℕ)) → list_any (bytes_eq q) xs ≡ true → Contains xs q
of_any q xs e = Contains-from_any (λ x y. (bytes_eq-Decides x y).0) q xs e

-- ---- patterns

pattern_told : (p q : Pattern) → pattern_code p ≡ pattern_code q → SamePattern p q
pattern_told p q e = items_told p.items.items q.items.items e

pattern_same : (p q : Pattern) → SamePattern p q → pattern_code p ≡ pattern_code q
pattern_same p q h = items_same p.items.items q.items.items h

counted_told : (cs ds : List (List ℕ)) (s t : List ℕ) → length cs ≡ length ds
    → flat_map counted cs ++ s ≡ flat_map counted ds ++ t → (cs ≡ ds) × (s ≡ t)
counted_told [] [] s t h e = (refl, e)
counted_told [] (d ∷ ds) s t h e = absurd (omega (arith, h))
counted_told (c ∷ cs) [] s t h e = absurd (omega (arith, h))
counted_told (c ∷ cs) (d ∷ ds) s t h e =
    let f = sym (append_assoc c (flat_map counted cs) s) ∙ ap rest_of e ∙ append_assoc d (flat_map counted ds) t in
    let one = split_at_length c d (flat_map counted cs ++ s) (flat_map counted ds ++ t) (ap first_of e) f in
    let others = counted_told cs ds s t (omega (arith, h)) one.1 in
    (ap (λ (x : List ℕ). x ∷ cs) one.0 ∙ ap (λ (xs : List (List ℕ)). d ∷ xs) others.0, others.1)

all_there : (ps qs : List Pattern) → ((q : List ℕ) → list_any (bytes_eq q) (map pattern_code ps) ≡ list_any (bytes_eq q) (map pattern_code qs))
    → (p : Pattern) → Contains ps p → HasPattern qs p
all_there ps qs same p c =
    let is = sym (same (pattern_code p)) ∙ any_of (pattern_code p) (map pattern_code ps) (in_map pattern_code ps p c) in
    let r = map_in pattern_code qs (pattern_code p) (of_any (pattern_code p) (map pattern_code qs) is) in
    (r.0, r.1, pattern_told p r.0 (sym r.2))

patterns_told : (ps qs : List Pattern) (s t : List ℕ) → patterns_form ps ++ s ≡ patterns_form qs ++ t → SamePatterns ps qs × (s ≡ t)
patterns_told ps qs s t e =
    let cs = map pattern_code ps in
    let ds = map pattern_code qs in
    let r = counted_told (ascending cs) (ascending ds) s t (ap first_of e) (ap rest_of e) in
    let same = ascending_told cs ds r.0 in
    (record { there = all_there ps qs same; back = all_there qs ps (λ q. sym (same q)) }, r.1)

has_there : (ps qs : List Pattern) → ((p : Pattern) → Contains ps p → HasPattern qs p) → (q : List ℕ)
    → list_any (bytes_eq q) (map pattern_code ps) ≡ true → list_any (bytes_eq q) (map pattern_code qs) ≡ true
has_there ps qs there q is =
    let r = map_in pattern_code ps q (of_any q (map pattern_code ps) is) in
    let h = there r.0 r.1 in
    let code : pattern_code h.0 ≡ q = sym (pattern_same r.0 h.0 h.2) ∙ r.2 in
    any_of q (map pattern_code qs) (subst (Contains (map pattern_code qs)) code (in_map pattern_code qs h.0 h.1))

patterns_same : (ps qs : List Pattern) → SamePatterns ps qs → patterns_form ps ≡ patterns_form qs
patterns_same ps qs h =
    let cs = map pattern_code ps in
    let ds = map pattern_code qs in
    ap (λ (xs : List (List ℕ)). length xs ∷ flat_map counted xs)
    (ascending_same cs ds (λ q. same_bool (list_any (bytes_eq q) cs) (list_any (bytes_eq q) ds) (has_there ps qs h.there q) (has_there qs ps h.back q)))

-- ---- ways to execute

flag_told : (a b : Bool) → flag a ≡ flag b → a ≡ b
flag_told true true e = refl
flag_told false false e = refl
flag_told true false e = absurd (omega (arith, e))
flag_told false true e = absurd (omega (arith, e))

kind_told : (a b : ExecKind) → kind_number a ≡ kind_number b → a ≡ b
kind_told kind.Inherit kind.Inherit e = refl
kind_told kind.Unconfined kind.Unconfined e = refl
kind_told kind.Profile kind.Profile e = refl
kind_told kind.Child kind.Child e = refl
kind_told _ _ e = absurd (omega (arith, e))

fallback_told : (a b : Fallback) → fallback_number a ≡ fallback_number b → a ≡ b
fallback_told fallback.Refuse fallback.Refuse e = refl
fallback_told fallback.Inherit fallback.Inherit e = refl
fallback_told fallback.Unconfined fallback.Unconfined e = refl
fallback_told _ _ e = absurd (omega (arith, e))

name_told : (a b : Option (List ℕ)) → name_form a ≡ name_form b → a ≡ b
name_told None None e = refl
name_told (Some a) (Some b) e = ap (λ (x : List ℕ). Some x) (ap rest_of e)
name_told None (Some b) e = absurd (omega (arith, ap length e))
name_told (Some a) None e = absurd (omega (arith, ap length e))

way_told : (a b : Exec) → way_form a ≡ way_form b → a ≡ b
way_told a b e =
    let rest = ap rest_of e in
    let last = ap rest_of rest in
    ap (λ (k : ExecKind). let x : Exec = record { kind = k; scrub = a.scrub; fallback = a.fallback; target = a.target } in x)
    (kind_told a.kind b.kind (ap first_of e))
    ∙ ap (λ (f : Fallback). let x : Exec = record { kind = b.kind; scrub = a.scrub; fallback = f; target = a.target } in x)
    (fallback_told a.fallback b.fallback (ap first_of rest))
    ∙ ap (λ (s : Bool). let x : Exec = record { kind = b.kind; scrub = s; fallback = b.fallback; target = a.target } in x)
    (flag_told a.scrub b.scrub (ap first_of last))
    ∙ ap (λ (t : Option (List ℕ)). let x : Exec = record { kind = b.kind; scrub = b.scrub; fallback = b.fallback; target = t } in x)
    (name_told a.target b.target (ap rest_of last))

exec_told : (a b : Option Exec) → exec_form a ≡ exec_form b → a ≡ b
exec_told None None e = refl
exec_told (Some a) (Some b) e = ap (λ (x : Exec). Some x) (way_told a b e)
exec_told None (Some b) e = absurd (omega (arith, ap length e))
exec_told (Some a) None e = absurd (omega (arith, ap length e))

-- ---- rules

pub file_told : (r s : FileRule) → file_form r ≡ file_form s → SameFileRule r s
file_told r s e =
    let one = ap rest_of e in
    let two = ap rest_of one in
    let three = ap rest_of two in
    let said = patterns_told r.patterns s.patterns (exec_form r.exec) (exec_form s.exec) (ap rest_of three) in record {
      audit = flag_told r.audit s.audit (ap first_of e);
      deny = flag_told r.deny s.deny (ap first_of one);
      owner = flag_told r.owner s.owner (ap first_of two);
      perms = ap first_of three;
      exec = exec_told r.exec s.exec said.1;
      patterns = said.0;
    }

pub file_same : (r s : FileRule) → SameFileRule r s → file_form r ≡ file_form s
file_same r s h =
    ap (λ (b : Bool). flag b ∷ flag r.deny ∷ flag r.owner ∷ r.perms.0 ∷ (patterns_form r.patterns ++ exec_form r.exec)) h.audit
    ∙ ap (λ (b : Bool). flag s.audit ∷ flag b ∷ flag r.owner ∷ r.perms.0 ∷ (patterns_form r.patterns ++ exec_form r.exec)) h.deny
    ∙ ap (λ (b : Bool). flag s.audit ∷ flag s.deny ∷ flag b ∷ r.perms.0 ∷ (patterns_form r.patterns ++ exec_form r.exec)) h.owner
    ∙ ap (λ (n : ℕ). flag s.audit ∷ flag s.deny ∷ flag s.owner ∷ n ∷ (patterns_form r.patterns ++ exec_form r.exec)) h.perms
    ∙ ap (λ (ns : List ℕ). flag s.audit ∷ flag s.deny ∷ flag s.owner ∷ s.perms.0 ∷ (ns ++ exec_form r.exec))
    (patterns_same r.patterns s.patterns h.patterns)
    ∙ ap (λ (o : Option Exec). flag s.audit ∷ flag s.deny ∷ flag s.owner ∷ s.perms.0 ∷ (patterns_form s.patterns ++ exec_form o)) h.exec

pub cap_told : (r s : CapRule) → cap_form r ≡ cap_form s → SameCapRule r s
cap_told r s e =
    let one = ap rest_of e in record {
      audit = flag_told r.audit s.audit (ap first_of e);
      deny = flag_told r.deny s.deny (ap first_of one);
      caps = ap first_of (ap rest_of one);
    }

pub cap_same : (r s : CapRule) → SameCapRule r s → cap_form r ≡ cap_form s
cap_same r s h =
    ap (λ (b : Bool). flag b ∷ flag r.deny ∷ r.caps.0 ∷ []) h.audit
    ∙ ap (λ (b : Bool). flag s.audit ∷ flag b ∷ r.caps.0 ∷ []) h.deny
    ∙ ap (λ (n : ℕ). flag s.audit ∷ flag s.deny ∷ n ∷ []) h.caps

pub net_told : (r s : NetRule) → net_form r ≡ net_form s → SameNetRule r s
net_told r s e =
    let one = ap rest_of e in
    let two = ap rest_of one in record {
      audit = flag_told r.audit s.audit (ap first_of e);
      deny = flag_told r.deny s.deny (ap first_of one);
      families = ap first_of two;
      kinds = ap first_of (ap rest_of two);
    }

pub net_same : (r s : NetRule) → SameNetRule r s → net_form r ≡ net_form s
net_same r s h =
    ap (λ (b : Bool). flag b ∷ flag r.deny ∷ r.families ∷ r.kinds ∷ []) h.audit
    ∙ ap (λ (b : Bool). flag s.audit ∷ flag b ∷ r.families ∷ r.kinds ∷ []) h.deny
    ∙ ap (λ (n : ℕ). flag s.audit ∷ flag s.deny ∷ n ∷ r.kinds ∷ []) h.families
    ∙ ap (λ (n : ℕ). flag s.audit ∷ flag s.deny ∷ s.families ∷ n ∷ []) h.kinds

any_told : (p q : Option Pattern) → any_form p ≡ any_form q → SameAny p q
any_told None None e = tt
any_told (Some p) (Some q) e = pattern_told p q (ap rest_of e)
any_told None (Some q) e = absurd (omega (arith, ap length e))
any_told (Some p) None e = absurd (omega (arith, ap length e))

any_same : (p q : Option Pattern) → SameAny p q → any_form p ≡ any_form q
any_same None None h = refl
any_same (Some p) (Some q) h = ap counted (pattern_same p q h)
any_same None (Some q) h = absurd h
any_same (Some p) None h = absurd h

pub change_told : (r s : ChangeRule) → change_form r ≡ change_form s → SameChangeRule r s
change_told r s e =
    let one = ap rest_of e in record {
      audit = flag_told r.audit s.audit (ap first_of e);
      deny = flag_told r.deny s.deny (ap first_of one);
      pattern = any_told r.pattern s.pattern (ap rest_of one);
    }

pub change_same : (r s : ChangeRule) → SameChangeRule r s → change_form r ≡ change_form s
change_same r s h =
    ap (λ (b : Bool). flag b ∷ flag r.deny ∷ any_form r.pattern) h.audit
    ∙ ap (λ (b : Bool). flag s.audit ∷ flag b ∷ any_form r.pattern) h.deny
    ∙ ap (λ (ns : List ℕ). flag s.audit ∷ flag s.deny ∷ ns) (any_same r.pattern s.pattern h.pattern)
