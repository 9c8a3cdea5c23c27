-- The limits with one profile more, and what is kept of profiles.
use Rattle.std.proofs.Common.{◌≡◌, ℕ, ◌+◌, ◌-◌, ◌≤◌, arith, List, [], ◌∷◌, ◌++◌, length, Bool, true, false, Option, Some, None, refl, sym, ap, subst, ◌∙◌, ◌⊎◌, inl, inr, append_assoc}
use Rattle.std.specs.Prelude.{◌↔◌, IsTrue, if◌then◌else◌}
use Rattle.std.specs.List.{All, AllByRecursion, AllZip, IsDistinct, list_any, sum_by}
use Rattle.std.specs.Option.{option_eq}
use Rattle.std.specs.Bool.{nat_eq}
use Rattle.std.specs.Str.{bytes_eq}
use Rattle.std.proofs.lemmas.Bool.{eq-eqb}
use Rattle.std.proofs.lemmas.List.{length-append, append-nil}
use Rattle.std.proofs.lemmas.List.Elements.{All-append, All-cons, All-nil, All-from_recursion, recursion_from_All}
use Rattle.std.proofs.lemmas.List.Sums.{sum_by-append, sum_by-cons}
use Rattle.aa_base.specs.declared.fault.Spot.{Spot}
use Rattle.aa_base.specs.declared.fault.PolicyFault.{PolicyFault}
use Rattle.aa_base.specs.declared.fault.PolicyKind.TheVariants.{DuplicateProfile}
use Rattle.aa_base.specs.Kinds.{no_memory}
use Rattle.aa_model.specs.declared.rule.FileRule.{FileRule}
use Rattle.aa_model.specs.declared.policy.Profile.{Profile}
use Rattle.aa_model.specs.Lawful.{IsWithinLimits, names_of, file_patterns, attachments_with, attachment_patterns}
use Rattle.aa_policy.specs.declared.limits.KeptRules.{KeptRules}
use Rattle.aa_policy.specs.declared.limits.ReadProfile.{ReadProfile}
use Rattle.aa_policy.specs.declared.limits.KeptProfiles.{KeptProfiles}
use Rattle.aa_policy.specs.Keeping.{FitsBeside, HasRoom, HasNoPatterns, IsNamedAs, KeepsRules, KeepsProfile, KeepsProfiles}
use Rattle.aa_policy.specs.Spelling.{IsRepeated}
use Rattle.aa_policy.proofs.Attachments.{same_parent}
use Rattle.aa_policy.proofs.Meaning.{zip_append, zip_same}
use Rattle.aa_policy.proofs.Refusals.{true_false}

-- ---- lists with one element more

cut_last : {X : Type 0} (P : X → Type 0) (xs : List X) (x : X) → AllByRecursion P (xs ++ x ∷ []) → AllByRecursion P xs × P x
cut_last P [] x a = (tt, a.0)
cut_last P (y ∷ ys) x a = let r = cut_last P ys x a.1 in ((a.0, r.0), r.1)

all_first : {X : Type 0} (P : X → Type 0) (xs : List X) (x : X) → All P (xs ++ x ∷ []) → All P xs
all_first P xs x a = All-from_recursion P xs (cut_last P xs x (recursion_from_All P (xs ++ x ∷ []) a)).0

all_last : {X : Type 0} (P : X → Type 0) (xs : List X) (x : X) → All P (xs ++ x ∷ []) → P x
all_last P xs x a = (cut_last P xs x (recursion_from_All P (xs ++ x ∷ []) a)).1

all_more : {X : Type 0} (P : X → Type 0) (xs : List X) (x : X) → All P xs → P x → All P (xs ++ x ∷ [])
all_more P xs x a h = All-append P xs (x ∷ []) a (All-cons P x [] h (All-nil P))

sum_more : {X : Type 0} (f : X → ℕ) (xs : List X) (x : X) → sum_by f (xs ++ x ∷ []) ≡ sum_by f xs + f x
sum_more f xs x =
    let all = sum_by-append f xs (x ∷ []) in
    let one = sum_by-cons f x [] in
    let none : sum_by f [] ≡ 0 = refl in
    omega (arith, all, one, none)

-- ---- attachment patterns

same_self : (o : Option ℕ) → option_eq nat_eq o o ≡ true
same_self None = refl
same_self (Some n) = eq-eqb n n refl

own_attachments : (ps : List Profile) (p : Profile) → attachment_patterns p.parent (ps ++ p ∷ []) ≡ attachment_patterns p.parent ps + length p.attachments
own_attachments ps p =
    sum_more (attachments_with p.parent) ps p
    ∙ ap (λ (b : Bool). attachment_patterns p.parent ps + (if b then length p.attachments else 0)) (same_self p.parent)

less_room : (b : Bool) (more room there : ℕ) → (b ≡ true → there + more ≤ 65535) → there + room ≤ 65535 → there + (if b then more else 0) + (room - more) ≤ 65535
less_room true more room there few h = let f = few refl in omega (arith, f, h)
less_room false more room there few h = omega (arith, h)

-- the room that a profile leaves
room_left : (ps : List Profile) (p : Profile) (room : ℕ) → HasRoom ps room → attachment_patterns p.parent ps + length p.attachments ≤ 65535 → HasRoom (ps ++ p ∷ []) (room - length p.attachments)
room_left ps p room h few = λ parent.
    subst (λ (n : ℕ). n + (room - length p.attachments) ≤ 65535) (sym (sum_more (attachments_with parent) ps p))
    (less_room (option_eq nat_eq p.parent parent) (length p.attachments) room (attachment_patterns parent ps)
    (λ e. subst (λ (o : Option ℕ). attachment_patterns o ps + length p.attachments ≤ 65535) (same_parent p.parent parent e) few) (h parent))

-- ---- the limits

abbrev pub HasShortName : Profile → Type 0
HasShortName p = length p.name ≤ 1024

abbrev pub HasFewPatterns : Profile → Type 0
HasFewPatterns p = file_patterns p ≤ 65535

within_before : (ps : List Profile) (p : Profile) → IsWithinLimits (ps ++ p ∷ []) → IsWithinLimits ps
within_before ps p l = record {
  counts = record {
    few = let h = l.counts.few in let e = length-append ps (p ∷ []) in omega (arith, h, e);
    short_names = all_first HasShortName ps p l.counts.short_names;
    few_patterns = all_first HasFewPatterns ps p l.counts.few_patterns;
  };
  few_attachments = λ parent. let h = l.few_attachments parent in let e = sum_more (attachments_with parent) ps p in omega (arith, h, e);
}

fits_within : (ps : List Profile) (p : Profile) → IsWithinLimits (ps ++ p ∷ []) → FitsBeside ps p
fits_within ps p l = record {
  few = let h = l.counts.few in let e = length-append ps (p ∷ []) in let one : length (p ∷ []) ≡ 1 = refl in omega (arith, h, e, one);
  short_name = all_last HasShortName ps p l.counts.short_names;
  few_attachments = subst (λ (n : ℕ). n ≤ 65535) (own_attachments ps p) (l.few_attachments p.parent);
}

few_within : (ps : List Profile) (p : Profile) → IsWithinLimits (ps ++ p ∷ []) → file_patterns p ≤ 65535
few_within ps p l = all_last HasFewPatterns ps p l.counts.few_patterns

within_more : (ps : List Profile) (p : Profile) (room : ℕ) → IsWithinLimits ps → FitsBeside ps p → file_patterns p ≤ 65535 → HasRoom (ps ++ p ∷ []) room → IsWithinLimits (ps ++ p ∷ [])
within_more ps p room l f few h = record {
  counts = record {
    few = let g = f.few in let e = length-append ps (p ∷ []) in let one : length (p ∷ []) ≡ 1 = refl in omega (arith, g, e, one);
    short_names = all_more HasShortName ps p l.counts.short_names f.short_name;
    few_patterns = all_more HasFewPatterns ps p l.counts.few_patterns few;
  };
  few_attachments = λ parent. let r = h parent in omega (arith, r);
}

-- ---- one profile more

pub same_named : (p q r : Profile) → IsNamedAs p q → IsNamedAs q r → IsNamedAs p r
same_named p q r a b = record { at = b.at ∙ a.at; name = b.name ∙ a.name }

-- its name alone is kept, and a limit is passed
pub name_kept : (spelled : List Profile) (p : Profile) (kept new : KeptProfiles) (q : Profile) → KeepsProfiles spelled kept
    → new.profiles.items ≡ kept.profiles.items ++ q ∷ [] → new.over ≡ true → IsNamedAs p q → HasNoPatterns q → (IsWithinLimits (spelled ++ p ∷ []) → ⊥) → KeepsProfiles (spelled ++ p ∷ []) new
name_kept spelled p kept new q k items over named none past = record {
  named = subst (λ (qs : List Profile). AllZip IsNamedAs (spelled ++ p ∷ []) qs) (sym items) (zip_append IsNamedAs spelled (p ∷ []) kept.profiles.items (q ∷ []) k.named (named, tt));
  whole = λ e. absurd (true_false (sym over ∙ e));
  within = λ e. absurd (true_false (sym over ∙ e));
  noticed = λ e. past;
  bounded = record {
    before = k.bounded.before;
    behind = k.bounded.behind ++ q ∷ [];
    cut = items ∙ ap (λ (ps : List Profile). ps ++ q ∷ []) k.bounded.cut ∙ append_assoc k.bounded.before k.bounded.behind (q ∷ []);
    within = k.bounded.within;
    empty = all_more HasNoPatterns k.bounded.behind q k.bounded.empty none;
  };
  room = λ e. absurd (true_false (sym over ∙ e));
}

-- it is kept, and no limit is passed
pub profile_kept : (spelled : List Profile) (p : Profile) (kept new : KeptProfiles) (read : ReadProfile) → KeepsProfiles spelled kept → KeepsProfile p read
    → kept.over ≡ false → read.over ≡ false → FitsBeside spelled p
    → new.profiles.items ≡ kept.profiles.items ++ read.profile ∷ [] → new.room ≡ kept.room - length p.attachments → new.over ≡ kept.over → KeepsProfiles (spelled ++ p ∷ []) new
profile_kept spelled p kept new read k r whole alone fits items room over =
    let same : new.profiles.items ≡ spelled ++ p ∷ [] = items ∙ ap (λ (ps : List Profile). ps ++ read.profile ∷ []) (k.whole whole) ∙ ap (λ (x : Profile). spelled ++ x ∷ []) (r.whole alone) in
    let left : HasRoom (spelled ++ p ∷ []) new.room = subst (λ (n : ℕ). HasRoom (spelled ++ p ∷ []) n) (sym room) (room_left spelled p kept.room (k.room whole) fits.few_attachments) in
    let limits : IsWithinLimits (spelled ++ p ∷ []) = within_more spelled p new.room (k.within whole) fits (r.few_patterns alone) left in
    record {
      named = subst (λ (qs : List Profile). AllZip IsNamedAs (spelled ++ p ∷ []) qs) (sym items) (zip_append IsNamedAs spelled (p ∷ []) kept.profiles.items (read.profile ∷ []) k.named (r.named, tt));
      whole = λ e. same;
      within = λ e. limits;
      noticed = λ e. absurd (true_false (sym e ∙ over ∙ whole));
      bounded = record { before = spelled ++ p ∷ []; behind = []; cut = same ∙ sym (append-nil (spelled ++ p ∷ [])); within = limits; empty = All-nil HasNoPatterns };
      room = λ e. left;
    }

-- why a limit is passed with it: one was passed before, it has too many patterns itself, or it does not fit
pub past_before : (spelled : List Profile) (p : Profile) (kept : KeptProfiles) → KeepsProfiles spelled kept → kept.over ≡ true → IsWithinLimits (spelled ++ p ∷ []) → ⊥
past_before spelled p kept k over l = k.noticed over (within_before spelled p l)

pub past_alone : (spelled : List Profile) (p : Profile) (read : ReadProfile) → KeepsProfile p read → read.over ≡ true → IsWithinLimits (spelled ++ p ∷ []) → ⊥
past_alone spelled p read r over l =
    let many = r.noticed over in
    let few = few_within spelled p l in
    absurd (omega (arith, many, few))

pub past_beside : (spelled : List Profile) (p : Profile) → (FitsBeside spelled p → ⊥) → IsWithinLimits (spelled ++ p ∷ []) → ⊥
past_beside spelled p never l = never (fits_within spelled p l)

-- whether the profile that is read fits beside those that are kept, where all are kept
pub same_fit : (spelled : List Profile) (p : Profile) (kept : KeptProfiles) (read : ReadProfile) (b : Bool) → KeepsProfiles spelled kept → KeepsProfile p read → kept.over ≡ false → read.over ≡ false
    → (HasRoom kept.profiles.items kept.room → (IsTrue b ↔ FitsBeside kept.profiles.items read.profile)) → (IsTrue b ↔ FitsBeside spelled p)
same_fit spelled p kept read b k r whole alone h =
    subst (λ (ps : List Profile). IsTrue b ↔ FitsBeside ps p) (k.whole whole)
    (subst (λ (q : Profile). IsTrue b ↔ FitsBeside kept.profiles.items q) (r.whole alone) (h (subst (λ (ps : List Profile). HasRoom ps kept.room) (sym (k.whole whole)) (k.room whole))))

-- ---- names

pub kept_names : (ps qs : List Profile) → AllZip IsNamedAs ps qs → names_of ps ≡ names_of qs
kept_names ps qs z = zip_same IsNamedAs (λ p. p.name) (λ q. q.name) (λ p q n. sym n.name) ps qs z

pub kept_distinct : (ps qs : List Profile) → AllZip IsNamedAs ps qs → IsDistinct bytes_eq (names_of qs) → IsDistinct bytes_eq (names_of ps)
kept_distinct ps qs z d = subst (λ (ns : List (List ℕ)). IsDistinct bytes_eq ns) (sym (kept_names ps qs z)) d

zip_at : {X Y : Type 0} (R : X → Y → Type 0) (xs : List X) (before : List Y) (y : Y) (after : List Y) → AllZip R xs (before ++ y ∷ after)
    → (us : List X) × (x : X) × (vs : List X) × (xs ≡ us ++ x ∷ vs) × AllZip R us before × R x y
zip_at R [] [] y after z = absurd z
zip_at R [] (b ∷ bs) y after z = absurd z
zip_at R (x ∷ xs) [] y after z = ([], x, xs, refl, tt, z.0)
zip_at {X} R (x ∷ xs) (b ∷ bs) y after z = let r = zip_at R xs bs y after z.1 in (x ∷ r.0, r.1, r.2, ap (λ (l : List X). x ∷ l) r.3, (z.0, r.4), r.5)

-- a name that is repeated in what is kept is repeated
pub kept_repeated : (ps qs : List Profile) (at : Spot) → AllZip IsNamedAs ps qs → IsRepeated qs at → IsRepeated ps at
kept_repeated ps qs at z k =
    let r = zip_at IsNamedAs ps k.before k.profile k.after (subst (λ (l : List Profile). AllZip IsNamedAs ps l) k.cut z) in
    let names = kept_names r.0 k.before r.4 in
    record {
      before = r.0;
      profile = r.1;
      after = r.2;
      cut = r.3;
      at_is = sym r.5.at ∙ k.at_is;
      repeats = subst (λ (ns : List (List ℕ)). list_any (bytes_eq r.1.name) ns ≡ true) (sym names)
          (subst (λ (n : List ℕ). list_any (bytes_eq n) (names_of k.before) ≡ true) r.5.name k.repeats);
      first = subst (λ (ns : List (List ℕ)). IsDistinct bytes_eq ns) (sym names) k.first;
    }

-- what is said of the names that are kept is said of those that are spelled
pub kept_answer : (ps qs : List Profile) (e : PolicyFault) → AllZip IsNamedAs ps qs
    → (e ≡ no_memory) ⊎ ((e.kind ≡ DuplicateProfile) × IsRepeated qs e.at)
    → (e ≡ no_memory) ⊎ ((e.kind ≡ DuplicateProfile) × IsRepeated ps e.at)
kept_answer ps qs e z (inl m) = inl m
kept_answer ps qs e z (inr r) = inr (r.0, kept_repeated ps qs e.at z r.1)

-- ---- a profile with the rules that are kept

pub keeps_read : (p : Profile) (spelled : List FileRule) (kept : KeptRules) (rules : List FileRule) → KeepsRules spelled kept → rules ≡ kept.rules.items
    → KeepsProfile (record p { files = spelled }) (record { profile = record p { files = rules }; over = kept.over })
keeps_read p spelled kept rules k same = record {
  named = record { at = refl; name = refl };
  whole = λ e. ap (λ (rs : List FileRule). record p { files = rs }) (same ∙ k.whole e);
  few_patterns = λ e.
      let room = k.room in
      subst (λ (rs : List FileRule). sum_by (λ r. length r.patterns) rs ≤ 65535) (k.whole e) (omega (arith, room));
  noticed = k.noticed;
}
