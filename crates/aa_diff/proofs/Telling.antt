-- The lines of a list tell of all entries, and of nothing else.
use Rattle.std.proofs.Common.{◌≡◌, ℕ, zero, suc, ◌<◌, List, [], ◌∷◌, ◌++◌, length, get_or, drop, min, Bool}
use Rattle.std.proofs.Common.{true, false, true≢false, not, ◌+◌, ◌≤◌, Option, Some, None, ◌⊎◌, inl, inr, ⊎_elim}
use Rattle.std.proofs.Common.{refl, sym, ap, ◌∙◌, subst, arith, append_assoc}
use Rattle.std.specs.Prelude.{⊤, ◌==◌, ◌&&◌, ◌||◌, ◌-◌, ◌↔◌, Contains, position, bit_and, if◌then◌else◌}
use Rattle.std.specs.Bool.{beq}
use Rattle.std.specs.Ordering.{is_lt}
use Rattle.std.specs.Int.{bit_at}
use Rattle.std.specs.List.{list_any}
use Rattle.std.specs.Str.{bytes_eq}
use Rattle.std.proofs.lemmas.Bool.{eqb-true, and_parts, or_cases, and_from}
use Rattle.std.proofs.lemmas.Nat.Bits.{bit_at_or}
use Rattle.std.proofs.lemmas.List.Quantifiers.{position-Some}
use Rattle.std.proofs.lemmas.Slice.Eq.{bytes_eq-Decides}
use Rattle.aa_files.specs.Texts.{texts}
use Rattle.aa_model.specs.declared.policy.Policy.{Policy}
use Rattle.aa_model.specs.declared.label.Label.{Label}
use Rattle.aa_model.specs.declared.label.Label.TheVariants.{Unconfined, Confined}
use Rattle.aa_model.specs.declared.request.Request.{Request}
use Rattle.aa_model.specs.declared.request.Request.TheVariants.{File, Link, Exec, Cap, Net, Change, Reload}
use Rattle.aa_unclean_paths.specs.Deciding.{is_unclean}
use Rattle.aa_unclean_paths.specs.Requests.{is_at_unclean_path}
use Rattle.aa_command.specs.declared.decided.Decided.{Decided}
use Rattle.aa_differences.specs.declared.at_labels.Difference.{Difference}
use Rattle.aa_diff.specs.declared.options.Wanted.{Wanted}
use Rattle.aa_diff.specs.declared.signs.Sign.{Sign}
use Rattle.aa_diff.specs.declared.signs.Sign.TheVariants.{Gain, Loss, Other}
use Rattle.aa_diff.specs.declared.finding.Who.{Who}
use Rattle.aa_diff.specs.declared.finding.Who.TheVariants.{Anybody, Owner, Others}
use Rattle.aa_diff.specs.declared.finding.Finding.{Finding}
use Rattle.aa_diff.specs.Signs.{sign_of, sign_number}
use Rattle.aa_diff.specs.Changes.{is_same}
use Rattle.aa_diff.specs.Findings.{who_number, kind_number, is_of_class, is_alike, is_profile, finding_of}
use Rattle.aa_diff.specs.Gathered.{is_single, is_mixed, is_part, is_as_well, covers, recent, hides, is_preferred, with_more, counted_up, changed_at, added_at, added, gathered}
use Rattle.aa_diff.specs.Gathered.{gathered_next}
use Rattle.aa_diff.specs.Witness.{shortness_cmp}
use Rattle.aa_diff.specs.Joined.{is_one_object, joins, both_of, joined_at, joined, joined_all}
use Rattle.aa_diff.specs.Named.{is_named}
use Rattle.aa_diff.specs.Report.{called, is_wanted, wanted_of, shown_of, lines_of}
use Rattle.aa_diff.specs.Telling.{AreAmong, HoldsOf, OfAll, OfSame, TellsOf, IsToldBy, IsTold, Itself, ByPart, bare, IsOfEntry, AreLinesOf, OneGains}
use Rattle.aa_diff.specs.Telling.{OneIsGain, LinesTellEntries}

-- ---- lists of which one, or each, is such

abbrev pub Has : {X : Type 0} → (X → Type 0) → List X → Type 0
Has P [] = ⊥
Has P (x ∷ xs) = P x ⊎ Has P xs

pub has_front : {X : Type 0} (P : X → Type 0) (xs ys : List X) → Has P xs → Has P (xs ++ ys)
has_front P [] ys h = absurd h
has_front P (x ∷ xs) ys (inl p) = inl p
has_front P (x ∷ xs) ys (inr h) = inr (has_front P xs ys h)

has_back : {X : Type 0} (P : X → Type 0) (xs ys : List X) → Has P ys → Has P (xs ++ ys)
has_back P [] ys h = h
has_back P (x ∷ xs) ys h = inr (has_back P xs ys h)

has_dropped : {X : Type 0} (P : X → Type 0) (n : ℕ) (xs : List X) → Has P (drop n xs) → Has P xs
has_dropped P zero xs h = h
has_dropped P (suc n) [] h = absurd h
has_dropped P (suc n) (x ∷ xs) h = inr (has_dropped P n xs h)

-- such a one stays where what is changed stays so
has_kept_at : (P : Finding → Type 0) (change : Finding → Finding) (fs : List Finding) (n : ℕ) (d : Finding) → (P (get_or fs n d) → P (change (get_or fs n d)))
    → Has P fs → Has P (changed_at change fs n)
has_kept_at P change [] n d keep h = absurd h
has_kept_at P change (f ∷ fs) zero d keep (inl p) = inl (keep p)
has_kept_at P change (f ∷ fs) zero d keep (inr h) = inr h
has_kept_at P change (f ∷ fs) (suc n) d keep (inl p) = inl p
has_kept_at P change (f ∷ fs) (suc n) d keep (inr h) = inr (has_kept_at P change fs n d keep h)

has_kept : (P : Finding → Type 0) (change : Finding → Finding) → ((f : Finding) → P f → P (change f)) → (fs : List Finding) (n : ℕ)
    → Has P fs → Has P (changed_at change fs n)
has_kept P change keep [] n h = absurd h
has_kept P change keep (f ∷ fs) zero (inl p) = inl (keep f p)
has_kept P change keep (f ∷ fs) zero (inr h) = inr h
has_kept P change keep (f ∷ fs) (suc n) (inl p) = inl p
has_kept P change keep (f ∷ fs) (suc n) (inr h) = inr (has_kept P change keep fs n h)

has_changed : (P : Finding → Type 0) (change : Finding → Finding) (fs : List Finding) (n : ℕ) (d : Finding) → n < length fs
    → P (change (get_or fs n d)) → Has P (changed_at change fs n)
has_changed P change [] n d lt p = absurd (omega (arith, lt))
has_changed P change (f ∷ fs) zero d lt p = inl p
has_changed P change (f ∷ fs) (suc n) d lt p = inr (has_changed P change fs n d (omega (arith, lt)) p)

abbrev pub Each : {X : Type 0} → (X → Type 0) → List X → Type 0
Each P [] = ⊤
Each P (x ∷ xs) = P x × Each P xs

each_more : {X : Type 0} (P : X → Type 0) (xs : List X) (x : X) → Each P xs → P x → Each P (xs ++ x ∷ [])
each_more P [] x all p = (p, tt)
each_more P (y ∷ ys) x all p = (all.0, each_more P ys x all.1 p)

each_kept : (P : Finding → Type 0) (change : Finding → Finding) → ((f : Finding) → P f → P (change f)) → (fs : List Finding) (n : ℕ)
    → Each P fs → Each P (changed_at change fs n)
each_kept P change keep [] n all = tt
each_kept P change keep (f ∷ fs) zero all = (keep f all.0, all.1)
each_kept P change keep (f ∷ fs) (suc n) all = (all.0, each_kept P change keep fs n all.1)

-- ---- the same by numbers

pub has_contained : {X : Type 0} (P : X → Type 0) (xs : List X) (x : X) → Contains xs x → P x → Has P xs
has_contained P [] x (k, lt, is) p = absurd (omega (arith, lt))
has_contained P (y ∷ ys) x (zero, lt, is) p = inl (subst P (sym is) p)
has_contained P (y ∷ ys) x (suc k, lt, is) p = inr (has_contained P ys x (k, omega (arith, lt), is) p)

pub contained : {X : Type 0} (P : X → Type 0) (xs : List X) → Has P xs → (x : X) × Contains xs x × P x
contained P [] h = absurd h
contained P (x ∷ xs) (inl p) = (x, (zero, omega arith, refl), p)
contained P (x ∷ xs) (inr h) = let found = contained P xs h in (found.0, (suc found.1.0, omega (arith, found.1.1), found.1.2), found.2)

each_contained : {X : Type 0} (P : X → Type 0) (xs : List X) (x : X) → Each P xs → Contains xs x → P x
each_contained P [] x all (k, lt, is) = absurd (omega (arith, lt))
each_contained P (y ∷ ys) x all (zero, lt, is) = subst P is all.0
each_contained P (y ∷ ys) x all (suc k, lt, is) = each_contained P ys x all.1 (k, omega (arith, lt), is)

-- ---- findings of one class

pub label_same : (l m : Label) → is_same l m ≡ true → l ≡ m
label_same (Unconfined j) (Unconfined k) e = ap Unconfined (eqb-true j k e)
label_same (Unconfined j) (Confined k n) e = absurd cc
label_same (Confined j m) (Unconfined k) e = absurd cc
label_same (Confined j m) (Confined k n) e =
    let parts = and_parts (j == k) (m == n) e in
    rw (eqb-true j k parts.0, eqb-true m n parts.1) refl

sign_same : (a b : Sign) → (sign_number a == sign_number b) ≡ true → a ≡ b
sign_same Gain Gain e = refl
sign_same Gain Loss e = absurd cc
sign_same Gain Other e = absurd cc
sign_same Loss Gain e = absurd cc
sign_same Loss Loss e = refl
sign_same Loss Other e = absurd cc
sign_same Other Gain e = absurd cc
sign_same Other Loss e = absurd cc
sign_same Other Other e = refl

who_same : (a b : Who) → (who_number a == who_number b) ≡ true → a ≡ b
who_same Anybody Anybody e = refl
who_same Anybody Owner e = absurd cc
who_same Anybody Others e = absurd cc
who_same Owner Anybody e = absurd cc
who_same Owner Owner e = refl
who_same Owner Others e = absurd cc
who_same Others Anybody e = absurd cc
who_same Others Owner e = absurd cc
who_same Others Others e = refl

pub text_same : (a b : List ℕ) → bytes_eq a b ≡ true → a ≡ b
text_same a b e = (bytes_eq-Decides a b).0 e

holds_through : (a b c : Who) → HoldsOf a b → HoldsOf b c → HoldsOf a c
holds_through a b c (OfAll e) h = OfAll e
holds_through a b c (OfSame e) (OfAll f) = OfAll (e ∙ f)
holds_through a b c (OfSame e) (OfSame f) = OfSame (e ∙ f)

tells_through : (f g h : Finding) → TellsOf f g → TellsOf g h → TellsOf f h
tells_through f g h a b = record {
  label = a.label ∙ b.label;
  sign = a.sign ∙ b.sign;
  kind = a.kind ∙ b.kind;
  change = a.change ∙ b.change;
  rules = a.rules ∙ b.rules;
  letters = λ k. omega (arith, a.letters k, b.letters k);
  who = holds_through f.who g.who h.who a.who b.who;
  clean = λ e. b.clean (a.clean e);
}

tells_itself : (f : Finding) → TellsOf f f
tells_itself f = record { label = refl; sign = refl; kind = refl; change = refl; rules = refl; letters = λ k. omega arith; who = OfSame refl; clean = λ e. e }

-- findings of one line but for their paths
record AreOne (f g : Finding) : Type 0 where
  label : f.from ≡ g.from
  sign : f.sign ≡ g.sign
  kind : kind_number f.request ≡ kind_number g.request
  change : f.change ≡ g.change
  rules : f.rules ≡ g.rules
  letters : f.letters.0 ≡ g.letters.0
  who : f.who ≡ g.who

alike_one : (f g : Finding) → is_alike f g ≡ true → AreOne f g
alike_one f g e =
    let other = and_parts _ (not (is_profile f)) e in
    let who = and_parts _ (who_number f.who == who_number g.who) other.0 in
    let letters = and_parts (is_of_class f g) (f.letters.0 == g.letters.0) who.0 in
    let rules = and_parts _ (bytes_eq f.rules g.rules) letters.0 in
    let change = and_parts _ (bytes_eq f.change g.change) rules.0 in
    let kind = and_parts _ (kind_number f.request == kind_number g.request) change.0 in
    let sign = and_parts (is_same f.from g.from) (sign_number f.sign == sign_number g.sign) kind.0 in
    record {
      label = label_same f.from g.from sign.0;
      sign = sign_same f.sign g.sign sign.1;
      kind = eqb-true (kind_number f.request) (kind_number g.request) kind.1;
      change = text_same f.change g.change change.1;
      rules = text_same f.rules g.rules rules.1;
      letters = eqb-true f.letters.0 g.letters.0 letters.1;
      who = who_same f.who g.who who.1;
    }

-- ---- a difference more

abbrev unclean : Finding → Bool
unclean f = is_at_unclean_path f.request

abbrev one_more : Finding → ℕ
one_more f = min (f.more + 1) 18446744073709551615

-- the one that is preferred is at an unclean path only where the other is
preferred_clean : (known one shorter : Bool) → ((known && not one) || (beq known one && shorter)) ≡ true → one ≡ true → known ≡ true
preferred_clean true one shorter e is = refl
preferred_clean false true shorter e is = absurd (true≢false (sym e))
preferred_clean false false shorter e is = absurd (true≢false (sym is))

-- and the one that isn't left for the other too
stays_clean : (known one shorter : Bool) → ((known && not one) || (beq known one && shorter)) ≡ false → known ≡ true → one ≡ true
stays_clean true true shorter e is = refl
stays_clean true false shorter e is = absurd (true≢false e)
stays_clean false one shorter e is = absurd (true≢false (sym is))

abbrev shorter : Finding → Finding → Bool
shorter g f = is_lt (shortness_cmp g.request f.request)

-- what stands for two findings of one line tells of the latter
counted_tells_at : (b : Bool) (f g : Finding) → is_preferred g f ≡ b → AreOne f g → TellsOf (with_more (one_more f) (if b then g else f)) g
counted_tells_at true f g preferred same =
    record { label = refl; sign = refl; kind = refl; change = refl; rules = refl; letters = λ k. omega arith; who = OfSame refl; clean = λ e. e }
counted_tells_at false f g preferred same = record {
  label = same.label;
  sign = same.sign;
  kind = same.kind;
  change = same.change;
  rules = same.rules;
  letters = λ k. rw same.letters (omega arith);
  who = OfSame same.who;
  clean = λ e. stays_clean (unclean f) (unclean g) (shorter g f) preferred e;
}

alike_tells : (f g : Finding) → is_alike f g ≡ true → TellsOf (counted_up g f) g
alike_tells f g e = counted_tells_at (is_preferred g f) f g refl (alike_one f g e)

-- and of what the former tells of
counted_keeps_at : (b : Bool) (f g h : Finding) → is_preferred g f ≡ b → AreOne f g → TellsOf f h → TellsOf (with_more (one_more f) (if b then g else f)) h
counted_keeps_at true f g h preferred same t = record {
  label = sym same.label ∙ t.label;
  sign = sym same.sign ∙ t.sign;
  kind = sym same.kind ∙ t.kind;
  change = sym same.change ∙ t.change;
  rules = sym same.rules ∙ t.rules;
  letters = λ k. subst (λ (n : ℕ). bit_at h.letters.0 k ≤ bit_at n k) same.letters (t.letters k);
  who = subst (λ (w : Who). HoldsOf w h.who) same.who t.who;
  clean = λ e. t.clean (preferred_clean (unclean f) (unclean g) (shorter g f) preferred e);
}
counted_keeps_at false f g h preferred same t =
    record { label = t.label; sign = t.sign; kind = t.kind; change = t.change; rules = t.rules; letters = t.letters; who = t.who; clean = t.clean }

alike_keeps : (f g h : Finding) → is_alike f g ≡ true → TellsOf f h → TellsOf (counted_up g f) h
alike_keeps f g h e t = counted_keeps_at (is_preferred g f) f g h refl (alike_one f g e) t

abbrev Tellers : Finding → List Finding → Type 0
Tellers g fs = Has (λ (f : Finding). TellsOf f g) fs

added_keeps_at : (o : Option ℕ) (fs : List Finding) (f g : Finding) → position (λ x. is_alike x f) fs ≡ o → Tellers g fs → Tellers g (added_at o fs f)
added_keeps_at None fs f g is h = has_front (λ (x : Finding). TellsOf x g) fs (f ∷ []) h
added_keeps_at (Some n) fs f g is h =
    let found = position-Some (λ x. is_alike x f) fs n f is in
    has_kept_at (λ (x : Finding). TellsOf x g) (counted_up f) fs n f (alike_keeps (get_or fs n f) f g found.1) h

added_tells_at : (o : Option ℕ) (fs : List Finding) (f : Finding) → position (λ g. is_alike g f) fs ≡ o → Tellers f (added_at o fs f)
added_tells_at None fs f is = has_back (λ (x : Finding). TellsOf x f) fs (f ∷ []) (inl (tells_itself f))
added_tells_at (Some n) fs f is =
    let found = position-Some (λ g. is_alike g f) fs n f is in
    has_changed (λ (x : Finding). TellsOf x f) (counted_up f) fs n f found.0 (alike_tells (get_or fs n f) f found.1)

module _ (d e : Decided) where
  abbrev own : Difference → Finding
  own x = finding_of d e x

  abbrev hiding : List Difference → Difference → Bool
  hiding before y = hides d.policies.now e.policies.now before y

  next_keeps_at : (b : Bool) (fs : List Finding) (y : Difference) (g : Finding) → Tellers g fs → Tellers g (if b then fs else added fs (own y))
  next_keeps_at true fs y g h = h
  next_keeps_at false fs y g h = added_keeps_at (position (λ f. is_alike f (own y)) fs) fs (own y) g refl h

  next_tells_at : (b : Bool) (fs : List Finding) (y : Difference) → b ≡ false → Tellers (own y) (if b then fs else added fs (own y))
  next_tells_at true fs y shown = absurd cc
  next_tells_at false fs y shown = added_tells_at (position (λ f. is_alike f (own y)) fs) fs (own y) refl

  -- what is told of stays so
  gathered_keeps : (before xs : List Difference) (fs : List Finding) (g : Finding) → Tellers g fs → Tellers g (gathered d e before xs fs)
  gathered_keeps before [] fs g h = h
  gathered_keeps before (y ∷ ys) fs g h = gathered_keeps (before ++ y ∷ []) ys (gathered_next d e before y fs) g (next_keeps_at (hiding before y) fs y g h)

  unmixed_shows : (before : List Difference) (y : Difference) → is_mixed y.request ≡ false → hiding before y ≡ false
  unmixed_shows before y single = ap (λ (b : Bool). b && list_any (λ x. covers d.policies.now e.policies.now x y) (recent before)) single

  -- an entry of one permission, or of what isn't a file, has a line
  unmixed_told : (before xs : List Difference) (fs : List Finding) (x : Difference) → is_mixed x.request ≡ false
      → Has (λ (y : Difference). y ≡ x) xs → Tellers (own x) (gathered d e before xs fs)
  unmixed_told before [] fs x single h = absurd h
  unmixed_told before (y ∷ ys) fs x single (inl is) =
      subst (λ (z : Difference). Tellers (own z) (gathered d e before (y ∷ ys) fs)) is
      (gathered_keeps (before ++ y ∷ []) ys (gathered_next d e before y fs) (own y)
      (next_tells_at (hiding before y) fs y (unmixed_shows before y (ap (λ (z : Difference). is_mixed z.request) is ∙ single))))
  unmixed_told before (y ∷ ys) fs x single (inr h) = unmixed_told (before ++ y ∷ []) ys (gathered_next d e before y fs) x single h

  abbrev Covering : Difference → Difference → Type 0
  Covering x y = covers d.policies.now e.policies.now y x ≡ true

  any_has : {X : Type 0} (p : X → Bool) (xs : List X) → list_any p xs ≡ true → Has (λ (x : X). p x ≡ true) xs
  any_has p [] is = absurd cc
  any_has p (x ∷ xs) is = ⊎_elim (λ (h : p x ≡ true). inl h) (λ (h : list_any p xs ≡ true). inr (any_has p xs h)) (or_cases (p x) (list_any p xs) is)

  hidden_covered : (before : List Difference) (y : Difference) → hiding before y ≡ true → Has (Covering y) before
  hidden_covered before y is =
      has_dropped (Covering y) (length before - min (length before) 62) before
      (any_has (λ x. covers d.policies.now e.policies.now x y) (recent before) (and_parts (is_mixed y.request) _ is).1)

  told_at : (b : Bool) (before ys : List Difference) (fs : List Finding) (y : Difference) → hiding before y ≡ b
      → Tellers (own y) (gathered d e (before ++ y ∷ []) ys (gathered_next d e before y fs)) ⊎ Has (Covering y) (before ++ y ∷ ys)
  told_at true before ys fs y is = inr (has_front (Covering y) before (y ∷ ys) (hidden_covered before y is))
  told_at false before ys fs y is = inl
      (gathered_keeps (before ++ y ∷ []) ys (gathered_next d e before y fs) (own y) (next_tells_at (hiding before y) fs y is))

  any_told : (before xs : List Difference) (fs : List Finding) (x : Difference) → Has (λ (y : Difference). y ≡ x) xs
      → Tellers (own x) (gathered d e before xs fs) ⊎ Has (Covering x) (before ++ xs)
  any_told before [] fs x h = absurd h
  any_told before (y ∷ ys) fs x (inl is) =
      subst (λ (z : Difference). Tellers (own z) (gathered d e before (y ∷ ys) fs) ⊎ Has (Covering z) (before ++ y ∷ ys)) is
      (told_at (hiding before y) before ys fs y refl)
  any_told before (y ∷ ys) fs x (inr h) =
      subst (λ (zs : List Difference). Tellers (own x) (gathered d e before (y ∷ ys) fs) ⊎ Has (Covering x) zs) (append_assoc before (y ∷ []) ys)
      (any_told (before ++ y ∷ []) ys (gathered_next d e before y fs) x h)

-- ---- joined

joined_letters : (f g : Finding) → AreAmong f.letters.0 (both_of g f).letters.0
joined_letters f g k = omega (arith, bit_at_or f.letters.0 g.letters.0 k)

joined_letters_too : (f g : Finding) → AreAmong g.letters.0 (both_of g f).letters.0
joined_letters_too f g k = omega (arith, bit_at_or f.letters.0 g.letters.0 k)

joined_holds_at : (b : Bool) (f : Finding) → HoldsOf (if b then f.who else Anybody) f.who
joined_holds_at true f = OfSame refl
joined_holds_at false f = OfAll refl

joined_holds_too_at : (b : Bool) (f g : Finding) → (who_number f.who == who_number g.who) ≡ b → HoldsOf (if b then f.who else Anybody) g.who
joined_holds_too_at true f g is = OfSame (who_same f.who g.who is)
joined_holds_too_at false f g is = OfAll refl

-- the joined finding tells of the former
both_former : (f g : Finding) → TellsOf (both_of g f) f
both_former f g = record {
  label = refl;
  sign = refl;
  kind = refl;
  change = refl;
  rules = refl;
  letters = joined_letters f g;
  who = joined_holds_at (who_number f.who == who_number g.who) f;
  clean = λ e. e;
}

-- requests for one object are at one path
one_object_unclean : (q r : Request) → is_one_object q r ≡ true → is_at_unclean_path q ≡ true → is_at_unclean_path r ≡ true
one_object_unclean (File q) (File r) is e = sym (ap is_unclean (text_same q.path r.path is)) ∙ e
one_object_unclean (File q) (Link r) is e = absurd cc
one_object_unclean (File q) (Exec r) is e = absurd cc
one_object_unclean (File q) (Cap n) is e = absurd cc
one_object_unclean (File q) (Net f k) is e = absurd cc
one_object_unclean (File q) (Change n) is e = absurd cc
one_object_unclean (File q) (Reload m) is e = absurd cc
one_object_unclean (Link q) (File r) is e = absurd cc
one_object_unclean (Link q) (Link r) is e =
    let parts = and_parts (bytes_eq q.link r.link) (bytes_eq q.target r.target) is in
    sym (ap (λ (s : List ℕ). is_unclean s || is_unclean q.target) (text_same q.link r.link parts.0)
    ∙ ap (λ (s : List ℕ). is_unclean r.link || is_unclean s) (text_same q.target r.target parts.1)) ∙ e
one_object_unclean (Link q) (Exec r) is e = absurd cc
one_object_unclean (Link q) (Cap n) is e = absurd cc
one_object_unclean (Link q) (Net f k) is e = absurd cc
one_object_unclean (Link q) (Change n) is e = absurd cc
one_object_unclean (Link q) (Reload m) is e = absurd cc
one_object_unclean (Exec q) (File r) is e = absurd cc
one_object_unclean (Exec q) (Link r) is e = absurd cc
one_object_unclean (Exec q) (Exec r) is e = sym (ap is_unclean (text_same q.path r.path is)) ∙ e
one_object_unclean (Exec q) (Cap n) is e = absurd cc
one_object_unclean (Exec q) (Net f k) is e = absurd cc
one_object_unclean (Exec q) (Change n) is e = absurd cc
one_object_unclean (Exec q) (Reload m) is e = absurd cc
one_object_unclean (Cap n) r is e = absurd cc
one_object_unclean (Net f k) r is e = absurd cc
one_object_unclean (Change n) r is e = absurd cc
one_object_unclean (Reload m) r is e = absurd cc

-- and of the latter
both_latter : (f g : Finding) → joins f g ≡ true → TellsOf (both_of g f) g
both_latter f g e =
    let apart = and_parts _ _ e in
    let object = and_parts _ (is_one_object f.request g.request) apart.0 in
    let more = and_parts (is_of_class f g) (f.more == g.more) object.0 in
    let tells : TellsOf (both_of g f) f = both_former f g in
    let rules = and_parts _ (bytes_eq f.rules g.rules) more.0 in
    let change = and_parts _ (bytes_eq f.change g.change) rules.0 in
    let kind = and_parts _ (kind_number f.request == kind_number g.request) change.0 in
    let sign = and_parts (is_same f.from g.from) (sign_number f.sign == sign_number g.sign) kind.0 in
    record {
      label = label_same f.from g.from sign.0;
      sign = sign_same f.sign g.sign sign.1;
      kind = eqb-true (kind_number f.request) (kind_number g.request) kind.1;
      change = text_same f.change g.change change.1;
      rules = text_same f.rules g.rules rules.1;
      letters = joined_letters_too f g;
      who = joined_holds_too_at (who_number f.who == who_number g.who) f g refl;
      clean = one_object_unclean f.request g.request object.1;
    }

joined_keeps_at : (o : Option ℕ) (fs : List Finding) (f g : Finding) → Tellers g fs → Tellers g (joined_at o fs f)
joined_keeps_at None fs f g h = has_front (λ (x : Finding). TellsOf x g) fs (f ∷ []) h
joined_keeps_at (Some n) fs f g h = has_kept (λ (x : Finding). TellsOf x g) (both_of f) (λ x t. tells_through (both_of f x) x g (both_former x f) t) fs n h

joined_tells_at : (o : Option ℕ) (fs : List Finding) (f g : Finding) → position (λ x. joins x f) fs ≡ o → TellsOf f g → Tellers g (joined_at o fs f)
joined_tells_at None fs f g is t = has_back (λ (x : Finding). TellsOf x g) fs (f ∷ []) (inl t)
joined_tells_at (Some n) fs f g is t =
    let found = position-Some (λ x. joins x f) fs n f is in
    has_changed (λ (x : Finding). TellsOf x g) (both_of f) fs n f found.0
    (tells_through (both_of f (get_or fs n f)) f g (both_latter (get_or fs n f) f found.1) t)

joined_all_keeps : (fs gs : List Finding) (g : Finding) → Tellers g fs → Tellers g (joined_all fs gs)
joined_all_keeps fs [] g h = h
joined_all_keeps fs (f ∷ gs) g h = joined_all_keeps (joined fs f) gs g (joined_keeps_at (position (λ x. joins x f) fs) fs f g h)

joined_all_tells : (fs gs : List Finding) (g : Finding) → Tellers g gs → Tellers g (joined_all fs gs)
joined_all_tells fs [] g h = absurd h
joined_all_tells fs (f ∷ gs) g (inl t) = joined_all_keeps (joined fs f) gs g (joined_tells_at (position (λ x. joins x f) fs) fs f g refl t)
joined_all_tells fs (f ∷ gs) g (inr h) = joined_all_tells (joined fs f) gs g h

-- ---- nothing else is told

module _ (P : Finding → Type 0) (same : (f g : Finding) → bare f ≡ bare g → P f → P g) where
  counted_each_at : (b : Bool) (n : ℕ) (f g : Finding) → P f → P g → P (with_more n (if b then g else f))
  counted_each_at true n f g p q = same g (with_more n g) refl q
  counted_each_at false n f g p q = same f (with_more n f) refl p

  added_each_at : (o : Option ℕ) (fs : List Finding) (f : Finding) → Each P fs → P f → Each P (added_at o fs f)
  added_each_at None fs f all p = each_more P fs f all p
  added_each_at (Some n) fs f all p = each_kept P (counted_up f) (λ x q. counted_each_at (is_preferred f x) (one_more x) x f q p) fs n all

  joined_each_at : (o : Option ℕ) (fs : List Finding) (f : Finding) → Each P fs → P f → Each P (joined_at o fs f)
  joined_each_at None fs f all p = each_more P fs f all p
  joined_each_at (Some n) fs f all p = each_kept P (both_of f) (λ x q. same x (both_of f x) refl q) fs n all

  joined_all_each : (fs gs : List Finding) → Each P fs → Each P gs → Each P (joined_all fs gs)
  joined_all_each fs [] all rest = all
  joined_all_each fs (f ∷ gs) all rest = joined_all_each (joined fs f) gs (joined_each_at (position (λ x. joins x f) fs) fs f all rest.0) rest.1

  next_each_at : (d e : Decided) (b : Bool) (fs : List Finding) (y : Difference) → Each P fs → P (finding_of d e y)
      → Each P (if b then fs else added fs (finding_of d e y))
  next_each_at d e true fs y all p = all
  next_each_at d e false fs y all p = added_each_at (position (λ f. is_alike f (finding_of d e y)) fs) fs (finding_of d e y) all p

  gathered_each : (d e : Decided) (before xs : List Difference) (fs : List Finding) → Each P fs
      → Each (λ (x : Difference). P (finding_of d e x)) xs → Each P (gathered d e before xs fs)
  gathered_each d e before [] fs all rest = all
  gathered_each d e before (y ∷ ys) fs all rest =
      gathered_each d e (before ++ y ∷ []) ys (gathered_next d e before y fs)
      (next_each_at d e (hides d.policies.now e.policies.now before y) fs y all rest.0) rest.1

-- ---- the lines of a list

each_of : {X : Type 0} (P : X → Type 0) (xs : List X) → ((x : X) → Contains xs x → P x) → Each P xs
each_of P [] all = tt
each_of P (x ∷ xs) all = (all x (zero, omega arith, refl), each_of P xs (λ y c. all y (suc c.0, omega (arith, c.1), c.2)))

has_it : {X : Type 0} (xs : List X) (x : X) → Contains xs x → Has (λ (y : X). y ≡ x) xs
has_it xs x c = has_contained (λ y. y ≡ x) xs x c refl

part_single : (q r : Request) → is_part q r ≡ true → is_mixed q ≡ false
part_single (File q) (File r) is =
    let path = and_parts _ (bytes_eq q.path r.path) is in
    let owned = and_parts _ (beq q.owned r.owned) path.0 in
    let single = and_parts (is_single q.mask.0) (bit_and q.mask.0 r.mask.0 == q.mask.0) owned.0 in
    ap not single.0
part_single (File q) (Link r) is = absurd cc
part_single (File q) (Exec r) is = absurd cc
part_single (File q) (Cap n) is = absurd cc
part_single (File q) (Net f k) is = absurd cc
part_single (File q) (Change n) is = absurd cc
part_single (File q) (Reload m) is = absurd cc
part_single (Link q) r is = refl
part_single (Exec q) r is = refl
part_single (Cap n) r is = refl
part_single (Net f k) r is = refl
part_single (Change n) r is = refl
part_single (Reload m) r is = refl

-- what tells of one by several permissions asks for one
single_covers : (ps qs : List Policy) (y x : Difference) → covers ps qs y x ≡ true → is_mixed y.request ≡ false
single_covers ps qs y x is =
    let signs = and_parts _ (is_as_well (sign_of ps qs y) (sign_of ps qs x)) is in
    let part = and_parts (is_same y.from x.from) (is_part y.request x.request) signs.0 in
    part_single y.request x.request part.1

module _ (d e : Decided) (xs : List Difference) where
  lines_tell : (g : Finding) → Tellers g (gathered d e [] xs []) → (f : Finding) × Contains (lines_of d e xs) f × TellsOf f g
  unfolding lines_of
  lines_tell g h = contained (λ (f : Finding). TellsOf f g) (lines_of d e xs)
      (joined_all_tells [] (joined_all [] (gathered d e [] xs [])) g (joined_all_tells [] (gathered d e [] xs []) g h))

  single_told : (x : Difference) → Contains xs x → is_mixed x.request ≡ false → IsToldBy d e (lines_of d e xs) x
  single_told x c single = lines_tell (finding_of d e x) (unmixed_told d e [] xs [] x single (has_it xs x c))

  by_part : (x : Difference) → ((y : Difference) × Contains xs y × (covers d.policies.now e.policies.now y x ≡ true))
      → IsTold d e xs (lines_of d e xs) x
  by_part x (y, listed, is) = ByPart y listed is (single_told y listed (single_covers d.policies.now e.policies.now y x is))

  told : (x : Difference) → Contains xs x → IsTold d e xs (lines_of d e xs) x
  told x c =
      ⊎_elim
      (λ (h : Tellers (finding_of d e x) (gathered d e [] xs [])). Itself (lines_tell (finding_of d e x) h))
      (λ (h : Has (Covering d e x) xs). by_part x (contained (Covering d e x) xs h))
      (any_told d e [] xs [] x (has_it xs x c))

  of_entry : (f g : Finding) → bare f ≡ bare g → IsOfEntry d e xs f → IsOfEntry d e xs g
  of_entry f g is (x, listed, of) = (x, listed, sym is ∙ of)

  all_of_entries : Each (IsOfEntry d e xs) (lines_of d e xs)
  unfolding lines_of
  all_of_entries =
      joined_all_each (IsOfEntry d e xs) of_entry [] (joined_all [] (gathered d e [] xs [])) tt
      (joined_all_each (IsOfEntry d e xs) of_entry [] (gathered d e [] xs []) tt
      (gathered_each (IsOfEntry d e xs) of_entry d e [] xs [] tt
      (each_of (λ (x : Difference). IsOfEntry d e xs (finding_of d e x)) xs (λ x c. (x, c, refl)))))

  pub are_lines : AreLinesOf d e xs (lines_of d e xs)
  are_lines = record { told = told; entries = λ f c. each_contained (IsOfEntry d e xs) (lines_of d e xs) f all_of_entries c }

-- ---- gains

-- what tells of a gain is one
pub gain_by : (s t : Sign) → is_as_well s t ≡ true → t ≡ Gain → s ≡ Gain
gain_by Gain t is gain = refl
gain_by Loss t is gain = absurd cc
gain_by Other t is gain = absurd cc

-- ---- what is shown of all profiles

or_right : (b : Bool) → (b || true) ≡ true
or_right true = refl
or_right false = refl

wanted_has : (b : Bool) (P : Finding → Type 0) (f : Finding) → b ≡ true → P f → Has P (if b then f ∷ [] else [])
wanted_has true P f is p = inl p
wanted_has false P f is p = absurd cc

pub has_shown : (ps : List Policy) (w : Wanted) (P : Finding → Type 0) → ((f : Finding) → P f → is_wanted ps w f ≡ true)
    → (fs : List Finding) → Has P fs → Has P (shown_of ps w fs)
has_shown ps w P wants [] h = absurd h
has_shown ps w P wants (f ∷ fs) (inl p) = has_front P (wanted_of ps w f) (shown_of ps w fs) (wanted_has (is_wanted ps w f) P f (wants f p) p)
has_shown ps w P wants (f ∷ fs) (inr h) = has_back P (wanted_of ps w f) (shown_of ps w fs) (has_shown ps w P wants fs h)

shown_has_at : (b : Bool) (P : Finding → Type 0) (f : Finding) (rest : List Finding) → Has P ((if b then f ∷ [] else []) ++ rest) → P f ⊎ Has P rest
shown_has_at true P f rest h = h
shown_has_at false P f rest h = inr h

pub shown_has : (ps : List Policy) (w : Wanted) (P : Finding → Type 0) (fs : List Finding) → Has P (shown_of ps w fs) → Has P fs
shown_has ps w P [] h = absurd h
shown_has ps w P (f ∷ fs) h =
    ⊎_elim (λ (p : P f). inl p) (λ (later : Has P (shown_of ps w fs)). inr (shown_has ps w P fs later))
    (shown_has_at (is_wanted ps w f) P f (shown_of ps w fs) h)

-- a gain of any profile is shown
pub gain_wanted : (ps : List Policy) (w : Wanted) → texts w.profiles.now ≡ [] → (f : Finding) → f.sign ≡ Gain → is_wanted ps w f ≡ true
gain_wanted ps w none f gain =
    and_from _ _ (rw gain (or_right (not w.gains))) (ap (λ (names : List (List ℕ)). is_named names (called ps f)) none)

module _ (d e : Decided) (xs : List Difference) where
  abbrev is_gain : Finding → Type 0
  is_gain f = f.sign ≡ Gain

  told_gain : (x y : Difference) → sign_of d.policies.now e.policies.now x ≡ Gain → sign_of d.policies.now e.policies.now y ≡ Gain
      → IsToldBy d e (lines_of d e xs) y → Has is_gain (lines_of d e xs)
  told_gain x y gain is (f, listed, tells) = has_contained is_gain (lines_of d e xs) f listed (tells.sign ∙ is)

  gain_told : (x : Difference) → sign_of d.policies.now e.policies.now x ≡ Gain → IsTold d e xs (lines_of d e xs) x → Has is_gain (lines_of d e xs)
  gain_told x gain (Itself told) = told_gain x x gain gain told
  gain_told x gain (ByPart y listed is told) =
      told_gain x y gain (gain_by (sign_of d.policies.now e.policies.now y) (sign_of d.policies.now e.policies.now x) (and_parts _ _ is).1 gain) told

  gain_entry : (f : Finding) → f.sign ≡ Gain → IsOfEntry d e xs f → OneGains d.policies.now e.policies.now xs
  gain_entry f gain (x, listed, is) = (x, listed, sym (ap (λ (g : Finding). g.sign) is) ∙ gain)

  gains_shown : (w : Wanted) → texts w.profiles.now ≡ []
      → OneIsGain (shown_of d.policies.now w (lines_of d e xs)) ↔ OneGains d.policies.now e.policies.now xs
  gains_shown w none = (
    (λ (one : OneIsGain (shown_of d.policies.now w (lines_of d e xs))).
        let h = shown_has d.policies.now w is_gain (lines_of d e xs) (has_contained is_gain (shown_of d.policies.now w (lines_of d e xs)) one.0 one.1 one.2) in
        let found = contained is_gain (lines_of d e xs) h in
        gain_entry found.0 found.2 ((are_lines d e xs).entries found.0 found.1)),
    (λ (one : OneGains d.policies.now e.policies.now xs).
        contained is_gain (shown_of d.policies.now w (lines_of d e xs))
        (has_shown d.policies.now w is_gain (gain_wanted d.policies.now w none) (lines_of d e xs) (gain_told one.0 one.2 ((are_lines d e xs).told one.0 one.1)))),
  )

pub lines_tell_entries : LinesTellEntries
lines_tell_entries = record { lines = are_lines; gains = gains_shown }
