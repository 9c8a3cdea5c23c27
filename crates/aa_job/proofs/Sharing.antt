-- Names that are kept with what they stand for.
use Rattle.std.proofs.Common.{◌≡◌, ◌⊎◌, inl, inr, ℕ, ◌+◌, ◌<◌, Bool, true, false, cond, List, [], ◌∷◌, ◌++◌, length, take, get_or, Option, Some, None, refl, sym, ap, subst, ◌∙◌, arith, rules}
use Rattle.std.specs.Prelude.{◌↔◌, ◌||◌, option_map, option_to_list, flat_map, slice_get, is_some, map, Result, Err, IfErr, IsSome, Contains, if◌then◌else◌}
use Rattle.std.specs.Borrow.{Bor}
use Rattle.std.specs.Option.{option_or}
use Rattle.std.specs.declared.cmp.Ordering.{Ordering}
use Rattle.std.specs.declared.cmp.Ordering.TheVariants.{Less, Equal, Greater}
use Rattle.std.specs.Ordering.{nat_cmp, is_eq, match_ordering}
use Rattle.std.specs.List.{AllByRecursion, list_any}
use Rattle.std.specs.List.Sorted.{IsStrictlySortedBy}
use Rattle.std.specs.Cmp.Lexicographic.{slice_cmp}
use Rattle.std.specs.BTreeMap.{insert_entry}
use Rattle.std.specs.Map.{lookup, keys_of}
use Rattle.std.specs.Str.{bytes_eq}
use Rattle.std.proofs.lemmas.Cmp.{nat_list_cmp_total, tied_itself, eq_by_cmp_equiv}
use Rattle.std.proofs.lemmas.List.{take_more, take_all}
use Rattle.std.proofs.lemmas.Bool.{cases_lt}
use Rattle.std.proofs.lemmas.Map.Lookups.{exact_bytes}
use Rattle.std.proofs.lemmas.Map.Views.{Contains-from_any, list_any-from_Contains}
use Rattle.std.proofs.lemmas.Option.{slice_get-get_or, get_or_from_slice_get}
use Rattle.aa_text.specs.declared.fault.FaultReport.{FaultReport}
use Rattle.aa_files.specs.declared.unit.Source.{Source}
use Rattle.aa_files.specs.declared.unit.Unit as unit
use Rattle.aa_files.specs.declared.unit.UnitFault.{UnitFault}
use Rattle.aa_files.specs.declared.unit.UnitFault.TheVariants.{NoMemory, At, Ambiguous}
use Rattle.aa_files.specs.Walks.{Entry, known_of}
use Rattle.aa_job.specs.declared.shared.Meaning.{Meaning}
use Rattle.aa_job.specs.Shared.{Meant, source_of, meant_by, meaning_in, first_meaning, is_same, source_in, source_named, meant, Kept, kept_meaning, sources_in}
use Rattle.aa_job.specs.Shared.{AddsName, NameStays, AddsNames, IsOtherwise, AgreesWith, AgreeBelow, AreShared, NamedIn, IsAmbiguous, told, IsTakenOtherwise}
use Rattle.aa_files.proofs.Known.{tied}

-- ---- one name

abbrev by_name : Bor (List ℕ) → Bor (List ℕ) → Ordering
by_name a b = slice_cmp nat_cmp a.now b.now

abbrev find : List ℕ → Kept → Option Meaning
find q es = lookup (λ k. is_eq (slice_cmp nat_cmp q k.now)) es

swapped : (a b : Bool) (x y z : Option Meaning) → (a ≡ true → b ≡ true → x ≡ y) → cond a x (cond b y z) ≡ cond b y (cond a x z)
swapped true true x y z h = h refl refl
swapped true false x y z h = refl
swapped false true x y z h = refl
swapped false false x y z h = refl

find_insert : (es : Kept) (k : Bor (List ℕ)) (v : Meaning) (q : List ℕ) → find k.now es ≡ None → find q (insert_entry by_name es k v) ≡ cond (is_eq (slice_cmp nat_cmp q k.now)) (Some v) (find q es)
find_insert [] k v q h = refl
find_insert (e ∷ es) k v q h = by (slice_cmp nat_cmp k.now e.0.now) refl h (λ g. find_insert es k v q g)
  where
    by : (r : Ordering) → slice_cmp nat_cmp k.now e.0.now ≡ r → cond (is_eq r) (Some e.1) (find k.now es) ≡ None
        → (find k.now es ≡ None → find q (insert_entry by_name es k v) ≡ cond (is_eq (slice_cmp nat_cmp q k.now)) (Some v) (find q es))
        → find q (match_ordering r ((k, v) ∷ e ∷ es) ((e.0, v) ∷ es) (e ∷ insert_entry by_name es k v)) ≡ cond (is_eq (slice_cmp nat_cmp q k.now)) (Some v) (find q (e ∷ es))
    by Less r h later = refl
    by Equal r h later = cc
    by Greater r h later =
        let apart : is_eq (slice_cmp nat_cmp q e.0.now) ≡ true → is_eq (slice_cmp nat_cmp q k.now) ≡ true
        → Some e.1 ≡ Some v = λ a b. absurd
        (differ r (exact_bytes q e.0.now (tied (slice_cmp nat_cmp q e.0.now) a)) (exact_bytes q k.now (tied (slice_cmp nat_cmp q k.now) b))) in
        ap (λ (w : Option Meaning). cond (is_eq (slice_cmp nat_cmp q e.0.now)) (Some e.1) w) (later h) ∙ swapped (is_eq (slice_cmp nat_cmp q e.0.now)) (is_eq (slice_cmp nat_cmp q k.now)) (Some e.1) (Some v) (find q es) apart
      where
        differ : slice_cmp nat_cmp k.now e.0.now ≡ Greater → q ≡ e.0.now → q ≡ k.now → ⊥
        differ g a b = let t : slice_cmp nat_cmp q q ≡ Equal = tied_itself nat_list_cmp_total q in
            let u : slice_cmp nat_cmp k.now e.0.now ≡ slice_cmp nat_cmp q q = cc in cc

or_none : {X : Type 0} (x : Option X) → option_or x None ≡ x
or_none None = refl
or_none (Some x) = refl

abbrev shown : Option Meaning → Option Meant
shown o = option_map meant o

-- one that is kept already
pub adds_kept : (name : List ℕ) (m first : Meant) (kept : Kept) → kept_meaning name kept ≡ Some first → is_same first.source m.source ≡ true → AddsName name m kept kept
adds_kept name m first kept is same = record {
  agrees = λ other e. subst (λ (o : Meant). is_same o.source m.source ≡ true) (let h : first ≡ other = cc in h) same;
  adds = λ n. by n (slice_cmp nat_cmp n name) refl;
}
  where
    by : (n : List ℕ) (r : Ordering) → slice_cmp nat_cmp n name ≡ r → kept_meaning n kept ≡ option_or (kept_meaning n kept) (if is_eq r then Some m else None)
    by n Less e = sym (or_none (kept_meaning n kept))
    by n Equal e =
        let here : kept_meaning n kept ≡ Some first = ap (λ (x : List ℕ). kept_meaning x kept) (exact_bytes n name e) ∙ is in
        here ∙ sym (ap (λ (o : Option Meant). option_or o (Some m)) here)
    by n Greater e = sym (or_none (kept_meaning n kept))

none_shown : (o : Option Meaning) → o ≡ None → shown o ≡ None
none_shown o e = ap shown e

-- a new one
pub adds_new : (k : Bor (List ℕ)) (v : Meaning) (before after : Kept) → find k.now before ≡ None → after ≡ insert_entry by_name before k v → AddsName k.now (meant v) before after
adds_new k v before after none is = record {
  agrees = λ first e. absurd (let h : kept_meaning k.now before ≡ None = none_shown (find k.now before) none in let g : Some first ≡ None = sym e ∙ h in let b : ⊥ = cc in b);
  adds = λ n. ap (kept_meaning n) is ∙ ap shown (find_insert before k v n none) ∙ by n (slice_cmp nat_cmp n k.now) refl;
}
  where
    by : (n : List ℕ) (r : Ordering) → slice_cmp nat_cmp n k.now ≡ r
        → shown (cond (is_eq r) (Some v) (find n before)) ≡ option_or (kept_meaning n before) (if is_eq r then Some (meant v) else None)
    by n Less e = sym (or_none (kept_meaning n before))
    by n Equal e =
        let here : kept_meaning n before ≡ None = ap (λ (x : List ℕ). kept_meaning x before) (exact_bytes n k.now e) ∙ none_shown (find k.now before) none in
        sym (ap (λ (o : Option Meant). option_or o (Some (meant v))) here)
    by n Greater e = sym (or_none (kept_meaning n before))

-- ---- the names of a unit

abbrev rest_meaning : unit.Unit → List Entry → List ℕ → Option Meant
rest_meaning u rest n = option_map (meant_by u) (known_of rest n)

-- these names of a unit are left
pub record Adding (u : unit.Unit) (rest : List Entry) (before now : Kept) : Type 0 where
  pub whole : (n : List ℕ) → option_or (kept_meaning n now) (rest_meaning u rest n) ≡ option_or (kept_meaning n before) (meaning_in u n)
  pub stays : (n : List ℕ) (first : Meant) → kept_meaning n before ≡ Some first → kept_meaning n now ≡ Some first
  pub agrees : (n : List ℕ) (first m : Meant) → kept_meaning n before ≡ Some first → meaning_in u n ≡ Some m → (is_same first.source m.source ≡ true) ⊎ (rest_meaning u rest n ≡ Some m)

pub adding_start : (u : unit.Unit) (kept : Kept) → Adding u u.known.entries kept kept
adding_start u kept = record { whole = λ n. refl; stays = λ n first e. e; agrees = λ n first m e f. inr f }

or_both : {X : Type 0} (x y z : Option X) → option_or (option_or x y) z ≡ option_or x (option_or y z)
or_both None y z = refl
or_both (Some x) y z = refl

pub adding_next : (u : unit.Unit) (e : Entry) (rest : List Entry) (before now next : Kept) → AddsName e.0.items (meant_by u e.1) now next → Adding u (e ∷ rest) before now → Adding u rest before next
adding_next u e rest before now next adds so_far = record {
  whole = λ n. ap (λ (o : Option Meant). option_or o (rest_meaning u rest n)) (adds.adds n)
      ∙ or_both (kept_meaning n now) (if is_eq (slice_cmp nat_cmp n e.0.items) then Some (meant_by u e.1) else None) (rest_meaning u rest n)
      ∙ ap (λ (o : Option Meant). option_or (kept_meaning n now) o) (step n (slice_cmp nat_cmp n e.0.items)) ∙ so_far.whole n;
  stays = λ n first h. adds.adds n ∙ ap (λ (o : Option Meant). option_or o (if is_eq (slice_cmp nat_cmp n e.0.items) then Some (meant_by u e.1) else None)) (so_far.stays n first h);
  agrees = λ n first m f h. elim (so_far.agrees n first m f h) [
    | inl same ↦ inl same
    | inr left ↦ here n first m (so_far.stays n first f) (slice_cmp nat_cmp n e.0.items) refl left
  ];
}
  where
    step : (n : List ℕ) (r : Ordering)
        → option_or (if is_eq r then Some (meant_by u e.1) else None) (rest_meaning u rest n) ≡ option_map (meant_by u) (cond (is_eq r) (Some e.1) (known_of rest n))
    step n Less = refl
    step n Equal = refl
    step n Greater = refl

    here : (n : List ℕ) (first m : Meant) → kept_meaning n now ≡ Some first → (r : Ordering) → slice_cmp nat_cmp n e.0.items ≡ r
        → option_map (meant_by u) (cond (is_eq r) (Some e.1) (known_of rest n)) ≡ Some m → (is_same first.source m.source ≡ true) ⊎ (rest_meaning u rest n ≡ Some m)
    here n first m is Less r left = inr left
    here n first m is Equal r left =
        let known : kept_meaning e.0.items now ≡ Some first = ap (λ (x : List ℕ). kept_meaning x now) (sym (exact_bytes n e.0.items r)) ∙ is in
        let that : meant_by u e.1 ≡ m = cc in
        inl (subst (λ (x : Meant). is_same first.source x.source ≡ true) that (adds.agrees first known))
    here n first m is Greater r left = inr left

pub adding_end : (u : unit.Unit) (before now : Kept) → Adding u [] before now → AddsNames u before now
adding_end u before now so_far = record {
  agrees = λ n first m e f. elim (so_far.agrees n first m e f) [ inl same ↦ same | inr left ↦ absurd (none_left m left) ];
  adds = λ n. sym (or_none (kept_meaning n now)) ∙ so_far.whole n;
}
  where
    none_left : (m : Meant) → None ≡ Some m → ⊥
    none_left m e = cc

same_itself : (bs : List ℕ) → bytes_eq bs bs ≡ true
same_itself bs = search rules

itself : (o : Option Source) → is_same o o ≡ true
itself None = refl
itself (Some s) = same_itself s.text.items

not_both : (b : Bool) → b ≡ true → b ≡ false → ⊥
not_both true a b = cc
not_both false a b = cc

-- a name of the unit that is kept and stands for something else
pub adding_stops : (u : unit.Unit) (name : List ℕ) (m : Meant) (rest : List Entry) (before now : Kept) (r : FaultReport) → m.by ≡ u
    → meaning_in u name ≡ Some m → NameStays name m now r → Adding u rest before now → IsOtherwise u before r
adding_stops u name m rest before now r own is stays so_far =
    let whole : Some stays.first ≡ option_or (kept_meaning name before) (Some m) =
    sym (ap (λ (o : Option Meant). option_or o (rest_meaning u rest name)) stays.is) ∙ so_far.whole name ∙ ap (λ (o : Option Meant). option_or (kept_meaning name before) o) is in
    by (kept_meaning name before) refl whole
  where
    by : (o : Option Meant) → kept_meaning name before ≡ o → Some stays.first ≡ option_or o (Some m) → IsOtherwise u before r
    by None e whole =
        let same : stays.first ≡ m = cc in
        let yes : is_same stays.first.source m.source ≡ true = subst (λ (x : Meant). is_same x.source m.source ≡ true) (sym same) (itself m.source) in
        absurd (not_both (is_same stays.first.source m.source) yes stays.other)
    by (Some first) e whole =
        let same : stays.first ≡ first = cc in
        record {
          name = name;
          first = first;
          here = m;
          first_is = e;
          here_is = is;
          other = subst (λ (x : Meant). is_same x.source m.source ≡ false) same stays.other;
          said = subst (λ (x : Meant). IsAmbiguous u name (told x.by.path.items x.source m.source) r) same (subst (λ (x : unit.Unit). IsAmbiguous x name (told stays.first.by.path.items stays.first.source m.source) r) own stays.said);
        }

-- the same of an entry as the code has it
pub adding_one : (u : unit.Unit) (e : Entry) (rest left : List Entry) (before now next : Kept) (name : List ℕ) (sources : List Source) (source : Option Source)
    → left ≡ e ∷ rest → name ≡ e.0.items → sources ≡ u.sources.items → source ≡ source_of sources e.1
    → AddsName name (record { by = u; source = source }) now next → Adding u left before now → Adding u rest before next
adding_one u e rest left before now next name sources source is named all found adds so_far =
    adding_next u e rest before now next
    (subst (λ (n : List ℕ). AddsName n (meant_by u e.1) now next) named (subst (λ (s : Option Source). AddsName name (record { by = u; source = s }) now next) (found ∙ ap (λ (l : List Source). source_of l e.1) all) adds))
    (subst (λ (es : List Entry). Adding u es before now) is so_far)

pub stops_at : (u : unit.Unit) (e : Entry) (left : List Entry) (before now : Kept) (r : FaultReport) (name : List ℕ) (sources : List Source) (source : Option Source)
    → name ≡ e.0.items → sources ≡ u.sources.items → source ≡ source_of sources e.1 → known_of u.known.entries e.0.items ≡ Some e.1
    → Adding u left before now → NameStays name (record { by = u; source = source }) now r → IsOtherwise u before r
stops_at u e left before now r name sources source named all found known so_far stays =
    adding_stops u name (record { by = u; source = source }) left before now r refl
    (ap (λ (n : List ℕ). meaning_in u n) named ∙ ap (λ (o : Option (Option ℕ)). option_map (meant_by u) o) known
    ∙ ap (λ (s : Option Source). Some (record { by = u; source = s })) (sym (found ∙ ap (λ (l : List Source). source_of l e.1) all)))
    stays so_far

-- ---- the names of units

-- the units before a number are taken together
pub record Sharing (units : List unit.Unit) (i : ℕ) (kept : Kept) : Type 0 where
  pub each : (n : List ℕ) → kept_meaning n kept ≡ first_meaning (take i units) n
  pub agree : AgreeBelow units i

first_more : (us : List unit.Unit) (u : unit.Unit) (n : List ℕ) → first_meaning (us ++ u ∷ []) n ≡ option_or (first_meaning us n) (meaning_in u n)
first_more [] u n = or_none (meaning_in u n)
first_more (v ∷ vs) u n = ap (λ (o : Option Meant). option_or (meaning_in v n) o) (first_more vs u n) ∙ sym (or_both (meaning_in v n) (first_meaning vs n) (meaning_in u n))

pub sharing_start : (units : List unit.Unit) (kept : Kept) → kept ≡ [] → Sharing units 0 kept
sharing_start units kept e = record { each = λ n. ap (kept_meaning n) e; agree = λ k u lt is. absurd (omega arith) }

pub sharing_next : (units : List unit.Unit) (i : ℕ) (u : unit.Unit) (kept next : Kept) → i < length units → u ≡ get_or units i u → AddsNames u kept next → Sharing units i kept → Sharing units (i + 1) next
sharing_next units i u kept next lt item adds so_far = record {
  each = λ n. adds.adds n ∙ ap (λ (o : Option Meant). option_or o (meaning_in u n)) (so_far.each n) ∙ sym (first_more (take i units) u n)
      ∙ ap (λ (us : List unit.Unit). first_meaning us n) (ap (λ (v : unit.Unit). take i units ++ v ∷ []) item ∙ sym (take_more units i u lt));
  agree = λ k v below is. elim (cases_lt k i) [
    | inl less ↦ so_far.agree k v less is
    | inr le ↦ let here : k ≡ i = omega arith in subst (λ (m : ℕ). AgreesWith (take m units) v) (sym here) (last v (ap (λ (m : ℕ). slice_get units m) (sym here) ∙ is))
  ];
}
  where
    last : (v : unit.Unit) → slice_get units i ≡ Some v → AgreesWith (take i units) v
    last v is = λ name first m f h.
        let same : u ≡ v = item ∙ get_or_from_slice_get units i v u is in
        adds.agrees name first m (so_far.each name ∙ f) (ap (λ (x : unit.Unit). meaning_in x name) same ∙ h)

pub sharing_stops : (units : List unit.Unit) (i : ℕ) (u : unit.Unit) (kept : Kept) (r : FaultReport) → i < length units → u ≡ get_or units i u → Sharing units i kept → IsOtherwise u kept r → IsTakenOtherwise units r
sharing_stops units i u kept r lt item so_far is = record {
  number = i;
  one = u;
  is = slice_get-get_or units i u lt ∙ ap (λ (v : unit.Unit). Some v) (sym item);
  agree = so_far.agree;
  name = is.name;
  first = is.first;
  here = is.here;
  first_is = sym (so_far.each is.name) ∙ is.first_is;
  here_is = is.here_is;
  other = is.other;
  said = is.said;
}

pub named_weaker : (P Q : FaultReport → Type 0) (why : UnitFault) → ((r : FaultReport) → P r → Q r) → NamedIn P why → NamedIn Q why
named_weaker P Q NoMemory h p = tt
named_weaker P Q (At path why) h p = absurd p
named_weaker P Q (Ambiguous r) h p = h r p

pub handed_on : {T : Type 0} (r : Result T UnitFault) (e f : UnitFault) (P Q : FaultReport → Type 0) → r ≡ Err e → e ≡ f → ((x : FaultReport) → P x → Q x) → NamedIn P f → IfErr r (NamedIn Q)
handed_on {T} r e f P Q is same h p = subst (λ (x : Result T UnitFault). IfErr x (NamedIn Q)) (sym is) (subst (NamedIn Q) (sym same) (named_weaker P Q f h p))

-- ---- the sources of names that are kept in order

abbrev names_of : Kept → List (List ℕ)
names_of es = map (λ (e : Bor (List ℕ) × Meaning). e.0.now) es

abbrev are_now : Bor (List ℕ) → Bor (List ℕ) → Ordering
are_now a b = slice_cmp nat_cmp a.now b.now

below_names : (k : List ℕ) (es : Kept) → AllByRecursion (λ (y : Bor (List ℕ)). slice_cmp nat_cmp k y.now ≡ Less) (keys_of es) → AllByRecursion (λ y. slice_cmp nat_cmp k y ≡ Less) (names_of es)
below_names k [] h = tt
below_names k (e ∷ es) h = (h.0, below_names k es h.1)

names_in_order : (es : Kept) → IsStrictlySortedBy are_now (keys_of es) → IsStrictlySortedBy (slice_cmp nat_cmp) (names_of es)
unfolding IsStrictlySortedBy
names_in_order [] h = tt
names_in_order (e ∷ es) h = (below_names e.0.now es h.0, names_in_order es h.1)

abbrev is_at : List ℕ → List ℕ → Bool
is_at q k = is_eq (slice_cmp nat_cmp q k)

shown_there : (q : List ℕ) (es : Kept) → is_some (kept_meaning q es) ≡ list_any (is_at q) (names_of es)
shown_there q [] = refl
shown_there q (e ∷ es) = by (is_at q e.0.now) (shown_there q es)
  where
    by : (b : Bool) → is_some (kept_meaning q es) ≡ list_any (is_at q) (names_of es) → is_some (option_map meant (cond b (Some e.1) (find q es))) ≡ (b || list_any (is_at q) (names_of es))
    by true h = refl
    by false h = h

at_is : (x y : List ℕ) → is_at x y ≡ true → x ≡ y
at_is x y e = exact_bytes x y (tied (slice_cmp nat_cmp x y) e)

each_named : (q : List ℕ) (es : Kept) → IsSome (kept_meaning q es) ↔ Contains (names_of es) q
each_named q es = (
  (λ h. Contains-from_any at_is q (names_of es) (sym (shown_there q es) ∙ h)),
  (λ h. shown_there q es ∙ list_any-from_Contains (eq_by_cmp_equiv nat_list_cmp_total) q (names_of es) h),
)

abbrev IsFound : Kept → Bor (List ℕ) × Meaning → Type 0
IsFound all e = kept_meaning e.0.now all ≡ Some (meant e.1)

found_behind : (x : Bor (List ℕ) × Meaning) (all es : Kept)
    → AllByRecursion (λ (y : Bor (List ℕ)). slice_cmp nat_cmp x.0.now y.now ≡ Less) (keys_of es) → AllByRecursion (IsFound all) es
    → AllByRecursion (IsFound (x ∷ all)) es
found_behind x all [] h f = tt
found_behind x all (e ∷ es) h f = (by (slice_cmp nat_cmp e.0.now x.0.now) refl, found_behind x all es h.1 f.1)
  where
    differ : slice_cmp nat_cmp e.0.now x.0.now ≡ Equal → ⊥
    differ g =
        let same : e.0.now ≡ x.0.now = exact_bytes e.0.now x.0.now g in
        let t : slice_cmp nat_cmp x.0.now x.0.now ≡ Equal = tied_itself nat_list_cmp_total x.0.now in
        let u : slice_cmp nat_cmp x.0.now x.0.now ≡ Less = ap (λ (k : List ℕ). slice_cmp nat_cmp x.0.now k) (sym same) ∙ h.0 in
        cc

    by : (r : Ordering) → slice_cmp nat_cmp e.0.now x.0.now ≡ r → option_map meant (cond (is_eq r) (Some x.1) (find e.0.now all)) ≡ Some (meant e.1)
    by Less g = f.0
    by Equal g = absurd (differ g)
    by Greater g = f.0

found_each : (es : Kept) → IsStrictlySortedBy are_now (keys_of es) → AllByRecursion (IsFound es) es
unfolding IsStrictlySortedBy
found_each [] h = tt
found_each (x ∷ xs) h = (
  ap (λ (r : Ordering). option_map meant (cond (is_eq r) (Some x.1) (find x.0.now xs))) (tied_itself nat_list_cmp_total x.0.now),
  found_behind x xs xs h.0 (found_each xs h.1),
)

sources_named : (units : List unit.Unit) (all es : Kept) → ((n : List ℕ) → kept_meaning n all ≡ first_meaning units n) → AllByRecursion (IsFound all) es
    → sources_in es ≡ flat_map (λ n. option_to_list (source_named units n)) (names_of es)
sources_named units all [] each f = refl
sources_named units all (e ∷ es) each f =
    ap (λ (o : Option Meant). option_to_list (source_in o) ++ sources_in es) (sym f.0 ∙ each e.0.now)
    ∙ ap (λ (l : List Source). option_to_list (source_named units e.0.now) ++ l) (sources_named units all es each f.1)

pub sharing_end : (units : List unit.Unit) (kept : Kept) (sources : List Source) → IsStrictlySortedBy are_now (keys_of kept) → Sharing units (length units) kept → sources ≡ sources_in kept → AreShared units sources
sharing_end units kept sources order so_far is = record {
  agree = so_far.agree;
  names = names_of kept;
  in_order = names_in_order kept order;
  each = λ n. subst (λ (o : Option Meant). IsSome o ↔ Contains (names_of kept) n) (each n) (each_named n kept);
  sources_are = is ∙ sources_named units kept kept each (found_each kept order);
}
  where
    each : (n : List ℕ) → kept_meaning n kept ≡ first_meaning units n
    each n = so_far.each n ∙ ap (λ (us : List unit.Unit). first_meaning us n) (take_all (length units) units (omega arith))
