-- The sources that units share stand in a job in their own order, and so what is written is read as them.
use Rattle.std.proofs.Common.{◌≡◌, ℕ, suc, ◌+◌, ◌≤◌, List, [], ◌∷◌, ◌++◌, length, map, drop, Option, Some, None, refl, sym, ap, subst, ◌∙◌, arith}
use Rattle.std.specs.Prelude.{flat_map, option_map, option_to_list, slice_get}
use Rattle.std.specs.Option.{option_or}
use Rattle.std.specs.declared.cmp.Ordering.{Ordering}
use Rattle.std.specs.declared.cmp.Ordering.TheVariants.{Less, Equal, Greater}
use Rattle.std.specs.Ordering.{nat_cmp, match_ordering, ordering_reverse}
use Rattle.std.specs.List.{AllByRecursion}
use Rattle.std.specs.List.Sorted.{IsStrictlySortedBy}
use Rattle.std.specs.Cmp.Lexicographic.{slice_cmp}
use Rattle.std.proofs.lemmas.Cmp.{nat_list_cmp_total}
use Rattle.std.proofs.lemmas.List.{append-nil, append_assoc, length-append}
use Rattle.std.proofs.Math.Seq.{drop-append_seam}
use Rattle.aa_notation.specs.declared.job.Include.{Include}
use Rattle.aa_notation.specs.Jobs.{job_text}
use Rattle.aa_words.specs.declared.include.Include as jobs
use Rattle.aa_jobs.specs.Jobs.{job_of}
use Rattle.aa_round_trip_laws.specs.Jobs.{put_text, in_order, JobsAreRead}
use Rattle.aa_files.specs.declared.unit.Source.{Source}
use Rattle.aa_files.specs.declared.unit.Unit as unit
use Rattle.aa_files.specs.Numbers.{named_text}
use Rattle.aa_files.specs.Walks.{known_of}
use Rattle.aa_job.specs.Shared.{Meant, meant_by, meaning_in, first_meaning, source_in, source_named, AreShared}
use Rattle.aa_job.specs.Jobs.{named_include, AreIncludes}
use Rattle.aa_round_trip_laws.specs.Printed.{IsLoaded, AreLoaded, include_of, PrintedJobsAreRead}

-- ---- texts whose names stand in order

abbrev by_bytes : List ℕ → List ℕ → Ordering
by_bytes a b = slice_cmp nat_cmp a b

abbrev in_order_of : List (List ℕ × List ℕ) → List jobs.Include → List jobs.Include
in_order_of [] found = found
in_order_of (p ∷ ps) found = in_order_of ps (put_text p.0 p.1 found)

in_order_is : (is : List Include) (found : List jobs.Include) → in_order is found ≡ in_order_of (map named_include is) found
in_order_is [] found = refl
in_order_is (i ∷ is) found = in_order_is is (put_text i.name.now i.text.now found)

above : (x y : List ℕ) → by_bytes x y ≡ Less → by_bytes y x ≡ Greater
above x y e = nat_list_cmp_total.antisymm y x ∙ ap ordering_reverse e

put_last : (name text : List ℕ) (found : List jobs.Include) → AllByRecursion (λ (i : jobs.Include). by_bytes name i.name ≡ Greater) found → put_text name text found ≡ found ++ record { name = name; text = text } ∷ []
put_last name text [] h = refl
put_last name text (i ∷ is) h = by (by_bytes name i.name) h.0 (put_last name text is h.1)
  where
    by : (r : Ordering) → r ≡ Greater → put_text name text is ≡ is ++ record { name = name; text = text } ∷ []
        → match_ordering r (record { name = name; text = text } ∷ i ∷ is) (record { name = i.name; text = text } ∷ is) (i ∷ put_text name text is) ≡ i ∷ (is ++ record { name = name; text = text } ∷ [])
    by Less e g = cc
    by Equal e g = cc
    by Greater e g = ap (λ (l : List jobs.Include). i ∷ l) g

abbrev IsAbove : List jobs.Include → Source → Type 0
IsAbove found s = AllByRecursion (λ (i : jobs.Include). by_bytes s.name.items i.name ≡ Greater) found

abbrev names_of : List Source → List (List ℕ)
names_of ss = map (λ (s : Source). s.name.items) ss

abbrev AllBelow : List ℕ → List (List ℕ) → Type 0
AllBelow x names = AllByRecursion (λ y. by_bytes x y ≡ Less) names

all_more : (P : jobs.Include → Type 0) (found : List jobs.Include) (i : jobs.Include) → AllByRecursion P found → P i → AllByRecursion P (found ++ i ∷ [])
all_more P [] i a h = (h, tt)
all_more P (x ∷ xs) i a h = (a.0, all_more P xs i a.1 h)

above_more : (xs : List Source) (found : List jobs.Include) (x : Source) → AllByRecursion (IsAbove found) xs → AllBelow x.name.items (names_of xs) → AllByRecursion (IsAbove (found ++ include_of x ∷ [])) xs
above_more [] found x a b = tt
above_more (y ∷ ys) found x a b = (all_more (λ (i : jobs.Include). by_bytes y.name.items i.name ≡ Greater) found (include_of x) a.0 (above x.name.items y.name.items b.0), above_more ys found x a.1 b.1)

put_all : (ss : List Source) (found : List jobs.Include) → AllByRecursion (IsAbove found) ss → IsStrictlySortedBy (slice_cmp nat_cmp) (names_of ss) → in_order_of (map named_text ss) found ≡ found ++ map include_of ss
unfolding IsStrictlySortedBy
put_all [] found a s = sym (append-nil found)
put_all (x ∷ xs) found a s =
    ap (in_order_of (map named_text xs)) (put_last x.name.items x.text.items found a.0)
    ∙ put_all xs (found ++ include_of x ∷ []) (above_more xs found x a.1 s.0) s.1
    ∙ append_assoc found (include_of x ∷ []) (map include_of xs)

above_none : (ss : List Source) → AllByRecursion (IsAbove []) ss
above_none [] = tt
above_none (s ∷ ss) = (tt, above_none ss)

-- ---- sources by names in order

abbrev found_at : (List ℕ → Option Source) → List (List ℕ) → List Source
found_at f ns = flat_map (λ n. option_to_list (f n)) ns

abbrev Leads : (List ℕ → Option Source) → Type 0
Leads f = (n : List ℕ) (s : Source) → f n ≡ Some s → s.name.items ≡ n

below_found : (f : List ℕ → Option Source) → Leads f → (x : List ℕ) (ns : List (List ℕ)) → AllBelow x ns → AllBelow x (names_of (found_at f ns))
below_found f led x [] h = tt
below_found f led x (n ∷ ns) h = by (f n) refl (below_found f led x ns h.1)
  where
    by : (o : Option Source) → f n ≡ o → AllBelow x (names_of (found_at f ns)) → AllBelow x (names_of (option_to_list o ++ found_at f ns))
    by None e later = later
    by (Some s) e later = (subst (λ (k : List ℕ). by_bytes x k ≡ Less) (sym (led n s e)) h.0, later)

sorted_found : (f : List ℕ → Option Source) → Leads f → (ns : List (List ℕ)) → IsStrictlySortedBy (slice_cmp nat_cmp) ns → IsStrictlySortedBy (slice_cmp nat_cmp) (names_of (found_at f ns))
unfolding IsStrictlySortedBy
sorted_found f led [] h = tt
sorted_found f led (n ∷ ns) h = by (f n) refl (sorted_found f led ns h.1)
  where
    by : (o : Option Source) → f n ≡ o → IsStrictlySortedBy (slice_cmp nat_cmp) (names_of (found_at f ns)) → IsStrictlySortedBy (slice_cmp nat_cmp) (names_of (option_to_list o ++ found_at f ns))
    by None e later = later
    by (Some s) e later = (subst (λ (k : List ℕ). AllBelow k (names_of (found_at f ns))) (sym (led n s e)) (below_found f led n ns h.0), later)

-- ---- a name leads to a source of that name

abbrev NamesLead : unit.Unit → Type 0
NamesLead u = (name : List ℕ) (n : ℕ) → known_of u.known.entries name ≡ Some (Some n) → (s : Source) × (slice_get u.sources.items n ≡ Some s) × (s.name.items ≡ name)

names_lead : (u : unit.Unit) → IsLoaded u → NamesLead u
names_lead u loaded = loaded.is.walk.led

led_in : (u : unit.Unit) → NamesLead u → (name : List ℕ) (m : Meant) (s : Source) → meaning_in u name ≡ Some m → m.source ≡ Some s → s.name.items ≡ name
led_in u lead name m s is e = by (known_of u.known.entries name) refl is
  where
    by : (o : Option (Option ℕ)) → known_of u.known.entries name ≡ o → option_map (meant_by u) o ≡ Some m → s.name.items ≡ name
    by None k h = cc
    by (Some None) k h =
        let same : meant_by u None ≡ m = cc in
        let none : None ≡ Some s = ap (λ (x : Meant). x.source) same ∙ e in
        absurd (let b : ⊥ = cc in b)
    by (Some (Some n)) k h =
        let l = lead name n k in
        let same : meant_by u (Some n) ≡ m = cc in
        let there : slice_get u.sources.items n ≡ Some s = ap (λ (x : Meant). x.source) same ∙ e in
        let both : Some l.0 ≡ Some s = sym l.1 ∙ there in
        let one : l.0 ≡ s = cc in
        ap (λ (x : Source). x.name.items) (sym one) ∙ l.2

led_first : (units : List unit.Unit) → AreLoaded units → (name : List ℕ) (m : Meant) (s : Source) → first_meaning units name ≡ Some m → m.source ≡ Some s → s.name.items ≡ name
led_first [] all name m s is e = cc
led_first (u ∷ us) all name m s is e = by (meaning_in u name) refl is (λ h. led_first us (λ i v g. all (suc i) v g) name m s h e)
  where
    by : (o : Option Meant) → meaning_in u name ≡ o → option_or o (first_meaning us name) ≡ Some m → (first_meaning us name ≡ Some m → s.name.items ≡ name) → s.name.items ≡ name
    by None k h later = later h
    by (Some x) k h later = let same : x ≡ m = cc in led_in u (names_lead u (all 0 u refl)) name m s (k ∙ ap Some same) e

led : (units : List unit.Unit) → AreLoaded units → Leads (source_named units)
led units all name s is = by (first_meaning units name) refl is
  where
    by : (o : Option Meant) → first_meaning units name ≡ o → source_in o ≡ Some s → s.name.items ≡ name
    by None k h = cc
    by (Some m) k h = led_first units all name m s k h

-- ---- the law

ordered : (units : List unit.Unit) (sources : List Source) → AreShared units sources → AreLoaded units → IsStrictlySortedBy (slice_cmp nat_cmp) (names_of sources)
ordered units sources shared all = subst (λ (ss : List Source). IsStrictlySortedBy (slice_cmp nat_cmp) (names_of ss)) (sym shared.sources_are) (sorted_found (source_named units) (led units all) shared.names shared.in_order)

stays : (includes : List Include) (sources : List Source) → AreIncludes sources includes → IsStrictlySortedBy (slice_cmp nat_cmp) (names_of sources) → in_order includes [] ≡ map include_of sources
stays includes sources are order = in_order_is includes [] ∙ ap (λ (ps : List (List ℕ × List ℕ)). in_order_of ps []) are ∙ put_all sources [] (above_none sources) order

few_of : (old new text : List ℕ) → new ≡ old ++ text → length new ≤ length old + 16777216 → length text ≤ 16777216
few_of old new text e few = omega (arith, few, ap length e, length-append old text)

pub printed : JobsAreRead → PrintedJobsAreRead
printed read units ps sources tasks states old new j loaded shared written can few parts =
    ap job_of (ap (drop (length old)) written.written ∙ drop-append_seam old (job_text ps written.includes tasks states))
    ∙ read ps written.includes tasks states j written.is_text can (few_of old new (job_text ps written.includes tasks states) written.written few) (record {
      policies = parts.policies;
      several = parts.several;
      includes = parts.includes ∙ sym (stays written.includes sources written.are (ordered units sources shared loaded));
      tasks = parts.tasks;
      states = parts.states;
      capacity = parts.capacity;
      events = parts.events;
    })
