-- Gathering a job's sources, and what a refusal on the way says.
use Rattle.std.proofs.Common.{◌≡◌, ℕ, ◌+◌, ◌<◌, ◌≤◌, ◌⊎◌, inl, inr, List, [], ◌∷◌, ◌++◌, length, drop, get_or, Bool, true, false, IsTrue, Ok, Err, refl, ap, sym, subst, ◌∙◌, arith, append_assoc}
use Rattle.std.specs.Prelude.{◌≢◌}
use Rattle.std.proofs.lemmas.Bool.{cases_lt}
use Rattle.std.proofs.lemmas.List.{drop_more, at_drop_all, append-nil}
use Rattle.aa_base.specs.declared.fault.PolicyFault.{PolicyFault}
use Rattle.aa_base.specs.declared.fault.PolicyKind.TheVariants.{NoMemory, Syntax, TooLarge}
use Rattle.aa_base.specs.Kinds.{at_start, no_memory}
use Rattle.aa_words.specs.Sources.{has_name}
use Rattle.aa_words.specs.declared.include.Include.{Include}
use Rattle.aa_policies.specs.Policies.{Source, sources_of, CanFollow, IsRefusedBehind, IsFaultOfSources}
use Rattle.aa_policy.proofs.Refusals.{true_false}

-- these sources were added, and what is left can be added behind them exactly where all can be
pub record Gathering (includes : List Include) (rest : List Include) (found : List Source) : Type 0 where
  pub whole : found ++ sources_of rest ≡ sources_of includes
  pub goes_on : CanFollow found (sources_of rest) → CanFollow [] (sources_of includes)
  pub only : CanFollow [] (sources_of includes) → CanFollow found (sources_of rest)
  pub so_far : CanFollow [] found

pub gathering_start : (includes : List Include) (found : List Source) → found ≡ [] → Gathering includes includes found
gathering_start includes found e = subst (λ (f : List Source). Gathering includes includes f) (sym e) (record { whole = refl; goes_on = λ h. h; only = λ h. h; so_far = tt })

abbrev source : Include → Source
source i = (i.name, i.text)

-- what can be added behind all of these can be added behind them
follow_more : (earlier found : List Source) (s : Source) → CanFollow earlier found → length s.1 ≤ 1048576 → length (earlier ++ found) < 4095
    → has_name s.0 (earlier ++ found) ≡ false → CanFollow earlier (found ++ s ∷ [])
follow_more earlier [] s can short room fresh =
    let e : earlier ++ [] ≡ earlier = append-nil earlier in
    (short, subst (λ (l : List Source). length l < 4095) e room, subst (λ (l : List Source). has_name s.0 l ≡ false) e fresh, tt)
follow_more earlier (x ∷ xs) s can short room fresh =
    let e : (earlier ++ x ∷ []) ++ xs ≡ earlier ++ x ∷ xs = append_assoc earlier (x ∷ []) xs in (
      can.0,
      can.1,
      can.2,
      follow_more (earlier ++ x ∷ []) xs s can.3 short
          (subst (λ (l : List Source). length l < 4095) (sym e) room) (subst (λ (l : List Source). has_name s.0 l ≡ false) (sym e) fresh),
    )

-- one more was added, since nothing refuses it
pub gathering_more : (includes : List Include) (i : ℕ) (include : Include) (found more : List Source) → i < length includes → include ≡ get_or includes i include
    → length include.text ≤ 1048576 → length found < 4095 → has_name include.name found ≡ false → more ≡ found ++ source include ∷ []
    → Gathering includes (drop i includes) found → Gathering includes (drop (i + 1) includes) more
gathering_more includes i include found more lt item short room fresh more-is so_far =
    let rest = drop (i + 1) includes in
    let here : drop i includes ≡ include ∷ rest = drop_more includes i include lt ∙ ap (λ (x : Include). x ∷ rest) (sym item) in
    let g : Gathering includes (include ∷ rest) found = subst (λ (x : List Include). Gathering includes x found) here so_far in
    subst (λ (f : List Source). Gathering includes rest f) (sym more-is) (record {
      whole = append_assoc found (source include ∷ []) (sources_of rest) ∙ g.whole;
      goes_on = λ h. g.goes_on (short, room, fresh, h);
      only = λ h. (g.only h).3;
      so_far = follow_more [] found (source include) g.so_far short room fresh;
    })

pub gathering_end : (includes : List Include) (i : ℕ) (found : List Source) → length includes ≤ i → Gathering includes (drop i includes) found → (found ≡ sources_of includes) × CanFollow [] (sources_of includes)
gathering_end includes i found le so_far =
    let none : drop i includes ≡ [] = at_drop_all (λ (x : List Include). x) includes i le in
    let g : Gathering includes [] found = subst (λ (x : List Include). Gathering includes x found) none so_far in
    (sym (append-nil found) ∙ g.whole, g.goes_on tt)

-- ---- what an accepted source says

has_room : (n : ℕ) → (4095 ≤ n → ⊥) → n < 4095
has_room n h = elim (cases_lt n 4095) [ inl lt ↦ lt | inr le ↦ absurd (h le) ]

not_long : (n m : ℕ) → (m < n → ⊥) → n ≤ m
not_long n m h = elim (cases_lt m n) [ inl lt ↦ absurd (h lt) | inr le ↦ le ]

pub is_short : (text : List ℕ) (found : List Source) → ((1048576 < length text) ⊎ (4095 ≤ length found) → ⊥) → (length text ≤ 1048576) × (length found < 4095)
is_short text found h = (not_long (length text) 1048576 (λ lt. h (inl lt)), has_room (length found) (λ le. h (inr le)))

pub is_fresh : (b : Bool) (n m : ℕ) → n ≤ 1048576 → m < 4095 → ((n ≤ 1048576) × (m < 4095) × IsTrue b → ⊥) → b ≡ false
is_fresh true n m short room h = absurd (h (short, room, refl))
is_fresh false n m short room h = refl

-- ---- what a refused source says

refused : (fault : PolicyFault) (include : Include) (found rest : List Source)
    → (fault ≡ no_memory) ⊎ (fault ≡ at_start TooLarge) ⊎ (fault ≡ at_start Syntax)
    → (fault ≡ at_start TooLarge → (1048576 < length include.text) ⊎ (4095 ≤ length found))
    → (fault ≡ at_start Syntax → (length include.text ≤ 1048576) × (length found < 4095) × IsTrue (has_name include.name found))
    → fault.kind ≢ NoMemory → CanFollow found (source include ∷ rest) → ⊥
refused fault include found rest kinds large twice other can =
    elim kinds [
      | inl memory ↦ other (ap (λ (f : PolicyFault). f.kind) memory)
      | inr named ↦ elim named [
        | inl is_large ↦ elim (large is_large) [ inl long ↦ absurd (omega (arith, can.0)) | inr full ↦ absurd (omega (arith, can.1)) ]
        | inr is_twice ↦ true_false (sym (twice is_twice).2 ∙ can.2)
      ]
    ]

-- an include that isn't added: all can't be
pub refused_here : (includes : List Include) (i : ℕ) (include : Include) (found : List Source) (fault : PolicyFault) → i < length includes → include ≡ get_or includes i include
    → (fault ≡ no_memory) ⊎ (fault ≡ at_start TooLarge) ⊎ (fault ≡ at_start Syntax)
    → (fault ≡ at_start TooLarge → (1048576 < length include.text) ⊎ (4095 ≤ length found))
    → (fault ≡ at_start Syntax → (length include.text ≤ 1048576) × (length found < 4095) × IsTrue (has_name include.name found))
    → Gathering includes (drop i includes) found → fault.kind ≢ NoMemory → CanFollow [] (sources_of includes) → ⊥
refused_here includes i include found fault lt item kinds large twice so_far other all =
    let rest = drop (i + 1) includes in
    let here : drop i includes ≡ include ∷ rest = drop_more includes i include lt ∙ ap (λ (x : Include). x ∷ rest) (sym item) in
    let g : Gathering includes (include ∷ rest) found = subst (λ (x : List Include). Gathering includes x found) here so_far in
    refused fault include found (sources_of rest) kinds large twice other (g.only all)

why : (fault : PolicyFault) (include : Include) (found : List Source)
    → (fault ≡ no_memory) ⊎ (fault ≡ at_start TooLarge) ⊎ (fault ≡ at_start Syntax)
    → (fault ≡ at_start TooLarge → (1048576 < length include.text) ⊎ (4095 ≤ length found))
    → (fault ≡ at_start Syntax → (length include.text ≤ 1048576) × (length found < 4095) × IsTrue (has_name include.name found))
    → fault.kind ≢ NoMemory → IsRefusedBehind found (source include) fault
why fault include found kinds large twice other =
    elim kinds [
      | inl memory ↦ absurd (other (ap (λ (f : PolicyFault). f.kind) memory))
      | inr named ↦ elim named [
        | inl is_large ↦ inl (is_large, large is_large)
        | inr is_twice ↦ let there = twice is_twice in inr (is_twice, there.0, there.1, there.2)
      ]
    ]

-- an include that isn't added is the first that can't be
pub fault_here : (includes : List Include) (i : ℕ) (include : Include) (found : List Source) (fault : PolicyFault) → i < length includes → include ≡ get_or includes i include
    → (fault ≡ no_memory) ⊎ (fault ≡ at_start TooLarge) ⊎ (fault ≡ at_start Syntax)
    → (fault ≡ at_start TooLarge → (1048576 < length include.text) ⊎ (4095 ≤ length found))
    → (fault ≡ at_start Syntax → (length include.text ≤ 1048576) × (length found < 4095) × IsTrue (has_name include.name found))
    → Gathering includes (drop i includes) found → fault.kind ≢ NoMemory → IsFaultOfSources (sources_of includes) fault
fault_here includes i include found fault lt item kinds large twice so_far other =
    let rest = drop (i + 1) includes in
    let here : drop i includes ≡ include ∷ rest = drop_more includes i include lt ∙ ap (λ (x : Include). x ∷ rest) (sym item) in
    let g : Gathering includes (include ∷ rest) found = subst (λ (x : List Include). Gathering includes x found) here so_far in
    record {
      before = found;
      source = source include;
      behind = sources_of rest;
      are = sym g.whole;
      fit = g.so_far;
      fault = why fault include found kinds large twice other;
    }

pub ok_err : {x : Unit {0}} {f : PolicyFault} → Ok x ≡ Err f → ⊥
ok_err e = cc
