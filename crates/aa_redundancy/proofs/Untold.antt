-- Profiles that can't be told among others.
use Rattle.std.proofs.Common.{◌≡◌, ◌≢◌, ◌⊎◌, ℕ, suc, ◌+◌, ◌<◌, ◌≤◌, List, [], ◌∷◌, ◌++◌, length, Bool, true, false, cond, Option, Some, None}
use Rattle.std.proofs.Common.{inl, inr, refl, sym, ap, ◌∙◌, subst, arith, Contains, ⊎_elim}
use Rattle.std.specs.Prelude.{◌==◌}
use Rattle.std.specs.List.{slice_get}
use Rattle.std.proofs.lemmas.Bool.{cases_lt}
use Rattle.std.proofs.lemmas.Bool.Decides.{eqb_tells}
use Rattle.std.proofs.lemmas.List.{append-nil}
use Rattle.std.proofs.lemmas.List.Elements.{Contains-append_left, Contains-push, Contains-push_cases}
use Rattle.aa_model.specs.declared.policy.Profile.{Profile}
use Rattle.aa_model.specs.declared.rule.FileRule.{FileRule}
use Rattle.aa_model.specs.declared.rule.CapRule.{CapRule}
use Rattle.aa_model.specs.declared.rule.NetRule.{NetRule}
use Rattle.aa_model.specs.declared.rule.ChangeRule.{ChangeRule}
use Rattle.aa_compile.proofs.ConflictLemmas.{in_head, in_tail, in_cases, not_in}
use Rattle.aa_redundancy.specs.declared.fault.Excess.{Excess}
use Rattle.aa_redundancy.specs.declared.fault.Excess.TheVariants.{Patterns, States}
use Rattle.aa_redundancy.specs.declared.fault.RedundancyFault.{RedundancyFault}
use Rattle.aa_redundancy.specs.declared.fault.UntoldProfile.{UntoldProfile}
use Rattle.aa_redundancy.specs.Faults.{IsFaultIn, Exceeds, fault_by}
use Rattle.aa_redundancy.specs.declared.places.PlaceNumbers.{PlaceNumbers}
use Rattle.aa_redundancy.specs.declared.tables.Table.{Table}
use Rattle.aa_redundancy.specs.declared.redundant.AllTables.{AllTables}
use Rattle.aa_redundancy.specs.Without.{without_from, without}
use Rattle.aa_redundancy.specs.Sameness.{SameFiles, SameCaps, SameNets, SameChanges}
use Rattle.aa_redundancy.specs.Covering.{Within}
use Rattle.aa_redundancy.specs.Tables.{Relation, Equal, none_gone, Decides, AllDecide}
use Rattle.aa_redundancy.specs.Places.{gone_at, ProfileAlike, ProfileWithin, SameIn, OfProfile, HoldsIn}
use Rattle.aa_redundancy.specs.Kept.{IsUntold, IsTold, GoneAlike, GoneWithin, KeptAlike, KeptWithin, HoldsBut, SameBut, KeptSaySame}
use Rattle.aa_redundancy.specs.Adding.{AddsKept, AddsProfileIn, AddsProfile, Told, Kept, There, NoProfile, NoNumbers, AreTablesOf}
use Rattle.aa_redundancy.proofs.Placing.{four_decide, decide_both, none_there, both_there, in_one, one_in}

-- ---- one profile more

pub none_but : (R : Relation) (T K : OfProfile) (ps : List Profile) (ns : List PlaceNumbers) → AllDecide R [] (HoldsBut T K [] ps ns 0)
none_but R T K ps ns = record {
  same = λ gone others same. record { told = λ k lt told. absurd (omega (arith, lt)); kept = λ u c. absurd (not_in u c) };
  told = λ gone others r t c. absurd (not_in t c);
}

module _ (R : Relation) (T K : OfProfile) (ps : List Profile) (ns : List PlaceNumbers) (us : List UntoldProfile) (n : ℕ)
    (below : (u : UntoldProfile) → Contains us u → u.number < n) (ts new all : List Table) (are : all ≡ ts ++ new) (was : AllDecide R ts (HoldsBut T K us ps ns n)) where
  abbrev At : OfProfile → (ℕ → Bool) → (ℕ → Bool) → ℕ → Type 0
  At P gone others k = HoldsIn P (slice_get ps k) (slice_get ns k) gone others

  told_more : AllDecide R new (HoldsIn T (slice_get ps n) (slice_get ns n)) → AllDecide R all (HoldsBut T K us ps ns (n + 1))
  told_more own =
      decide_both R ts new all (HoldsBut T K us ps ns n) (HoldsIn T (slice_get ps n) (slice_get ns n)) (HoldsBut T K us ps ns (n + 1)) are was own
      (λ gone others p q. record {
        told = λ k lt told.
            ⊎_elim (λ (less : k < n). p.told k less told)
            (λ (le : n ≤ k). let is : n ≡ k = omega (arith, le, lt) in subst (At T gone others) is q) (cases_lt k n);
        kept = p.kept;
      })
      (λ gone others r. (record { told = λ k lt told. r.told k (omega (arith, lt)) told; kept = r.kept }, r.told n (omega arith) (λ u c e. omega (arith, below u c, e))))

  kept_more : (u : UntoldProfile) → u.number ≡ n → AllDecide R new (HoldsIn K (slice_get ps n) (slice_get ns n))
      → AllDecide R all (HoldsBut T K (us ++ u ∷ []) ps ns (n + 1))
  kept_more u number own =
      decide_both R ts new all (HoldsBut T K us ps ns n) (HoldsIn K (slice_get ps n) (slice_get ns n)) (HoldsBut T K (us ++ u ∷ []) ps ns (n + 1)) are was own
      (λ gone others p q. record {
        told = λ k lt told.
            ⊎_elim (λ (less : k < n). p.told k less (λ v c e. told v (Contains-append_left us (u ∷ []) v c) e))
            (λ (le : n ≤ k). absurd (told u (Contains-push us u) (omega (arith, le, lt, number)))) (cases_lt k n);
        kept = λ v c.
            ⊎_elim (p.kept v)
            (λ (f : u ≡ v). subst (λ (w : UntoldProfile). At K gone others w.number) f (subst (At K gone others) (sym number) q)) (Contains-push_cases us u v c);
      })
      (λ gone others r. (
        record {
          told = λ k lt told. r.told k (omega (arith, lt)) (λ v c e. ⊎_elim (λ (d : Contains us v). told v d e)
              (λ (f : u ≡ v). let same = ap (λ (w : UntoldProfile). w.number) f in omega (arith, same, number, e, lt)) (Contains-push_cases us u v c));
          kept = λ v c. r.kept v (Contains-append_left us (u ∷ []) v c);
        },
        subst (At K gone others) number (r.kept u (Contains-push us u)),
      ))

module _ (ps : List Profile) (ns : List PlaceNumbers) (limit : ℕ) where
  pub none_made : (all : AllTables) → all.tables.items ≡ [] → all.untold.items ≡ [] → AreTablesOf ps ns limit 0 all
  none_made all tables untold = record {
    alike = subst (λ (us : List UntoldProfile). AllDecide Equal all.tables.items (HoldsBut ProfileAlike KeptAlike us ps ns 0)) (sym untold)
        (subst (λ (ts : List Table). AllDecide Equal ts (HoldsBut ProfileAlike KeptAlike [] ps ns 0)) (sym tables) (none_but Equal ProfileAlike KeptAlike ps ns));
    within = subst (λ (us : List UntoldProfile). AllDecide Within all.tables.items (HoldsBut ProfileWithin KeptWithin us ps ns 0)) (sym untold)
        (subst (λ (ts : List Table). AllDecide Within ts (HoldsBut ProfileWithin KeptWithin [] ps ns 0)) (sym tables) (none_but Within ProfileWithin KeptWithin ps ns));
    untold = λ u c. absurd (not_in u (subst (λ (us : List UntoldProfile). Contains us u) untold c));
    below = λ u c. absurd (not_in u (subst (λ (us : List UntoldProfile). Contains us u) untold c));
  }

  module _ (n : ℕ) (was now : AllTables) (are : AreTablesOf ps ns limit n was) where
    abbrev ts : List Table
    ts = was.tables.items

    abbrev us : List UntoldProfile
    us = was.untold.items

    -- where no profile can't be told more
    still : now.untold.items ≡ us → AllDecide Equal now.tables.items (HoldsBut ProfileAlike KeptAlike us ps ns (n + 1))
        → AllDecide Within now.tables.items (HoldsBut ProfileWithin KeptWithin us ps ns (n + 1)) → AreTablesOf ps ns limit (n + 1) now
    still same alike within = record {
      alike = subst (λ (vs : List UntoldProfile). AllDecide Equal now.tables.items (HoldsBut ProfileAlike KeptAlike vs ps ns (n + 1))) (sym same) alike;
      within = subst (λ (vs : List UntoldProfile). AllDecide Within now.tables.items (HoldsBut ProfileWithin KeptWithin vs ps ns (n + 1))) (sym same) within;
      untold = λ u c. are.untold u (subst (λ (vs : List UntoldProfile). Contains vs u) same c);
      below = λ u c. let lt = are.below u (subst (λ (vs : List UntoldProfile). Contains vs u) same c) in omega (arith, lt);
    }

    there_more : (p : Profile) (m : PlaceNumbers) → slice_get ps n ≡ Some p → slice_get ns n ≡ Some m → AddsProfile p m n limit was now → AreTablesOf ps ns limit (n + 1) now
    there_more p m here there (Told add same) =
        still same
        (told_more Equal ProfileAlike KeptAlike ps ns us n are.below ts add.tables now.tables.items add.are are.alike
        (both_there Equal ProfileAlike (slice_get ps n) (slice_get ns n) p m add.tables here there add.alike))
        (told_more Within ProfileWithin KeptWithin ps ns us n are.below ts add.tables now.tables.items add.are are.within
        (both_there Within ProfileWithin (slice_get ps n) (slice_get ns n) p m add.tables here there add.within))
    there_more p m here there (Kept add u number exceeds e) = record {
      alike = subst (λ (vs : List UntoldProfile). AllDecide Equal now.tables.items (HoldsBut ProfileAlike KeptAlike vs ps ns (n + 1))) (sym e)
          (kept_more Equal ProfileAlike KeptAlike ps ns us n are.below ts add.tables now.tables.items add.are are.alike u number
          (both_there Equal KeptAlike (slice_get ps n) (slice_get ns n) p m add.tables here there add.alike));
      within = subst (λ (vs : List UntoldProfile). AllDecide Within now.tables.items (HoldsBut ProfileWithin KeptWithin vs ps ns (n + 1))) (sym e)
          (kept_more Within ProfileWithin KeptWithin ps ns us n are.below ts add.tables now.tables.items add.are are.within u number
          (both_there Within KeptWithin (slice_get ps n) (slice_get ns n) p m add.tables here there add.within));
      untold = λ v c.
          ⊎_elim (are.untold v)
          (λ (f : u ≡ v). subst (IsUntold ps limit) f (record { profile = p; there = ap (slice_get ps) number ∙ here; exceeds = exceeds }))
          (Contains-push_cases us u v (subst (λ (vs : List UntoldProfile). Contains vs v) e c));
      below = λ v c.
          ⊎_elim (λ (d : Contains us v). let lt = are.below v d in omega (arith, lt))
          (λ (f : u ≡ v). let same = ap (λ (x : UntoldProfile). x.number) f in omega (arith, same, number))
          (Contains-push_cases us u v (subst (λ (vs : List UntoldProfile). Contains vs v) e c));
    }

    none_more : now ≡ was → (slice_get ps n ≡ None) ⊎ (slice_get ns n ≡ None) → AreTablesOf ps ns limit (n + 1) now
    none_more e none =
        let tables : now.tables.items ≡ ts ++ [] = ap (λ (a : AllTables). a.tables.items) e ∙ sym (append-nil ts) in
        still (ap (λ (a : AllTables). a.untold.items) e)
        (told_more Equal ProfileAlike KeptAlike ps ns us n are.below ts [] now.tables.items tables are.alike
        (none_there Equal ProfileAlike (slice_get ps n) (slice_get ns n) none))
        (told_more Within ProfileWithin KeptWithin ps ns us n are.below ts [] now.tables.items tables are.within
        (none_there Within ProfileWithin (slice_get ps n) (slice_get ns n) none))

    pub profile_more : AddsProfileIn ps ns n limit was now → AreTablesOf ps ns limit (n + 1) now
    profile_more (There p m here there add) = there_more p m here there add
    profile_more (NoProfile none e) = none_more e (inl none)
    profile_more (NoNumbers none e) = none_more e (inr none)

-- what a profile has too much of that is added as one that can't be told
exceeds_by : (p : Profile) (limit : ℕ) (e : Excess) (f : RedundancyFault) → f ≡ fault_by e → IsFaultIn p limit f → Exceeds p limit e
exceeds_by p limit Patterns f is at = subst (IsFaultIn p limit) is at
exceeds_by p limit States f is at = subst (IsFaultIn p limit) is at

pub kept_adds : (p : Profile) (ns : PlaceNumbers) (k limit : ℕ) (fault : RedundancyFault) (was now : AllTables) → IsFaultIn p limit fault → AddsKept p ns k fault was now
    → AddsProfile p ns k limit was now
kept_adds p ns k limit fault was now at h = Kept h.tables h.profile h.number (exceeds_by p limit h.profile.why fault h.why at) h.untold

-- the tables by which none of a profile's rules goes
module _ (p : Profile) (ns : PlaceNumbers) (a b c d : Table) where
  pub kept_alike : Decides Equal a (λ gone others. GoneAlike (length p.files) (gone_at gone ns.files) (gone_at others ns.files))
      → Decides Equal b (λ gone others. GoneAlike (length p.caps) (gone_at gone ns.caps) (gone_at others ns.caps))
      → Decides Equal c (λ gone others. GoneAlike (length p.nets) (gone_at gone ns.nets) (gone_at others ns.nets))
      → Decides Equal d (λ gone others. GoneAlike (length p.changes) (gone_at gone ns.changes) (gone_at others ns.changes))
      → AllDecide Equal (a ∷ b ∷ c ∷ d ∷ []) (KeptAlike p ns)
  kept_alike files caps nets changes =
      four_decide Equal a b c d _ _ _ _ files caps nets changes (KeptAlike p ns)
      (λ gone others f k n g. record { files = f; caps = k; nets = n; changes = g }) (λ gone others h. (h.files, h.caps, h.nets, h.changes))

  pub kept_within : Decides Within a (λ gone others. GoneWithin (length p.files) (gone_at gone ns.files) (gone_at others ns.files))
      → Decides Within b (λ gone others. GoneWithin (length p.caps) (gone_at gone ns.caps) (gone_at others ns.caps))
      → Decides Within c (λ gone others. GoneWithin (length p.nets) (gone_at gone ns.nets) (gone_at others ns.nets))
      → Decides Within d (λ gone others. GoneWithin (length p.changes) (gone_at gone ns.changes) (gone_at others ns.changes))
      → AllDecide Within (a ∷ b ∷ c ∷ d ∷ []) (KeptWithin p ns)
  kept_within files caps nets changes =
      four_decide Within a b c d _ _ _ _ files caps nets changes (KeptWithin p ns)
      (λ gone others f k n g. record { files = f; caps = k; nets = n; changes = g }) (λ gone others h. (h.files, h.caps, h.nets, h.changes))

-- the same of so many rules by other numbers that are the same
pub alike_of : (count many : ℕ) (ms ns : List ℕ) (t : Table) → count ≡ many → ms ≡ ns
    → Decides Equal t (λ gone others. GoneAlike count (gone_at gone ms) (gone_at others ms))
    → Decides Equal t (λ gone others. GoneAlike many (gone_at gone ns) (gone_at others ns))
alike_of count many ms ns t e f d =
    subst (λ (m : ℕ). Decides Equal t (λ gone others. GoneAlike m (gone_at gone ns) (gone_at others ns))) e
    (subst (λ (l : List ℕ). Decides Equal t (λ gone others. GoneAlike count (gone_at gone l) (gone_at others l))) f d)

pub within_of : (count many : ℕ) (ms ns : List ℕ) (t : Table) → count ≡ many → ms ≡ ns
    → Decides Within t (λ gone others. GoneWithin count (gone_at gone ms) (gone_at others ms))
    → Decides Within t (λ gone others. GoneWithin many (gone_at gone ns) (gone_at others ns))
within_of count many ms ns t e f d =
    subst (λ (m : ℕ). Decides Within t (λ gone others. GoneWithin m (gone_at gone ns) (gone_at others ns))) e
    (subst (λ (l : List ℕ). Decides Within t (λ gone others. GoneWithin count (gone_at gone l) (gone_at others l))) f d)

-- ---- without some rules, beside all of them

pub to_same_but : (us : List UntoldProfile) (ps : List Profile) (ns : List PlaceNumbers) (n : ℕ) (gone : ℕ → Bool) → HoldsBut ProfileAlike KeptAlike us ps ns n gone none_gone → SameBut us ps ns n gone
to_same_but us ps ns n gone h = record { told = λ k lt told. in_one (slice_get ps k) (slice_get ns k) gone (h.told k lt told); kept = h.kept }

pub from_same_but : (us : List UntoldProfile) (ps : List Profile) (ns : List PlaceNumbers) (n : ℕ) (gone : ℕ → Bool) → SameBut us ps ns n gone → HoldsBut ProfileAlike KeptAlike us ps ns n gone none_gone
from_same_but us ps ns n gone h = record { told = λ k lt told. one_in (slice_get ps k) (slice_get ns k) gone (h.told k lt told); kept = h.kept }

-- ---- profiles of which no rule is gone

-- where none of a list is gone, all of it is left
kept_from : {X : Type 0} (gone : ℕ → Bool) (k : ℕ) (xs : List X) → ((n : ℕ) → n < length xs → gone (k + n) ≡ false) → without_from gone k xs ≡ xs
kept_from gone k [] none = refl
kept_from {X} gone k (x ∷ xs) none =
    ap (λ (g : Bool). cond g (without_from gone (suc k) xs) (x ∷ without_from gone (suc k) xs)) (ap gone (omega arith) ∙ none 0 (omega arith))
    ∙ ap (λ (l : List X). x ∷ l) (kept_from gone (suc k) xs (λ n lt. ap gone (omega arith) ∙ none (suc n) (omega (arith, lt))))

all_kept : {X : Type 0} (gone : ℕ → Bool) (xs : List X) → ((n : ℕ) → n < length xs → gone n ≡ false) → without gone xs ≡ xs
all_kept gone xs none = kept_from gone 0 xs (λ n lt. let e : 0 + n ≡ n = omega arith in ap gone e ∙ none n lt)

kept_in : (o : Option Profile) (m : Option PlaceNumbers) (gone : ℕ → Bool) → HoldsIn KeptAlike o m gone none_gone → SameIn o m gone
kept_in (Some p) (Some ns) gone h = record {
  files = subst (λ (rs : List FileRule). SameFiles p.files rs) (sym (all_kept (gone_at gone ns.files) p.files h.files)) (λ path owned asked. (refl, refl));
  caps = subst (λ (rs : List CapRule). SameCaps p.caps rs) (sym (all_kept (gone_at gone ns.caps) p.caps h.caps)) (λ c lt. refl);
  nets = subst (λ (rs : List NetRule). SameNets p.nets rs) (sym (all_kept (gone_at gone ns.nets) p.nets h.nets)) (λ f s lt less. refl);
  changes = subst (λ (rs : List ChangeRule). SameChanges p.changes rs) (sym (all_kept (gone_at gone ns.changes) p.changes h.changes)) (λ name wanted. refl);
}
kept_in (Some p) None gone h = tt
kept_in None (Some ns) gone h = tt
kept_in None None gone h = tt

-- a profile can't be told, or it is none of those
pub told_or : (us : List UntoldProfile) (k : ℕ) → IsTold us k ⊎ ((u : UntoldProfile) × Contains us u × (u.number ≡ k))
told_or [] k = inl (λ u c e. absurd (not_in u c))
told_or (u ∷ us) k =
    ⊎_elim
    (λ (yes : ((u.number == k) ≡ true) × (u.number ≡ k)). inr (u, in_head u us, yes.1))
    (λ (no : ((u.number == k) ≡ false) × (u.number ≢ k)).
    ⊎_elim
    (λ (told : IsTold us k). inl (λ v c e. ⊎_elim (λ (f : u ≡ v). no.1 (ap (λ (w : UntoldProfile). w.number) f ∙ e)) (λ (d : Contains us v). told v d e) (in_cases u v us c)))
    (λ (found : (v : UntoldProfile) × Contains us v × (v.number ≡ k)). inr (found.0, in_tail u found.0 us found.1, found.2))
    (told_or us k))
    (eqb_tells u.number k)

pub kept_say_same : KeptSaySame
kept_say_same us ps ns n gone same k lt =
    ⊎_elim
    (λ (told : IsTold us k). same.told k lt told)
    (λ (found : (u : UntoldProfile) × Contains us u × (u.number ≡ k)).
    kept_in (slice_get ps k) (slice_get ns k) gone
    (subst (λ (i : ℕ). HoldsIn KeptAlike (slice_get ps i) (slice_get ns i) gone none_gone) found.2 (same.kept found.0 found.1)))
    (told_or us k)
