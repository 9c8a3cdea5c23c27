-- Tables by the places of rules.
use Rattle.std.proofs.Common.{◌≡◌, ◌⊎◌, ℕ, List, [], ◌∷◌, ◌++◌, map, Bool, true, false, Option, Some, None, sym, ap, ◌∙◌, subst, refl, Contains, ⊎_elim}
use Rattle.std.proofs.lemmas.List.Elements.{Contains-append_left, Contains-append_right, Contains-append_cases}
use Rattle.aa_model.specs.Lawful.{has_exec}
use Rattle.aa_model.specs.declared.policy.Profile.{Profile}
use Rattle.aa_model.specs.declared.rule.FileRule.{FileRule}
use Rattle.aa_model.specs.declared.rule.CapRule.{CapRule}
use Rattle.aa_model.specs.declared.rule.NetRule.{NetRule}
use Rattle.aa_model.specs.declared.rule.ChangeRule.{ChangeRule}
use Rattle.aa_compile.specs.declared.sets.RuleSets.{RuleSets}
use Rattle.aa_compile.specs.declared.side.Chosen.{Chosen}
use Rattle.aa_compile.specs.Gathered.{picked}
use Rattle.aa_compile.specs.Said.{both, nothing}
use Rattle.aa_compile.specs.Sides.{no_choice, earlier}
use Rattle.aa_compile.proofs.Gathers.{gather-map}
use Rattle.aa_compile.proofs.Pickeds.{picked-map}
use Rattle.aa_redundancy.specs.declared.marks.RuleMark.{RuleMark}
use Rattle.aa_redundancy.specs.declared.saying.Saying.{Saying}
use Rattle.aa_redundancy.specs.declared.tables.Table.{Table}
use Rattle.aa_redundancy.specs.declared.places.PlaceNumbers.{PlaceNumbers}
use Rattle.aa_redundancy.specs.Rights.{rights}
use Rattle.aa_redundancy.specs.Marks.{sets_of, choice_of, sets_by, choice_by, choose, chosen_by, led, said_by}
use Rattle.aa_redundancy.specs.Tables.{Relation, Equal, none_gone, TableRelated, SameTables, Decides, AllDecide}
use Rattle.aa_redundancy.specs.Places.{gone_at, at_place, SameProfile, ProfileAlike, ProfileWithin, SameIn, OfProfile, HoldsIn}
use Rattle.aa_redundancy.specs.Sameness.{SameFiles, SameCaps, SameNets, SameChanges}
use Rattle.aa_redundancy.specs.Covering.{Within, FilesWithin, CapsWithin, NetsWithin, ChangesWithin}
use Rattle.aa_redundancy.specs.Without.{without, only, marked, with_later}
use Rattle.aa_redundancy.specs.declared.going.Going.{Going}
use Rattle.aa_redundancy.specs.Going.{AreGoing}
use Rattle.aa_redundancy.proofs.Numbered.{without_none}
use Rattle.aa_compile.proofs.ConflictLemmas.{in_head, in_tail, in_cases, not_in}

module _ (numbers : List ℕ) where
  said_placed : (gone : ℕ → Bool) (ms : List RuleMark) (owned : Bool) → said_by gone owned (map (at_place numbers) ms) ≡ said_by (gone_at gone numbers) owned ms
  said_placed gone ms owned =
      let by = gone_at gone numbers in
      let placed = map (at_place numbers) ms in
      let sets : sets_by gone owned placed ≡ sets_by by owned ms = gather-map both nothing (sets_of gone owned) (at_place numbers) ms in
      let literal : choice_by gone true owned placed ≡ choice_by by true owned ms = gather-map earlier no_choice (choice_of gone true owned) (at_place numbers) ms in
      let any : choice_by gone false owned placed ≡ choice_by by false owned ms = gather-map earlier no_choice (choice_of gone false owned) (at_place numbers) ms in
      ap (λ (v : RuleSets). let s : Saying = record { rights = rights v; chosen = led (has_exec v.deny) (chosen_by gone owned placed) } in s) sets
      ∙ ap (λ (l : Chosen). let s : Saying = record { rights = rights (sets_by by owned ms); chosen = led (has_exec (sets_by by owned ms).deny) (choose l (choice_by gone false owned placed)) } in s) literal
      ∙ ap (λ (a : Chosen). let s : Saying = record { rights = rights (sets_by by owned ms); chosen = led (has_exec (sets_by by owned ms).deny) (choose (choice_by by true owned ms) a) } in s) any

  module _ (marks : List RuleMark) (gone : ℕ → Bool) (row : List ℕ) (owned : Bool) where
    at_row : said_by gone owned (picked (map (at_place numbers) marks) row) ≡ said_by (gone_at gone numbers) owned (picked marks row)
    at_row = ap (said_by gone owned) (picked-map (at_place numbers) marks row) ∙ said_placed gone (picked marks row) owned

  module _ (R : Relation) (t u : Table) (marks : u.marks.items ≡ map (at_place numbers) t.marks.items) (rows : u.rows.items ≡ t.rows.items) (gone others : ℕ → Bool) where
    abbrev both_rows : (row : List ℕ) (owned : Bool) (g : ℕ → Bool) → said_by g owned (picked u.marks.items row) ≡ said_by (gone_at g numbers) owned (picked t.marks.items row)
    both_rows row owned g = ap (λ (ms : List RuleMark). said_by g owned (picked ms row)) marks ∙ at_row t.marks.items g row owned

    to_placed : TableRelated R t (gone_at gone numbers) (gone_at others numbers) → TableRelated R u gone others
    to_placed related row c owned =
        subst (λ (s : Saying). R s (said_by others owned (picked u.marks.items row))) (sym (both_rows row owned gone))
        (subst (λ (s : Saying). R (said_by (gone_at gone numbers) owned (picked t.marks.items row)) s) (sym (both_rows row owned others))
        (related row (subst (λ (l : List (List ℕ)). Contains l row) rows c) owned))

    from_placed : TableRelated R u gone others → TableRelated R t (gone_at gone numbers) (gone_at others numbers)
    from_placed related row c owned =
        subst (λ (s : Saying). R s (said_by (gone_at others numbers) owned (picked t.marks.items row))) (both_rows row owned gone)
        (subst (λ (s : Saying). R (said_by gone owned (picked u.marks.items row)) s) (both_rows row owned others)
        (related row (subst (λ (l : List (List ℕ)). Contains l row) (sym rows) c) owned))

-- a table by the places of rules decides for these
pub placed_decides : (R : Relation) (numbers : List ℕ) (t u : Table) (Holds : (ℕ → Bool) → (ℕ → Bool) → Type 0) → Decides R t Holds
    → u.marks.items ≡ map (at_place numbers) t.marks.items → u.rows.items ≡ t.rows.items → Decides R u (λ gone others. Holds (gone_at gone numbers) (gone_at others numbers))
placed_decides R numbers t u Holds decides marks rows = record {
  same = λ gone others related. decides.same (gone_at gone numbers) (gone_at others numbers) (from_placed numbers R t u marks rows gone others related);
  told = λ gone others holds. to_placed numbers R t u marks rows gone others (decides.told (gone_at gone numbers) (gone_at others numbers) holds);
}

-- tables decide together what lists of them decide
pub decide_both : (R : Relation) (ts us all : List Table) (P Q S : (ℕ → Bool) → (ℕ → Bool) → Type 0) → all ≡ ts ++ us → AllDecide R ts P → AllDecide R us Q
    → ((gone others : ℕ → Bool) → P gone others → Q gone others → S gone others) → ((gone others : ℕ → Bool) → S gone others → P gone others × Q gone others) → AllDecide R all S
decide_both R ts us all P Q S e one other join part = record {
  same = λ gone others same.
      join gone others
      (one.same gone others (λ t c. same t (subst (λ (l : List Table). Contains l t) (sym e) (Contains-append_left ts us t c))))
      (other.same gone others (λ t c. same t (subst (λ (l : List Table). Contains l t) (sym e) (Contains-append_right ts us t c))));
  told = λ gone others r t c.
      let h = part gone others r in
      ⊎_elim (λ (d : Contains ts t). one.told gone others h.0 t d) (λ (d : Contains us t). other.told gone others h.1 t d)
      (Contains-append_cases ts us t (subst (λ (l : List Table). Contains l t) e c));
}

-- four tables decide together what each decides
module _ (R : Relation) (a b c d : Table) (A B C D : (ℕ → Bool) → (ℕ → Bool) → Type 0) (files : Decides R a A) (caps : Decides R b B) (nets : Decides R c C) (changes : Decides R d D) where
  abbrev four : List Table
  four = a ∷ b ∷ c ∷ d ∷ []

  there_b : Contains four b
  there_b = in_tail a b (b ∷ c ∷ d ∷ []) (in_head b (c ∷ d ∷ []))

  there_c : Contains four c
  there_c = in_tail a c (b ∷ c ∷ d ∷ []) (in_tail b c (c ∷ d ∷ []) (in_head c (d ∷ [])))

  there_d : Contains four d
  there_d = in_tail a d (b ∷ c ∷ d ∷ []) (in_tail b d (c ∷ d ∷ []) (in_tail c d (d ∷ []) (in_head d [])))

  one_of : (P : Table → Type 0) → P a → P b → P c → P d → (t : Table) → Contains four t → P t
  one_of P pa pb pc pd t there =
      ⊎_elim (λ (e : a ≡ t). subst P e pa)
      (λ (f : Contains (b ∷ c ∷ d ∷ []) t).
      ⊎_elim (λ (e : b ≡ t). subst P e pb)
      (λ (g : Contains (c ∷ d ∷ []) t).
      ⊎_elim (λ (e : c ≡ t). subst P e pc)
      (λ (h : Contains (d ∷ []) t).
      ⊎_elim (λ (e : d ≡ t). subst P e pd) (λ (i : Contains [] t). absurd (not_in t i)) (in_cases d t [] h))
      (in_cases c t (d ∷ []) g)) (in_cases b t (c ∷ d ∷ []) f)) (in_cases a t (b ∷ c ∷ d ∷ []) there)

  pub four_decide : (S : (ℕ → Bool) → (ℕ → Bool) → Type 0)
      → ((gone others : ℕ → Bool) → A gone others → B gone others → C gone others → D gone others → S gone others)
      → ((gone others : ℕ → Bool) → S gone others → A gone others × B gone others × C gone others × D gone others) → AllDecide R four S
  four_decide S join part = record {
    same = λ gone others same.
        join gone others (files.same gone others (same a (in_head a (b ∷ c ∷ d ∷ [])))) (caps.same gone others (same b there_b)) (nets.same gone others (same c there_c)) (changes.same gone others (same d there_d));
    told = λ gone others s t there.
        let h = part gone others s in
        one_of (λ (x : Table). TableRelated R x gone others) (files.told gone others h.0) (caps.told gone others h.1) (nets.told gone others h.2) (changes.told gone others h.3) t there;
  }

-- the four tables of a profile
pub four_alike : (p : Profile) (ns : PlaceNumbers) (a b c d : Table) → Decides Equal a (λ gone others. SameFiles (without (gone_at gone ns.files) p.files) (without (gone_at others ns.files) p.files))
    → Decides Equal b (λ gone others. SameCaps (without (gone_at gone ns.caps) p.caps) (without (gone_at others ns.caps) p.caps))
    → Decides Equal c (λ gone others. SameNets (without (gone_at gone ns.nets) p.nets) (without (gone_at others ns.nets) p.nets))
    → Decides Equal d (λ gone others. SameChanges (without (gone_at gone ns.changes) p.changes) (without (gone_at others ns.changes) p.changes))
    → AllDecide Equal (a ∷ b ∷ c ∷ d ∷ []) (ProfileAlike p ns)
four_alike p ns a b c d files caps nets changes =
    four_decide Equal a b c d _ _ _ _ files caps nets changes (ProfileAlike p ns)
    (λ gone others f k n g. record { files = f; caps = k; nets = n; changes = g }) (λ gone others h. (h.files, h.caps, h.nets, h.changes))

pub four_within : (p : Profile) (ns : PlaceNumbers) (a b c d : Table) → Decides Within a (λ gone others. FilesWithin (without (gone_at gone ns.files) p.files) (without (gone_at others ns.files) p.files))
    → Decides Within b (λ gone others. CapsWithin (without (gone_at gone ns.caps) p.caps) (without (gone_at others ns.caps) p.caps))
    → Decides Within c (λ gone others. NetsWithin (without (gone_at gone ns.nets) p.nets) (without (gone_at others ns.nets) p.nets))
    → Decides Within d (λ gone others. ChangesWithin (without (gone_at gone ns.changes) p.changes) (without (gone_at others ns.changes) p.changes))
    → AllDecide Within (a ∷ b ∷ c ∷ d ∷ []) (ProfileWithin p ns)
four_within p ns a b c d files caps nets changes =
    four_decide Within a b c d _ _ _ _ files caps nets changes (ProfileWithin p ns)
    (λ gone others f k n g. record { files = f; caps = k; nets = n; changes = g }) (λ gone others h. (h.files, h.caps, h.nets, h.changes))

-- where a profile or its numbers aren't there, nothing is asked of it
pub none_there : (R : Relation) (P : OfProfile) (o : Option Profile) (m : Option PlaceNumbers) → (o ≡ None) ⊎ (m ≡ None) → AllDecide R [] (HoldsIn P o m)
none_there R P o m none = record { same = λ gone others same. at o m none gone others; told = λ gone others r t c. absurd (not_in t c) }
  where
    at : (o : Option Profile) (m : Option PlaceNumbers) → (o ≡ None) ⊎ (m ≡ None) → (gone others : ℕ → Bool) → HoldsIn P o m gone others
    at None None e gone others = tt
    at None (Some ns) e gone others = tt
    at (Some p) None e gone others = tt
    at (Some p) (Some ns) e gone others = ⊎_elim (λ (h : Some p ≡ None). absurd (let k = h in cc)) (λ (h : Some ns ≡ None). absurd (let k = h in cc)) e

-- where both are there
pub both_there : (R : Relation) (P : OfProfile) (o : Option Profile) (m : Option PlaceNumbers) (p : Profile) (ns : PlaceNumbers) (ts : List Table) → o ≡ Some p → m ≡ Some ns → AllDecide R ts (P p ns)
    → AllDecide R ts (HoldsIn P o m)
both_there R P o m p ns ts e f decide =
    subst (λ (x : Option Profile). AllDecide R ts (HoldsIn P x m)) (sym e) (subst (λ (y : Option PlaceNumbers). AllDecide R ts (HoldsIn P (Some p) y)) (sym f) decide)

-- ---- without some rules, beside all of them

all_left : {X : Type 0} (numbers : List ℕ) (xs : List X) → without (gone_at none_gone numbers) xs ≡ xs
all_left numbers xs = without_none (gone_at none_gone numbers) (λ n. refl) 0 xs

profile_one : (p : Profile) (ns : PlaceNumbers) (gone : ℕ → Bool) → ProfileAlike p ns gone none_gone → SameProfile p ns gone
profile_one p ns gone h = record {
  files = λ path owned asked.
      let e = subst (λ (rs : List FileRule). SameFiles (without (gone_at gone ns.files) p.files) rs) (all_left ns.files p.files) h.files path owned asked in (sym e.0, sym e.1);
  caps = λ c lt. sym (subst (λ (rs : List CapRule). SameCaps (without (gone_at gone ns.caps) p.caps) rs) (all_left ns.caps p.caps) h.caps c lt);
  nets = λ f s lt less. sym (subst (λ (rs : List NetRule). SameNets (without (gone_at gone ns.nets) p.nets) rs) (all_left ns.nets p.nets) h.nets f s lt less);
  changes = λ name wanted. sym (subst (λ (rs : List ChangeRule). SameChanges (without (gone_at gone ns.changes) p.changes) rs) (all_left ns.changes p.changes) h.changes name wanted);
}

one_profile : (p : Profile) (ns : PlaceNumbers) (gone : ℕ → Bool) → SameProfile p ns gone → ProfileAlike p ns gone none_gone
one_profile p ns gone h = record {
  files = subst (λ (rs : List FileRule). SameFiles (without (gone_at gone ns.files) p.files) rs) (sym (all_left ns.files p.files)) (λ path owned asked. let e = h.files path owned asked in (sym e.0, sym e.1));
  caps = subst (λ (rs : List CapRule). SameCaps (without (gone_at gone ns.caps) p.caps) rs) (sym (all_left ns.caps p.caps)) (λ c lt. sym (h.caps c lt));
  nets = subst (λ (rs : List NetRule). SameNets (without (gone_at gone ns.nets) p.nets) rs) (sym (all_left ns.nets p.nets)) (λ f s lt less. sym (h.nets f s lt less));
  changes = subst (λ (rs : List ChangeRule). SameChanges (without (gone_at gone ns.changes) p.changes) rs) (sym (all_left ns.changes p.changes)) (λ name wanted. sym (h.changes name wanted));
}

pub in_one : (o : Option Profile) (m : Option PlaceNumbers) (gone : ℕ → Bool) → HoldsIn ProfileAlike o m gone none_gone → SameIn o m gone
in_one (Some p) (Some ns) gone h = profile_one p ns gone h
in_one (Some p) None gone h = tt
in_one None (Some ns) gone h = tt
in_one None None gone h = tt

pub one_in : (o : Option Profile) (m : Option PlaceNumbers) (gone : ℕ → Bool) → SameIn o m gone → HoldsIn ProfileAlike o m gone none_gone
one_in (Some p) (Some ns) gone h = one_profile p ns gone h
one_in (Some p) None gone h = tt
one_in None (Some ns) gone h = tt
one_in None None gone h = tt

-- what can go by tables can go
pub going_by : (ts : List Table) (Same : (ℕ → Bool) → Type 0) (count : ℕ) (held : List Bool) (g : Going)
    → ((gone : ℕ → Bool) → SameTables ts gone → Same gone) → ((gone : ℕ → Bool) → Same gone → SameTables ts gone)
    → AreGoing (SameTables ts) count held g → AreGoing Same count held g
going_by ts Same count held g to from are = record {
  many_alone = are.many_alone;
  many_together = are.many_together;
  alone = λ i lt. let h = are.alone i lt in (λ e. to (only i) (h.0 e), λ e s. h.1 e (from (only i) s));
  together = λ i lt.
      let h = are.together i lt in (
        λ e. let x = h.0 e in (x.0, to (with_later g.together.items i) x.1),
        λ e s. h.1 e (s.0, from (with_later g.together.items i) s.1),
      );
  all = to (marked g.together.items) are.all;
}
