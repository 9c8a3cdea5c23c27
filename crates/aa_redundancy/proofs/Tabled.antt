-- Tables decide whether rules can go.
use Rattle.std.proofs.Common.{◌≡◌, ℕ, suc, ◌<◌, ◌+◌, ◌*◌, ◌/◌, ◌%◌, List, [], ◌∷◌, map, length, Bool, true, false}
use Rattle.std.proofs.Common.{cond, Option, Some, None, option_map, refl, sym, ap, ◌∙◌, subst, Contains, arith, ⊎_elim, inl, inr}
use Rattle.std.proofs.lemmas.List.Elements.{Contains-append_left, Contains-append_right, Contains-append_cases}
use Rattle.aa_pattern.specs.declared.pattern.Pattern.{Pattern}
use Rattle.aa_model.specs.declared.rule.Exec.{Exec}
use Rattle.aa_model.specs.declared.rule.FileRule.{FileRule}
use Rattle.aa_model.specs.declared.rule.CapRule.{CapRule}
use Rattle.aa_model.specs.declared.rule.NetRule.{NetRule}
use Rattle.aa_model.specs.declared.rule.ChangeRule.{ChangeRule}
use Rattle.aa_base.specs.Tables.{capability_names, family_names, sock_type_names}
use Rattle.aa_model.specs.Lawful.{has_exec}
use Rattle.aa_auto.specs.Tables.{ListsMatching}
use Rattle.aa_regions.specs.declared.regions.Region.{Region}
use Rattle.aa_regions.specs.Regions.{ArePathRegions, AreRegions, IsAsked}
use Rattle.aa_regions.specs.Wanted.{IsWanted}
use Rattle.aa_compile.specs.declared.side.Chosen.{Chosen}
use Rattle.aa_compile.specs.declared.sets.RuleSets.{RuleSets}
use Rattle.aa_compile.specs.Gathered.{picked}
use Rattle.aa_compile.specs.Sides.{no_choice}
use Rattle.aa_compile.specs.FileRules.{file_verdict, chosen, way_of}
use Rattle.aa_compile.specs.Holding.{cap_holds, net_holds, change_holds}
use Rattle.aa_compile.specs.Rows.{patterns_of}
use Rattle.aa_compile.specs.Ways.{way_by}
use Rattle.aa_compile.proofs.ConflictLemmas.{in_head, in_tail, in_cases, not_in}
use Rattle.aa_compile.proofs.Transitions.{Says, chosen_says}
use Rattle.aa_compile.proofs.WayLemmas.{tells_apart}
use Rattle.aa_mediate.specs.Held.{cap_verdict, net_verdict, change_verdict}
use Rattle.aa_representatives.specs.Alike.{patterns_in, change_patterns}
use Rattle.aa_representatives.proofs.Standing.{same_list}
use Rattle.aa_representatives.proofs.Matched.{change_alike}
use Rattle.aa_redundancy.specs.declared.rights.Rights.{Rights}
use Rattle.aa_redundancy.specs.declared.marks.RuleMark.{RuleMark}
use Rattle.aa_redundancy.specs.declared.saying.Saying.{Saying}
use Rattle.aa_redundancy.specs.declared.tables.Table.{Table}
use Rattle.aa_redundancy.specs.Without.{without_from, without}
use Rattle.aa_redundancy.specs.Rights.{Lead, rights, lead_by, lead}
use Rattle.aa_redundancy.specs.Marks.{marks_from, said_by}
use Rattle.aa_redundancy.specs.Plain.{cap_marks, net_marks, change_marks, cap_row, net_row, change_row, HasRows}
use Rattle.aa_redundancy.specs.Sameness.{SameFiles}
use Rattle.aa_redundancy.specs.Covering.{IsWithin, LeadsAlike, Within, FilesWithin}
use Rattle.aa_redundancy.specs.Tables.{Relation, Equal, Decides}
use Rattle.aa_redundancy.proofs.Numbered.{left_in}
use Rattle.aa_redundancy.proofs.Masked.{saying_left, said_is as files_said}
use Rattle.aa_redundancy.proofs.PlainMarks.{said_is as plain_said}

-- something of each element of a list is in the list of them
pub in_map : {X Y : Type 0} (f : X → Y) (xs : List X) (x : X) → Contains xs x → Contains (map f xs) (f x)
in_map f [] x c = absurd (not_in x c)
in_map {X} {Y} f (y ∷ ys) x c =
    ⊎_elim (λ (e : y ≡ x). let P : X → Type 0 = λ z. Contains (f y ∷ map f ys) (f z) in subst P e (in_head (f y) (map f ys)))
    (λ (d : Contains ys x). in_tail (f y) (f x) (map f ys) (in_map f ys x d)) (in_cases y x ys c)

pub map_in : {X Y : Type 0} (f : X → Y) (xs : List X) (y : Y) → Contains (map f xs) y → (x : X) × Contains xs x × (f x ≡ y)
map_in f [] y c = absurd (not_in y c)
map_in {X} {Y} f (x ∷ xs) y c =
    ⊎_elim (λ (e : f x ≡ y). (x, in_head x xs, e))
    (λ (d : Contains (map f xs) y). let q = map_in f xs y d in (q.0, in_tail x q.0 xs q.1, q.2)) (in_cases (f x) y (map f xs) c)

-- ways of rules have one number only if they are one
module _ (rules : List FileRule) where
  abbrev Told : Option Exec → Type 0
  Told s = (a : Exec) → s ≡ Some a → Says rules a

  ways_same : (s t : Option Exec) → Told s → Told t → option_map (way_by rules) s ≡ option_map (way_by rules) t → s ≡ t
  ways_same None None f g e = refl
  ways_same None (Some b) f g e = absurd (let h = e in cc)
  ways_same (Some a) None f g e = absurd (let h = e in cc)
  ways_same (Some a) (Some b) f g e =
      let x = f a refl in
      let y = g b refl in
      let same : way_by rules a ≡ way_by rules b = cc in
      ap Some (tells_apart rules x.rule y.rule a b x.in_rules y.in_rules x.says y.says same)

  abbrev mk : Option Exec → Bool → Lead
  mk w a = record { way = w; audited = a }

  abbrev number : Lead → Chosen
  number l = record { way = option_map (way_by rules) l.way; audited = l.audited }

  leads_same : (l m : Lead) → Told l.way → Told m.way → number l ≡ number m → l ≡ m
  leads_same l m f g e =
      ap (λ (w : Option Exec). mk w l.audited) (ways_same l.way m.way f g (ap (λ (c : Chosen). c.way) e))
      ∙ ap (λ (a : Bool). mk m.way a) (ap (λ (c : Chosen). c.audited) e)

  lead_says : (denied : Bool) (rs : List FileRule) → Told (way_of rs) → Told (lead_by denied rs).way
  lead_says true rs f = λ a e. absurd (let h = e in cc)
  lead_says false rs f = f

  left_says : (gone : ℕ → Bool) (path : List ℕ) (owned : Bool) → Told (lead (without gone rules) path owned).way
  left_says gone path owned =
      lead_says (has_exec (file_verdict (without gone rules) path owned).deny) (chosen (without gone rules) path owned)
      (λ a e. let s = chosen_says (without gone rules) path owned a e in record { rule = s.rule; in_rules = left_in gone 0 rules s.rule s.in_rules; says = s.says })

  no_way : (s : Option Exec) → option_map (way_by rules) s ≡ None → s ≡ None
  no_way None e = refl
  no_way (Some a) e = absurd (let h = e in cc)

  module _ (gone others : ℕ → Bool) (path : List ℕ) (owned : Bool) where
    abbrev left_saying : (ℕ → Bool) → Saying
    left_saying g = saying_left (way_by rules) rules path g owned

    abbrev left_rights : (ℕ → Bool) → Rights
    left_rights g = rights (file_verdict (without g rules) path owned)

    abbrev left_lead : (ℕ → Bool) → Lead
    left_lead g = lead (without g rules) path owned

    abbrev IsSameLeft : Type 0
    IsSameLeft = (left_rights gone ≡ left_rights others) × (left_lead gone ≡ left_lead others)

    abbrev IsWithinLeft : Type 0
    IsWithinLeft = IsWithin (left_rights gone) (left_rights others) × LeadsAlike (left_lead gone).way (left_lead others).way

    from_same : left_saying gone ≡ left_saying others → IsSameLeft
    from_same e = (
      ap (λ (s : Saying). s.rights) e,
      leads_same (left_lead gone) (left_lead others) (left_says gone path owned) (left_says others path owned) (ap (λ (s : Saying). s.chosen) e),
    )

    to_same : IsSameLeft → left_saying gone ≡ left_saying others
    to_same e =
        ap (λ (r : Rights). let s : Saying = record { rights = r; chosen = number (left_lead gone) } in s) e.0
        ∙ ap (λ (l : Lead). let s : Saying = record { rights = left_rights others; chosen = number l } in s) e.1

    from_within : Within (left_saying gone) (left_saying others) → IsWithinLeft
    from_within e = (
      e.0,
      ⊎_elim (λ (h : option_map (way_by rules) (left_lead gone).way ≡ None). inl (no_way (left_lead gone).way h))
          (λ (h : option_map (way_by rules) (left_lead gone).way ≡ option_map (way_by rules) (left_lead others).way).
          inr (ways_same (left_lead gone).way (left_lead others).way (left_says gone path owned) (left_says others path owned) h)) e.1,
    )

    to_within : IsWithinLeft → Within (left_saying gone) (left_saying others)
    to_within e = (
      e.0,
      ⊎_elim (λ (h : (left_lead gone).way ≡ None). inl (ap (option_map (way_by rules)) h))
          (λ (h : (left_lead gone).way ≡ (left_lead others).way). inr (ap (option_map (way_by rules)) h)) e.1,
    )

  module _ (t : Table) (regions : List Region) (are : ArePathRegions (patterns_of rules) regions) (marks : t.marks.items ≡ marks_from (way_by rules) 0 rules) (rows : t.rows.items ≡ map (λ (r : Region). r.numbers) regions) where
    abbrev said_at : (ℕ → Bool) → Bool → List ℕ → Saying
    said_at g owned row = said_by g owned (picked t.marks.items row)

    at_row : (g : ℕ → Bool) (path : List ℕ) (owned : Bool) (row : List ℕ) → ListsMatching (patterns_of rules) path row → said_at g owned row ≡ saying_left (way_by rules) rules path g owned
    at_row g path owned row lists = ap (λ (ms : List RuleMark). said_by g owned (picked ms row)) marks ∙ files_said (way_by rules) rules path g owned row lists

    -- a relation of what is said is one of the rules that are left
    module _ (R : Relation) (Holds : (ℕ → Bool) → (ℕ → Bool) → List ℕ → Bool → Type 0)
        (from : (gone others : ℕ → Bool) (path : List ℕ) (owned : Bool) → R (left_saying gone others path owned gone) (left_saying gone others path owned others) → Holds gone others path owned)
        (to : (gone others : ℕ → Bool) (path : List ℕ) (owned : Bool) → Holds gone others path owned → R (left_saying gone others path owned gone) (left_saying gone others path owned others)) where
      decide_by : Decides R t (λ gone others. (path : List ℕ) (owned : Bool) → IsAsked path → Holds gone others path owned)
      decide_by = record {
        same = λ gone others same path owned asked.
            let r = are.all path asked in
            let here : Contains t.rows.items r.0.numbers = subst (λ (l : List (List ℕ)). Contains l r.0.numbers) (sym rows) (in_map (λ (x : Region). x.numbers) regions r.0 r.1) in
            from gone others path owned
            (subst (λ (s : Saying). R s (saying_left (way_by rules) rules path others owned)) (at_row gone path owned r.0.numbers r.2)
            (subst (λ (s : Saying). R (said_at gone owned r.0.numbers) s) (at_row others path owned r.0.numbers r.2) (same r.0.numbers here owned)));
        told = λ gone others holds row c owned.
            let r = map_in (λ (x : Region). x.numbers) regions row (subst (λ (l : List (List ℕ)). Contains l row) rows c) in
            let is = are.each r.0 r.1 in
            let w = r.0.witness in
            let lists = subst (λ (l : List ℕ). ListsMatching (patterns_of rules) w l) r.2 is.lists in
            subst (λ (s : Saying). R s (said_at others owned row)) (sym (at_row gone w owned row lists))
            (subst (λ (s : Saying). R (saying_left (way_by rules) rules w gone owned) s) (sym (at_row others w owned row lists)) (to gone others w owned (holds w owned is.asked)));
      }

    pub files_decide : Decides Equal t (λ gone others. SameFiles (without gone rules) (without others rules))
    files_decide = decide_by Equal IsSameLeft from_same to_same

    pub files_within : Decides Within t (λ gone others. FilesWithin (without gone rules) (without others rules))
    files_within = decide_by Within IsWithinLeft from_within to_within

-- how many entries the tables have
many_caps : length capability_names ≡ 41
unfolding capability_names
many_caps = refl

many_families : length family_names ≡ 44
unfolding family_names
many_families = refl

many_types : length sock_type_names ≡ 6
unfolding sock_type_names
many_types = refl

-- rules that aren't about files
abbrev plain_saying : RuleSets → Saying
plain_saying v = record { rights = rights v; chosen = no_choice }

-- a relation of what is said by such rules is one of their rights
pub record IsOfRights (R : Relation) (T : Rights → Rights → Type 0) : Type 0 where
  pub from : (v w : RuleSets) → R (plain_saying v) (plain_saying w) → T (rights v) (rights w)
  pub to : (v w : RuleSets) → T (rights v) (rights w) → R (plain_saying v) (plain_saying w)

abbrev pub SameRights : Rights → Rights → Type 0
SameRights v w = v ≡ w

pub equal_rights : IsOfRights Equal SameRights
equal_rights = record {
  from = λ v w e. ap (λ (s : Saying). s.rights) e;
  to = λ v w e. ap (λ (r : Rights). let s : Saying = record { rights = r; chosen = no_choice } in s) e;
}

pub within_rights : IsOfRights Within IsWithin
within_rights = record { from = λ v w e. e.0; to = λ v w e. (e, inl refl) }

-- what is said of one thing is what a verdict says, without rules and without others
module _ (R : Relation) (T : Rights → Rights → Type 0) (of : IsOfRights R T) (said : (ℕ → Bool) → Bool → Saying) (verdict : (ℕ → Bool) → RuleSets)
    (is : (g : ℕ → Bool) (owned : Bool) → said g owned ≡ plain_saying (verdict g)) where
  to_rights : (gone others : ℕ → Bool) → ((owned : Bool) → R (said gone owned) (said others owned)) → T (rights (verdict gone)) (rights (verdict others))
  to_rights gone others related =
      of.from (verdict gone) (verdict others)
      (subst (λ (s : Saying). R s (plain_saying (verdict others))) (is gone true) (subst (λ (s : Saying). R (said gone true) s) (is others true) (related true)))

  to_said : (gone others : ℕ → Bool) → T (rights (verdict gone)) (rights (verdict others)) → (owned : Bool) → R (said gone owned) (said others owned)
  to_said gone others related owned =
      subst (λ (s : Saying). R s (said others owned)) (sym (is gone owned))
      (subst (λ (s : Saying). R (plain_saying (verdict gone)) s) (sym (is others owned)) (of.to (verdict gone) (verdict others) related))

module _ (rules : List CapRule) (t : Table) (marks : t.marks.items ≡ cap_marks 0 rules) (rows : HasRows (cap_row rules) 41 t.rows.items) where
  abbrev cap_said : ℕ → (ℕ → Bool) → Bool → Saying
  cap_said c g owned = said_by g owned (picked t.marks.items (cap_row rules c))

  cap_at : (c : ℕ) (g : ℕ → Bool) (owned : Bool) → cap_said c g owned ≡ plain_saying (cap_verdict (without g rules) c)
  cap_at c g owned =
      ap (λ (ms : List RuleMark). said_by g owned (picked ms (cap_row rules c))) marks
      ∙ plain_said (λ (r : CapRule). r.audit) (λ (r : CapRule). r.deny) (cap_holds c) rules g owned

  module _ (R : Relation) (T : Rights → Rights → Type 0) (of : IsOfRights R T) where
    pub caps_decide : Decides R t (λ gone others. (c : ℕ) → c < length capability_names → T (rights (cap_verdict (without gone rules) c)) (rights (cap_verdict (without others rules) c)))
    caps_decide = record {
      same = λ gone others same c lt.
          to_rights R T of (cap_said c) (λ g. cap_verdict (without g rules) c) (cap_at c) gone others (same (cap_row rules c) (rows.all c (omega (arith, lt, many_caps))));
      told = λ gone others holds row c owned.
          let k = rows.each row c in
          subst (λ (l : List ℕ). R (said_by gone owned (picked t.marks.items l)) (said_by others owned (picked t.marks.items l))) (sym k.2)
          (to_said R T of (cap_said k.0) (λ g. cap_verdict (without g rules) k.0) (cap_at k.0) gone others (holds k.0 (omega (arith, k.1, many_caps))) owned);
    }

module _ (rules : List NetRule) (t : Table) (marks : t.marks.items ≡ net_marks 0 rules) (rows : HasRows (λ n. net_row rules (n / 6) (n % 6)) 264 t.rows.items) where
  abbrev net_said : ℕ → ℕ → (ℕ → Bool) → Bool → Saying
  net_said f s g owned = said_by g owned (picked t.marks.items (net_row rules f s))

  net_at : (f s : ℕ) (g : ℕ → Bool) (owned : Bool) → net_said f s g owned ≡ plain_saying (net_verdict (without g rules) f s)
  net_at f s g owned =
      ap (λ (ms : List RuleMark). said_by g owned (picked ms (net_row rules f s))) marks
      ∙ plain_said (λ (r : NetRule). r.audit) (λ (r : NetRule). r.deny) (net_holds f s) rules g owned

  row_there : (f s : ℕ) → f < 44 → s < 6 → Contains t.rows.items (net_row rules f s)
  row_there f s p q =
      let n = f * 6 + s in
      let a : n / 6 ≡ f = omega arith in
      let b : n % 6 ≡ s = omega arith in
      subst (λ (i : ℕ). Contains t.rows.items (net_row rules i s)) a (subst (λ (j : ℕ). Contains t.rows.items (net_row rules (n / 6) j)) b (rows.all n (omega arith)))

  module _ (R : Relation) (T : Rights → Rights → Type 0) (of : IsOfRights R T) where
    pub nets_decide : Decides R t (λ gone others. (f s : ℕ) → f < length family_names → s < length sock_type_names → T (rights (net_verdict (without gone rules) f s)) (rights (net_verdict (without others rules) f s)))
    nets_decide = record {
      same = λ gone others same f s lt less.
          to_rights R T of (net_said f s) (λ g. net_verdict (without g rules) f s) (net_at f s) gone others
          (same (net_row rules f s) (row_there f s (omega (arith, lt, many_families)) (omega (arith, less, many_types))));
      told = λ gone others holds row c owned.
          let k = rows.each row c in
          let f = k.0 / 6 in
          let s = k.0 % 6 in
          subst (λ (l : List ℕ). R (said_by gone owned (picked t.marks.items l)) (said_by others owned (picked t.marks.items l))) (sym k.2)
          (to_said R T of (net_said f s) (λ g. net_verdict (without g rules) f s) (net_at f s) gone others (holds f s (omega (arith, k.1, many_families)) (omega (arith, many_types))) owned);
    }

-- the patterns of what is left were there
left_patterns : (gone : ℕ → Bool) (k : ℕ) (rules : List ChangeRule) (p : Pattern) → Contains (change_patterns (without_from gone k rules)) p → Contains (change_patterns rules) p
left_patterns gone k [] p c = c
left_patterns gone k (r ∷ rs) p c = at (gone k) (left_patterns gone (suc k) rs p) c
  where
    at : (g : Bool) → (Contains (change_patterns (without_from gone (suc k) rs)) p → Contains (change_patterns rs) p)
        → Contains (change_patterns (cond g (without_from gone (suc k) rs) (r ∷ without_from gone (suc k) rs))) p → Contains (change_patterns (r ∷ rs)) p
    at true so d = Contains-append_right (patterns_in r.pattern) (change_patterns rs) p (so d)
    at false so d =
        ⊎_elim (λ (h : Contains (patterns_in r.pattern) p). Contains-append_left (patterns_in r.pattern) (change_patterns rs) p h)
        (λ (h : Contains (change_patterns (without_from gone (suc k) rs)) p). Contains-append_right (patterns_in r.pattern) (change_patterns rs) p (so h))
        (Contains-append_cases (patterns_in r.pattern) (change_patterns (without_from gone (suc k) rs)) p d)

module _ (rules : List ChangeRule) (t : Table) (regions : List Region) (are : AreRegions (change_patterns rules) [] 1 1024 regions)
    (marks : t.marks.items ≡ change_marks 0 rules) (rows : t.rows.items ≡ map (λ (r : Region). change_row rules r.witness) regions) where
  abbrev change_said : List ℕ → (ℕ → Bool) → Bool → Saying
  change_said name g owned = said_by g owned (picked t.marks.items (change_row rules name))

  change_at : (name : List ℕ) (g : ℕ → Bool) (owned : Bool) → change_said name g owned ≡ plain_saying (change_verdict (without g rules) name)
  change_at name g owned =
      ap (λ (ms : List RuleMark). said_by g owned (picked ms (change_row rules name))) marks
      ∙ plain_said (λ (r : ChangeRule). r.audit) (λ (r : ChangeRule). r.deny) (change_holds name) rules g owned

  module _ (R : Relation) (T : Rights → Rights → Type 0) (of : IsOfRights R T) where
    pub changes_decide : Decides R t (λ gone others. (name : List ℕ) → IsWanted [] 1 1024 name → T (rights (change_verdict (without gone rules) name)) (rights (change_verdict (without others rules) name)))
    changes_decide = record {
      same = λ gone others same name wanted.
          let r = are.all name wanted in
          let w = r.0.witness in
          let alike = same_list (change_patterns rules) name w r.0.numbers r.2 (are.each r.0 r.1).lists in
          let here : Contains t.rows.items (change_row rules w) = subst (λ (l : List (List ℕ)). Contains l (change_row rules w)) (sym rows) (in_map (λ (x : Region). change_row rules x.witness) regions r.0 r.1) in
          let there : (g : ℕ → Bool) → rights (change_verdict (without g rules) w) ≡ rights (change_verdict (without g rules) name) =
          λ g. ap rights (sym (change_alike name w (without g rules) (λ p c. alike p (left_patterns g 0 rules p c)))) in
          subst (λ (v : Rights). T v (rights (change_verdict (without others rules) name))) (there gone)
          (subst (λ (v : Rights). T (rights (change_verdict (without gone rules) w)) v) (there others)
          (to_rights R T of (change_said w) (λ g. change_verdict (without g rules) w) (change_at w) gone others (same (change_row rules w) here)));
      told = λ gone others holds row c owned.
          let r = map_in (λ (x : Region). change_row rules x.witness) regions row (subst (λ (l : List (List ℕ)). Contains l row) rows c) in
          let w = r.0.witness in
          subst (λ (l : List ℕ). R (said_by gone owned (picked t.marks.items l)) (said_by others owned (picked t.marks.items l))) r.2
          (to_said R T of (change_said w) (λ g. change_verdict (without g rules) w) (change_at w) gone others (holds w (are.each r.0 r.1).wanted) owned);
    }
