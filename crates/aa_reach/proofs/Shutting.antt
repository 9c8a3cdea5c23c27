-- Labels at which no skipped file could change what is answered.
use Rattle.std.proofs.Common.{◌≡◌, ℕ, zero, suc, ◌+◌, ◌<◌, ◌≤◌, List, [], ◌∷◌, ◌++◌, map, length, Bool, true, false}
use Rattle.std.proofs.Common.{true≢false, Option, Some, None}
use Rattle.std.proofs.Common.{refl, sym, ap, ◌∙◌, subst, arith, ⊎_elim, add-one, append-nil}
use Rattle.std.specs.Prelude.{not, ◌||◌, slice_index_or}
use Rattle.std.specs.Option.{option_map_or}
use Rattle.std.specs.List.{list_any, slice_get}
use Rattle.std.proofs.lemmas.Bool.{cases_lt}
use Rattle.std.proofs.lemmas.List.{map-append, get_or_past, length_push, get_or_append_left, get_or_push}
use Rattle.std.proofs.lemmas.Option.{slice_get_within}
use Rattle.aa_model.specs.declared.policy.Policy.{Policy}
use Rattle.aa_model.specs.declared.policy.Profile.{Profile}
use Rattle.aa_model.specs.declared.label.Label.{Label}
use Rattle.aa_model.specs.declared.label.Label.TheVariants.{Unconfined, Confined}
use Rattle.aa_model.specs.declared.request.Request.{Request}
use Rattle.aa_compile.specs.FileRules.{is_nil}
use Rattle.aa_skipping.specs.declared.unread.Unread.{Unread}
use Rattle.aa_skipping.specs.Undecided.{undecided}
use Rattle.aa_differences.specs.Openings.{is_open_in, is_open_label, ClosedLabels}
use Rattle.aa_skipped.specs.declared.skipped.Skipped.{Skipped}
use Rattle.aa_undecided.specs.Holding.{unreads}
use Rattle.aa_reachability.specs.Beside.{one_doubts, is_doubted, number_of, is_sure, AreOpenings}
use Rattle.aa_undecided.specs.declared.answered.SkippedAt.{SkippedAt}
use Rattle.aa_undecided.specs.Answers.{placed_all}
use Rattle.aa_reach.specs.declared.doubts.Doubt.{Doubt}
use Rattle.aa_reach.specs.Names.{Name, name_in}
use Rattle.aa_reach.specs.Doubts.{Doubted, doubted, doubted_if, is_opened_in, is_opened, IsShut, label_numbered, AreOpened, opens}
use Rattle.aa_command.specs.Counts.{count_of}

both_false : (a b : Bool) → (a || b) ≡ false → (a ≡ false) × (b ≡ false)
both_false true b e = absurd (true≢false e)
both_false false b e = (refl, e)

not_so : (b : Bool) → not b ≡ true → b ≡ false
not_so true e = absurd (true≢false (sym e))
not_so false e = refl

-- ---- a shut label is decided

shut_all : ClosedLabels → (profiles : List Profile) (l : Label) (r : Request) (skipped : List Skipped) → list_any (opens profiles l) skipped ≡ false
    → list_any (λ (u : Unread). undecided profiles u l r) (unreads skipped) ≡ false
shut_all closed profiles l r [] e = refl
shut_all closed profiles l r (k ∷ ks) e =
    let h = both_false (opens profiles l k) (list_any (opens profiles l) ks) e in
    ap (λ (b : Bool). b || list_any (λ (u : Unread). undecided profiles u l r) (unreads ks)) (closed profiles k.unread l h.0 r)
    ∙ shut_all closed profiles l r ks h.1

shut_by : ClosedLabels → (skipped : List Skipped) (l : Label) (r : Request) (o : Option Policy) → option_map_or (is_opened_in skipped l) o true ≡ false
    → option_map_or (one_doubts (unreads skipped) l r) o false ≡ false
shut_by closed skipped l r None e = absurd (true≢false e)
shut_by closed skipped l r (Some policy) e = shut_all closed policy.profiles l r skipped e

pub shut_decided : ClosedLabels → (ps : List Policy) (skipped : List Skipped) (l : Label) → IsShut ps skipped l → (r : Request)
    → is_doubted ps (unreads skipped) l r ≡ false
unfolding is_opened is_doubted
shut_decided closed ps skipped l e r = shut_by closed skipped l r (slice_get ps 0) e

-- ---- labels by their numbers

opened_free : (skipped : List Skipped) (k : ℕ) (o : Option Policy)
    → option_map_or (is_opened_in skipped (Unconfined 0)) o true ≡ option_map_or (is_opened_in skipped (Unconfined k)) o true
unfolding is_open_label
opened_free skipped k None = refl
opened_free skipped k (Some policy) = refl

opened_in : (skipped : List Skipped) (k n : ℕ) (o : Option Policy)
    → option_map_or (is_opened_in skipped (Confined 0 n)) o true ≡ option_map_or (is_opened_in skipped (Confined k n)) o true
unfolding is_open_label
opened_in skipped k n None = refl
opened_in skipped k n (Some policy) = refl

-- the policy's number says nothing
same_opened : (ps : List Policy) (skipped : List Skipped) (l : Label) → is_opened ps skipped (label_numbered (number_of l)) ≡ is_opened ps skipped l
unfolding is_opened
same_opened ps skipped (Unconfined k) = opened_free skipped k (slice_get ps 0)
same_opened ps skipped (Confined k n) =
    ap (λ (m : ℕ). option_map_or (is_opened_in skipped (label_numbered m)) (slice_get ps 0) true) (add-one n) ∙ opened_in skipped k n (slice_get ps 0)

some_of : (o : Option Profile) (f : Profile → Bool) → option_map_or f o true ≡ false → (q : Profile) × (o ≡ Some q)
some_of None f e = absurd (true≢false e)
some_of (Some q) f e = (q, refl)

within_by : (file : Skipped) (files : List Skipped) (k n : ℕ) (o : Option Policy)
    → option_map_or (is_opened_in (file ∷ files) (Confined k n)) o true ≡ false
    → n < option_map_or (λ (p : Policy). length p.profiles) o 0
unfolding is_open_label
within_by file files k n None e = absurd (true≢false e)
within_by file files k n (Some policy) e =
    let h = both_false (opens policy.profiles (Confined k n) file) (list_any (opens policy.profiles (Confined k n)) files) e in
    let q = some_of (slice_get policy.profiles n) (is_open_in policy.profiles file.unread) h.0 in
    slice_get_within policy.profiles n q.0 q.1

-- a shut label is one of a profile that is there
number_within : (ps : List Policy) (file : Skipped) (files : List Skipped) (l : Label) → IsShut ps (file ∷ files) l → number_of l < count_of ps + 1
unfolding is_opened
number_within ps file files (Unconfined k) e = omega arith
number_within ps file files (Confined k n) e =
    let lt : n < count_of ps = within_by file files k n (slice_get ps 0) e in
    omega (arith, lt)

-- ---- what is told of each label

pub opened_first : (ps : List Policy) (skipped : List Skipped) → AreOpened ps skipped 0 []
opened_first ps skipped = record { long = refl; each = λ n lt. absurd (omega (arith, lt)) }

-- of one label more
pub opened_more : (ps : List Policy) (skipped : List Skipped) (many : ℕ) (openings now : List Bool) (b : Bool) → AreOpened ps skipped many openings
    → now ≡ openings ++ b ∷ [] → b ≡ is_opened ps skipped (label_numbered many) → AreOpened ps skipped (many + 1) now
opened_more ps skipped many openings now b are more is =
    subst (AreOpened ps skipped (many + 1)) (sym more)
    (record {
      long = length_push openings b ∙ ap (λ n. n + 1) are.long;
      each = λ n lt.
          ⊎_elim
          (λ (old : n < many). get_or_append_left openings (b ∷ []) true n (omega (arith, old, are.long)) ∙ are.each n old)
          (λ (late : many ≤ n).
          let e : many ≡ n = omega (arith, late, lt) in
          subst (λ m. slice_index_or (openings ++ b ∷ []) m true ≡ is_opened ps skipped (label_numbered m)) e
          (get_or_push openings b true many are.long ∙ is))
          (cases_lt n many);
    })

module _ (ps : List Policy) (skipped : List Skipped) (openings : List Bool) (told : AreOpened ps skipped (count_of ps + 1) openings) where
  opening_is : (l : Label) → number_of l < count_of ps + 1 → slice_index_or openings (number_of l) true ≡ is_opened ps skipped l
  opening_is l lt = told.each (number_of l) lt ∙ same_opened ps skipped l

  sure_by : (ks : List Skipped) → skipped ≡ ks → (l : Label) → IsShut ps skipped l → is_sure (unreads ks) openings l ≡ true
  sure_by [] is l shut = refl
  sure_by (k ∷ ks) is l shut =
      let lt = number_within ps k ks l (subst (λ (s : List Skipped). IsShut ps s l) is shut) in
      ap (λ (b : Bool). not b) (opening_is l lt ∙ shut)

  pub shut_sure : (l : Label) → IsShut ps skipped l → is_sure (unreads skipped) openings l ≡ true
  shut_sure l shut = sure_by skipped refl l shut

  past : (l : Label) → count_of ps + 1 ≤ number_of l → slice_index_or openings (number_of l) true ≡ true
  past l le = get_or_past openings (number_of l) true (omega (arith, le, told.long))

  shut_by_number : (l : Label) → slice_index_or openings (number_of l) true ≡ false → IsShut ps skipped l
  shut_by_number l e =
      ⊎_elim
      (λ (lt : number_of l < count_of ps + 1). sym (opening_is l lt) ∙ e)
      (λ (le : count_of ps + 1 ≤ number_of l). absurd (true≢false (sym (past l le) ∙ e)))
      (cases_lt (number_of l) (count_of ps + 1))

  none_by : (l : Label) (r : Request) (o : Option Policy) → option_map_or (one_doubts [] l r) o false ≡ false
  none_by l r None = refl
  none_by l r (Some policy) = refl

  none_doubted : (l : Label) (r : Request) → is_doubted ps [] l r ≡ false
  unfolding is_doubted
  none_doubted l r = none_by l r (slice_get ps 0)

  rightly_by : ClosedLabels → (ks : List Skipped) → skipped ≡ ks → AreOpenings ps (unreads ks) openings
  rightly_by closed [] is l sure r = none_doubted l r
  rightly_by closed (k ∷ ks) is l sure r =
      let shut : IsShut ps skipped l = shut_by_number l (not_so (slice_index_or openings (number_of l) true) sure) in
      subst (λ (s : List Skipped). is_doubted ps (unreads s) l r ≡ false) is (shut_decided closed ps skipped l shut r)

  pub told_rightly : ClosedLabels → AreOpenings ps (unreads skipped) openings
  told_rightly closed = rightly_by closed skipped refl

-- ---- labels with the files

-- none is added, where there are no files
pub none_doubted_if : (at : Name) (files : List SkippedAt) (old : List Doubted) → length files ≡ 0 → old ≡ old ++ doubted_if at (placed_all files)
none_doubted_if at [] old none = sym (append-nil old)
none_doubted_if at (f ∷ fs) old none = absurd (omega (arith, none))

-- one is, where there are some
some_if : (at : Name) (files : List SkippedAt) → 0 < length files → doubted_if at (placed_all files) ≡ record { at = at; files = placed_all files } ∷ []
some_if at [] some = absurd (omega (arith, some))
some_if at (f ∷ fs) some = refl

pub some_doubted_if : (at : Name) (files : List SkippedAt) (old now : List Doubt) (d : Doubt) → 0 < length files → now ≡ old ++ d ∷ []
    → name_in d.at ≡ at → d.files.items ≡ files → map doubted now ≡ map doubted old ++ doubted_if at (placed_all files)
some_doubted_if at files old now d some more name same =
    ap (map doubted) more ∙ map-append doubted old (d ∷ [])
    ∙ ap (λ (n : Name). map doubted old ++ record { at = n; files = placed_all d.files.items } ∷ []) name
    ∙ ap (λ (fs : List SkippedAt). map doubted old ++ record { at = at; files = placed_all fs } ∷ []) same
    ∙ ap (λ (ds : List Doubted). map doubted old ++ ds) (sym (some_if at files some))
