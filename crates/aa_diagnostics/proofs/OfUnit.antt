-- Faults of a unit of which an earlier one is shown: what its text says then.
use Rattle.std.proofs.Common.{◌≡◌, ◌⊎◌, inl, inr, ℕ, zero, suc, arith, [], ◌∷◌, ◌++◌, subst, append_assoc, Bool, true, false, true≢false, cond, List, Option, Some, None, Ok, Err, refl, sym, ap, ◌∙◌}
use Rattle.std.specs.Prelude.{◌==◌, Result, IfOk, Vec}
use Rattle.std.specs.declared.alloc.Global.{Global}
use Rattle.std.specs.declared.alloc.AllocError.{AllocError}
use Rattle.aa_files.specs.Texts.{texts}
use Rattle.aa_base.specs.declared.fault.Spot.{Spot}
use Rattle.aa_base.specs.declared.fault.PolicyFault.{PolicyFault}
use Rattle.aa_base.specs.declared.fault.PolicyKind.{PolicyKind}
use Rattle.aa_base.specs.declared.fault.PolicyKind.TheVariants.{NoMemory, VariableTwice, DuplicateProfile, ConflictingExec, IncludeDepth, TooLarge}
use Rattle.aa_base.specs.Kinds.{at_start, IsRefusal}
use Rattle.aa_words.specs.declared.word.Word.{Word}
use Rattle.aa_words.specs.Splits.{WordData, words_data, Splits, Opening, fits, opened, opens, fault_of_kind, main_reading, main_count}
use Rattle.aa_words.specs.Stops.{IncludeFails, Fails, IsFaultOf}
use Rattle.aa_model.specs.declared.policy.Policy.{Policy}
use Rattle.aa_model.specs.declared.policy.Profile.{Profile}
use Rattle.aa_compile.specs.Checks.{IsRefused, ManyTops, AtProfile, Fails as Refutes, ManyFiles, Conflicting, ManyChildren}
use Rattle.std.proofs.lemmas.List.{append-nil}
use Rattle.aa_policies.specs.Policies.{Source, CanFollow, IsRefusedBehind, IsFaultOfSources, end_of, IsFaultOfWords, OfText, OfWords, OfPolicy}
use Rattle.aa_files.specs.declared.unit.Unit as unit
use Rattle.aa_load.specs.UnitPolicy.{texts_of, IsFaultOfUnit, OfSources, OfText as OfUnitText}
use Rattle.aa_glob.specs.Variables.{Variable}
use Rattle.aa_policy.specs.Preamble.{IsTwice}
use Rattle.aa_policy.specs.Bodies.{ProfileData, IsPolicy}
use Rattle.aa_policy.specs.Spelling.{Spells, IsDuplicate}
use Rattle.aa_diagnostics.specs.Further.{HasWords, ShowsConflictAt, ShowsIfConflict, SpellsNothing, ShowsSetTwice, ShowsNamedTwice}

-- the kinds of which an earlier one is shown
abbrev pub is_repeated : PolicyKind → Bool
is_repeated VariableTwice = true
is_repeated DuplicateProfile = true
is_repeated _ = false

-- and those of which anything is shown but where includes are looked for
abbrev pub is_shown : PolicyKind → Bool
is_shown ConflictingExec = true
is_shown k = is_repeated k

shown_too : (k : PolicyKind) → is_repeated k ≡ true → is_shown k ≡ true
shown_too VariableTwice e = refl
shown_too DuplicateProfile e = refl
shown_too ConflictingExec e = refl
shown_too k e = e

same_kind : (e f : PolicyFault) → e ≡ f → is_shown e.kind ≡ is_shown f.kind
same_kind e f h = ap (λ (x : PolicyFault). is_shown x.kind) h

same_repeated : (e f : PolicyFault) → e ≡ f → is_repeated e.kind ≡ is_repeated f.kind
same_repeated e f h = ap (λ (x : PolicyFault). is_repeated x.kind) h

-- ---- faults of words

opens_kind : (d : ℕ) (sources : List Source) → ((o : Opening) (f : PolicyFault) → Fails d sources o.reading o.text o.count f → is_shown f.kind ≡ false)
    → (depth : ℕ) (spot : Spot) (optional : Bool) (o : Opening) (found : Option (ℕ × List ℕ)) (f : PolicyFault) → IncludeFails (Fails d sources) (opens depth spot optional o.count found) f → is_shown f.kind ≡ false
opens_kind d sources deeper depth spot true o None f h = absurd h
opens_kind d sources deeper depth spot false o None f h = same_kind f _ h
opens_kind d sources deeper depth spot optional o (Some source) f h = by (depth == 0) (fits o.count source.1) h
  where
    by : (b c : Bool) → IncludeFails (Fails d sources) (cond b (Err (fault_of_kind IncludeDepth spot)) (cond c (Ok (Some (opened o.count source))) (Err (at_start TooLarge)))) f → is_shown f.kind ≡ false
    by true c h = same_kind f _ h
    by false true h = deeper (opened o.count source) f h
    by false false h = same_kind f _ h

fails_kind : (d : ℕ) (sources : List Source) (o : Opening) (f : PolicyFault) → Fails d sources o.reading o.text o.count f → is_shown f.kind ≡ false
unfolding Fails
fails_kind zero sources o f h = absurd h
fails_kind (suc d) sources o f h =
    elim h.stop [
      | inl a ↦ same_kind f _ a.1
      | inr b ↦ opens_kind d sources (fails_kind d sources) d _ _ (record { reading = o.reading; text = h.rest; count = h.count }) _ f b.1
    ]

words_kind : (sources : List Source) (text : List ℕ) (f : PolicyFault) → IsFaultOf sources text f → is_shown f.kind ≡ false
words_kind sources text f h =
    elim h [
      | inl memory ↦ same_kind f _ memory
      | inr other ↦ elim other [
        | inl large ↦ same_kind f _ large.1
        | inr stops ↦ fails_kind 17 sources (record { reading = main_reading; text = text; count = main_count text }) f stops.1
      ]
    ]

-- ---- faults of sources and of compiling

sources_kind : (sources : List Source) (f : PolicyFault) → IsFaultOfSources sources f → is_shown f.kind ≡ false
sources_kind sources f h = elim h.fault [ inl large ↦ same_kind f _ large.0 | inr twice ↦ same_kind f _ twice.0 ]

refutes_kind : (profiles : List Profile) (limit number : ℕ) (p : Profile) (f : PolicyFault) → Refutes profiles limit number p f → is_repeated f.kind ≡ false
refutes_kind profiles limit number p f (ManyFiles e a) = same_repeated f _ e
refutes_kind profiles limit number p f (Conflicting e a b) = same_repeated f _ e
refutes_kind profiles limit number p f (ManyChildren e a b d) = same_repeated f _ e

policy_kind : (profiles : List Profile) (limit : ℕ) (f : PolicyFault) → IsRefused profiles limit f → is_repeated f.kind ≡ false
policy_kind profiles limit f (ManyTops e a) = same_repeated f _ e
policy_kind profiles limit f (AtProfile a r) = refutes_kind profiles limit r.number r.profile f r.fails

-- ---- the unit

differ : {A : Type 0} (b : Bool) → b ≡ true → b ≡ false → A
differ b t f = absurd (true≢false (sym t ∙ f))

-- its text has words, which are at fault
pub unit_words : (limit : ℕ) (u : unit.Unit) (f : PolicyFault) → is_repeated f.kind ≡ true → IsFaultOfUnit limit u f
    → (ws : List Word) × HasWords u (words_data ws) × IsFaultOfWords ws (end_of u.text.items) f
unit_words limit u f e (OfSources s) = differ (is_shown f.kind) (shown_too f.kind e) (sources_kind (texts_of u) f s)
unit_words limit u f e (OfUnitText fit t) =
    elim t [
      | OfText none why ↦ differ (is_shown f.kind) (shown_too f.kind e) (words_kind (texts_of u) u.text.items f why)
      | OfWords ws split fault ↦ (ws, record { fit = fit; split = split }, fault)
      | OfPolicy policy spelled refused ↦ differ (is_repeated f.kind) e (policy_kind policy.profiles limit f refused)
    ]

-- its text has words, which spell a policy that is refused
pub unit_policy : (limit : ℕ) (u : unit.Unit) (at : Spot) → IsFaultOfUnit limit u (record { kind = ConflictingExec; at = at })
    → (ws : List WordData) × (policy : Policy) × HasWords u ws × Spells ws policy × IsRefused policy.profiles limit (record { kind = ConflictingExec; at = at })
unit_policy limit u at (OfSources s) = differ true refl (sources_kind (texts_of u) (record { kind = ConflictingExec; at = at }) s)
unit_policy limit u at (OfUnitText fit t) =
    elim t [
      | OfText none why ↦ differ true refl (words_kind (texts_of u) u.text.items (record { kind = ConflictingExec; at = at }) why)
      | OfWords ws split fault ↦ elim fault.kind [ inl e ↦ let k : ConflictingExec ≡ NoMemory = ap (λ (x : PolicyFault). x.kind) e in cc | inr e ↦ absurd (true≢false (sym e)) ]
      | OfPolicy policy spelled refused ↦ (spelled.words, policy, record { fit = fit; split = spelled.split }, spelled.spelled, refused)
    ]

-- ---- sources that can be handed in

behind : (earlier before rest : List Source) → CanFollow earlier (before ++ rest) → CanFollow (earlier ++ before) rest
behind earlier [] rest can = subst (λ (l : List Source). CanFollow l rest) (sym (append-nil earlier)) can
behind earlier (x ∷ xs) rest can = subst (λ (l : List Source). CanFollow l rest) (append_assoc earlier (x ∷ []) xs) (behind (earlier ++ x ∷ []) xs rest can.3)

none_refused : (earlier : List Source) (source : Source) (rest : List Source) (f : PolicyFault) → CanFollow earlier (source ∷ rest) → IsRefusedBehind earlier source f → ⊥
none_refused earlier source rest f can why =
    elim why [
      | inl large ↦ elim large.1 [ inl long ↦ let short = can.0 in omega (arith, long) | inr many ↦ let room = can.1 in omega (arith, many) ]
      | inr twice ↦ true≢false (sym twice.3 ∙ can.2)
    ]

-- none is refused then
pub handed_in : (sources : List Source) (f : PolicyFault) → CanFollow [] sources → IsFaultOfSources sources f → ⊥
handed_in sources f can why =
    none_refused why.before why.source why.behind f (behind [] why.before (why.source ∷ why.behind) (subst (λ (l : List Source). CanFollow [] l) why.are can)) why.fault

-- ---- lines

abbrev pub Lines : Type 0
Lines = Vec (Vec ℕ Global) Global

-- what is shown where nothing is refused
pub shown_through : {G : Type 0} (P : List (List ℕ) → Type 0) (lines : Result Lines PolicyFault) (out : Result Lines AllocError)
    → IfOk out (λ found. (IsRefusal lines × (texts found.items ≡ [])) ⊎ (lines ≡ Ok found))
    → (G → IsRefusal lines → ⊥) → (G → IfOk lines (λ found. P (texts found.items))) → IfOk out (λ found. G → P (texts found.items))
shown_through P lines (Err e) h never gives = tt
shown_through P lines (Ok found) h never gives = λ g.
    elim h [
      | inl none ↦ absurd (never g none.0)
      | inr is ↦ subst (λ (r : Result Lines PolicyFault). IfOk r (λ l. P (texts l.items))) is (gives g)
    ]

pub if_ok_more : {X E : Type 0} (P Q : X → Type 0) (r : Result X E) → ((x : X) → P x → Q x) → IfOk r P → IfOk r Q
if_ok_more P Q (Ok x) f h = f x h
if_ok_more P Q (Err e) f h = tt

-- ---- the words of the sources and the text that were handed in

pub own_words : (u : unit.Unit) (sources : List Source) (text : List ℕ) (ws : List WordData) → sources ≡ texts_of u → text ≡ u.text.items → Splits sources text ws → Splits (texts_of u) u.text.items ws
own_words u sources text ws s t h = subst (λ (l : List Source). Splits l u.text.items ws) s (subst (λ (x : List ℕ). Splits sources x ws) t h)

pub lent_words : (u : unit.Unit) (sources : List Source) (text : List ℕ) (ws : List WordData) → sources ≡ texts_of u → text ≡ u.text.items → Splits (texts_of u) u.text.items ws → Splits sources text ws
lent_words u sources text ws s t h = subst (λ (l : List Source). Splits l text ws) (sym s) (subst (λ (x : List ℕ). Splits (texts_of u) x ws) (sym t) h)

-- ---- what is shown of a fault of the unit

abbrev fault : PolicyKind → Spot → PolicyFault
fault kind at = record { kind = kind; at = at }

pub shows_set : (limit : ℕ) (u : unit.Unit) (at : Spot) (lines : Result Lines PolicyFault) (out : Result Lines AllocError)
    → IfOk out (λ found. (IsRefusal lines × (texts found.items ≡ [])) ⊎ (lines ≡ Ok found)) → (IsRefusal lines → (ws : List WordData) → HasWords u ws → ⊥)
    → IfOk lines (λ found. (ws : List WordData) → HasWords u ws → IsTwice ws at → ShowsSetTwice u at (texts found.items))
    → IfOk out (λ found. IsFaultOfUnit limit u (fault VariableTwice at) → ShowsSetTwice u at (texts found.items))
shows_set limit u at lines out through refused twice =
    shown_through (ShowsSetTwice u at) lines out through
    (λ h r. let w = unit_words limit u (fault VariableTwice at) refl h in refused r (words_data w.0) w.1)
    (λ h.
    let w = unit_words limit u (fault VariableTwice at) refl h in
    if_ok_more (λ (l : Lines). (ws : List WordData) → HasWords u ws → IsTwice ws at → ShowsSetTwice u at (texts l.items)) (λ (l : Lines). ShowsSetTwice u at (texts l.items)) lines
    (λ l shows. shows (words_data w.0) w.1 (w.2.twice refl)) twice)

pub shows_named : (limit : ℕ) (u : unit.Unit) (at : Spot) (lines : Result Lines PolicyFault) (out : Result Lines AllocError)
    → IfOk out (λ found. (IsRefusal lines × (texts found.items ≡ [])) ⊎ (lines ≡ Ok found))
    → (IsRefusal lines → (ws : List WordData) → HasWords u ws → (vars : List Variable) (tree : List ProfileData) → IsPolicy ws vars tree → ⊥)
    → IfOk lines (λ found. (ws : List WordData) → HasWords u ws → IsDuplicate ws at → ShowsNamedTwice u at (texts found.items))
    → IfOk out (λ found. IsFaultOfUnit limit u (fault DuplicateProfile at) → ShowsNamedTwice u at (texts found.items))
shows_named limit u at lines out through refused twice =
    shown_through (ShowsNamedTwice u at) lines out through
    (λ h r.
    let w = unit_words limit u (fault DuplicateProfile at) refl h in
    let d = w.2.duplicate refl in
    refused r (words_data w.0) w.1 d.vars d.tree d.written)
    (λ h.
    let w = unit_words limit u (fault DuplicateProfile at) refl h in
    if_ok_more (λ (l : Lines). (ws : List WordData) → HasWords u ws → IsDuplicate ws at → ShowsNamedTwice u at (texts l.items)) (λ (l : Lines). ShowsNamedTwice u at (texts l.items)) lines
    (λ l shows. shows (words_data w.0) w.1 (w.2.duplicate refl)) twice)

-- a conflict is shown, if there is one, or there is no policy
pub shows_clash : (limit : ℕ) (u : unit.Unit) (at : Spot) (lines : Result Lines PolicyFault) (out : Result Lines AllocError)
    → IfOk out (λ found. (IsRefusal lines × (texts found.items ≡ [])) ⊎ (lines ≡ Ok found)) → (IsRefusal lines → SpellsNothing u) → IfOk lines (λ found. ShowsIfConflict limit u at (texts found.items))
    → IfOk out (λ found. ShowsIfConflict limit u at (texts found.items) ⊎ ((texts found.items ≡ []) × SpellsNothing u))
shows_clash limit u at lines (Err e) through refused shown = tt
shows_clash limit u at lines (Ok found) through refused shown =
    elim through [
      | inl none ↦ inr (none.1, refused none.0)
      | inr is ↦ inl (subst (λ (r : Result Lines PolicyFault). IfOk r (λ l. ShowsIfConflict limit u at (texts l.items))) is shown)
    ]

pub shows_own_clash : (limit : ℕ) (u : unit.Unit) (at : Spot) (lines : Result Lines PolicyFault) (out : Result Lines AllocError)
    → IfOk out (λ found. (IsRefusal lines × (texts found.items ≡ [])) ⊎ (lines ≡ Ok found)) → (IsRefusal lines → SpellsNothing u)
    → IfOk lines (λ found. (ws : List WordData) (policy : Policy) → HasWords u ws → Spells ws policy → IsRefused policy.profiles limit (fault ConflictingExec at) → ShowsConflictAt u at (texts found.items))
    → IfOk out (λ found. IsFaultOfUnit limit u (fault ConflictingExec at) → ShowsConflictAt u at (texts found.items))
shows_own_clash limit u at lines out through refused own =
    shown_through (ShowsConflictAt u at) lines out through
    (λ h r. let p = unit_policy limit u at h in refused r p.0 p.1 p.2 p.3)
    (λ h.
    let p = unit_policy limit u at h in
    if_ok_more
    (λ (l : Lines). (ws : List WordData) (policy : Policy) → HasWords u ws → Spells ws policy → IsRefused policy.profiles limit (fault ConflictingExec at) → ShowsConflictAt u at (texts l.items))
    (λ (l : Lines). ShowsConflictAt u at (texts l.items)) lines
    (λ l shows. shows p.0 p.1 p.2 p.3 p.4) own)
