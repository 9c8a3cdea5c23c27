-- Differences of all labels.
use Rattle.std.proofs.Common.{◌≡◌, ◌+◌, ◌⊎◌, ℕ, inl, List, [], ◌∷◌, ◌++◌, Contains, Result, Err, refl, sym, subst, arith, ⊎_elim}
use Rattle.std.proofs.lemmas.List.Elements.{Contains-append_left, Contains-append_right, Contains-append_cases, Contains-push, Contains-push_cases}
use Rattle.aa_model.specs.declared.policy.Policy.{Policy}
use Rattle.aa_model.specs.declared.label.Label.{Label}
use Rattle.aa_model.specs.declared.answer.Answer.{Answer}
use Rattle.aa_model.specs.declared.request.Request.{Request}
use Rattle.aa_mediate.specs.Reply.{reply}
use Rattle.aa_differences.specs.declared.at_labels.Difference.{Difference}
use Rattle.aa_differences.specs.declared.labels.Labels.{Labels}
use Rattle.aa_differences.specs.declared.comparison.Excess.{Excess}
use Rattle.aa_differences.specs.declared.comparison.Excess.TheVariants.{Patterns, States}
use Rattle.aa_differences.specs.declared.comparison.UntoldLabels.{UntoldLabels}
use Rattle.aa_differences.specs.declared.comparison.Comparison.{Comparison}
use Rattle.aa_differences.specs.Same.{SameLabel, SameAnswer, SamePolicies, AnsweredAlike}
use Rattle.aa_representatives.specs.declared.fault.RepresentativesFault.{RepresentativesFault}
use Rattle.aa_representatives.specs.declared.fault.RepresentativesFault.TheVariants.{TooManyPatterns, TooManyStates}
use Rattle.aa_representatives.specs.Apart.{HaveManyPatternsAnd}
use Rattle.aa_differences.specs.Faults.{fault_of}
use Rattle.aa_differences.specs.Differences.{IsDifference, IsEntryOf, ListAllAt, ListAll, ListAllBut, HavePlacesClean, Exceed, IsUntold, AreTold, AddsAllAt}
use Rattle.aa_differences.proofs.Adding.{listed_keep}

pub no_labels : (u : UntoldLabels) → Contains [] u → ⊥
no_labels u c = omega (arith, c.1)

module _ (ps qs : List Policy) where
  pub all_keep : (l m : Label) (was now : List Difference) → ((d : Difference) → Contains was d → Contains now d) → ListAllAt ps qs l m was → ListAllAt ps qs l m now
  all_keep l m was now keep all r asked = listed_keep ps qs l m r was now keep (all r asked)

  -- nothing is added where all is answered the same
  pub adds_nothing : (limit : ℕ) (l m : Label) (was : Comparison) → ((r : Request) → AnsweredAlike ps qs l m r) → AddsAllAt ps qs limit l m was was
  adds_nothing limit l m was alike = record {
    kept = λ d c. c;
    each = λ before d c. before d c;
    still = λ u c. c;
    untold = λ before u c. before u c;
    listed = λ told r asked. inl (alike r);
  }

  -- those that are found are added
  pub adds_found : (limit : ℕ) (l m : Label) (was now : Comparison) (found : List Difference) → now.differences.items ≡ was.differences.items ++ found
      → now.untold.items ≡ was.untold.items → ((d : Difference) → Contains found d → IsDifference ps qs d) → ListAllAt ps qs l m found → AddsAllAt ps qs limit l m was now
  adds_found limit l m was now found e f each all = record {
    kept = λ d c. subst (λ (x : List Difference). Contains x d) (sym e) (Contains-append_left was.differences.items found d c);
    each = λ before d c. ⊎_elim (before d) (each d) (Contains-append_cases was.differences.items found d (subst (λ (x : List Difference). Contains x d) e c));
    still = λ u c. subst (λ (x : List UntoldLabels). Contains x u) (sym f) c;
    untold = λ before u c. before u (subst (λ (x : List UntoldLabels). Contains x u) f c);
    listed = λ told. all_keep l m found now.differences.items
        (λ d c. subst (λ (x : List Difference). Contains x d) (sym e) (Contains-append_right was.differences.items found d c)) all;
  }

  -- or the labels, where differences can't be told there
  pub adds_labels : (limit : ℕ) (was now : Comparison) (u : UntoldLabels) → now.differences.items ≡ was.differences.items
      → now.untold.items ≡ was.untold.items ++ u ∷ [] → IsUntold ps qs limit u → AddsAllAt ps qs limit u.from u.to was now
  adds_labels limit was now u e f is = record {
    kept = λ d c. subst (λ (x : List Difference). Contains x d) (sym e) c;
    each = λ before d c. before d (subst (λ (x : List Difference). Contains x d) e c);
    still = λ v c. subst (λ (x : List UntoldLabels). Contains x v) (sym f) (Contains-append_left was.untold.items (u ∷ []) v c);
    untold = λ before v c. ⊎_elim (before v) (λ (g : u ≡ v). subst (IsUntold ps qs limit) g is)
        (Contains-push_cases was.untold.items u v (subst (λ (x : List UntoldLabels). Contains x v) f c));
    listed = λ told. absurd (told u (subst (λ (x : List UntoldLabels). Contains x u) (sym f) (Contains-push was.untold.items u)) refl refl);
  }

  -- why they can't be
  pub exceeds : {T : Type 0} (limit : ℕ) (l m : Label) (why : Excess) (r : Result T RepresentativesFault) → r ≡ Err (fault_of why)
      → (r ≡ Err TooManyPatterns → HaveManyPatternsAnd ps l qs m) → (r ≡ Err TooManyStates → HavePlacesClean ps l qs m (limit + 1)) → Exceed ps l qs m limit why
  exceeds limit l m Patterns r is many states = many is
  exceeds limit l m States r is many states = states is

  pub list_everywhere : (ls : List Labels) → ((l m : Label) → SameLabel ps qs l m → ((r : Request) → AnsweredAlike ps qs l m r) ⊎ Contains ls (record { from = l; to = m }))
      → (us : List UntoldLabels) (ds : List Difference) → ((x : Labels) → Contains ls x → AreTold us x.from x.to → ListAllAt ps qs x.from x.to ds) → ListAllBut ps qs us ds
  list_everywhere ls all us ds listed l m same told =
      ⊎_elim
      (λ (alike : (r : Request) → AnsweredAlike ps qs l m r). λ r asked. inl (alike r))
      (λ (c : Contains ls (record { from = l; to = m })). listed (record { from = l; to = m }) c told)
      (all l m same)

  -- where all labels are told, all is listed
  pub list_told : (us : List UntoldLabels) (ds : List Difference) → us ≡ [] → ListAllBut ps qs us ds → ListAll ps qs ds
  list_told us ds e all l m same =
      all l m same (λ u c from to. absurd (no_labels u (subst (λ (x : List UntoldLabels). Contains x u) e c)))

  pub no_entry : (d : Difference) → Contains [] d → ⊥
  no_entry d c = omega (arith, c.1)

  pub none_same : (ds : List Difference) → ds ≡ [] → ListAll ps qs ds → SamePolicies ps qs
  none_same ds e all l m same r asked =
      ⊎_elim
      (λ (alike : AnsweredAlike ps qs l m r). alike)
      (λ (h : (d : Difference) × Contains ds d × IsEntryOf ps qs l m r d). absurd (no_entry h.0 (subst (λ (x : List Difference). Contains x h.0) e h.1)))
      (all l m same r asked)

  pub same_none : (ds : List Difference) → SamePolicies ps qs → ((d : Difference) → Contains ds d → IsDifference ps qs d) → ds ≡ []
  same_none [] same each = refl
  same_none (d ∷ ds) same each =
      let is = each d (Contains-append_left (d ∷ []) ds d (0, omega arith, refl)) in
      absurd (is.differ
      (subst (λ (x : Answer). SameAnswer ps qs x d.new) (sym is.old)
      (subst (λ (y : Answer). SameAnswer ps qs (reply ps d.from d.request) y) (sym is.new) (same d.from d.to is.labels d.request is.asked))))
