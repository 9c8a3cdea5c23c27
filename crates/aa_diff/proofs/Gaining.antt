-- Gains that are printed, and requests that gain.
use Rattle.std.proofs.Common.{◌≡◌, ℕ, List, [], ◌∷◌, ◌++◌, Contains, Bool, true, false, true≢false, Option, Some, None}
use Rattle.std.proofs.Common.{◌⊎◌, inl, inr, ⊎_elim, refl, sym, ap, ◌∙◌, subst, arith}
use Rattle.std.specs.Prelude.{not, ◌&&◌, ◌||◌, ◌↔◌, flat_map}
use Rattle.std.specs.Option.{option_map_or}
use Rattle.std.specs.Str.{bytes_eq}
use Rattle.std.proofs.lemmas.Bool.{and_parts, or_cases}
use Rattle.std.proofs.lemmas.Option.{same_Some, none-some}
use Rattle.std.proofs.lemmas.Slice.Eq.{bytes_eq-Decides}
use Rattle.aa_files.specs.Texts.{texts}
use Rattle.aa_model.specs.declared.policy.Policy.{Policy}
use Rattle.aa_model.specs.declared.policy.Profile.{Profile}
use Rattle.aa_model.specs.declared.label.Label.{Label}
use Rattle.aa_model.specs.declared.label.Label.TheVariants.{Unconfined, Confined}
use Rattle.aa_model.specs.declared.answer.Answer.{Answer}
use Rattle.aa_model.specs.declared.request.Request.{Request}
use Rattle.aa_compile.specs.Labels.{label_name, profile_in}
use Rattle.aa_mediate.specs.Reply.{reply}
use Rattle.aa_command.specs.declared.decided.Decided.{Decided}
use Rattle.aa_differences.specs.declared.at_labels.Difference.{Difference}
use Rattle.aa_differences.specs.declared.comparison.UntoldLabels.{UntoldLabels}
use Rattle.aa_differences.specs.Same.{name_of, SameLabel, SameAnswer, AnsweredAlike}
use Rattle.aa_differences.specs.Differences.{IsDifference, IsEntryOf, AreTold, ListAllAt, ListAllBut, ListAll}
use Rattle.aa_diff.specs.declared.options.Wanted.{Wanted}
use Rattle.aa_diff.specs.declared.signs.Sign.{Sign}
use Rattle.aa_diff.specs.declared.signs.Sign.TheVariants.{Gain, Loss, Other}
use Rattle.aa_diff.specs.declared.finding.Finding.{Finding}
use Rattle.aa_ask.specs.Told.{is_confined}
use Rattle.aa_diff.specs.Signs.{moves_on, unscrubs, gains, sign_by, sign_of}
use Rattle.aa_diff.specs.Changes.{is_same}
use Rattle.aa_diff.specs.Gathered.{is_part, is_as_well}
use Rattle.aa_diff.specs.Findings.{finding_of}
use Rattle.aa_diff.specs.Unclean.{told_unclean, all_told_unclean}
use Rattle.aa_diff.specs.Accepted.{finding_left, findings_left}
use Rattle.aa_diff.specs.Report.{shown_of, lines_of}
use Rattle.aa_diff.specs.Telling.{IsTold, Itself, ByPart, IsToldBy, IsGained, OneRequestGainsAt, OneRequestGains, OneIsGain, OneIsGainAt, lines_printed}
use Rattle.aa_diff.specs.Telling.{GainsAreGained, GainsArePrinted, GainsAreTold}
use Rattle.aa_diff.proofs.Telling.{Has, has_contained, contained, has_shown, shown_has, gain_by, gain_wanted, label_same, are_lines}

no_labels : (u : UntoldLabels) → Contains [] u → ⊥
no_labels u c = omega (arith, c.1)

-- ---- what gains differs

not_false : (b : Bool) → not b ≡ true → b ≡ false
not_false true e = absurd (true≢false (sym e))
not_false false e = refl

-- labels that are called the same have one name
name_same : (o q : Option Profile) → name_of o ≡ name_of q
    → option_map_or (λ (p : Profile). p.name) o [] ≡ option_map_or (λ (p : Profile). p.name) q []
name_same None None e = refl
name_same (Some p) None e = absurd (none-some p.name (sym e))
name_same None (Some q) e = absurd (none-some q.name e)
name_same (Some p) (Some q) e = same_Some p.name q.name e

called_same : (ps qs : List Policy) (l m : Label) → SameLabel ps qs l m → label_name ps l ≡ label_name qs m
unfolding label_name
called_same ps qs (Unconfined k) (Unconfined j) same = refl
called_same ps qs (Confined k n) (Confined j m) same = name_same (profile_in ps k n) (profile_in qs j m) same.1
called_same ps qs (Unconfined k) (Confined j m) same = absurd same
called_same ps qs (Confined k n) (Unconfined j) same = absurd same

module _ (ps qs : List Policy) (a b : Answer) (same : SameAnswer ps qs a b) where
  stays : moves_on ps qs a b ≡ true → ⊥
  stays e =
      let parts = and_parts (is_confined a.label) (not (bytes_eq (label_name ps a.label) (label_name qs b.label))) e in
      let is = (bytes_eq-Decides (label_name ps a.label) (label_name qs b.label)).1 (called_same ps qs a.label b.label same.label) in
      true≢false (sym is ∙ not_false (bytes_eq (label_name ps a.label) (label_name qs b.label)) parts.1)

  scrubs : unscrubs a b ≡ true → ⊥
  scrubs e =
      let parts = and_parts a.scrub (not b.scrub) e in
      true≢false (sym parts.0 ∙ (same.scrub ∙ not_false b.scrub parts.1))

  gain_differs : gains ps qs a b ≡ true → ⊥
  gain_differs e =
      let parts = and_parts b.granted (not a.granted || moves_on ps qs a b || unscrubs a b) e in
      ⊎_elim
      (λ (first : (not a.granted || moves_on ps qs a b) ≡ true).
      ⊎_elim (λ (denied : not a.granted ≡ true). true≢false (sym parts.0 ∙ (sym same.granted ∙ not_false a.granted denied)))
      stays (or_cases (not a.granted) (moves_on ps qs a b) first))
      scrubs
      (or_cases (not a.granted || moves_on ps qs a b) (unscrubs a b) parts.1)

-- ---- gains among findings

sign_gains : (gain loss : Bool) → sign_by gain loss ≡ Gain → gain ≡ true
sign_gains true loss e = refl
sign_gains false true e = absurd cc
sign_gains false false e = absurd cc

gains_sign : (gain loss : Bool) → gain ≡ true → sign_by gain loss ≡ Gain
gains_sign true loss e = refl
gains_sign false loss e = absurd (true≢false (sym e))

-- a gain about a label
abbrev IsGainAt : Label → Finding → Type 0
IsGainAt l f = (f.from ≡ l) × (f.sign ≡ Gain)

-- where none is accepted, all that is shown is left
left_has : (ps : List Policy) (P : Finding → Type 0) (fs : List Finding) → Has P (flat_map (finding_left ps []) fs) → Has P fs
left_has ps P [] h = absurd h
left_has ps P (f ∷ fs) (inl p) = inl p
left_has ps P (f ∷ fs) (inr h) = inr (left_has ps P fs h)

has_left : (ps : List Policy) (P : Finding → Type 0) (fs : List Finding) → Has P fs → Has P (flat_map (finding_left ps []) fs)
has_left ps P [] h = absurd h
has_left ps P (f ∷ fs) (inl p) = inl p
has_left ps P (f ∷ fs) (inr h) = inr (has_left ps P fs h)

unclean_has : (unclean : Bool) (l : Label) (fs : List Finding) → Has (IsGainAt l) (all_told_unclean unclean fs) → Has (IsGainAt l) fs
unclean_has unclean l [] h = absurd h
unclean_has unclean l (f ∷ fs) (inl p) = inl p
unclean_has unclean l (f ∷ fs) (inr h) = inr (unclean_has unclean l fs h)

has_unclean : (unclean : Bool) (l : Label) (fs : List Finding) → Has (IsGainAt l) fs → Has (IsGainAt l) (all_told_unclean unclean fs)
has_unclean unclean l [] h = absurd h
has_unclean unclean l (f ∷ fs) (inl p) = inl p
has_unclean unclean l (f ∷ fs) (inr h) = inr (has_unclean unclean l fs h)

module _ (d e : Decided) (xs : List Difference) (unclean : Bool) (w : Wanted) where
  abbrev ps : List Policy
  ps = d.policies.now

  abbrev qs : List Policy
  qs = e.policies.now

  -- a gain among the findings that are printed is that of an entry
  entry_gains : ((x : Difference) → Contains xs x → IsDifference ps qs x) → (l : Label)
      → OneIsGainAt l (lines_printed d e unclean w xs) → OneRequestGainsAt ps qs l
  entry_gains each l (f, listed, label, sign) =
      let shown = left_has ps (IsGainAt l) (shown_of ps w (all_told_unclean unclean (lines_of d e xs)))
      (has_contained (IsGainAt l) (lines_printed d e unclean w xs) f listed (label, sign)) in
      let h = unclean_has unclean l (lines_of d e xs) (shown_has ps w (IsGainAt l) (all_told_unclean unclean (lines_of d e xs)) shown) in
      let found = contained (IsGainAt l) (lines_of d e xs) h in
      let entry = (are_lines d e xs).entries found.0 found.1 in
      by (each entry.0 entry.1) (sym (ap (λ (g : Finding). g.from) entry.2) ∙ found.2.0) (sym (ap (λ (g : Finding). g.sign) entry.2) ∙ found.2.1)
    where
      by : {x : Difference} → IsDifference ps qs x → x.from ≡ l → sign_of ps qs x ≡ Gain → OneRequestGainsAt ps qs l
      by {x = x} own from sign =
          let gained = sign_gains (gains ps qs x.old x.new) (gains qs ps x.new x.old) sign in
          let old = subst (λ (a : Answer). gains ps qs a x.new ≡ true) own.old gained in
          let new = subst (λ (b : Answer). gains ps qs (reply ps x.from x.request) b ≡ true) own.new old in
          subst (OneRequestGainsAt ps qs) from (x.to, x.request, record { labels = own.labels; asked = own.asked; gained = new })

  -- an entry that gains is told by a gain about its label
  told_gain : (x : Difference) → sign_of ps qs x ≡ Gain → IsTold d e xs (lines_of d e xs) x → Has (IsGainAt x.from) (lines_of d e xs)
  told_gain x gain (Itself (f, listed, tells)) = has_contained (IsGainAt x.from) (lines_of d e xs) f listed (tells.label, tells.sign ∙ gain)
  told_gain x gain (ByPart y among covered (f, listed, tells)) =
      let signs = and_parts (is_same y.from x.from && is_part y.request x.request) (is_as_well (sign_of ps qs y) (sign_of ps qs x)) covered in
      let part = and_parts (is_same y.from x.from) (is_part y.request x.request) signs.0 in
      has_contained (IsGainAt x.from) (lines_of d e xs) f listed
      (tells.label ∙ label_same y.from x.from part.0, tells.sign ∙ gain_by (sign_of ps qs y) (sign_of ps qs x) signs.1 gain)

  gain_printed : (us : List UntoldLabels) → ListAllBut ps qs us xs → texts w.profiles.now ≡ []
      → (l m : Label) (r : Request) → AreTold us l m → IsGained ps qs l m r → OneIsGainAt l (lines_printed d e unclean w xs)
  gain_printed us all none l m r told is =
      ⊎_elim
      (λ (alike : AnsweredAlike ps qs l m r). absurd (gain_differs ps qs (reply ps l r) (reply qs m r) alike is.gained))
      (λ (h : (x : Difference) × Contains xs x × IsEntryOf ps qs l m r x). entry h.0 h.1 h.2)
      (all l m is.labels told r is.asked)
    where
      entry : (x : Difference) → Contains xs x → IsEntryOf ps qs l m r x → OneIsGainAt l (lines_printed d e unclean w xs)
      entry x listed own =
          let old = subst (λ (a : Answer). gains ps qs a (reply qs m r) ≡ true) (sym own.old) is.gained in
          let new = subst (λ (b : Answer). gains ps qs x.old b ≡ true) (sym own.new) old in
          let gain : sign_of ps qs x ≡ Gain = gains_sign (gains ps qs x.old x.new) (gains qs ps x.new x.old) new in
          let h = subst (λ (a : Label). Has (IsGainAt a) (lines_of d e xs)) own.from (told_gain x gain ((are_lines d e xs).told x listed)) in
          let found = contained (IsGainAt l) (lines_printed d e unclean w xs)
          (has_left ps (IsGainAt l) (shown_of ps w (all_told_unclean unclean (lines_of d e xs)))
          (has_shown ps w (IsGainAt l) (λ f is'. gain_wanted ps w none f is'.1) (all_told_unclean unclean (lines_of d e xs))
          (has_unclean unclean l (lines_of d e xs) h))) in
          (found.0, found.1, found.2.0, found.2.1)

pub gains_are_gained : GainsAreGained
gains_are_gained d e xs unclean w each l one = entry_gains d e xs unclean w each l one

pub gains_are_printed : GainsArePrinted
gains_are_printed d e xs us unclean w all none l m r told is = gain_printed d e xs unclean w us all none l m r told is

pub gains_are_told : GainsAreTold
gains_are_told d e xs unclean w each all none = (
  (λ (one : OneIsGain (lines_printed d e unclean w xs)).
      (one.0.from, entry_gains d e xs unclean w each one.0.from (one.0, one.1, refl, one.2))),
  (λ (one : OneRequestGains d.policies.now e.policies.now).
      let is = gain_printed d e xs unclean w [] (λ l m same told. all l m same) none one.0 one.1.0 one.1.1 (λ u c. absurd (no_labels u c)) one.1.2 in
      (is.0, is.1, is.3)),
)
