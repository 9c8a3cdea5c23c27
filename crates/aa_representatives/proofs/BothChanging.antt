-- Requests to change to a name of each region stand for all to change the profile, at two labels.
use Rattle.std.proofs.Common.{◌≡◌, ℕ, List, [], ◌++◌, true, false, All, Contains, refl, sym, ◌∙◌, subst, arith}
use Rattle.std.specs.Str.{bytes_eq}
use Rattle.std.proofs.lemmas.List.Elements.{Contains-append_left, Contains-append_right}
use Rattle.std.proofs.lemmas.Slice.Eq.{bytes_eq-Decides}
use Rattle.aa_pattern.specs.declared.pattern.Pattern.{Pattern}
use Rattle.aa_pattern.specs.Globs.{IsNonzeroByte}
use Rattle.aa_model.specs.Requests.{is_wanted_name}
use Rattle.aa_model.specs.declared.policy.Policy.{Policy}
use Rattle.aa_model.specs.declared.label.Label.{Label}
use Rattle.aa_model.specs.declared.request.Request.{Request}
use Rattle.aa_model.specs.declared.request.Request.TheVariants.{File, Link, Exec, Cap, Net, Change, Reload}
use Rattle.aa_regions.specs.declared.regions.Region.{Region}
use Rattle.aa_regions.specs.Regions.{AreRegions}
use Rattle.aa_mediate.specs.Reply.{reply}
use Rattle.aa_representatives.specs.Alike.{MatchAlike, changing}
use Rattle.aa_representatives.specs.Askable.{IsChange}
use Rattle.aa_representatives.specs.Both.{StandAtBoth, AreNamePatternsOfBoth}
use Rattle.aa_representatives.specs.Names.{profiles_at, told_apart, ArePatternsOf}
use Rattle.aa_representatives.specs.Representatives.{HasChange}
use Rattle.aa_representatives.proofs.Changing.{asked_wanted, wanted_name, nonzero}
use Rattle.aa_representatives.proofs.Standing.{same_list}
use Rattle.aa_representatives.proofs.Literal.{tells_alike}
use Rattle.aa_representatives.proofs.Naming.{names_alike}
use Rattle.aa_representatives.proofs.Replied.{changes_reply_alike}

-- names that the same patterns match are answered alike at a label where its patterns are among them
module _ (policies : List Policy) (label : Label) (ps names : List Pattern) (literal : ArePatternsOf (told_apart (profiles_at policies label)) names)
    (own : (p : Pattern) → Contains (changing policies label) p → Contains ps p) (told : (p : Pattern) → Contains names p → Contains ps p)
    (s u : List ℕ) (alike : MatchAlike ps s u) (good : All IsNonzeroByte s) (fine : All IsNonzeroByte u) where
  told_alike : (n : List ℕ) → Contains (told_apart (profiles_at policies label)) n → bytes_eq s n ≡ bytes_eq u n
  told_alike = tells_alike (told_apart (profiles_at policies label)) names literal s u (λ p c. alike p (told p c)) good fine

  pub change_answered_alike : reply policies label (Change s) ≡ reply policies label (Change u)
  change_answered_alike = changes_reply_alike policies s u label (λ p c. alike p (own p c)) (names_alike policies label s u told_alike)

  pub not_empty : is_wanted_name s ≡ true → u ≡ [] → ⊥
  not_empty wanted none =
      let empty : s ≡ [] = (bytes_eq-Decides s []).0 (told_alike [] (0, omega arith, refl) ∙ (bytes_eq-Decides u []).1 none) in
      let bad : is_wanted_name [] ≡ true = subst (λ (x : List ℕ). is_wanted_name x ≡ true) empty wanted in
      let e : false ≡ true = bad in
      cc

module _ (ps : List Policy) (l : Label) (qs : List Policy) (m : Label) (patterns : List Pattern) (np : AreNamePatternsOfBoth ps l qs m patterns) where
  abbrev rules : List Pattern
  rules = changing ps l ++ changing qs m

  among : (p : Pattern) → Contains ((rules ++ np.names) ++ np.others) p → Contains patterns p
  among p c = subst (λ (x : List Pattern). Contains x p) (sym np.are) c

  one_own : (p : Pattern) → Contains (changing ps l) p → Contains patterns p
  one_own p c = among p (Contains-append_left (rules ++ np.names) np.others p (Contains-append_left rules np.names p (Contains-append_left (changing ps l) (changing qs m) p c)))

  other_own : (p : Pattern) → Contains (changing qs m) p → Contains patterns p
  other_own p c = among p (Contains-append_left (rules ++ np.names) np.others p (Contains-append_left rules np.names p (Contains-append_right (changing ps l) (changing qs m) p c)))

  one_told : (p : Pattern) → Contains np.names p → Contains patterns p
  one_told p c = among p (Contains-append_left (rules ++ np.names) np.others p (Contains-append_right rules np.names p c))

  other_told : (p : Pattern) → Contains np.others p → Contains patterns p
  other_told p c = among p (Contains-append_right (rules ++ np.names) np.others p c)

  pub changes_at_both : (regions : List Region) → AreRegions patterns [] 1 1024 regions → (rs : List Request) → ((r : Region) → Contains regions r → HasChange r.witness rs) → StandAtBoth ps l qs m IsChange rs
  changes_at_both regions are rs has (Change s) asked =
      let wanted = asked_wanted s asked.0 asked.1 in
      let r = are.all s wanted in
      let u = r.0.witness in
      let is = are.each r.0 r.1 in
      let alike : MatchAlike patterns s u = same_list patterns s u r.0.numbers r.2 is.lists in
      let good = nonzero s wanted in
      let fine = nonzero u is.wanted in (
        Change u,
        has r.0 r.1 (wanted_name u is.wanted (not_empty ps l patterns np.names np.literal one_own one_told s u alike good fine asked.1)),
        refl,
        change_answered_alike ps l patterns np.names np.literal one_own one_told s u alike good fine,
        change_answered_alike qs m patterns np.others np.literal_others other_own other_told s u alike good fine,
      )
  changes_at_both regions are rs has (File f) asked = absurd asked
  changes_at_both regions are rs has (Link x) asked = absurd asked
  changes_at_both regions are rs has (Exec x) asked = absurd asked
  changes_at_both regions are rs has (Cap c) asked = absurd asked
  changes_at_both regions are rs has (Net f t) asked = absurd asked
  changes_at_both regions are rs has (Reload k) asked = absurd asked
