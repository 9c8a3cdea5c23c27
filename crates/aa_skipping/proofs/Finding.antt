-- A name that isn't in doubt is found where it was.
use Rattle.std.proofs.Common.{◌≡◌, ◌⊎◌, ℕ, ◌<◌, List, length, Bool, true, false, true≢false, Option, Some, None, refl, sym, ap, ◌∙◌, subst, Contains, ⊎_elim}
use Rattle.std.specs.Prelude.{IsTrue, not, ◌&&◌, ◌||◌, is_some}
use Rattle.std.specs.List.{slice_get, list_any}
use Rattle.std.specs.Option.{option_map}
use Rattle.std.proofs.lemmas.Option.{none-some, same_Some}
use Rattle.aa_model.specs.declared.policy.Policy.{Policy}
use Rattle.aa_model.specs.declared.policy.Profile.{Profile}
use Rattle.aa_compile.specs.Transitions.{named}
use Rattle.aa_skipping.specs.declared.unread.Head.{Head}
use Rattle.aa_skipping.specs.declared.unread.Unread.{Unread}
use Rattle.aa_skipping.specs.Joined.{HasHead, IsUnreadTop, IsUnreadChild, IsJoinedWith, moved_profile}
use Rattle.aa_skipping.specs.Names.{is_of, may_be_unread, is_doubtful}
use Rattle.aa_skipping.proofs.Elements.{any_in}
use Rattle.aa_skipping.proofs.Numbers.{there, same_number, named_at, named_some}
use Rattle.aa_skipping.proofs.Texts.{of_itself, of_parent}

pub or_true : (a b : Bool) → b ≡ true → (a || b) ≡ true
or_true true b e = refl
or_true false b e = e

module _ (unread : Unread) (read joined : Policy) (place : ℕ → ℕ) (j : IsJoinedWith unread read.profiles joined.profiles place) where
  -- a joined profile that a read one became
  pub record Was (m : ℕ) (q : Profile) : Type 0 where
    pub number : ℕ
    pub profile : Profile
    pub at : slice_get read.profiles number ≡ Some profile
    pub is_place : place number ≡ m
    pub name : q.name ≡ profile.name
    pub parent : q.parent ≡ option_map place profile.parent
    pub attachments : q.attachments ≡ profile.attachments

  pub was : (m : ℕ) (q : Profile) → slice_get joined.profiles m ≡ Some q → (n : ℕ) → n < length read.profiles → place n ≡ m → Was m q
  was m q e n lt same =
      let t = there read.profiles n lt in
      let k = j.kept n t.0 t.1 in
      let is : q ≡ moved_profile place k.0 t.0 = same_Some q (moved_profile place k.0 t.0) (sym e ∙ ap (slice_get joined.profiles) (sym same) ∙ k.1) in
      record {
        number = n;
        profile = t.0;
        at = t.1;
        is_place = same;
        name = ap (λ (x : Profile). x.name) is;
        parent = ap (λ (x : Profile). x.parent) is;
        attachments = ap (λ (x : Profile). x.attachments) is;
      }

  -- no two read profiles have one place
  pub once : (n m : ℕ) → n < length read.profiles → m < length read.profiles → place n ≡ place m → n ≡ m
  once n m lt le same =
      let s = there read.profiles n lt in
      let t = there read.profiles m le in
      let k = j.kept n s.0 s.1 in
      let l = j.kept m t.0 t.1 in
      let is : moved_profile place k.0 s.0 ≡ moved_profile place l.0 t.0 =
      same_Some (moved_profile place k.0 s.0) (moved_profile place l.0 t.0) (sym k.1 ∙ ap (slice_get joined.profiles) same ∙ l.1) in
      same_number read.profiles read.lawful.distinct n m s.0 t.0 s.1 t.1 (ap (λ (x : Profile). x.name) is)

  -- one that wasn't read may have its name
  known_of : (q : Profile) (name : List ℕ) → IsTrue unread.others ⊎ ((h : Head) × Contains unread.heads h × HasHead q h) → ((h : Head) → HasHead q h → is_of h.name name ≡ true) → may_be_unread unread name ≡ true
  known_of q name known is =
      ⊎_elim
      (λ (others : IsTrue unread.others). ap (λ (b : Bool). b || list_any (λ (h : Head). is_of h.name name) unread.heads) others)
      (λ (k : (h : Head) × Contains unread.heads h × HasHead q h). or_true unread.others (list_any (λ (h : Head). is_of h.name name) unread.heads) (any_in (λ (h : Head). is_of h.name name) unread.heads k.0 k.1 (is k.0 k.2)))
      known

  unread_name : (m : ℕ) (q : Profile) → slice_get joined.profiles m ≡ Some q → named read.profiles q.name ≡ None → may_be_unread unread q.name ≡ true
  unread_name m q e none =
      ⊎_elim
      (λ (k : (n : ℕ) × (n < length read.profiles) × (place n ≡ m)).
      let w = was m q e k.0 k.1 k.2 in
      absurd (none-some w.number (sym none ∙ ap (named read.profiles) w.name ∙ named_at read.profiles read.lawful.distinct w.number w.profile w.at)))
      (λ (u : IsUnreadTop unread q ⊎ IsUnreadChild unread (length read.profiles) joined.profiles place q).
      ⊎_elim
      (λ (t : IsUnreadTop unread q). known_of q q.name t.known (λ h has. of_itself h.name q.name has.called))
      (λ (c : IsUnreadChild unread (length read.profiles) joined.profiles place q).
      known_of c.parent q.name c.unread_too.known (λ h has. subst (λ (s : List ℕ). is_of s q.name ≡ true) has.called (of_parent c.parent.name q.name c.name c.called)))
      u)
      (j.added m q e)

  pub names_stand : (name : List ℕ) → is_doubtful read.profiles unread name ≡ false → named joined.profiles name ≡ option_map place (named read.profiles name)
  names_stand name sure = at (named read.profiles name) refl
    where
      still_none : (o : Option ℕ) → named joined.profiles name ≡ o → named read.profiles name ≡ None → o ≡ None
      still_none None e none = refl
      still_none (Some m) e none =
          let s = named_some joined.profiles name m e in
          let may : may_be_unread unread name ≡ true = subst (λ (x : List ℕ). may_be_unread unread x ≡ true) s.2 (unread_name m s.0 s.1 (ap (named read.profiles) s.2 ∙ none)) in
          absurd (true≢false (sym (ap (λ (b : Bool). not (is_some (named read.profiles name)) && b) may ∙ ap (λ (o : Option ℕ). not (is_some o) && true) none) ∙ sure))

      at : (o : Option ℕ) → named read.profiles name ≡ o → named joined.profiles name ≡ option_map place (named read.profiles name)
      at (Some n) e =
          let s = named_some read.profiles name n e in
          let k = j.kept n s.0 s.1 in
          ap (named joined.profiles) (sym s.2) ∙ named_at joined.profiles joined.lawful.distinct (place n) (moved_profile place k.0 s.0) k.1 ∙ ap (option_map place) (sym e)
      at None e = still_none (named joined.profiles name) refl e ∙ ap (option_map place) (sym e)
