-- A search by attachment that isn't open finds the same profile.
use Rattle.std.proofs.Common.{◌≡◌, ◌⊎◌, ℕ, ◌<◌, List, length, Bool, true, false, true≢false, Option, Some, None, refl, sym, ap, ◌∙◌, subst, Contains, inl, inr, arith, ⊎_elim}
use Rattle.std.specs.Prelude.{IsTrue, not, ◌&&◌, ◌||◌}
use Rattle.std.specs.List.{list_any}
use Rattle.std.specs.Option.{option_map}
use Rattle.std.proofs.lemmas.Bool.{and_parts}
use Rattle.std.proofs.lemmas.Option.{none-some, same_Some, slice_get_within}
use Rattle.aa_pattern.specs.declared.pattern.Pattern.{Pattern}
use Rattle.aa_pattern.specs.Matching.{is_match}
use Rattle.aa_model.specs.declared.policy.Policy.{Policy}
use Rattle.aa_model.specs.Lawful.{has_parent}
use Rattle.aa_compile.specs.declared.attach.Attachment.{Attachment}
use Rattle.aa_compile.specs.Attached.{attached, attachment_by, numbers_below}
use Rattle.aa_compile.specs.Transitions.{tops, children}
use Rattle.aa_skipping.specs.declared.unread.Head.{Head}
use Rattle.aa_skipping.specs.declared.unread.Unread.{Unread}
use Rattle.aa_skipping.specs.Joined.{HasHead, IsUnreadTop, IsUnreadChild, IsJoinedWith, moved_profile}
use Rattle.aa_skipping.specs.Searches.{beats, beats_at, is_beaten_by, is_rival, has_rival, is_open}
use Rattle.aa_skipping.proofs.Elements.{in_any, none_in}
use Rattle.aa_skipping.proofs.Strongest.{moved_to, over, attached_moved}
use Rattle.aa_skipping.proofs.Hits.{IsHit, hits, in_hits, hits_in, parent_of, in_got}
use Rattle.aa_skipping.proofs.Finding.{Was, was, once}

or_false : (a b : Bool) → (a || b) ≡ false → (a ≡ false) × (b ≡ false)
or_false true b e = absurd (true≢false e)
or_false false b e = (refl, e)

module _ (unread : Unread) (read joined : Policy) (place : ℕ → ℕ) (j : IsJoinedWith unread read.profiles joined.profiles place) where
  -- each attachment there was is there, and each that was added is beaten
  by_hits : (parent : Option ℕ) (path : List ℕ)
      → ((y : Attachment) → IsHit joined.profiles (option_map place parent) path y
      → ((x : Attachment) × IsHit read.profiles parent path x × (moved_to place x ≡ y)) ⊎ ((x : Attachment) × IsHit read.profiles parent path x × (over x y ≡ true)))
      → attached joined.profiles (numbers_below (option_map place parent) 0 joined.profiles) path ≡ option_map place (attached read.profiles (numbers_below parent 0 read.profiles) path)
  by_hits parent path added =
      attached_moved place (hits read.profiles parent path) (hits joined.profiles (option_map place parent) path)
      (λ a b c d same.
      let g = in_hits read.profiles parent path a c in
      let h = in_hits read.profiles parent path b d in
      let number : (x : Attachment) (k : IsHit read.profiles parent path x) → k.number ≡ x.profile = λ x k. ap (λ (y : Attachment). y.profile) k.are in
      let one : place g.number ≡ place h.number = ap place (number a g) ∙ same ∙ sym (ap place (number b h)) in
      sym (number a g) ∙ once unread read joined place j g.number h.number (slice_get_within read.profiles g.number g.profile g.at) (slice_get_within read.profiles h.number h.profile h.at) one ∙ number b h)
      (λ a c. hits_in joined.profiles (option_map place parent) path (moved_to place a) (stays a (in_hits read.profiles parent path a c)))
      (λ b c.
      ⊎_elim
      (λ (h : (x : Attachment) × IsHit read.profiles parent path x × (moved_to place x ≡ b)). inl (h.0, hits_in read.profiles parent path h.0 h.1, h.2))
      (λ (h : (x : Attachment) × IsHit read.profiles parent path x × (over x b ≡ true)). inr (h.0, hits_in read.profiles parent path h.0 h.1, h.2))
      (added b (in_hits joined.profiles (option_map place parent) path b c)))
    where
      stays : (a : Attachment) → IsHit read.profiles parent path a → IsHit joined.profiles (option_map place parent) path (moved_to place a)
      stays a h =
          let k = j.kept h.number h.profile h.at in
          record {
            number = place h.number;
            profile = moved_profile place k.0 h.profile;
            pattern = h.pattern;
            at = k.1;
            below = ap (option_map place) h.below;
            among = h.among;
            matched = h.matched;
            are = ap (moved_to place) h.are;
          }

  -- what a read profile became attaches as it did
  as_was : (parent : Option ℕ) (path : List ℕ) (y : Attachment) (h : IsHit joined.profiles (option_map place parent) path y) → (w : Was unread read joined place j h.number h.profile) → w.profile.parent ≡ parent
      → (x : Attachment) × IsHit read.profiles parent path x × (moved_to place x ≡ y)
  as_was parent path y h w below = (
    attachment_by w.number h.pattern,
    record {
      number = w.number;
      profile = w.profile;
      pattern = h.pattern;
      at = w.at;
      below = below;
      among = subst (λ (l : List Pattern). Contains l h.pattern) w.attachments h.among;
      matched = h.matched;
      are = refl;
    },
    ap (λ (n : ℕ). attachment_by n h.pattern) w.is_place ∙ h.are,
  )

  none_before : (o : Option ℕ) → None ≡ option_map place o → o ≡ None
  none_before None e = refl
  none_before (Some n) e = absurd (none-some (place n) e)

  some_before : (o : Option ℕ) (m : ℕ) → Some m ≡ option_map place o → (n : ℕ) × (o ≡ Some n) × (place n ≡ m)
  some_before None m e = absurd (none-some m (sym e))
  some_before (Some n) m e = (n, refl, same_Some (place n) m (sym e))

  -- ---- children

  pub children_stand : (n : ℕ) → n < length read.profiles → (path : List ℕ) → attached joined.profiles (children joined.profiles (place n)) path ≡ option_map place (attached read.profiles (children read.profiles n) path)
  children_stand n lt path = by_hits (Some n) path (λ y h.
      ⊎_elim
      (λ (k : (i : ℕ) × (i < length read.profiles) × (place i ≡ h.number)).
      let w = was unread read joined place j h.number h.profile h.at k.0 k.1 k.2 in
      let o = some_before w.profile.parent (place n) (sym h.below ∙ w.parent) in
      let before : o.0 < length read.profiles =
      let f = (read.lawful.parents w.number o.0 w.profile w.at o.1).0 in let l = slice_get_within read.profiles w.number w.profile w.at in omega (arith, f, l) in
      inl (as_was (Some n) path y h w (o.1 ∙ ap Some (once unread read joined place j o.0 n before lt o.2))))
      (λ (u : IsUnreadTop unread h.profile ⊎ IsUnreadChild unread (length read.profiles) joined.profiles place h.profile).
      ⊎_elim
      (λ (t : IsUnreadTop unread h.profile). absurd (none-some (place n) (sym t.top ∙ h.below)))
      (λ (c : IsUnreadChild unread (length read.profiles) joined.profiles place h.profile). absurd (c.not_read n lt (same_Some (place n) c.number (sym h.below ∙ c.below))))
      u)
      (j.added h.number h.profile h.at))

  -- ---- top-level profiles

  module _ (path : List ℕ) (closed : is_open read.profiles unread path ≡ false) where
    abbrev parts : (unread.others ≡ false) × (list_any (has_rival read.profiles path) unread.heads ≡ false)
    parts = or_false unread.others (list_any (has_rival read.profiles path) unread.heads) closed

    beaten : (h : Head) → Contains unread.heads h → (a : Pattern) → Contains h.attachments a → is_match a.items.items path ≡ true → list_any (is_beaten_by path a) read.profiles ≡ true
    beaten h c a d match =
        let none = none_in (is_rival read.profiles path) h.attachments (none_in (has_rival read.profiles path) unread.heads parts.1 h c) a d in
        negated (list_any (is_beaten_by path a) read.profiles) (sym (ap (λ (b : Bool). b && not (list_any (is_beaten_by path a) read.profiles)) match) ∙ none)
      where
        negated : (b : Bool) → not b ≡ false → b ≡ true
        negated true e = refl
        negated false e = absurd (true≢false e)

    beaten_by : (m : ℕ) (a : Pattern) → list_any (is_beaten_by path a) read.profiles ≡ true → (x : Attachment) × IsHit read.profiles None path x × (over x (attachment_by m a) ≡ true)
    beaten_by m a e =
        let t = in_any (is_beaten_by path a) read.profiles e in
        let p = and_parts (has_parent None t.0) (list_any (beats_at path a) t.0.attachments) t.2 in
        let s = in_any (beats_at path a) t.0.attachments p.1 in
        let b = and_parts (is_match s.0.items.items path) (beats s.0 a) s.2 in
        let n = in_got read.profiles t.0 t.1 in
        (attachment_by n.0 s.0, record { number = n.0; profile = t.0; pattern = s.0; at = n.1; below = parent_of None t.0 p.0; among = s.1; matched = b.0; are = refl }, b.1)

    pub searches_stand : attached joined.profiles (tops joined.profiles) path ≡ option_map place (attached read.profiles (tops read.profiles) path)
    searches_stand = by_hits None path (λ y h.
        ⊎_elim
        (λ (k : (i : ℕ) × (i < length read.profiles) × (place i ≡ h.number)).
        let w = was unread read joined place j h.number h.profile h.at k.0 k.1 k.2 in
        inl (as_was None path y h w (none_before w.profile.parent (sym h.below ∙ w.parent))))
        (λ (u : IsUnreadTop unread h.profile ⊎ IsUnreadChild unread (length read.profiles) joined.profiles place h.profile).
        ⊎_elim
        (λ (t : IsUnreadTop unread h.profile).
        ⊎_elim
        (λ (others : IsTrue unread.others). absurd (true≢false (sym others ∙ parts.0)))
        (λ (k : (g : Head) × Contains unread.heads g × HasHead h.profile g).
        let b = beaten_by h.number h.pattern (beaten k.0 k.1 h.pattern (k.2.attached h.pattern h.among) h.matched) in
        inr (b.0, b.1, subst (λ (z : Attachment). over b.0 z ≡ true) h.are b.2))
        t.known)
        (λ (c : IsUnreadChild unread (length read.profiles) joined.profiles place h.profile). absurd (none-some c.number (sym h.below ∙ c.below)))
        u)
        (j.added h.number h.profile h.at))
