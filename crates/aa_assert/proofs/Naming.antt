-- The labels that a claim names, by its words.
use Rattle.std.proofs.Common.{◌≡◌, ℕ, zero, suc, List, [], ◌∷◌, map, codes, Bool, true, false, Option, Some, None, refl, sym, ap, ◌∙◌}
use Rattle.std.specs.Prelude.{not, MatchBool, slice_index_or}
use Rattle.std.specs.Option.{option_map_or}
use Rattle.std.specs.List.{slice_get}
use Rattle.aa_model.specs.declared.policy.Policy.{Policy}
use Rattle.aa_model.specs.declared.label.Label.{Label}
use Rattle.aa_model.specs.declared.label.Label.TheVariants.{Unconfined, Confined}
use Rattle.aa_model.specs.declared.request.Request.{Request}
use Rattle.aa_mediate.specs.Reply.{reply}
use Rattle.aa_reachability.specs.Reach.{led_by}
use Rattle.aa_compile.specs.Labels.{first_profiles}
use Rattle.aa_ask.specs.Told.{is_same}
use Rattle.aa_quantifiers.specs.declared.aim.Labels.{Labels}
use Rattle.aa_quantifiers.specs.declared.word.Word.{Word}
use Rattle.aa_quantifiers.specs.Aims.{has_label}
use Rattle.aa_quantifiers.proofs.Growing.{left, right, both}
use Rattle.aa_claims.specs.declared.words.ClaimWord.{ClaimWord}
use Rattle.aa_claims.specs.Forms.{is_word, keyword_of, names_led}
use Rattle.aa_assert.specs.declared.asked.Asked.{Asked}
use Rattle.aa_assert.specs.declared.asked.Asked.TheVariants.{Never, Leads, Always, Reaches, Enforced}
use Rattle.aa_assert.specs.declared.part.Part.{Part}
use Rattle.aa_assert.specs.Asked.{IsNeverAskedBy, IsNeverAsked, IsAlwaysAsked, IsAskedBy}
use Rattle.aa_assert.specs.Leading.{is_named_in, AreLabels, IsLedTo}
use Rattle.aa_assert.specs.Passages.{going, IsWayTo}
use Rattle.aa_assert.specs.Holding.{is_led_to, EndsThere, ComesThere}

at_map : {X : Type 0} (f : X → Bool) (xs : List X) (n : ℕ) → slice_index_or (map f xs) n false ≡ option_map_or f (slice_get xs n) false
at_map f [] n = refl
at_map f (x ∷ xs) zero = refl
at_map f (x ∷ xs) (suc n) = at_map f xs n

-- what a claim says names the labels of its words
abbrev pub AreSaid : List Policy → List ClaimWord → Asked → Type 0
AreSaid ps ws (Leads w ls) = AreLabels ps ws ls
AreSaid ps ws (Reaches ls) = AreLabels ps ws ls
AreSaid ps ws _ = Unit {0}

pub are_said : (d : Part) (ws : List ClaimWord) (head asked : ClaimWord) (a : Asked) → IsAskedBy d ws head asked a → AreSaid d.decided.policies.now ws a
are_said d ws head asked (Never w) h = tt
are_said d ws head asked (Always w) h = tt
are_said d ws head asked Enforced h = tt
are_said d ws head asked (Reaches ls) h = h.1
are_said d ws head asked (Leads w ls) h = led h.2.0 (is_word (codes "never") head) h.2.2
  where
    by : (v : Word) (o : Option ClaimWord) → IsNeverAskedBy o d ws v (Leads w ls) → AreLabels d.decided.policies.now ws ls
    by v None n = absurd n
    by v (Some to) n = n.2

    led : (v : Word) (b : Bool) → MatchBool b (IsNeverAsked d ws v (Leads w ls)) (IsAlwaysAsked v (Leads w ls)) → AreLabels d.decided.policies.now ws ls
    led v true n = by v (keyword_of (codes "to") ws) n
    led v false n = absurd n

module _ (ps : List Policy) (ws : List ClaimWord) (ls : Labels) (are : AreLabels ps ws ls) where
  named_same : (l : Label) → has_label ls l ≡ is_led_to ps ws l
  named_same (Unconfined k) = are.free
  named_same (Confined k n) = ap (λ (xs : List Bool). slice_index_or xs n false) are.profiles ∙ at_map (is_named_in (names_led ws)) (first_profiles ps) n

  pub led_ends : (l : Label) (r : Request) → IsLedTo ps l ls r → EndsThere ps ws l r
  led_ends l r h = (h.0, sym (named_same (reply ps l r).label) ∙ h.1)

  pub ends_led : (l : Label) (r : Request) → EndsThere ps ws l r → IsLedTo ps l ls r
  ends_led l r h = (h.0, named_same (reply ps l r).label ∙ h.1)

  is_not : (b : Bool) → not b ≡ true → b ≡ false
  is_not true e = sym e
  is_not false e = refl

  pub way_comes : (l : Label) (rs : List Request) → IsWayTo ps l ls rs → ComesThere ps ws l rs
  way_comes l rs w =
      let after = led_by (going ps) l rs in
      record {
        asked = w.asked;
        leaves = is_not (is_same l after) (left (not (is_same l after)) (has_label ls after) w.leads);
        arrives = sym (named_same after) ∙ right (not (is_same l after)) (has_label ls after) w.leads;
      }

  pub comes_way : (l : Label) (rs : List Request) → ComesThere ps ws l rs → IsWayTo ps l ls rs
  comes_way l rs c =
      let after = led_by (going ps) l rs in
      record { asked = c.asked; leads = both (not (is_same l after)) (has_label ls after) (ap not c.leaves) (named_same after ∙ c.arrives) }
