-- Claims are broken as by the policies without complain flags.
use Rattle.std.proofs.Common.{◌≡◌, List, [], ◌∷◌, Bool, true, false, true≢false, cond, Option, Some, None, refl, sym, ap, ◌∙◌}
use Rattle.std.specs.Option.{option_map_or}
use Rattle.std.specs.Prelude.{option_map}
use Rattle.std.specs.List.{slice_get}
use Rattle.std.proofs.lemmas.Option.{slice_get-map}
use Rattle.aa_model.specs.declared.policy.Policy.{Policy}
use Rattle.aa_model.specs.declared.policy.Profile.{Profile}
use Rattle.aa_model.specs.declared.label.Label.{Label}
use Rattle.aa_model.specs.declared.label.Label.TheVariants.{Unconfined, Confined}
use Rattle.aa_model.specs.declared.request.Request.{Request}
use Rattle.aa_model.specs.declared.answer.Note.{Note}
use Rattle.aa_model.specs.declared.answer.NoteWord.{NoteWord}
use Rattle.aa_model.specs.declared.answer.NoteWord.TheVariants.{Denied, Allowed, Audit}
use Rattle.aa_mediate.specs.Reply.{reply}
use Rattle.aa_ask.specs.Told.{is_same}
use Rattle.aa_ask.specs.Verdicts.{says_allowed}
use Rattle.aa_reachability.specs.Moves.{says_allowed as allows, label_next}
use Rattle.aa_reachability.specs.Reach.{led_by}
use Rattle.aa_quantifiers.specs.declared.word.Word.{Word}
use Rattle.aa_quantifiers.specs.Quantities.{grants, IsAnswered}
use Rattle.aa_claims.specs.declared.words.ClaimWord.{ClaimWord}
use Rattle.aa_claims.specs.Forms.{names_led}
use Rattle.aa_who.specs.Enforced.{enforcing, AreEnforcing}
use Rattle.aa_who.proofs.Enforcing.{answers_enforced, profiles_in, cleared_in, by_profiles, grants_same, label_moved}
use Rattle.aa_assert.specs.declared.asked.Asked.{Asked}
use Rattle.aa_assert.specs.declared.asked.Asked.TheVariants.{Never, Leads, Always, Reaches, Enforced}
use Rattle.aa_assert.specs.Judging.{IsBroken}
use Rattle.aa_assert.specs.Leading.{is_named_in}
use Rattle.aa_assert.specs.Passages.{going}
use Rattle.aa_assert.specs.Holding.{is_led_to, EndsThere, ComesThere, Counted, IsBrokenAt, is_on_answers, ClaimsEnforced, WaysEnforced}

same_note : (o : Option Note) → option_map_or (λ (n : Note). allows n.word) o false ≡ option_map_or (λ (n : Note). says_allowed n.word) o false
same_note None = refl
same_note (Some n) = at n.word
  where
    at : (w : NoteWord) → allows w ≡ says_allowed w
    at Denied = refl
    at Allowed = refl
    at Audit = refl

is_so : (unclean : Bool) (w : Word) (P Q : Request → Type 0) → ((r : Request) → P r → Q r) → IsBroken w (Counted unclean P) → IsBroken w (Counted unclean Q)
is_so unclean w P Q f h = (h.0, h.1, (h.2.0, f h.0 h.2.1))

module _ (ps qs : List Policy) (are : AreEnforcing ps qs) where
  next_same : (l : Label) (r : Request) → going ps l r ≡ label_next qs l r
  next_same l r =
      let e = answers_enforced ps qs are l r in
      ap (λ (c : Bool). cond c l (reply ps l r).label) (same_note (reply ps l r).note) ∙ sym e.label

  plainly : (l : Label) (r : Request) → going qs l r ≡ label_next qs l r
  plainly l r =
      let e = answers_enforced ps qs are l r in
      ap (λ (c : Bool). cond c l (reply qs l r).label) (same_note (reply qs l r).note ∙ e.plain)

  leads_next : (l : Label) (rs : List Request) → led_by (going ps) l rs ≡ led_by (label_next qs) l rs
  leads_next l [] = refl
  leads_next l (r ∷ rs) = ap (λ (m : Label). led_by (going ps) m rs) (next_same l r) ∙ leads_next (label_next qs l r) rs

  leads_plainly : (l : Label) (rs : List Request) → led_by (going qs) l rs ≡ led_by (label_next qs) l rs
  leads_plainly l [] = refl
  leads_plainly l (r ∷ rs) = ap (λ (m : Label). led_by (going qs) m rs) (plainly l r) ∙ leads_plainly (label_next qs l r) rs

  led_same : (l : Label) (rs : List Request) → led_by (going ps) l rs ≡ led_by (going qs) l rs
  led_same l rs = leads_next l rs ∙ sym (leads_plainly l rs)

  module _ (ws : List ClaimWord) where
    named_too : (l : Label) → is_led_to qs ws l ≡ is_led_to ps ws l
    named_too (Unconfined k) = refl
    named_too (Confined k n) =
        by_profiles ps qs are (λ (o : Option Policy). option_map_or (is_named_in (names_led ws)) (slice_get (option_map_or profiles_in o []) n) false)
        (λ (o : Option (List Profile)). option_map_or (is_named_in (names_led ws)) (slice_get (option_map_or (λ (xs : List Profile). xs) o []) n) false)
        is same 0
      where
        is : (o : Option Policy)
            → option_map_or (is_named_in (names_led ws)) (slice_get (option_map_or profiles_in o []) n) false
            ≡ option_map_or (is_named_in (names_led ws)) (slice_get (option_map_or (λ (xs : List Profile). xs) (option_map profiles_in o) []) n) false
        is None = refl
        is (Some p) = refl

        by_name : (o : Option Profile)
            → option_map_or (is_named_in (names_led ws)) (option_map enforcing o) false ≡ option_map_or (is_named_in (names_led ws)) o false
        by_name None = refl
        by_name (Some p) = refl

        same : (o : Option Policy)
            → option_map_or (is_named_in (names_led ws)) (slice_get (option_map_or (λ (xs : List Profile). xs) (option_map cleared_in o) []) n) false
            ≡ option_map_or (is_named_in (names_led ws)) (slice_get (option_map_or profiles_in o []) n) false
        same None = refl
        same (Some p) =
            ap (λ (o : Option Profile). option_map_or (is_named_in (names_led ws)) o false) (slice_get-map enforcing p.profiles n)
            ∙ by_name (slice_get p.profiles n)

    module _ (l : Label) where
      answered_too : (against : Bool) (r : Request) → IsAnswered ps l against r → IsAnswered qs l against r
      answered_too against r h = sym (grants_same ps qs are l r) ∙ h

      answered_back : (against : Bool) (r : Request) → IsAnswered qs l against r → IsAnswered ps l against r
      answered_back against r h = grants_same ps qs are l r ∙ h

      ends_too : (r : Request) → EndsThere ps ws l r → EndsThere qs ws l r
      ends_too r h = (
        answered_too true r h.0,
        named_too (reply qs l r).label ∙ ap (λ (m : Label). is_led_to ps ws m) (label_moved ps qs are l r h.0) ∙ h.1,
      )

      ends_back : (r : Request) → EndsThere qs ws l r → EndsThere ps ws l r
      ends_back r h =
          let g = answered_back true r h.0 in (
            g,
            ap (λ (m : Label). is_led_to ps ws m) (sym (label_moved ps qs are l r g)) ∙ sym (named_too (reply qs l r).label) ∙ h.1,
          )

      comes_too : (rs : List Request) → ComesThere ps ws l rs → ComesThere qs ws l rs
      comes_too rs h = record {
        asked = h.asked;
        leaves = ap (λ (m : Label). is_same l m) (sym (led_same l rs)) ∙ h.leaves;
        arrives = named_too (led_by (going qs) l rs) ∙ ap (λ (m : Label). is_led_to ps ws m) (sym (led_same l rs)) ∙ h.arrives;
      }

      comes_back : (rs : List Request) → ComesThere qs ws l rs → ComesThere ps ws l rs
      comes_back rs h = record {
        asked = h.asked;
        leaves = ap (λ (m : Label). is_same l m) (led_same l rs) ∙ h.leaves;
        arrives = ap (λ (m : Label). is_led_to ps ws m) (led_same l rs) ∙ sym (named_too (led_by (going qs) l rs)) ∙ h.arrives;
      }

pub ways_enforced : WaysEnforced
ways_enforced ps qs are l rs = leads_next ps qs are l rs

pub claims_enforced : ClaimsEnforced
claims_enforced unclean ps qs are ws l (Never w) on = (
  is_so unclean w (IsAnswered ps l true) (IsAnswered qs l true) (answered_too ps qs are ws l true),
  is_so unclean w (IsAnswered qs l true) (IsAnswered ps l true) (answered_back ps qs are ws l true),
)
claims_enforced unclean ps qs are ws l (Leads w ls) on = (
  is_so unclean w (EndsThere ps ws l) (EndsThere qs ws l) (ends_too ps qs are ws l),
  is_so unclean w (EndsThere qs ws l) (EndsThere ps ws l) (ends_back ps qs are ws l),
)
claims_enforced unclean ps qs are ws l (Always w) on = (
  is_so unclean w (IsAnswered ps l false) (IsAnswered qs l false) (answered_too ps qs are ws l false),
  is_so unclean w (IsAnswered qs l false) (IsAnswered ps l false) (answered_back ps qs are ws l false),
)
claims_enforced unclean ps qs are ws l (Reaches ls) on = (
  λ h. (h.0, h.1, comes_too ps qs are ws l h.0 h.2),
  λ h. (h.0, h.1, comes_back ps qs are ws l h.0 h.2),
)
claims_enforced unclean ps qs are ws l Enforced on = absurd (true≢false (sym on))
