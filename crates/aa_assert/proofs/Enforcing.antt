-- Where rules are enforced a verdict is that of the policies without their complain flags.
use Rattle.std.proofs.Common.{◌≡◌, List, Bool, true, false, cond, Option, Some, None, refl, sym, ap, ◌∙◌}
use Rattle.aa_model.specs.declared.label.Label.{Label}
use Rattle.aa_model.specs.declared.request.Request.{Request}
use Rattle.aa_model.specs.declared.answer.Answer.{Answer}
use Rattle.aa_compile.specs.Labels.{label_name}
use Rattle.aa_mediate.specs.Reply.{reply}
use Rattle.aa_command.specs.declared.decided.Decided.{Decided}
use Rattle.aa_ask.specs.Told.{Told, is_same, label_told, told_by, told_of, verdict_on}
use Rattle.aa_ask.specs.Verdicts.{is_by_complain}
use Rattle.aa_undecided.specs.Holding.{Tells}
use Rattle.aa_who.proofs.Enforcing.{Enforces, answers_enforced}
use Rattle.aa_assert.proofs.Apart.{itself}
use Rattle.aa_assert.specs.Enforced.{refused_told, enforced, TellsAnswer, EnforcedVerdicts}

module _ (d : Decided) (l : Label) (r : Request) where
  told : (a b : Answer) → Enforces l a b → TellsAnswer d.policies.now l (enforced r (told_of d l r a)) b
  unfolding told_by
  told a b e = at (is_by_complain a) refl
    where
      at : (c : Bool) → is_by_complain a ≡ c → TellsAnswer d.policies.now l (cond c (refused_told r (told_of d l r a)) (told_of d l r a)) b
      at true is = record {
        tells = record {
          granted = sym (e.granted ∙ ap (λ (x : Bool). cond x false a.granted) is);
          scrub = sym (e.scrub ∙ ap (λ (x : Bool). cond x false a.scrub) is);
          complain = sym e.plain;
        };
        label =
            sym (ap (λ (m : Label). label_told d.policies.now l m) (e.label ∙ ap (λ (x : Bool). cond x l a.label) is)
            ∙ ap (λ (x : Bool). cond x None (Some (label_name d.policies.now l))) (itself l));
      }
      at false is = record {
        tells = record {
          granted = sym (e.granted ∙ ap (λ (x : Bool). cond x false a.granted) is);
          scrub = sym (e.scrub ∙ ap (λ (x : Bool). cond x false a.scrub) is);
          complain = is ∙ sym e.plain;
        };
        label = sym (ap (λ (m : Label). label_told d.policies.now l m) (e.label ∙ ap (λ (x : Bool). cond x l a.label) is));
      }

pub enforced_verdicts : EnforcedVerdicts
unfolding verdict_on
enforced_verdicts d l r qs are = told d l r (reply d.policies.now l r) (reply qs l r) (answers_enforced d.policies.now qs are l r)
