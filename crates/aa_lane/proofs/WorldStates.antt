-- Each event keeps a world lawful.
use Rattle.std.proofs.Common.{◌≡◌, ◌≢◌, ◌+◌, List, [], ◌∷◌, ◌++◌, length, refl, sym, ap, ◌∙◌, arith, length-append, slice_get, Some, ne_eqb, append_assoc}
use Rattle.aa_lane.specs.WorldState.{WorldState, IsLawful, after, after_all, answers_to, answer_to, Replayed}
use Rattle.aa_lane.specs.declared.event.Event.{Event}
use Rattle.aa_lane.specs.declared.event.Reply.{Reply}
use Rattle.aa_lane.specs.declared.event.Event.TheVariants.{Finish}
use Rattle.std.proofs.lemmas.Option.{get_or_from_slice_get, slice_get_within}
use Rattle.aa_lane.proofs.Runs.{replies-more}

module _ {M S Q A : Type 0} (next : M → S → Q → S) (reply : M → S → Q → A) where
  -- the world after the next request is answered
  abbrev pub answering : WorldState M S Q A → Q → WorldState M S Q A
  answering w q = record w { answers = w.answers ++ reply w.machine w.state q ∷ []; state = next w.machine w.state q }

  pub finishes : (w : WorldState M S Q A) (q : Q) → w.taken ≢ length w.answers → slice_get w.accepted (length w.answers) ≡ Some q → answering w q ≡ after next reply w Finish
  finishes w q ne is = rw (ne_eqb w.taken (length w.answers) ne, is) refl

  pub answering_lawful : (w : WorldState M S Q A) (q : Q) → IsLawful next reply w → w.taken ≢ length w.answers → slice_get w.accepted (length w.answers) ≡ Some q → IsLawful next reply (answering w q)
  answering_lawful w q h ne is =
      let there = slice_get_within w.accepted (length w.answers) q is in
      let more = replies-more (next w.machine) (reply w.machine) w.start w.accepted w.answers w.state q there (sym (get_or_from_slice_get w.accepted (length w.answers) q q is)) h.answered h.reached in
      let n : length (w.answers ++ reply w.machine w.state q ∷ []) ≡ length w.answers + 1 = length-append w.answers (reply w.machine w.state q ∷ []) in
      record {
        gotten = let a = h.gotten in omega (arith, n);
        begun = let a = h.begun in omega (arith, n);
        one = let a = h.one in omega (arith, n);
        sent = h.sent;
        spent = h.spent;
        room = h.room;
        answered = rw n more.0;
        reached = rw n more.1;
      }

  pub after_all-snoc : (w : WorldState M S Q A) (es : List (Event M S Q A)) (e : Event M S Q A) → after_all next reply w (es ++ e ∷ []) ≡ after next reply (after_all next reply w es) e
  after_all-snoc w [] e = refl
  after_all-snoc w (x ∷ es) e = after_all-snoc (after next reply w x) es e

  pub answers_to-snoc : (w : WorldState M S Q A) (es : List (Event M S Q A)) (e : Event M S Q A) → answers_to next reply w (es ++ e ∷ []) ≡ answers_to next reply w es ++ answer_to next reply (after_all next reply w es) e ∷ []
  answers_to-snoc w [] e = refl
  answers_to-snoc w (x ∷ es) e = ap (λ rs. answer_to next reply w x ∷ rs) (answers_to-snoc (after next reply w x) es e)

  pub Replayed-more : (w : WorldState M S Q A) (es : List (Event M S Q A)) (rs : List (Reply M S Q A)) (w' : WorldState M S Q A) (e : Event M S Q A) (left : List (Event M S Q A)) (rs' : List (Reply M S Q A))
      → Replayed next reply w es rs w' (e ∷ left) rs' → Replayed next reply w es rs (after next reply w' e) left (rs' ++ answer_to next reply w' e ∷ [])
  Replayed-more w es rs w' e left rs' h =
      record {
        done = h.done ++ e ∷ [];
        events = h.events ∙ sym (append_assoc h.done (e ∷ []) left);
        world = ap (λ v. after next reply v e) h.world ∙ sym (after_all-snoc w h.done e);
        replied = rw (h.replied, h.world, append_assoc, answers_to-snoc w h.done e) refl;
      }
