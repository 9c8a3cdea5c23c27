-- Requests one after another.
use Rattle.std.proofs.Common.{◌≡◌, ℕ, List, [], ◌∷◌, map, Bool, true, false, true≢false, refl, sym, ap, ◌∙◌}
use Rattle.std.specs.Prelude.{not}
use Rattle.std.proofs.lemmas.Bool.{and_parts}
use Rattle.aa_model.specs.declared.policy.Policy.{Policy}
use Rattle.aa_model.specs.declared.label.Label.{Label}
use Rattle.aa_model.specs.declared.answer.Answer.{Answer}
use Rattle.aa_model.specs.declared.request.Request.{Request}
use Rattle.aa_mediate.specs.Reply.{reply}
use Rattle.aa_skipping.specs.declared.unread.Unread.{Unread}
use Rattle.aa_skipping.specs.Joined.{IsJoinedWith}
use Rattle.aa_skipping.specs.Undecided.{undecided}
use Rattle.aa_skipping.specs.Laws.{moved, moved_answer, answers_to, all_decided}
use Rattle.aa_skipping.proofs.Answering.{answers_stand}

negated : (b : Bool) → not b ≡ true → b ≡ false
negated true e = absurd (true≢false (sym e))
negated false e = refl

module _ (unread : Unread) (read joined : Policy) (place : ℕ → ℕ) (j : IsJoinedWith unread read.profiles joined.profiles place) where
  pub runs_stand : (label : Label) (requests : List Request) → all_decided read unread label requests ≡ true
      → answers_to joined (moved place label) requests ≡ map (moved_answer place) (answers_to read label requests)
  runs_stand label [] sure = refl
  runs_stand label (r ∷ rs) sure =
      let before : Answer = reply (read ∷ []) label r in
      let parts = and_parts (not (undecided read.profiles unread label r)) (all_decided read unread before.label rs) sure in
      let here : reply (joined ∷ []) (moved place label) r ≡ moved_answer place before = answers_stand unread read joined place j label r (negated (undecided read.profiles unread label r) parts.0) in
      ap (λ (a : Answer). a ∷ answers_to joined a.label rs) here ∙ ap (λ (as' : List Answer). moved_answer place before ∷ as') (runs_stand before.label rs parts.1)
