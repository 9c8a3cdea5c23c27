-- What is decided of logs is what the policy of all files answers.
use Rattle.std.proofs.Common.{◌≡◌, ℕ, List, [], ◌∷◌, Bool, true, false, true≢false, Option, Some, None, refl, sym, ap, subst, ◌∙◌}
use Rattle.std.specs.Prelude.{not, ◌&&◌, is_some, codes, option_map, if◌then◌else◌}
use Rattle.std.specs.Option.{option_map_or}
use Rattle.std.specs.List.{slice_get}
use Rattle.std.specs.Str.{bytes_eq}
use Rattle.aa_model.specs.declared.policy.Policy.{Policy}
use Rattle.aa_model.specs.declared.label.Label.{Label}
use Rattle.aa_model.specs.declared.label.Label.TheVariants.{Unconfined, Confined}
use Rattle.aa_model.specs.declared.request.Request.{Request}
use Rattle.aa_model.specs.declared.answer.Answer.{Answer}
use Rattle.aa_compile.specs.Transitions.{named}
use Rattle.aa_compile.specs.Labels.{label_in, label_named}
use Rattle.aa_mediate.specs.Reply.{reply}
use Rattle.aa_notation.specs.Kinds.{word_text}
use Rattle.aa_logs.specs.Answers.{answered}
use Rattle.aa_command.specs.declared.decided.Decided.{Decided}
use Rattle.aa_skipping.specs.declared.unread.Unread.{Unread}
use Rattle.aa_skipping.specs.Names.{may_be_unread, is_doubtful}
use Rattle.aa_skipping.specs.Laws.{moved, NamesStand}
use Rattle.aa_skipped.specs.declared.skipped.Skipped.{Skipped}
use Rattle.aa_skipped.specs.Together.{together}
use Rattle.aa_skipped.proofs.Each.{doubtful_each}
use Rattle.aa_ask.specs.Verdicts.{is_by_complain}
use Rattle.aa_ask.specs.Told.{told_by, verdict_on}
use Rattle.aa_undecided.specs.Answers.{PlacedFile, answer_by, answer_on, files_deciding}
use Rattle.aa_undecided.specs.Holding.{unreads, IsWhole, Tells, Agrees, AnswersHold}
use Rattle.aa_undecided.proofs.Sound.{none_such}
use Rattle.aa_log.specs.Replayed.{now_by, now_at, now_for}
use Rattle.aa_undecided.specs.Named.{files_holding_in}
use Rattle.aa_against.specs.Parted.{files_by, files_for}
use Rattle.aa_against.specs.Holding.{ReplaysHold}

-- the label of a name, be it that of no profile or that of one
abbrev label_if : Bool → Option ℕ → Option Label
label_if b n = if b then Some (Unconfined 0) else option_map (Confined 0) n

some_label : (place : ℕ → ℕ) (b : Bool) (n m : Option ℕ) (label : Label) → (is_some n ≡ true → m ≡ option_map place n) → label_if b n ≡ Some label → label_if b m ≡ Some (moved place label)
some_label place true n m label same is = ap (option_map (moved place)) is
some_label place false None m label same is = cc
some_label place false (Some k) m label same is = ap (option_map (Confined 0)) (same refl) ∙ ap (option_map (moved place)) is

no_label : (place : ℕ → ℕ) (b : Bool) (n m : Option ℕ) → (is_some n ≡ false → m ≡ option_map place n) → label_if b n ≡ None → label_if b m ≡ None
no_label place true n m same is = cc
no_label place false None m same is = ap (option_map (Confined 0)) (same refl)
no_label place false (Some k) m same is = cc

module _ (answers : AnswersHold) (stand : NamesStand) (d : Decided) (skipped : List Skipped) (read whole : Policy) (place : ℕ → ℕ) (w : IsWhole d skipped read whole place) (name : List ℕ) (request : Request) where
  -- the name finds the same profile there
  same : is_doubtful read.profiles (together (unreads skipped)) name ≡ false → named whole.profiles name ≡ option_map place (named read.profiles name)
  same sure = stand (together (unreads skipped)) read whole place w.joined name sure

  read_sure : is_some (named read.profiles name) ≡ true → is_doubtful read.profiles (together (unreads skipped)) name ≡ false
  read_sure is = ap (λ (b : Bool). not b && may_be_unread (together (unreads skipped)) name) is

  none_sure : files_holding_in skipped name read ≡ [] → is_doubtful read.profiles (together (unreads skipped)) name ≡ false
  none_sure none = doubtful_each read.profiles (unreads skipped) name ∙ none_such (λ (u : Unread). is_doubtful read.profiles u name) skipped none

  -- an answer at a label that the files that are read have
  at_label : (label : Label) → files_deciding d.policies.now skipped label request ≡ [] → now_by (reply (whole ∷ []) (moved place label) request) ≡ now_by (reply d.policies.now label request)
  unfolding answer_on verdict_on told_by
  at_label label none =
      let a : Answer = reply (whole ∷ []) (moved place label) request in
      let b : Answer = reply d.policies.now label request in
      let tells : Tells (verdict_on d label request) a =
      subst (λ (files : List PlacedFile). Agrees (answer_by (word_text request) (verdict_on d label request) files) a) none (answers d skipped read whole place w label request) in
      sym (ap (λ (g : Bool). answered g (is_by_complain b)) tells.granted ∙ ap (λ (k : Bool). answered a.granted k) tells.complain)

  by_label : (o : Option Label) → label_in 0 name read ≡ o → files_by (read ∷ []) skipped name request o ≡ []
      → now_at (whole ∷ []) request (label_in 0 name whole) ≡ now_at d.policies.now request o
  by_label (Some label) is none =
      ap (now_at (whole ∷ []) request) (some_label place (bytes_eq name (codes "unconfined")) (named read.profiles name) (named whole.profiles name) label (λ some. same (read_sure some)) is)
      ∙ at_label label (subst (λ (ps : List Policy). files_deciding ps skipped label request ≡ []) (sym w.one) none)
  by_label None is none =
      ap (now_at (whole ∷ []) request) (no_label place (bytes_eq name (codes "unconfined")) (named read.profiles name) (named whole.profiles name) (λ not_read. same (none_sure none)) is)

  by_name : files_by d.policies.now skipped name request (label_named d.policies.now 0 name) ≡ [] → now_for (whole ∷ []) name request ≡ now_for d.policies.now name request
  by_name none =
      let here : files_by (read ∷ []) skipped name request (label_named (read ∷ []) 0 name) ≡ [] = subst (λ (ps : List Policy). files_by ps skipped name request (label_named ps 0 name) ≡ []) w.one none in
      by_label (label_in 0 name read) refl here ∙ ap (λ (ps : List Policy). now_at d.policies.now request (label_named ps 0 name)) (sym w.one)

pub replays_hold : AnswersHold → NamesStand → ReplaysHold
unfolding files_for
replays_hold answers stand d skipped read whole place w e none = by_name answers stand d skipped read whole place w e.profile.items e.request none
