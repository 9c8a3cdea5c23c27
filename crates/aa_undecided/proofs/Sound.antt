-- What isn't undecided is what the policy of all files answers.
use Rattle.std.proofs.Common.{◌≡◌, ℕ, List, [], ◌∷◌, ◌++◌, map, Bool, true, false, true≢false, Option, Some, None, Ok, Err, refl, sym, ap, subst, ◌∙◌}
use Rattle.std.specs.Prelude.{not, ◌&&◌, ◌||◌, is_some, codes, filter, option_map, if◌then◌else◌}
use Rattle.std.specs.Option.{option_map_or}
use Rattle.std.specs.List.{AllZip, list_any, slice_get}
use Rattle.aa_model.specs.declared.policy.Policy.{Policy}
use Rattle.aa_model.specs.declared.policy.Profile.{Profile}
use Rattle.aa_model.specs.declared.label.Label.{Label}
use Rattle.aa_model.specs.declared.label.Label.TheVariants.{Unconfined, Confined}
use Rattle.aa_model.specs.declared.request.Request.{Request}
use Rattle.aa_model.specs.declared.answer.Answer.{Answer}
use Rattle.aa_compile.specs.Transitions.{named}
use Rattle.aa_mediate.specs.Reply.{reply}
use Rattle.aa_notation.specs.Kinds.{request_in, word_text}
use Rattle.aa_command.specs.declared.decided.Decided.{Decided}
use Rattle.aa_skipping.specs.declared.unread.Unread.{Unread}
use Rattle.aa_skipping.specs.Names.{may_be_unread}
use Rattle.aa_skipping.specs.Undecided.{undecided_in, undecided}
use Rattle.aa_skipping.specs.Laws.{moved, moved_answer, answers_to, NamesStand}
use Rattle.aa_skipped.specs.declared.skipped.Skipped.{Skipped}
use Rattle.aa_skipped.specs.Together.{together, one_decides, has_label, EachDecides}
use Rattle.aa_ask.specs.Verdicts.{is_by_complain}
use Rattle.aa_ask.specs.Told.{Told, told_by, verdict_on}
use Rattle.aa_ask.specs.Asked.{Outcome, or_refused, no_program, label_by_program}
use Rattle.aa_undecided.specs.Answers.{PlacedFile, placed, AnswerData, Settled, Undecided, files_deciding, answer_by, answer_on, label_by, label_after, in_turn, files_attaching}
use Rattle.aa_undecided.specs.Holding.{unreads, IsWhole, Tells, Agrees, AnswersHold, SequencesHold, moved_outcome, ProgramsHold, NamesHold}

first_none : (b rest : Bool) (k : Skipped) (kept : List Skipped) → map placed (if b then k ∷ kept else kept) ≡ [] → (map placed kept ≡ [] → rest ≡ false) → (b || rest) ≡ false
first_none true rest k kept e more = cc
first_none false rest k kept e more = more e

-- where none of the files is found, none is such
pub none_such : (p : Unread → Bool) (skipped : List Skipped) → map placed (filter (λ (k : Skipped). p k.unread) skipped) ≡ [] → list_any p (unreads skipped) ≡ false
none_such p [] none = refl
none_such p (k ∷ ks) none = first_none (p k.unread) (list_any p (unreads ks)) k (filter (λ (x : Skipped). p x.unread) ks) none (none_such p ks)

held : (o : Option Profile) (f : Profile → Bool) (rest : Bool) → (option_map_or f o true || rest) ≡ false → is_some o ≡ true
held None f rest e = absurd (true≢false e)
held (Some p) f rest e = refl

-- in a profile that isn't there each file could decide
pub has_some : (profiles : List Profile) (label : Label) (request : Request) (file : Skipped) (files : List Skipped) → one_decides profiles label request (unreads (file ∷ files)) ≡ false → has_label profiles label ≡ true
unfolding undecided
has_some profiles (Unconfined k) request file files e = refl
has_some profiles (Confined k n) request file files e =
    held (slice_get profiles n) (λ (p : Profile). undecided_in profiles file.unread p request) (one_decides profiles (Confined k n) request (unreads files)) e

by_files : (word : List ℕ) (t : Told) (files : List PlacedFile) (a : Answer) → (files ≡ [] → Tells t a) → Agrees (answer_by word t files) a
by_files word t [] a h = h refl
by_files word t (f ∷ fs) a h = tt

module _ (each : EachDecides) (d : Decided) (skipped : List Skipped) (read whole : Policy) (place : ℕ → ℕ) (w : IsWhole d skipped read whole place) where
  same : (label : Label) (request : Request) → files_deciding d.policies.now skipped label request ≡ []
      → reply (whole ∷ []) (moved place label) request ≡ moved_answer place (reply d.policies.now label request)
  unfolding files_deciding
  same label request none =
      let here : files_deciding (read ∷ []) skipped label request ≡ [] = subst (λ (ps : List Policy). files_deciding ps skipped label request ≡ []) w.one none in
      let no : one_decides read.profiles label request (unreads skipped) ≡ false = none_such (λ (u : Unread). undecided read.profiles u label request) skipped here in
      let has : has_label read.profiles label ≡ true = has_some read.profiles label request w.file w.files (subst (λ (ks : List Skipped). one_decides read.profiles label request (unreads ks) ≡ false) w.some no) in
      each (unreads skipped) read whole place w.joined label request has no ∙ ap (λ (ps : List Policy). moved_answer place (reply ps label request)) (sym w.one)

  tells : (label : Label) (request : Request) (a : Answer) → a ≡ moved_answer place (reply d.policies.now label request) → Tells (verdict_on d label request) a
  unfolding verdict_on told_by
  tells label request a e = record {
    granted = ap (λ (x : Answer). x.granted) (sym e);
    scrub = ap (λ (x : Answer). x.scrub) (sym e);
    complain = ap (λ (x : Answer). is_by_complain x) (sym e);
  }

  answer_holds : (label : Label) (request : Request) → Agrees (answer_on d skipped label request) (reply (whole ∷ []) (moved place label) request)
  unfolding answer_on
  answer_holds label request =
      let a : Answer = reply (whole ∷ []) (moved place label) request in
      by_files (word_text request) (verdict_on d label request) (files_deciding d.policies.now skipped label request) a (λ none. tells label request a (same label request none))

  lost : (requests : List Request) (l : Label) → AllZip Agrees (in_turn d skipped None requests) (answers_to whole l requests)
  unfolding in_turn
  lost [] l = tt
  lost (r ∷ rs) l = (tt, lost rs ((reply (whole ∷ []) l r).label))

  onward : (files : List PlacedFile) (l m : Label) (rs : List Request) → (files ≡ [] → m ≡ moved place l)
      → ((k : Label) → AllZip Agrees (in_turn d skipped (Some k) rs) (answers_to whole (moved place k) rs)) → AllZip Agrees (in_turn d skipped (label_by l files) rs) (answers_to whole m rs)
  onward [] l m rs is rest = subst (λ (x : Label). AllZip Agrees (in_turn d skipped (Some l) rs) (answers_to whole x rs)) (sym (is refl)) (rest l)
  onward (f ∷ fs) l m rs is rest = lost rs m

  sequence_holds : (requests : List Request) (label : Label) → AllZip Agrees (in_turn d skipped (Some label) requests) (answers_to whole (moved place label) requests)
  unfolding in_turn label_after
  sequence_holds [] label = tt
  sequence_holds (r ∷ rs) label = (
    answer_holds label r,
    onward (files_deciding d.policies.now skipped label r) ((reply d.policies.now label r).label) ((reply (whole ∷ []) (moved place label) r).label) rs
        (λ none. ap (λ (a : Answer). a.label) (same label r none)) (λ k. sequence_holds rs k),
  )

  by_request : (o : Option Request) (line : List ℕ) → option_map_or (files_deciding d.policies.now skipped (Unconfined 0)) o [] ≡ []
      → or_refused line (option_map (λ (r : Request). (reply (whole ∷ []) (Unconfined 0) r).label) o) ≡ moved_outcome place (or_refused line (option_map (λ (r : Request). (reply d.policies.now (Unconfined 0) r).label) o))
  by_request None line e = refl
  by_request (Some r) line e = ap (λ (a : Answer). Ok a.label) (same (Unconfined 0) r e)

  program_holds : (path : List ℕ) → files_attaching d.policies.now skipped path ≡ [] → label_by_program (whole ∷ []) path ≡ moved_outcome place (label_by_program d.policies.now path)
  unfolding files_attaching
  program_holds path none = by_request (request_in false (codes "x:" ++ path)) (no_program path) none

pub answers_hold : EachDecides → AnswersHold
answers_hold each d skipped read whole place w label request = answer_holds each d skipped read whole place w label request

pub sequences_hold : EachDecides → SequencesHold
sequences_hold each d skipped read whole place w label requests = sequence_holds each d skipped read whole place w requests label

pub programs_hold : EachDecides → ProgramsHold
programs_hold each d skipped read whole place w path none = program_holds each d skipped read whole place w path none

pub names_hold : NamesStand → NamesHold
names_hold stand d skipped read whole place w name n is =
    let u : Unread = together (unreads skipped) in
    stand u read whole place w.joined name (ap (λ (o : Option ℕ). not (is_some o) && may_be_unread u name) is) ∙ ap (option_map place) is
