-- Policies that are the same give the same texts.
use Rattle.std.proofs.Common.{◌≡◌, ℕ, suc, ◌+◌, List, [], ◌∷◌, ◌++◌, Bool, cond, Option, Some, None, option_map, refl, ap, ◌∙◌, length}
use Rattle.std.specs.Prelude.{codes, decimal, flat_map}
use Rattle.std.specs.List.{AllZip, fold, slice_get}
use Rattle.std.specs.Option.{option_and_then, option_map_or}
use Rattle.aa_model.specs.declared.policy.Profile.{Profile}
use Rattle.aa_model.specs.declared.policy.Policy.{Policy}
use Rattle.aa_model.specs.declared.policy.PassedOver.{PassedOver}
use Rattle.aa_model.specs.declared.label.Label.{Label}
use Rattle.aa_model.specs.declared.label.Label.TheVariants.{Unconfined, Confined}
use Rattle.aa_model.specs.declared.request.Request.{Request}
use Rattle.aa_model.specs.declared.request.Request.TheVariants.{File, Link, Exec as Execution, Cap, Net, Change, Reload}
use Rattle.aa_model.specs.declared.answer.Answer.{Answer}
use Rattle.aa_model.specs.declared.answer.Note.{Note}
use Rattle.aa_compile.specs.Labels.{label_name}
use Rattle.aa_mediate.specs.Reply.{reply}
use Rattle.aa_base.specs.Values.{value, mask}
use Rattle.aa_audit.specs.Keys.{key, denied_key, keys, operation_name}
use Rattle.aa_audit.specs.Lines.{head_text, note_line}
use Rattle.aa_jobs.specs.declared.job.Task.{Task}
use Rattle.aa_lane.specs.Answers.{answered_from}
use Rattle.aa_engine.specs.Answers.{Answered, asked, task_label, next_label, answers_by}
use Rattle.aa_engine.specs.Output.{verdict_word, policy_word, scrub_word, outcome_text, verdict_line, audit_lines, task_lines, lines_from, run_text}
use Rattle.aa_engine.specs.Output.{keyword_text, passed_over_line, counts_line, rules_of, policy_text, number_line, policies_from, check_text}
use Rattle.aa_policy.specs.Sameness.{SameProfile, SamePolicy, SameRule}
use Rattle.aa_engine.proofs.Rows.{IsAlike, got_alike, long_alike}
use Rattle.aa_engine.proofs.Replies.{label_named_alike, replies_alike}

-- the name of a profile, if there is one
name_alike : (o p : Option Profile) → IsAlike SameProfile o p → option_map_or (λ (x : Profile). x.name) o [] ≡ option_map_or (λ (x : Profile). x.name) p []
name_alike None None h = refl
name_alike (Some x) (Some y) h = h.name
name_alike None (Some y) h = absurd h
name_alike (Some x) None h = absurd h

module _ (ps qs : List Policy) (same : AllZip SamePolicy ps qs) where
  in_policy : (n : ℕ) (o p : Option Policy) → IsAlike SamePolicy o p →
      option_map_or (λ (x : Profile). x.name) (option_and_then (λ (x : Policy). slice_get x.profiles n) o) [] ≡ option_map_or (λ (x : Profile). x.name) (option_and_then (λ (x : Policy). slice_get x.profiles n) p) []
  in_policy n None None h = refl
  in_policy n (Some x) (Some y) h = name_alike (slice_get x.profiles n) (slice_get y.profiles n) (got_alike SameProfile x.profiles y.profiles n h.profiles)
  in_policy n None (Some y) h = absurd h
  in_policy n (Some x) None h = absurd h

  label_name_alike : (label : Label) → label_name ps label ≡ label_name qs label
  unfolding label_name
  label_name_alike (Unconfined k) = refl
  label_name_alike (Confined k n) = in_policy n (slice_get ps k) (slice_get qs k) (got_alike SamePolicy ps qs k same)

  pub outcome_alike : (several : Bool) (answer : Answer) → outcome_text several ps answer ≡ outcome_text several qs answer
  unfolding outcome_text
  outcome_alike several answer =
      ap (λ (name : List ℕ). verdict_word answer.granted ++ codes " label=" ++ value name ++ policy_word several answer.label ++ scrub_word answer.scrub) (label_name_alike answer.label)

  verdict_alike : (several : Bool) (task : ℕ) (a : Answered (List Policy)) → verdict_line several ps task a ≡ verdict_line several qs task a
  unfolding verdict_line
  verdict_alike several task a = ap (λ (text : List ℕ). decimal task ++ codes " " ++ decimal a.number ++ text ++ codes "\n") (outcome_alike several a.answer)

  keys_alike : (request : Request) (answer : Answer) (note : Note) → keys ps request answer note ≡ keys qs request answer note
  keys_alike (File r) answer note = refl
  keys_alike (Link r) answer note = refl
  keys_alike (Execution r) answer note =
      ap (λ (name : List ℕ). key (codes "name") (value r.path) ++ key (codes "requested_mask") (mask 64) ++ denied_key note.word 64 ++ cond answer.granted (key (codes "target") (value name)) []) (label_name_alike answer.label)
  keys_alike (Cap n) answer note = refl
  keys_alike (Net family kind) answer note = refl
  keys_alike (Change name) answer note = refl
  keys_alike (Reload k) answer note = refl

  note_line_alike : (before : Label) (request : Request) (answer : Answer) (note : Note) → note_line ps before request answer note ≡ note_line qs before request answer note
  unfolding note_line
  note_line_alike before request answer note =
      ap (λ (name : List ℕ). option_map (λ (operation : List ℕ). head_text note.word operation name ++ keys ps request answer note) (operation_name request)) (label_name_alike before)
      ∙ ap (λ (text : List ℕ). option_map (λ (operation : List ℕ). head_text note.word operation (label_name qs before) ++ text) (operation_name request)) (keys_alike request answer note)

  by_note : (before : Label) (request : Request) (answer : Answer) (o : Option Note) → option_and_then (note_line ps before request answer) o ≡ option_and_then (note_line qs before request answer) o
  by_note before request answer None = refl
  by_note before request answer (Some note) = note_line_alike before request answer note

  audit_alike : (before : Label) (a : Answered (List Policy)) → audit_lines ps before a ≡ audit_lines qs before a
  unfolding audit_lines
  audit_alike before a = ap (λ (o : Option (List ℕ)). option_map_or (λ (l : List ℕ). l ++ codes "\n") o []) (by_note before a.request a.answer a.answer.note)

  answered_alike : (requests : List Request) (label : Label) (n : ℕ) → answered_from next_label reply ps n label requests ≡ answered_from next_label reply qs n label requests
  answered_alike [] label n = refl
  answered_alike (request ∷ requests) label n =
      ap (λ (answer : Answer). record { number = n; request = request; answer = answer } ∷ answered_from next_label reply ps (suc n) answer.label requests) (replies_alike ps qs same label request)
      ∙ ap (λ (rest : List (Answered (List Policy))). record { number = n; request = request; answer = reply qs label request } ∷ rest) (answered_alike requests (reply qs label request).label (suc n))

  task_lines_alike : (several : Bool) (task : ℕ) (answers : List (Answered (List Policy))) (before : Label) → task_lines several ps task before answers ≡ task_lines several qs task before answers
  unfolding task_lines
  task_lines_alike several task [] before = refl
  task_lines_alike several task (a ∷ answers) before =
      ap (λ (text : List ℕ). text ++ (audit_lines ps before a ++ task_lines several ps task a.answer.label answers)) (verdict_alike several task a)
      ∙ ap (λ (text : List ℕ). verdict_line several qs task a ++ (text ++ task_lines several ps task a.answer.label answers)) (audit_alike before a)
      ∙ ap (λ (text : List ℕ). verdict_line several qs task a ++ (audit_lines qs before a ++ text)) (task_lines_alike several task answers a.answer.label)

  lines_of_task : (several : Bool) (n : ℕ) (task : Task) (label : Label) → task_lines several ps n label (answers_by next_label reply ps task label) ≡ task_lines several qs n label (answers_by next_label reply qs task label)
  lines_of_task several n task label =
      ap (task_lines several ps n label) (answered_alike (asked task.requests) label 0) ∙ task_lines_alike several n (answers_by next_label reply qs task label) label

  by_label : (several : Bool) (n : ℕ) (task : Task) (before after : Option (List ℕ)) → before ≡ after → (o : Option Label) →
      option_and_then (λ (label : Label). option_and_then (λ (rest : List ℕ). Some (task_lines several ps n label (answers_by next_label reply ps task label) ++ rest)) before) o
      ≡ option_and_then (λ (label : Label). option_and_then (λ (rest : List ℕ). Some (task_lines several qs n label (answers_by next_label reply qs task label) ++ rest)) after) o
  by_label several n task before after e None = refl
  by_label several n task before after e (Some label) =
      ap (λ (text : List ℕ). option_and_then (λ (rest : List ℕ). Some (text ++ rest)) before) (lines_of_task several n task label)
      ∙ ap (option_and_then (λ (rest : List ℕ). Some (task_lines several qs n label (answers_by next_label reply qs task label) ++ rest))) e

  lines_alike : (several : Bool) (tasks : List Task) (n : ℕ) → lines_from next_label reply ps several ps n tasks ≡ lines_from next_label reply qs several qs n tasks
  unfolding lines_from
  lines_alike several [] n = refl
  lines_alike several (task ∷ tasks) n =
      ap (λ (o : Option Label). option_and_then
      (λ (label : Label). option_and_then (λ (rest : List ℕ). Some (task_lines several ps n label (answers_by next_label reply ps task label) ++ rest))
      (lines_from next_label reply ps several ps (n + 1) tasks)) o)
      (label_named_alike ps qs same task.policy task.label)
      ∙ by_label several n task (lines_from next_label reply ps several ps (n + 1) tasks) (lines_from next_label reply qs several qs (n + 1) tasks) (lines_alike several tasks (n + 1)) (task_label qs task)

  pub run_alike : (several : Bool) (tasks : List Task) → run_text several ps tasks ≡ run_text several qs tasks
  run_alike several tasks = lines_alike several tasks 0

counted_alike : (n : ℕ) (rs ss : List Profile) → AllZip SameProfile rs ss → fold (λ (a : ℕ) (p : Profile). a + length p.files) n rs ≡ fold (λ (a : ℕ) (p : Profile). a + length p.files) n ss
counted_alike n [] [] h = refl
counted_alike n (p ∷ rs) (q ∷ ss) h =
    ap (λ (m : ℕ). fold (λ (a : ℕ) (x : Profile). a + length x.files) (n + m) rs) (long_alike SameRule p.files q.files h.0.files) ∙ counted_alike (n + length q.files) rs ss h.1
counted_alike n [] (q ∷ ss) h = absurd h
counted_alike n (p ∷ rs) [] h = absurd h

rules_alike : (rs ss : List Profile) → AllZip SameProfile rs ss → rules_of rs ≡ rules_of ss
rules_alike rs ss h = counted_alike 0 rs ss h

module _ (rs ss : List Profile) (same : AllZip SameProfile rs ss) where
  passed_over_alike : (rule : PassedOver) → passed_over_line rs rule ≡ passed_over_line ss rule
  unfolding passed_over_line
  passed_over_alike rule =
      ap (λ (name : List ℕ). codes "passed over " ++ value name ++ codes " " ++ keyword_text rule.kind ++ codes "\n")
      (name_alike (slice_get rs rule.profile) (slice_get ss rule.profile) (got_alike SameProfile rs ss rule.profile same))

  listed_alike : (rules : List PassedOver) → flat_map (passed_over_line rs) rules ≡ flat_map (passed_over_line ss) rules
  listed_alike [] = refl
  listed_alike (rule ∷ rules) =
      ap (λ (text : List ℕ). text ++ flat_map (passed_over_line rs) rules) (passed_over_alike rule) ∙ ap (λ (text : List ℕ). passed_over_line ss rule ++ text) (listed_alike rules)

policy_text_alike : (p q : Policy) → SamePolicy p q → policy_text p ≡ policy_text q
policy_text_alike p q h =
    ap (λ (n : ℕ). counts_line n (rules_of p.profiles) (length p.passed_over) ++ flat_map (passed_over_line p.profiles) p.passed_over) (long_alike SameProfile p.profiles q.profiles h.profiles)
    ∙ ap (λ (n : ℕ). counts_line (length q.profiles) n (length p.passed_over) ++ flat_map (passed_over_line p.profiles) p.passed_over) (rules_alike p.profiles q.profiles h.profiles)
    ∙ ap (λ (text : List ℕ). counts_line (length q.profiles) (rules_of q.profiles) (length p.passed_over) ++ text) (listed_alike p.profiles q.profiles h.profiles p.passed_over)
    ∙ ap (λ (rules : List PassedOver). counts_line (length q.profiles) (rules_of q.profiles) (length rules) ++ flat_map (passed_over_line q.profiles) rules) h.passed_over

policies_alike : (several : Bool) (n : ℕ) (ps qs : List Policy) → AllZip SamePolicy ps qs → policies_from several n ps ≡ policies_from several n qs
unfolding policies_from
policies_alike several n [] [] h = refl
policies_alike several n (p ∷ ps) (q ∷ qs) h =
    ap (λ (text : List ℕ). number_line several n ++ (text ++ policies_from several (n + 1) ps)) (policy_text_alike p q h.0)
    ∙ ap (λ (text : List ℕ). number_line several n ++ (policy_text q ++ text)) (policies_alike several (n + 1) ps qs h.1)
policies_alike several n [] (q ∷ qs) h = absurd h
policies_alike several n (p ∷ ps) [] h = absurd h

pub check_alike : (several : Bool) (ps qs : List Policy) → AllZip SamePolicy ps qs → check_text several ps ≡ check_text several qs
check_alike several ps qs h = policies_alike several 0 ps qs h
