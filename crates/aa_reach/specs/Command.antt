-- What `reach` prints.
-- Source: own.
use Rattle.std.specs.Prelude.{◌≡◌, ℕ, ◌+◌, ◌==◌, ◌⊎◌, ◌&&◌, ◌||◌, nat_lt, List, [], ◌++◌, length, map, flat_map, codes}
use Rattle.std.specs.Prelude.{Bool, true, false, not, MatchBool, if◌then◌else◌, Option, Some, None, option_map, is_some}
use Rattle.std.specs.List.{AllZip, list_any}
use Rattle.aa_model.specs.declared.policy.Policy.{Policy}
use Rattle.aa_model.specs.declared.label.Label.{Label}
use Rattle.aa_files.specs.Texts.{texts}
use Rattle.aa_load.specs.UnitPolicy.{limit_of}
use Rattle.aa_command.specs.declared.decided.Decided.{Decided}
use Rattle.aa_command.specs.Setting.{Setting}
use Rattle.aa_command.specs.Printed.{Printed, faults_alone}
use Rattle.aa_command.specs.Policies.{IsPrintedFor}
use Rattle.aa_reach.specs.declared.fault.NameFault.{NameFault}
use Rattle.aa_reach.specs.declared.fault.NameFault.TheVariants.{NoMemory, Refused}
use Rattle.aa_reach.specs.declared.answering.Answer.{Answer}
use Rattle.aa_reach.specs.declared.graph.Vertex.{Vertex}
use Rattle.aa_reach.specs.declared.shown.Manner.{Manner}
use Rattle.aa_reach.specs.declared.command.ReachOptions.{ReachOptions}
use Rattle.aa_reach.specs.declared.command.Asked.{Asked}
use Rattle.aa_reach.specs.Names.{IsNamed, AreNamed, SaysNone, SaysOne}
use Rattle.aa_reach.specs.Answers.{AreAnswers, IsOpenAnswer, AreVertices}
use Rattle.aa_skipped.specs.declared.skipped.Skipped.{Skipped}
use Rattle.aa_skipped.specs.Telling.{count_text}
use Rattle.aa_skipped.specs.Policies.{IsPrintedOf}
use Rattle.aa_undecided.specs.Answers.{placed}
use Rattle.aa_reach.specs.Shown.{answer_text, untold_text, is_reached, is_undecided}
use Rattle.aa_reach.specs.Json.{json_answers}
use Rattle.aa_reach.specs.Dot.{dot_text, untold_edges}
use Rattle.aa_reach.specs.Html.{html_page}
use Rattle.aa_command.specs.Counts.{passed_text, count_of, passed_in}

-- the text that names the labels that are asked for, if they are
abbrev pub to_text : ReachOptions → Option (List ℕ)
to_text o = option_map (λ text. text.now) o.to

-- how many labels there are: those of all profiles, and unconfined
abbrev pub labels_in : List Policy → ℕ
labels_in policies = count_of policies + 1

-- the labels that are asked for, if some are: those that the text names, or the text itself, where it is left open
abbrev pub AreTargets : List Policy → List Skipped → Option (List ℕ) → Option (List Label) → List (List ℕ) → Type 0
AreTargets policies skipped None None opens = opens ≡ []
AreTargets policies skipped None (Some labels) opens = ⊥
AreTargets policies skipped (Some text) None opens = ⊥
AreTargets policies skipped (Some text) (Some labels) opens = IsNamed policies skipped text labels opens

-- a refusal says that the text names no label
abbrev pub SaysNoTarget : List Policy → List Skipped → Option (List ℕ) → NameFault → Type 0
SaysNoTarget policies skipped None e = ⊥
SaysNoTarget policies skipped (Some text) e = SaysNone policies skipped text e

-- a refusal says which text names no label: one of those where a task begins, or that which it should get to
abbrev pub SaysUnnamed : List Policy → List Skipped → ReachOptions → NameFault → Type 0
SaysUnnamed policies skipped o NoMemory = Unit {0}
SaysUnnamed policies skipped o (Refused line) =
    SaysOne policies skipped (texts o.from.now) (Refused line) ⊎ SaysNoTarget policies skipped (to_text o) (Refused line)

-- each line tells where the task begins, where it is looked for some labels and there are several such beginnings
abbrev pub manner_of : List Policy → ReachOptions → ℕ → ℕ → Manner
manner_of policies o beginnings limit =
    record { is_sought = is_some o.to; has_fronts = is_some o.to && nat_lt 1 beginnings; labels = labels_in policies; limit = limit }

-- where a task begins: at labels, and at what texts may name that are left open
abbrev pub beginnings : Asked → ℕ
beginnings a = length a.labels.items + length a.opens.items

-- a text is left open
abbrev pub leaves_open : Asked → Bool
leaves_open a = not (length a.opens.items == 0) || not (length a.sought.items == 0)

-- the answers, how many rules decide nothing, and how many files are skipped
abbrev pub told_text : Manner → ℕ → List Skipped → List Answer → List ℕ
told_text m passed skipped answers = flat_map (answer_text m) answers ++ passed_text passed ++ count_text (length skipped)

-- answers as they are wanted
abbrev pub answers_text : Bool → Manner → ℕ → List Skipped → List Answer → List ℕ
answers_text is_json m passed skipped answers =
    if is_json then json_answers m.labels passed (map placed skipped) answers else told_text m passed skipped answers

-- 1 where something can't be told, else 4 where a label is reached that is asked for, and else 5 where something is undecided
abbrev pub status_of : List ℕ → Bool → Bool → ℕ
status_of untold has_found has_doubts = if length untold == 0 then (if has_found then 4 else (if has_doubts then 5 else 0)) else 1

-- at a label of a graph something is undecided
abbrev pub is_open_vertex : Vertex → Bool
is_open_vertex v = is_undecided v.edges

-- a label is reached that is asked for
abbrev pub has_found : Manner → List Answer → Bool
has_found m answers = m.is_sought && list_any is_reached answers

-- the answers, and what can't be told
abbrev pub reach_printed : Bool → Manner → ℕ → List Skipped → List Answer → Printed
reach_printed is_json m passed skipped answers =
    record {
      answers = answers_text is_json m passed skipped answers;
      faults = flat_map (untold_text m.limit) answers;
      refusal = [];
      status = status_of (flat_map (untold_text m.limit) answers) (has_found m answers) (list_any is_undecided answers);
    }

-- the line of a refusal
abbrev pub SaysLine : NameFault → List ℕ → Type 0
SaysLine NoMemory line = ⊥
SaysLine (Refused text) line = text.items ≡ line

-- the labels where a task begins, and those that it should get to, if some are asked for; and the texts that are left open
pub record IsAsked (policies : List Policy) (skipped : List Skipped) (o : ReachOptions) (a : Asked) : Type 0 where
  pub labels : AreNamed policies skipped (texts o.from.now) a.labels.items (texts a.opens.items)
  pub targets : AreTargets policies skipped (to_text o) (option_map (λ ts. ts.items) a.targets) (texts a.sought.items)

-- the answers for the labels where a task begins, and behind them those for texts that are left open
pub record AreAllAnswers (limit : ℕ) (o : ReachOptions) (policies : List Policy) (skipped : List Skipped) (a : Asked) (answers : List Answer) : Type 0 where
  pub told : List Answer
  pub others : List Answer
  pub are : AreAnswers o.unclean o.as_enforced policies skipped limit (option_map (λ ts. ts.items) a.targets) (texts a.sought.items) a.labels.items told
  pub left : AllZip (IsOpenAnswer skipped) (texts a.opens.items) others
  pub all : answers ≡ told ++ others

-- the answers are printed
pub record IsAnswered (limit : ℕ) (o : ReachOptions) (policies : List Policy) (skipped : List Skipped) (a : Asked) (out : Printed) : Type 0 where
  pub answers : List Answer
  pub are : AreAllAnswers limit o policies skipped a answers
  pub out_is : out ≡ reach_printed o.is_json (manner_of policies o (beginnings a) limit) (passed_in policies) skipped answers

-- the graph, and what can't be told
abbrev pub graph_printed : ℕ → ℕ → ℕ → Bool → List Vertex → Printed
graph_printed limit passed skipped opens vertices =
    record {
      answers = dot_text passed skipped vertices;
      faults = flat_map (untold_edges limit) vertices;
      refusal = [];
      status = status_of (flat_map (untold_edges limit) vertices) false (opens || list_any is_open_vertex vertices);
    }

-- the graph of all labels is printed
pub record IsGraphed (limit : ℕ) (o : ReachOptions) (policies : List Policy) (skipped : List Skipped) (a : Asked) (out : Printed) : Type 0 where
  pub vertices : List Vertex
  pub are : AreVertices o.unclean o.as_enforced policies skipped limit vertices
  pub out_is : out ≡ graph_printed limit (passed_in policies) (length skipped) (leaves_open a) vertices

-- the page, and what can't be told; what the answers don't tell is among it, since the graph has all labels
abbrev pub page_printed : ReachOptions → Manner → ℕ → ℕ → List Answer → List Vertex → Printed
page_printed o m passed skipped answers vertices =
    record {
      answers = html_page o m passed skipped answers vertices;
      faults = flat_map (untold_edges m.limit) vertices;
      refusal = [];
      status = status_of (flat_map (untold_edges m.limit) vertices) (has_found m answers) (list_any is_undecided answers || list_any is_open_vertex vertices);
    }

-- the answers for these labels are printed on a page, with the graph of all labels
pub record IsPaged (limit : ℕ) (o : ReachOptions) (policies : List Policy) (skipped : List Skipped) (a : Asked) (out : Printed) : Type 0 where
  pub answers : List Answer
  pub are : AreAllAnswers limit o policies skipped a answers
  pub vertices : List Vertex
  pub drawn : AreVertices o.unclean o.as_enforced policies skipped limit vertices
  pub out_is : out ≡ page_printed o (manner_of policies o (beginnings a) limit) (passed_in policies) (length skipped) answers vertices

-- no label is named where a task begins, and no graph is wanted
abbrev pub asks_nothing : ReachOptions → Bool
asks_nothing o = length o.from.now == 0 && not o.is_dot && not o.is_html

-- what is printed, where these files are skipped and the others are this policy: the labels that a task can get to, or the graph of all, or a page of both, or
-- which text names no label
pub data IsReachOf (states : ℕ) (o : ReachOptions) (skipped : List Skipped) (d : Decided) (out : Printed) : Type 0 where
  NoLabel : asks_nothing o ≡ true → out ≡ faults_alone (codes "error: reach takes at least one --from\n") 2 → IsReachOf states o skipped d out
  Unnamed : (e : NameFault) (line : List ℕ) → asks_nothing o ≡ false → SaysLine e line → SaysUnnamed d.policies.now skipped o e
      → out ≡ faults_alone line 1 → IsReachOf states o skipped d out
  Answers : (a : Asked) → asks_nothing o ≡ false → IsAsked d.policies.now skipped o a → o.is_dot ≡ false → o.is_html ≡ false
      → IsAnswered (limit_of states) o d.policies.now skipped a out → IsReachOf states o skipped d out
  Page : (a : Asked) → IsAsked d.policies.now skipped o a → o.is_dot ≡ false → o.is_html ≡ true
      → IsPaged (limit_of states) o d.policies.now skipped a out → IsReachOf states o skipped d out
  Graph : (a : Asked) → IsAsked d.policies.now skipped o a → o.is_dot ≡ true → IsGraphed (limit_of states) o d.policies.now skipped a out
      → IsReachOf states o skipped d out

-- What `reach` prints: by the files that aren't refused, where these are to be skipped, and else by all.
abbrev pub IsReachOutput : Setting → ReachOptions → Printed → Type 0
IsReachOutput s o out =
    MatchBool o.skips (IsPrintedOf s (texts o.files.now) (IsReachOf s.states o) out)
    (IsPrintedFor s (texts o.files.now) (IsReachOf s.states o []) out)
