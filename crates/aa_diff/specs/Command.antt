-- What `diff` prints.
-- Source: own.
use Rattle.std.specs.Prelude.{ℕ, ◌≡◌, ◌↔◌, ◌==◌, ◌&&◌, List, [], ◌++◌, Contains, length, flat_map, Bool, not, codes, Option, Some, None, option_map, Err, Vec, if◌then◌else◌}
use Rattle.std.specs.Borrow.{Bor}
use Rattle.std.specs.List.{list_any}
use Rattle.std.specs.declared.alloc.Global.{Global}
use Rattle.aa_base.specs.declared.unread.Unread.{Unread}
use Rattle.aa_files.specs.Texts.{texts}
use Rattle.aa_files.specs.FilesData.{IsMain, IsMainText}
use Rattle.aa_report.specs.Entries.{entries_in}
use Rattle.aa_report.specs.Markdown.{markdown_of}
use Rattle.aa_model.specs.declared.policy.Policy.{Policy}
use Rattle.aa_differences.specs.declared.at_labels.Difference.{Difference}
use Rattle.aa_differences.specs.declared.comparison.UntoldLabels.{UntoldLabels}
use Rattle.aa_differences.specs.Same.{SamePolicies}
use Rattle.aa_differences.specs.Differences.{IsDifference, IsUntold, ListAllBut}
use Rattle.aa_load.specs.UnitPolicy.{limit_of}
use Rattle.aa_command.specs.declared.decided.Decided.{Decided}
use Rattle.aa_command.specs.Setting.{Setting}
use Rattle.aa_command.specs.Printed.{Printed, faults_alone}
use Rattle.aa_command.specs.Refusals.{SaysUnread}
use Rattle.aa_ask.specs.Asked.{no_profile}
use Rattle.aa_diff.specs.declared.options.DiffOptions.{DiffOptions}
use Rattle.aa_diff.specs.declared.options.DiffForm.{DiffForm}
use Rattle.aa_diff.specs.declared.options.DiffForm.TheVariants.{Text, Json, Html, Markdown}
use Rattle.aa_diff.specs.declared.finding.Finding.{Finding}
use Rattle.aa_passed_over.specs.Apart.{ApartRule, all_apart}
use Rattle.aa_diff.specs.Findings.{does_count}
use Rattle.aa_diff.specs.Unclean.{all_told_unclean}
use Rattle.aa_diff.specs.Report.{lines_of, report_text}
use Rattle.aa_diff.specs.Accepted.{findings_left, rules_left, gone_of}
use Rattle.aa_diff.specs.Order.{in_order}
use Rattle.aa_diff.specs.Naming.{unnamed}
use Rattle.aa_diff.specs.Jsons.{json_report}
use Rattle.aa_diff.specs.Html.{html_report}
use Rattle.aa_skipped.specs.declared.skipped.Skipped.{Skipped}
use Rattle.aa_diff.specs.declared.part.Part.{Part}
use Rattle.aa_diff.specs.Untold.{AllUntold, all_untold, decided_of}
use Rattle.aa_diff.specs.UntoldShown.{large_fault}
use Rattle.aa_diff.specs.Sides.{noted, IsSide}

-- findings, rules that are passed over, and what isn't told, in a form
abbrev pub findings_in : DiffForm → DiffOptions → List Policy → List Finding → List ApartRule → AllUntold → List ℕ
findings_in Text o ps fs rs a = report_text ps fs rs a
findings_in Json o ps fs rs a = json_report o ps fs rs a
findings_in Html o ps fs rs a = html_report o ps fs rs a
findings_in Markdown o ps fs rs a = markdown_of (report_text ps fs rs a)

-- 4 where a finding counts or there are such rules, else 5 where skipped files could tell something
abbrev pub status_by : Bool → ℕ → ℕ → ℕ → ℕ
status_by counts rules undecided apart = if not counts && rules == 0 then (if undecided == 0 && apart == 0 then 0 else 5) else 4

-- 1 where there are labels whose patterns are too many, before those
abbrev pub status_of : ℕ → Bool → ℕ → ℕ → ℕ → ℕ
status_of too_large counts rules undecided apart = if too_large == 0 then status_by counts rules undecided apart else 1

-- the same with its status, which accepted findings there aren't, and whose patterns are too many
abbrev pub reported : DiffOptions → List Policy → List Finding → List ApartRule → List ℕ → AllUntold → Printed
reported o ps fs rs gone a = record {
  answers = findings_in o.form o ps fs rs a;
  faults = flat_map large_fault a.too_large ++ gone;
  refusal = [];
  status = status_of (length a.too_large) (list_any does_count fs) (length rs) (length a.undecided) (length a.not_compared);
}

-- those of all findings and of all rules that are passed over which are shown and not accepted, and what isn't told
abbrev pub reported_but : DiffOptions → List (List ℕ) → List Policy → List Finding → List ApartRule → AllUntold → Printed
reported_but o accepted ps fs rs a = reported o ps (in_order ps (findings_left ps o.wanted accepted fs)) (rules_left ps o.wanted accepted rs) (gone_of ps accepted fs rs) a

-- so the lines of differences, those at unclean paths alone as such, and the rules that are passed over and that one policy alone has
abbrev pub printed_lines : DiffOptions → Decided → Decided → List Difference → AllUntold → Printed
printed_lines o d e xs a = reported_but o (texts o.accepted.now) d.policies.now (all_told_unclean o.unclean (lines_of d e xs)) (all_apart d e) a

-- so of those differences that no skipped file could decide, and with all that isn't told, as at these labels
abbrev pub compared : DiffOptions → ℕ → Part → Part → List Difference → List UntoldLabels → Printed
compared o limit d e xs us = printed_lines o d.decided e.decided (decided_of d e xs) (all_untold o.wanted limit d e us)

-- What is printed of two policies: each difference listed is one; each request that is answered differently is listed by one of its
-- kind with its answers, but at labels whose patterns are too many or need more states than there may be, and where there is no such label, none is
-- listed exactly where the policies answer alike; and what is printed in the form that is wanted is that of those of this list that no skipped
-- file could decide and that aren't accepted, of the rules that are passed over, and of what isn't told, such labels too.
pub record AreCompared (o : DiffOptions) (states : ℕ) (d e : Part) (out : Printed) : Type 0 where
  pub differences : List Difference
  pub untold : List UntoldLabels
  pub each : (x : Difference) → Contains differences x → IsDifference d.decided.policies.now e.decided.policies.now x
  pub large : (u : UntoldLabels) → Contains untold u → IsUntold d.decided.policies.now e.decided.policies.now (limit_of states) u
  pub all : ListAllBut d.decided.policies.now e.decided.policies.now untold differences
  pub none : untold ≡ [] → (differences ≡ []) ↔ SamePolicies d.decided.policies.now e.decided.policies.now
  pub is : out ≡ compared o (limit_of states) d e differences untold

-- what is printed of two policies: that, or that nobody is called by one of the names that are wanted
pub data IsCompared (o : DiffOptions) (states : ℕ) (d e : Part) (out : Printed) : Type 0 where
  Unnamed : (name : List ℕ) → unnamed d e (texts o.wanted.names.now) ≡ Some name → out ≡ faults_alone (no_profile name) 1 → IsCompared o states d e out
  Named : unnamed d e (texts o.wanted.names.now) ≡ None → AreCompared o states d e out → IsCompared o states d e out

-- the policy of the files of a side that are read, and those that are skipped
abbrev pub IsPart : List Skipped → Decided → Part → Type 0
IsPart skipped d p = (p.decided ≡ d) × (p.skipped.now ≡ skipped)

-- what is printed beside the old side of a policy of new files, where these are skipped: how they differ
pub record IsComparedBeside (o : DiffOptions) (states : ℕ) (d : Part) (skipped : List Skipped) (decided : Decided) (out : Printed) : Type 0 where
  pub part : Part
  pub is_part : IsPart skipped decided part
  pub own : Printed
  pub compared : IsCompared o states d part own
  pub is : out ≡ noted (codes "NEW") (length skipped) own

-- what is printed beside the old side: that the new files are refused, or how their policy differs
abbrev pub IsNewSide : Setting → DiffOptions → Part → Printed → Type 0
IsNewSide t o d out = IsSide o.skips (codes "NEW") t (texts o.new.now) (IsComparedBeside o t.states d) out

-- what is printed of a policy of old files, where these are skipped
pub record IsNewBeside (t : Setting) (o : DiffOptions) (skipped : List Skipped) (decided : Decided) (out : Printed) : Type 0 where
  pub part : Part
  pub is_part : IsPart skipped decided part
  pub own : Printed
  pub new_side : IsNewSide t o part own
  pub is : out ≡ noted (codes "OLD") (length skipped) own

-- what is printed of both sides: that the old files are refused, that the new ones are, or how their policies differ
abbrev pub IsDiffBut : Setting → Setting → DiffOptions → Printed → Type 0
IsDiffBut s t o out = IsSide o.skips (codes "OLD") s (texts o.old.now) (IsNewBeside t o) out

-- the same is asked, and these findings are accepted
abbrev pub accepting : DiffOptions → Bor (List (Vec ℕ Global)) → DiffOptions
accepting o accepted =
    record { old = o.old; new = o.new; wanted = o.wanted; form = o.form; skips = o.skips; accepted = accepted; known = o.known; unclean = o.unclean }

-- what is printed where the findings of a file of the new side are accepted: that, or that the file can't be read
pub data IsDiffBy (s t : Setting) (o : DiffOptions) (path : List ℕ) (out : Printed) : Type 0 where
  CantRead : (why : Unread) → IsMain t.files t.input path (Err why) → SaysUnread path why out → IsDiffBy s t o path out
  Accepted : (text : List ℕ) → IsMainText t.files t.input path text → (accepted : Bor (List (Vec ℕ Global))) → texts accepted.now ≡ entries_in text
      → IsDiffBut s t (accepting o accepted) out → IsDiffBy s t o path out

-- where there is such a file, which is read before the others
abbrev pub IsDiffIf : Setting → Setting → DiffOptions → Option (List ℕ) → Printed → Type 0
IsDiffIf s t o None out = IsDiffBut s t o out
IsDiffIf s t o (Some path) out = IsDiffBy s t o path out

-- What `diff` prints: that a file is refused, or how the policies differ.
abbrev pub IsDiffOutput : Setting → Setting → DiffOptions → Printed → Type 0
IsDiffOutput s t o out = IsDiffIf s t o (option_map (λ path. path.now) o.known) out
