-- What is printed of logs as a policy answers it now, as JSON or as text.
use Rattle.std.proofs.Common.{◌≡◌, ℕ, List, [], ◌++◌, Bool, true, false, MatchBool, ap, sym, subst, ◌∙◌}
use Rattle.aa_files.specs.Texts.{slices}
use Rattle.aa_logs.specs.declared.counts.Counts.{Counts}
use Rattle.aa_command.specs.declared.decided.Decided.{Decided}
use Rattle.aa_log.specs.declared.said.SaidReport.{SaidReport}
use Rattle.aa_log.specs.Against.{IsAgainstText, IsJsonAgainst}
use Rattle.aa_log.specs.declared.command.LogOptions.{LogOptions}
use Rattle.aa_log.specs.Command.{IsReplayText}

replayed : (o : LogOptions) (s : SaidReport) (d : Decided) (old new : List ℕ) (counts : Counts) (b : Bool) (text : List ℕ) → o.is_json ≡ b
    → MatchBool b (IsJsonAgainst (slices o.logs.now) d o.wants_all s counts text) (IsAgainstText (slices o.logs.now) d o.wants_all s.report counts text) → new ≡ old ++ text
    → (text : List ℕ) × IsReplayText o s d counts text × (old ≡ [] → new ≡ text)
replayed o s d old new counts b text is told written = (
  text,
  subst
      (λ (b : Bool). MatchBool b (IsJsonAgainst (slices o.logs.now) d o.wants_all s counts text)
      (IsAgainstText (slices o.logs.now) d o.wants_all s.report counts text)) (sym is) told,
  λ e. written ∙ ap (λ (l : List ℕ). l ++ text) e,
)

pub json_replayed : (o : LogOptions) (s : SaidReport) (d : Decided) (old new : List ℕ) (counts : Counts) → o.is_json ≡ true
    → (text : List ℕ) × IsJsonAgainst (slices o.logs.now) d o.wants_all s counts text × (new ≡ old ++ text) → (text : List ℕ) × IsReplayText o s d counts text × (old ≡ [] → new ≡ text)
json_replayed o s d old new counts is t = replayed o s d old new counts true t.0 is t.1 t.2

pub text_replayed : (o : LogOptions) (s : SaidReport) (d : Decided) (old new : List ℕ) (counts : Counts) → o.is_json ≡ false
    → (text : List ℕ) × IsAgainstText (slices o.logs.now) d o.wants_all s.report counts text × (new ≡ old ++ text) → (text : List ℕ) × IsReplayText o s d counts text × (old ≡ [] → new ≡ text)
text_replayed o s d old new counts is t = replayed o s d old new counts false t.0 is t.1 t.2
