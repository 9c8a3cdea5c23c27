-- What a line of a log is, without where it lies in memory.
use Rattle.std.specs.Prelude.{ℕ, List, Option}
use Rattle.aa_model.specs.declared.request.Request.{Request}
use Rattle.aa_logs.specs.declared.line.Then.{Then}
use Rattle.aa_logs.specs.declared.line.Record.{Record}
use Rattle.aa_logs.specs.declared.line.Line.{Line}
use Rattle.aa_logs.specs.declared.line.Line.TheVariants as line
use Rattle.aa_logs.specs.Asked.{Cause, cause_of}

-- what was asked, and what became of it
pub record RecordData : Type 0 where
  pub became : Then
  pub profile : List ℕ
  pub request : Request
  pub pid : Option ℕ

-- a record without where it lies in memory
abbrev pub record_data : Record → RecordData
record_data r = record { became = r.then; profile = r.profile.items; request = r.request; pid = r.pid }

-- a line is another's, asks nothing, or asks
pub data Outcome : Type 0 where
  Another : Outcome
  AsksNothing : Cause → Outcome
  AsksFor : RecordData → Outcome

-- what a line is, without where it lies in memory
abbrev pub outcome : Line → Outcome
outcome line.Other = Another
outcome (line.Skipped r) = AsksNothing (cause_of r)
outcome (line.Asks r) = AsksFor (record_data r)
