-- What lines on answers end with.
-- Source: own.
use Rattle.std.specs.Prelude.{◌≡◌, List, ◌++◌, codes, Bool}
use Rattle.std.specs.String.{string_bytes}
use Rattle.aa_model.specs.declared.policy.Policy.{Policy}
use Rattle.aa_model.specs.declared.answer.Answer.{Answer}
use Rattle.aa_engine.specs.declared.output.LineEnd.{LineEnd}
use Rattle.aa_engine.specs.Output.{outcome_text}

-- lines say the same of both answers
abbrev pub SayTheSame : Answer → Answer → Type 0
SayTheSame one other = (one.granted ≡ other.granted) × (one.scrub ≡ other.scrub) × (one.label ≡ other.label)

-- behind its numbers the line on an answer ends so
abbrev pub IsLineEnd : Bool → List Policy → Answer → LineEnd → Type 0
IsLineEnd several policies answer end = string_bytes end.text ≡ outcome_text several policies answer ++ codes "\n"
