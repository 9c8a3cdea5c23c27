-- Lists of what a SARIF log has, as texts.
-- Source: own.
use Rattle.std.specs.Prelude.{ℕ, List, map}
use Rattle.aa_ask.specs.Named.{named}
use Rattle.aa_undecided.specs.Answers.{placed_data}
use Rattle.aa_assert.specs.declared.sarif.RulePlace.{RulePlace}
use Rattle.aa_assert.specs.declared.sarif.FilePlace.{FilePlace}
use Rattle.aa_assert.specs.declared.sarif.ResultOf.{ResultOf}
use Rattle.aa_assert.specs.Outcomes.{outcome}
use Rattle.aa_assert.specs.Sarif.{rule_text, file_text, result_text}

-- the texts of the rules in a list
abbrev pub rules_in : List RulePlace → List (List ℕ)
rules_in list = map (λ (r : RulePlace). rule_text (named r.line.now)) list

-- the texts of the files in a list
abbrev pub files_in : List FilePlace → List (List ℕ)
files_in list = map (λ (f : FilePlace). file_text (placed_data f.file.now)) list

-- the texts of the results in a list
abbrev pub results_in : List ResultOf → List (List ℕ)
results_in list = map (λ (r : ResultOf). result_text r.path.now (outcome r.outcome)) list
