-- Lists of what a SARIF log has, as texts.
-- Source: own.
use Rattle.std.specs.Prelude.{ℕ, List, map}
use Rattle.aa_redundant.specs.declared.sarif.Found.{Found}
use Rattle.aa_redundant.specs.Told.{explaining}
use Rattle.aa_redundant.specs.Sarif.{result_text}

-- the texts of the redundant rules in a list
abbrev pub found : List Found → List (List ℕ)
found list = map (λ (f : Found). result_text (explaining f.rule.now)) list
