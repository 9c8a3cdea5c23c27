-- Lists of what a SARIF log has, as texts.
-- Source: own.
use Rattle.std.specs.Prelude.{ℕ, List, map}
use Rattle.aa_lint.specs.declared.sarif.Found.{Found}
use Rattle.aa_lint.specs.Telling.{telling}
use Rattle.aa_lint.specs.Sarif.{result_text}

-- the texts of the findings in a list
abbrev pub found : List Found → List (List ℕ)
found list = map (λ (f : Found). result_text (telling f.told.now)) list
