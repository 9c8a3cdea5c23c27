use Rattle.std.proofs.Common.{ℕ, List, ◌++◌, codes, false, Option, option_map, subst}
use Rattle.std.specs.Prelude.{IfErr, option_and_then}
use Rattle.aa_notation.specs.Kinds.{request_in}
use Rattle.aa_who.specs.Words.{SaysNoObject}
use Rattle.aa_who.proofs.reading.read_object.Goals as goal

pub returns-in-Some-clause-refused : goal.returns-in-Some-clause-refused
returns-in-Some-clause-refused c =
    subst
    (λ (o : Option (List ℕ × List ℕ)). IfErr c.read_by.result (SaysNoObject c.args.word.now c.args.whose
    (option_and_then (λ s. option_map (λ r. (r, s.1)) (request_in false (s.0 ++ codes ":/"))) o)))
    c.in-Some.ensures
    c.read_by.ensures.refused
