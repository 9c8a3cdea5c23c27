use Rattle.std.proofs.Common.{◌≡◌, ◌++◌, [], List, map, sym, ap, ◌∙◌, append-nil}
use Rattle.std.specs.Map.Iter.{deref_pair}
use Rattle.std.proofs.lemmas.Map.Iter.{rest_all}
use Rattle.aa_files.specs.Texts.{texts}
use Rattle.aa_question.specs.Memory.{names_behind, row_of}
use Rattle.aa_question.proofs.Rows.{Entry}
use Rattle.aa_question.proofs.Fronts.{in_byte_order}
use Rattle.aa_question.proofs.memory.Texts.names_behind.Goals as goal

pub returns-clause-ordered : goal.returns-clause-ordered
returns-clause-ordered c =
    let es = c.args.self.now.rows.entries in
    let front = c.args.front.now in
    let names = c.loop-path.names.items in
    let none : c.loop-path.path-iterator ≡ [] = rest_all deref_pair c.loop-path.path-iterator c.next.new.self c.next.result c.in-None.is c.next.ensures.steps in
    let all : texts names ≡ names_behind front (map row_of es) = sym (append-nil (texts names)) ∙ ap (λ (rest : List Entry). texts names ++ names_behind front (map row_of rest)) (sym none) ∙ c.loop-path.invariant in
    in_byte_order names front es all c.into_iter-path-iterator.ensures.into_iter_gives.5
