use Rattle.std.proofs.Common.{◌≡◌, ◌++◌, ◌∷◌, [], map, ap, ◌∙◌, option_to_list, arith}
use Rattle.aa_question.specs.Memory.{put_all, row_of}
use Rattle.aa_question.proofs.Rows.{put_on, put_done, none_left}
use Rattle.aa_question.proofs.memory.Texts.of.Goals as goal

pub loop-path-preserved-in_ok-insert : goal.loop-path-preserved-in_ok-insert
loop-path-preserved-in_ok-insert c =
    let taken : c.loop-path.list.items ≡ c.pop.new.self.items ++ (c.in-Some.path, c.in-Some.text) ∷ [] = c.pop.ensures.items ∙ ap (λ o. c.pop.new.self.items ++ option_to_list o) c.in-Some.is in
    put_on c.loop-path.list.items c.pop.new.self.items c.loop-path.rows.entries c.insert.new.self.entries c.in-Some.path c.in-Some.text (put_all (map row_of c.args.list.items) []) taken c.in_ok-insert.ensures.entries c.loop-path.invariant

pub loop-path-preserved : goal.loop-path-preserved
loop-path-preserved c =
    let taken : c.loop-path.list.items ≡ c.pop.new.self.items ++ (c.in-Some.path, c.in-Some.text) ∷ [] = c.pop.ensures.items ∙ ap (λ o. c.pop.new.self.items ++ option_to_list o) c.in-Some.is in
    put_on c.loop-path.list.items c.pop.new.self.items c.loop-path.rows.entries c.insert.new.self.entries c.in-Some.path c.in-Some.text (put_all (map row_of c.args.list.items) []) taken c.in_ok-insert.ensures.entries c.loop-path.invariant

pub returns : goal.returns
returns c =
    let short : c.loop-path.list.len ≡ 0 = (rw c.in_default.is at c.pop.ensures.cases).0 in
    let none : c.loop-path.list.items ≡ [] = none_left c.loop-path.list.items (grind (arith, short, c.loop-path.list.ok)) in
    put_done c.loop-path.list.items c.loop-path.rows.entries (put_all (map row_of c.args.list.items) []) none c.loop-path.invariant
