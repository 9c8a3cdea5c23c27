use Rattle.std.proofs.Common.{◌≡◌, ◌∙◌, ℕ, List, Bool, true, false, set, ap, sym, subst}
use Rattle.std.specs.Prelude.{◌&&◌, not, ◌==◌}
use Rattle.aa_redundancy.specs.Without.{marked}
use Rattle.aa_redundancy.specs.Tables.{Equal, TablesRelated}
use Rattle.aa_redundancy.specs.Reasons.{and_one, but_one, ChangesNothing}
use Rattle.aa_redundancy.proofs.Keeping.{again, and_one_is}
use Rattle.aa_redundancy.proofs.Reasoning.{related_alike}
use Rattle.aa_redundancy.proofs.needed.leave_out.Goals as goal

pub returns-clause-enough : goal.returns-clause-enough
returns-clause-enough c =
    let flags = c.args.beside.now.gone.items in
    let p = c.args.place in
    let lt = c.requires.keeps.there p c.requires.other in
    let same : c.set_gone-2.new.beside.gone.items ≡ flags = c.set_gone-2.ensures.gone ∙ ap (λ (fs : List Bool). set fs p false) c.set_gone.ensures.gone ∙ again flags p true false lt c.requires.there in
    subst (λ (fs : List Bool). ChangesNothing (TablesRelated Equal c.args.tables.now) c.args.number (marked fs)) (sym same) c.requires.enough

pub returns-clause-same : goal.returns-clause-same
returns-clause-same c = λ e.
    let flags = c.args.beside.now.gone.items in
    let p = c.args.place in
    c.set_gone-2.ensures.gone ∙ ap (λ (fs : List Bool). set fs p false) c.set_gone.ensures.gone ∙ again flags p true false (c.requires.keeps.there p c.requires.other) c.requires.there

pub returns-clause-needed : goal.returns-clause-needed
returns-clause-needed c = λ e was h.
    let flags = c.args.beside.now.gone.items in
    let g = marked flags in
    let i = c.args.number in
    let p = c.args.place in
    let x = marked c.set_gone.new.beside.gone.items in
    let is : (n : ℕ) → x n ≡ and_one p g n = and_one_is flags c.set_gone.new.beside.gone.items p (c.requires.keeps.there p c.requires.other) c.set_gone.ensures.gone in
    c.is_enough-enough.ensures.changes c.if-enough.false
    (related_alike Equal c.args.tables.now (and_one p g) (but_one i (and_one p g)) x (but_one i x) (λ n. sym (is n)) (λ n. ap (λ (b : Bool). b && not (n == i)) (sym (is n))) h)
