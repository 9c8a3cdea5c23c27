use Rattle.std.proofs.Common.{List, Bool, sym, subst, ◌∙◌}
use Rattle.aa_redundancy.specs.Without.{marked}
use Rattle.aa_redundancy.specs.Tables.{SameTables}
use Rattle.aa_redundancy.specs.Mentions.{lists}
use Rattle.aa_redundancy.specs.Going.{is_free}
use Rattle.aa_redundancy.proofs.Gone.{tables_same}
use Rattle.aa_redundancy.proofs.Mentioning.{within_lists, rest_goes}
use Rattle.aa_redundancy.proofs.Marking.{left_mark, kept_mark, taken_mark}
use Rattle.aa_redundancy.proofs.going.mark_if_goes.Goals as goal

pub returns-then-not-is_wanted : goal.returns-then-not-is_wanted
returns-then-not-is_wanted c =
    left_mark (SameTables c.args.tables.now) (tables_same c.args.tables.now) (is_free c.args.alone.now c.args.held.now) c.args.gone.now.items c.args.number c.requires.later c.requires.all
    (sym c.is_free-is_wanted.ensures ∙ c.if-not-is_wanted.true)

pub returns-then-goes : goal.returns-then-goes
returns-then-goes c =
    kept_mark (SameTables c.args.tables.now) (tables_same c.args.tables.now) (is_free c.args.alone.now c.args.held.now) c.args.gone.now.items c.args.number c.requires.within c.requires.later
    (sym c.is_free-is_wanted.ensures ∙ c.if-not-is_wanted.false)
    (subst (λ (fs : List Bool). SameTables c.args.tables.now (marked fs)) c.as_slice.ensures.value
    (rest_goes c.args.tables.now (lists c.args.listed.now) c.args.gone.now.items c.as_slice.result.now c.args.number c.requires.rows
    (within_lists c.args.listed.now c.args.gone.now.items c.args.number c.requires.many c.requires.within) c.as_slice.ensures.value c.requires.all (c.same_without-goes.ensures.same c.if-goes.true)))

pub returns : goal.returns
returns c =
    taken_mark (SameTables c.args.tables.now) (tables_same c.args.tables.now) (is_free c.args.alone.now c.args.held.now) c.args.gone.now.items c.args.number c.requires.within c.requires.later c.requires.all
    (λ s. c.same_without-goes.ensures.differs c.if-goes.false (subst (λ (fs : List Bool). SameTables c.args.tables.now (marked fs)) (sym c.as_slice.ensures.value) s))
