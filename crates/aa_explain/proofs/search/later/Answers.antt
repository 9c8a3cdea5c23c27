use Rattle.std.proofs.Common.{◌≡◌, true≢false, length, sym, ◌∙◌, subst, refl, arith}
use Rattle.std.proofs.lemmas.Option.{slice_get_read, same_Some}
use Rattle.aa_explain.specs.Clashes.{Conflict}
use Rattle.aa_explain.proofs.search.later.Goals as goal
use Rattle.aa_explain.proofs.search.later.Goals.{else-one-other-via-then-one-other+else-is_conflict, else-one-other-via-else-one-other}

pub returns-then-is_conflict-clause-some : goal.returns-then-is_conflict-clause-some
returns-then-is_conflict-clause-some c = (c.if-one-other.true, c.is_conflict.ensures.0 c.if-is_conflict.true)

pub returns-clause-none : goal.returns-clause-none
returns-clause-none c = λ other got lt x.
    let owners = c.args.owners.now in
    let found = c.in_ok-other.field-0.now in
    let a = c.in_ok-other.ensures.lookup in
    let same : other ≡ found = same_Some other found (sym got ∙ slice_get_read owners (length owners) c.args.number found refl a.3.0 a.1) in
    let here = subst (λ k. Conflict c.args.rules.now c.args.one k c.args.text.now) same x in
    elim c.else-one-other.branch [
      | else-one-other-via-then-one-other+else-is_conflict w ↦ true≢false (sym (w.is_conflict.ensures.1 here) ∙ w.if-is_conflict.false)
      | else-one-other-via-else-one-other w ↦ omega (arith, lt, same, w.if-one-other.false)
    ]
