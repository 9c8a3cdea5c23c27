use Rattle.std.proofs.Common.{◌≡◌, ◌∙◌, ◌<◌, ℕ, ◌-◌, List, length, get_or, true, refl, sym, ap, subst, arith}
use Rattle.std.proofs.lemmas.List.{get_or_default}
use Rattle.aa_redundancy.specs.Reasons.{is_one_of}
use Rattle.aa_redundancy.specs.Tables.{Equal, TablesRelated}
use Rattle.aa_redundancy.specs.Keeping.{IsNeeded}
use Rattle.aa_redundancy.proofs.Keeping.{of_length}
use Rattle.aa_redundancy.proofs.Leaving.{none_left_out, left_more, all_needed}
use Rattle.aa_redundancy.proofs.needed.leave_out_each.Goals as goal

pub loop-done-init : goal.loop-done-init
loop-done-init c =
    let b = c.args.beside.now in record {
      keeps = c.requires.keeps;
      kept = refl;
      enough = c.requires.enough;
      out = none_left_out (TablesRelated Equal c.args.tables.now) c.args.number b.gone.items b.kept.items (length c.as_slice-count.result.now);
    }

pub loop-done-preserved : goal.loop-done-preserved
loop-done-preserved c =
    let A = TablesRelated Equal c.args.tables.now in
    let i = c.args.number in
    let b = c.args.beside.now in
    let count = length c.as_slice-count.result.now in
    let k = c.loop-done.done in
    let old = c.loop-done.beside in
    let new = c.leave_out_kept-left.new.beside in
    let inv = c.loop-done.invariant in
    let many : count ≡ length b.kept.items = ap length c.as_slice-count.ensures.value in
    let h = c.leave_out_kept-left.ensures in
    let at = count - 1 - k in
    let within : at < length old.kept.items = omega (arith, c.loop-done-test.true, many, ap length inv.kept) in
    let place : c.index-place.result.now ≡ get_or b.kept.items at 0 =
    c.index-place.ensures ∙ get_or_default old.kept.items at c.index-place.result.now 0 within ∙ ap (λ (ns : List ℕ). get_or ns at 0) inv.kept in record {
      keeps = of_length (length b.gone.items) i old new inv.keeps h.keeps;
      kept = h.kept ∙ inv.kept;
      enough = h.enough;
      out = left_more A i b.gone.items b.kept.items count k old.gone.items new.gone.items c.loop-done-test.true c.loop-done.some c.leave_out_kept-left.result c.either-some.result c.either-some.ensures inv.out h.fewer h.same
          (λ e. subst (λ (p : ℕ). IsNeeded A i old.gone.items p) place (h.needed e));
    }

pub returns-clause-needed : goal.returns-clause-needed
returns-clause-needed c = λ e n is.
    let A = TablesRelated Equal c.args.tables.now in
    let b = c.args.beside.now in
    let count = length c.as_slice-count.result.now in
    let many = sym (ap length c.as_slice-count.ensures.value) in
    all_needed A c.args.number b.gone.items b.kept.items count c.loop-done.done c.loop-done.some c.loop-done.beside.gone.items
    many c.loop-done-test.false c.loop-done.invariant.out e n
    (subst (λ (ns : List ℕ). is_one_of ns n ≡ true) c.loop-done.invariant.kept is)
