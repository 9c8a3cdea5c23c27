use Rattle.std.proofs.Common.{◌≡◌, ℕ, ◌+◌, ◌-◌, ◌∙◌, sym, ap, length, arith, subst}
use Rattle.std.proofs.lemmas.List.{length-replicate}
use Rattle.std.proofs.Common.{false}
use Rattle.aa_redundancy.specs.Tables.{SameTables}
use Rattle.aa_redundancy.specs.Going.{is_free}
use Rattle.aa_redundancy.proofs.Gone.{tables_same}
use Rattle.aa_redundancy.proofs.Marking.{AreSettled, settled_more, none_settled}
use Rattle.aa_redundancy.proofs.going.together.Goals as goal

pub loop-done-init : goal.loop-done-init
loop-done-init c = record {
  wide = ap length c.in_ok-gone.ensures ∙ length-replicate c.args.count false;
  settled = none_settled c.args.tables.now (is_free c.args.alone.now c.args.held.now) c.args.count c.in_ok-gone.gone.items c.in_ok-gone.ensures;
}

pub mark_if_goes-requires : goal.mark_if_goes-requires
mark_if_goes-requires c = record {
  rows = c.requires.rows;
  many = c.loop-done.invariant.wide ∙ sym c.requires.listed;
  within = omega (arith, c.loop-done.invariant.wide);
  later = λ n le. c.loop-done.invariant.settled.below n (omega (arith, le));
  all = c.loop-done.invariant.settled.all;
}

pub loop-done-preserved : goal.loop-done-preserved
loop-done-preserved c =
    let i = c.args.count - 1 - c.loop-done.done in
    let Same = SameTables c.args.tables.now in
    let is_wanted = is_free c.args.alone.now c.args.held.now in
    let was = c.loop-done.gone.items in
    let now = c.mark_if_goes.new.gone.items in
    let from : c.args.count - c.loop-done.done ≡ i + 1 = omega arith in
    let to : i ≡ c.args.count - (c.loop-done.done + 1) = omega arith in record {
      wide = c.mark_if_goes.ensures.many ∙ c.loop-done.invariant.wide;
      settled = subst (λ (k : ℕ). AreSettled Same is_wanted c.args.count k now) to
          (settled_more Same (tables_same c.args.tables.now) is_wanted c.args.count (c.args.count - c.loop-done.done) i was now
          from c.loop-done.invariant.settled c.mark_if_goes.ensures);
    }

pub returns-clause-those : goal.returns-clause-those
returns-clause-those c = λ i lt. c.loop-done.invariant.settled.each i (omega arith) lt

pub returns-clause-all : goal.returns-clause-all
returns-clause-all c = c.loop-done.invariant.settled.all
