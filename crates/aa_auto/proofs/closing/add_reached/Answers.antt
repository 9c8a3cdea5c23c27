use Rattle.std.proofs.Common.{arith, ◌≡◌, ◌<◌, ◌∙◌, Contains, length, get_or, [], refl, sym, ap, subst}
use Rattle.std.proofs.lemmas.List.{get_or_default}
use Rattle.aa_auto.specs.Closed.{AddsAll}
use Rattle.aa_auto.proofs.SortedLemmas.{contains_at}
use Rattle.aa_auto.proofs.JumpLemmas.{lists, length_lists}
use Rattle.aa_auto.proofs.ClosedLemmas.{closing_start, closing_step, closing_end, few, row_at}
use Rattle.aa_auto.proofs.closing.add_reached.Goals as goal

pub loop-index-init : goal.loop-index-init
loop-index-init c = record {
  many = refl;
  indexed = c.requires.indexed;
  closing = closing_start (lists c.args.jumps.now) c.args.set.now.items (λ n h. omega (arith, c.requires.within n h, length_lists c.args.jumps.now));
}

pub returns-then-index-len : goal.returns-then-index-len
returns-then-index-len c =
    closing_end (lists c.args.jumps.now) c.args.set.now.items c.loop-index.indexes c.loop-index.set.items c.loop-index.index (omega (arith, c.if-index-len.true, c.len.ensures, c.loop-index.set.ok))
    c.loop-index.invariant.indexed c.loop-index.invariant.closing

pub bounds-jumps-position : goal.bounds-jumps-position
bounds-jumps-position c =
    let lt : c.loop-index.index < length c.loop-index.set.items = omega (arith, c.if-index-len.false, c.len.ensures, c.loop-index.set.ok) in
    let e : c.index.result.now ≡ get_or c.loop-index.set.items c.loop-index.index 0 = c.index.ensures ∙ get_or_default c.loop-index.set.items c.loop-index.index c.index.result.now 0 lt in
    omega (arith, c.loop-index.invariant.closing.within c.index.result.now (contains_at c.loop-index.set.items c.loop-index.index c.index.result.now lt (sym e)), length_lists c.args.jumps.now)

pub add_all-requires-clause-numbers : goal.add_all-requires-clause-numbers
add_all-requires-clause-numbers c = λ n h.
    let lt : c.loop-index.index < length c.loop-index.set.items = omega (arith, c.if-index-len.false, c.len.ensures, c.loop-index.set.ok) in
    let e : c.index.result.now ≡ get_or c.loop-index.set.items c.loop-index.index 0 = c.index.ensures ∙ get_or_default c.loop-index.set.items c.loop-index.index c.index.result.now 0 lt in
    let within : c.index.result.now < length c.args.jumps.now =
    omega (arith, c.loop-index.invariant.closing.within c.index.result.now (contains_at c.loop-index.set.items c.loop-index.index c.index.result.now lt (sym e)), length_lists c.args.jumps.now) in
    let row : c.as_slice.result.now ≡ get_or (lists c.args.jumps.now) c.index.result.now [] =
    c.as_slice.ensures.value ∙ row_at c.args.jumps.now c.index.result.now c.index-jumps-position.result within c.index-jumps-position.is in
    omega (arith, (c.requires.upward c.index.result.now n (subst (λ z. Contains z n) row h)).1, length_lists c.args.jumps.now, c.requires.many, c.loop-index.invariant.many)

pub loop-index-preserved : goal.loop-index-preserved
loop-index-preserved c =
    let lt : c.loop-index.index < length c.loop-index.set.items = omega (arith, c.if-index-len.false, c.len.ensures, c.loop-index.set.ok) in
    let e : c.index.result.now ≡ get_or c.loop-index.set.items c.loop-index.index 0 = c.index.ensures ∙ get_or_default c.loop-index.set.items c.loop-index.index c.index.result.now 0 lt in
    let within : c.index.result.now < length c.args.jumps.now =
    omega (arith, c.loop-index.invariant.closing.within c.index.result.now (contains_at c.loop-index.set.items c.loop-index.index c.index.result.now lt (sym e)), length_lists c.args.jumps.now) in
    let row : c.as_slice.result.now ≡ get_or (lists c.args.jumps.now) (get_or c.loop-index.set.items c.loop-index.index 0) [] =
    c.as_slice.ensures.value ∙ row_at c.args.jumps.now c.index.result.now c.index-jumps-position.result within c.index-jumps-position.is ∙ ap (λ n. get_or (lists c.args.jumps.now) n []) e in
    let all = subst (λ z. AddsAll c.loop-index.indexes c.add_all.new.indexes c.loop-index.set.items c.add_all.new.set.items z) row c.in_ok-add_all.ensures in
    record {
      many = all.many ∙ c.loop-index.invariant.many;
      indexed = all.indexed;
      closing = closing_step (lists c.args.jumps.now) c.args.set.now.items c.loop-index.indexes c.add_all.new.indexes c.loop-index.set.items c.add_all.new.set.items c.loop-index.index c.requires.upward lt
          c.loop-index.invariant.closing all;
    }

pub returns : goal.returns
returns c =
    closing_end (lists c.args.jumps.now) c.args.set.now.items c.loop-index.indexes c.loop-index.set.items c.loop-index.index
    (omega (arith, few c.loop-index.indexes c.loop-index.set.items (length (lists c.args.jumps.now)) c.loop-index.invariant.indexed c.loop-index.invariant.closing.within, c.loop-index-test.false, length_lists c.args.jumps.now))
    c.loop-index.invariant.indexed c.loop-index.invariant.closing
