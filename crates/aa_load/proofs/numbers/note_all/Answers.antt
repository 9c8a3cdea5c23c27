use Rattle.std.proofs.Common.{refl, ap, sym, ◌∙◌}
use Rattle.aa_load.specs.Numbers.{noted}
use Rattle.aa_load.proofs.Noting.{when_ok, when_err, noting_more, noting_undone}
use Rattle.aa_load.proofs.numbers.note_all.Goals as goal

pub returns-then-is_err-clause-err : goal.returns-then-is_err-clause-err
returns-then-is_err-clause-err c = λ earlier fresh.
    let same = when_err c.note_one.result (sym c.is_err.ensures.value ∙ c.if-is_err.true) c.note_one.ensures.err in
    noting_undone c.args.numbers.now.entries c.note_one.new.numbers.entries c.forget_all.new.numbers.entries c.args.before earlier c.args.profiles.now c.loop-place.place fresh
    (λ name. ap (noted name) same ∙ c.loop-place.invariant earlier fresh name) c.forget_all.ensures

pub loop-place-preserved : goal.loop-place-preserved
loop-place-preserved c = λ earlier fresh.
    noting_more c.args.numbers.now.entries c.loop-place.numbers.entries c.note_one.new.numbers.entries c.args.before earlier c.args.profiles.now c.loop-place.place _ c.index-profiles-place.result c.as_slice.result.now fresh
    c.loop-place-test.true c.index-profiles-place.is c.as_slice.ensures refl (c.loop-place.invariant earlier fresh) (when_ok c.note_one.result (sym c.is_err.ensures.value ∙ c.if-is_err.false) c.note_one.ensures.ok)
