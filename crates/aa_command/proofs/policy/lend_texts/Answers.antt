use Rattle.std.proofs.Common.{arith}
use Rattle.std.proofs.lemmas.Slice.Zip.{AllZip-long}
use Rattle.aa_command.specs.Policies.{AreSourcesOf, IsTextsOf}
use Rattle.aa_command.proofs.Lending.{zipped_at, zipped_next}
use Rattle.aa_command.proofs.policy.lend_texts.Goals as goal

pub bounds-gathered-number : goal.bounds-gathered-number
bounds-gathered-number c = omega (arith, AllZip-long AreSourcesOf c.args.units.now c.args.gathered.now c.requires)

pub loop-number-preserved : goal.loop-number-preserved
loop-number-preserved c =
    let u = c.index-units-number.result in
    let sources = c.index-gathered-number.result in
    zipped_next IsTextsOf c.args.units.now c.loop-number.number u c.loop-number.texts.items c.push.new.self.items _ c.loop-number-test.true c.index-units-number.is c.in_ok-push.ensures.items
    (record {
      main = c.as_slice-main.ensures.value;
      sources = zipped_at AreSourcesOf c.args.units.now c.args.gathered.now c.loop-number.number u sources c.requires c.loop-number-test.true c.index-units-number.is c.index-gathered-number.is;
    })
    c.loop-number.invariant
