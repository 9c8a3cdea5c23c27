use Rattle.std.proofs.Common.{ℕ, Vec, arith, subst, sym}
use Rattle.std.specs.declared.alloc.Global.{Global}
use Rattle.std.proofs.lemmas.Slice.Zip.{AllZip-long}
use Rattle.aa_files.specs.Texts.{texts}
use Rattle.aa_files.specs.declared.unit.Unit as unit
use Rattle.aa_load.specs.UnitPolicy.{limit_of}
use Rattle.aa_job.specs.Policies.{HasNames, IsJobPolicy}
use Rattle.aa_command.proofs.Lending.{zipped_at, zipped_next}
use Rattle.aa_job.proofs.policies.policies_of.Goals as goal

pub bounds-names-number : goal.bounds-names-number
bounds-names-number c = omega (arith, AllZip-long (λ (u : unit.Unit) (names : Vec (Vec ℕ Global) Global). HasNames (limit_of c.args.states) u (texts names.items)) c.args.units.now c.args.names.now c.requires)

pub loop-number-preserved : goal.loop-number-preserved
loop-number-preserved c =
    let limit = limit_of c.args.states in
    let u = c.index-units-number.result in
    let names = c.index-names-number.result in
    zipped_next (IsJobPolicy limit) c.args.units.now c.loop-number.number u c.loop-number.policies.items c.push.new.self.items _ c.loop-number-test.true c.index-units-number.is c.in_ok-push.ensures.items
    (record {
      text = c.as_slice-text.ensures.value;
      names = subst (λ l. HasNames limit u (texts l)) (sym c.as_slice-names.ensures.value)
          (zipped_at
          (λ (u : unit.Unit) (names : Vec (Vec ℕ Global) Global). HasNames limit u
          (texts names.items)) c.args.units.now c.args.names.now c.loop-number.number u names c.requires c.loop-number-test.true c.index-units-number.is c.index-names-number.is);
    }) c.loop-number.invariant
