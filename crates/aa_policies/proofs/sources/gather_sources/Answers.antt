use Rattle.std.proofs.Common.{ap, Err}
use Rattle.aa_base.specs.declared.fault.PolicyFault.{PolicyFault}
use Rattle.aa_policies.proofs.Gathering.{gathering_start, gathering_more, gathering_end, is_short, is_fresh, refused_here, fault_here, ok_err}
use Rattle.aa_policies.proofs.sources.gather_sources.Goals as goal

pub loop-include-init : goal.loop-include-init
loop-include-init c = gathering_start _ _ c.new-sources.ensures

pub returns-in-Err-clause-cause : goal.returns-in-Err-clause-cause
returns-in-Err-clause-cause c =
    let ok = rw (c.as_slice.ensures, c.as_slice-in-loop-include.ensures) at c.in-Err.ensures in
    refused_here c.args.includes.now c.loop-include.include-index c.include-item.result _ c.in-Err.fault c.loop-include-test.true c.include-item.is
    ok.only (λ e. ok.too_large.0 (ap (λ (f : PolicyFault). Err f) e)) (λ e. ok.twice.0 (ap (λ (f : PolicyFault). Err f) e)) c.loop-include.invariant

pub returns-in-Err-clause-fault : goal.returns-in-Err-clause-fault
returns-in-Err-clause-fault c =
    let ok = rw (c.as_slice.ensures, c.as_slice-in-loop-include.ensures) at c.in-Err.ensures in
    fault_here c.args.includes.now c.loop-include.include-index c.include-item.result _ c.in-Err.fault c.loop-include-test.true c.include-item.is
    ok.only (λ e. ok.too_large.0 (ap (λ (f : PolicyFault). Err f) e)) (λ e. ok.twice.0 (ap (λ (f : PolicyFault). Err f) e)) c.loop-include.invariant

pub loop-include-preserved : goal.loop-include-preserved
loop-include-preserved c =
    let ok = rw (c.as_slice.ensures, c.as_slice-in-loop-include.ensures) at c.in-Ok.ensures in
    let fits = is_short c.include-item.result.text c.loop-include.sources (λ over. ok_err (ok.too_large.1 over)) in
    gathering_more c.args.includes.now c.loop-include.include-index c.include-item.result _ _ c.loop-include-test.true c.include-item.is
    fits.0 fits.1 (is_fresh _ _ _ fits.0 fits.1 (λ there. ok_err (ok.twice.1 there))) ok.ok c.loop-include.invariant

pub returns-clause-gathered : goal.returns-clause-gathered
returns-clause-gathered c = (gathering_end c.args.includes.now c.loop-include.include-index _ c.loop-include-test.false c.loop-include.invariant).0

pub returns-clause-fit : goal.returns-clause-fit
returns-clause-fit c = (gathering_end c.args.includes.now c.loop-include.include-index _ c.loop-include-test.false c.loop-include.invariant).1
