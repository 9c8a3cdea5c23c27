use Rattle.std.proofs.Common.{◌≡◌, ◌<◌, ℕ, List, Option, Some, None, length, refl, sym, ap, ◌∙◌, arith}
use Rattle.std.specs.List.{slice_get}
use Rattle.std.proofs.lemmas.Option.{slice_get-get_or, slice_get_within}
use Rattle.aa_model.specs.declared.request.Request.{Request}
use Rattle.aa_reachability.specs.declared.trail.Step.{Step}
use Rattle.aa_reachability.specs.declared.trail.Arrival.{Arrival}
use Rattle.aa_reachability.specs.Reach.{AreWays}
use Rattle.aa_reachability.proofs.Backing.{way_before}
use Rattle.aa_reach.specs.Routes.{IsStepWithin}
use Rattle.aa_reach.proofs.Turning.{lasts_more}
use Rattle.aa_reach.proofs.routes.lasts_of.Goals as goal

-- a step goes on from an earlier arrival
step_within : (arrivals : List Arrival) (ways : List (List Request)) → AreWays arrivals ways → (i : ℕ) (a : Arrival) → slice_get arrivals i ≡ Some a
    → (o : Option Step) → a.step ≡ o → IsStepWithin (length arrivals) o
step_within arrivals ways are i a there None e = tt
step_within arrivals ways are i a there (Some s) e =
    let before = way_before arrivals ways are i a there s e in
    let within : i < length arrivals = slice_get_within arrivals i a there in
    omega (arith, before.0, within)

pub last_of-requires : goal.last_of-requires
last_of-requires c =
    let arrivals = c.args.arrivals.now in
    let n = c.loop-arrival.arrival-index in
    let a = c.arrival-item.result in
    let there : slice_get arrivals n ≡ Some a = slice_get-get_or arrivals n a c.loop-arrival-test.true ∙ ap Some (sym c.arrival-item.is) in
    step_within arrivals c.requires.0 c.requires.1 n a there a.step refl

pub loop-arrival-preserved : goal.loop-arrival-preserved
loop-arrival-preserved c =
    let arrivals = c.args.arrivals.now in
    let n = c.loop-arrival.arrival-index in
    let a = c.arrival-item.result in
    let there : slice_get arrivals n ≡ Some a = slice_get-get_or arrivals n a c.loop-arrival-test.true ∙ ap Some (sym c.arrival-item.is) in
    lasts_more c.args.policies.now arrivals n c.loop-arrival.lasts.items c.push.new.self.items a c.in_ok-last_of.field-0 c.loop-arrival.invariant there
    c.in_ok-last_of.ensures c.in_ok-push.ensures.items
