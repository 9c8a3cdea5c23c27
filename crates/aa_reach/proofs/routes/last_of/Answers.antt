use Rattle.std.proofs.Common.{◌≡◌, Option, Some, get_or, sym, ap, ◌∙◌, subst}
use Rattle.std.specs.Prelude.{IfOk}
use Rattle.std.specs.List.{slice_get}
use Rattle.std.proofs.lemmas.Option.{get_or_from_slice_get}
use Rattle.std.proofs.lemmas.Result.{IfOk-weaker}
use Rattle.aa_reachability.specs.declared.trail.Step.{Step}
use Rattle.aa_reachability.specs.declared.trail.Arrival.{Arrival}
use Rattle.aa_reach.specs.declared.routes.Turn.{Turn}
use Rattle.aa_reach.specs.Routes.{turned, plain, turn_by, IsLast}
use Rattle.aa_reach.proofs.routes.last_of.Goals as goal

pub returns-in-Some : goal.returns-in-Some
returns-in-Some c =
    let ps = c.args.policies.now in
    let arrivals = c.args.arrivals.now in
    let s = c.in-Some.step in
    let x = get_or arrivals s.from c.index-arrivals-step.result in
    subst (λ (o : Option Step). IfOk c.turn_of.result (λ (t : Turn). IsLast ps arrivals o t)) (sym c.in-Some.is)
    (IfOk-weaker c.turn_of.result (λ (t : Turn). turned t ≡ turn_by ps x.label (plain ps x.label s.request))
    (λ (t : Turn). IsLast ps arrivals (Some s) t)
    (λ t is b there.
    is ∙ ap (λ (y : Arrival). turn_by ps y.label (plain ps y.label s.request)) (get_or_from_slice_get arrivals s.from b c.index-arrivals-step.result there))
    c.turn_of.ensures)
