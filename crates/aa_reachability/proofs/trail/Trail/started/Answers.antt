use Rattle.std.proofs.Common.{◌≡◌, ◌++◌, ◌∷◌, [], None, refl, ap, ◌∙◌, sym, subst}
use Rattle.std.specs.Prelude.{nat_eq}
use Rattle.indexmap.specs.IndexSet.{insert_key}
use Rattle.aa_reachability.specs.declared.trail.Arrival.{Arrival}
use Rattle.aa_reachability.specs.Codes.{code}
use Rattle.aa_reachability.specs.Course.{label_on}
use Rattle.aa_reachability.specs.Trail.{IsTrail}
use Rattle.aa_reachability.proofs.Stepping.{first_trail}
use Rattle.aa_reachability.proofs.trail.Trail.started.Goals as goal

pub returns-clause-trail : goal.returns-clause-trail
returns-clause-trail c =
    let known = c.insert.new.self.keys in
    let first : Arrival = record { label = c.args.from; length = 0; step = None } in
    let items : c.push.new.self.items ≡ first ∷ [] = c.in_ok-push.ensures.items ∙ ap (λ l. l ++ first ∷ []) c.new-arrivals.ensures.items in
    let one : known ≡ code c.args.from ∷ [] =
    c.in_ok-insert.ensures.keys ∙ ap (λ ks. insert_key nat_eq ks c.code_of.result) c.new-known.ensures.empty
    ∙ ap (λ n. n ∷ []) c.code_of.ensures.code in
    subst (IsTrail (label_on c.args.course) c.args.from known) (sym items)
    (first_trail (label_on c.args.course) c.args.from known first c.code_of.ensures.fits refl one c.in_ok-insert.ensures.unique)
