use Rattle.std.proofs.Common.{◌≡◌, ◌∷◌, [], ◌++◌, Err, ap, ◌∙◌, subst}
use Rattle.std.proofs.lemmas.List.{get_or_read}
use Rattle.aa_reachability.specs.declared.trail.Arrival.{Arrival}
use Rattle.aa_reachability.specs.declared.reached.Why.TheVariants as why
use Rattle.aa_reachability.specs.Moves.{HaveManyPatternsAt, IsWhyFor}
use Rattle.aa_reachability.specs.Beside.{is_sure}
use Rattle.aa_reachability.specs.Course.{unreads_of, label_on, IsSureOn}
use Rattle.aa_reachability.specs.Trail.{no_arrival, arrival_at}
use Rattle.aa_reachability.proofs.Reaching.{level_next}
use Rattle.aa_reachability.proofs.Searching.{told_next, untold_next}
use Rattle.aa_reachability.proofs.search.follow_next.Goals as goal

pub returns-in_ok-follow_all-in-Ok-clause-followed : goal.returns-in_ok-follow_all-in-Ok-clause-followed
returns-in_ok-follow_all-in-Ok-clause-followed c =
    let go = label_on c.args.course in
    let sure = IsSureOn c.args.course in
    let ps = c.args.course.going.policies.now in
    let was = c.args.trail.now.arrivals.items in
    let made = c.in_ok-follow_all-in-Ok.ensures in
    let read : c.index.result.now ≡ arrival_at was c.args.number =
    get_or_read was c.args.number c.index.result.now c.requires.within c.index.ensures no_arrival in
    told_next go sure c.args.course.only_clean ps c.args.limit was c.follow_all.new.trail.arrivals.items c.args.untold.now.items c.args.number made.extends c.requires.within c.requires.followed
    (λ (is : sure (arrival_at was c.args.number).label).
    made.followed (c.is_sure-are_sure.ensures ∙ ap (λ (x : Arrival). is_sure (unreads_of c.args.course.unreads.now) c.args.course.openings.now x.label) read ∙ is))
    (subst (λ (x : Arrival). HaveManyPatternsAt ps x.label → ⊥) read c.in-Ok.ensures.few_patterns)

pub returns-in_ok-push-in-Err-TooManyPatterns-clause-level : goal.returns-in_ok-push-in-Err-TooManyPatterns-clause-level
returns-in_ok-push-in-Err-TooManyPatterns-clause-level c =
    level_next c.args.trail.now.arrivals.items c.args.number c.requires.trail.rising c.requires.level

pub returns-in_ok-push-in-Err-TooManyPatterns-clause-followed : goal.returns-in_ok-push-in-Err-TooManyPatterns-clause-followed
returns-in_ok-push-in-Err-TooManyPatterns-clause-followed c =
    let go = label_on c.args.course in
    let sure = IsSureOn c.args.course in
    let ps = c.args.course.going.policies.now in
    let was = c.args.trail.now.arrivals.items in
    let n = c.args.number in
    let untold = c.args.untold.now.items in
    let read : c.index.result.now ≡ arrival_at was n = get_or_read was n c.index.result.now c.requires.within c.index.ensures no_arrival in
    untold_next go sure c.args.course.only_clean ps c.args.limit was untold n why.TooManyPatterns c.requires.within c.requires.followed
    (subst (λ (x : Arrival). IsWhyFor c.args.course.only_clean ps c.args.limit x.label why.TooManyPatterns) read
    (c.in-Err-TooManyPatterns.ensures.many_patterns (ap Err c.in-Err-TooManyPatterns.field-0-is)))
    c.push.new.self.items
    (c.in_ok-push-in-Err-TooManyPatterns.ensures.items
    ∙ ap (λ (x : Arrival). untold ++ record { number = n; label = x.label; why = why.TooManyPatterns } ∷ []) read)

pub returns-in_ok-push-in-Err-TooManyStates-clause-level : goal.returns-in_ok-push-in-Err-TooManyStates-clause-level
returns-in_ok-push-in-Err-TooManyStates-clause-level c =
    level_next c.args.trail.now.arrivals.items c.args.number c.requires.trail.rising c.requires.level

pub returns-in_ok-push-in-Err-TooManyStates-clause-followed : goal.returns-in_ok-push-in-Err-TooManyStates-clause-followed
returns-in_ok-push-in-Err-TooManyStates-clause-followed c =
    let go = label_on c.args.course in
    let sure = IsSureOn c.args.course in
    let ps = c.args.course.going.policies.now in
    let was = c.args.trail.now.arrivals.items in
    let n = c.args.number in
    let untold = c.args.untold.now.items in
    let read : c.index.result.now ≡ arrival_at was n = get_or_read was n c.index.result.now c.requires.within c.index.ensures no_arrival in
    untold_next go sure c.args.course.only_clean ps c.args.limit was untold n why.TooManyStates c.requires.within c.requires.followed
    (subst (λ (x : Arrival). IsWhyFor c.args.course.only_clean ps c.args.limit x.label why.TooManyStates) read
    (c.in-Err-TooManyStates.ensures.many_states (ap Err c.in-Err-TooManyStates.field-0-is)))
    c.push-in-Err-TooManyStates.new.self.items
    (c.in_ok-push-in-Err-TooManyStates.ensures.items
    ∙ ap (λ (x : Arrival). untold ++ record { number = n; label = x.label; why = why.TooManyStates } ∷ []) read)
