use Rattle.std.proofs.Common.{◌≡◌, ◌+◌, ◌++◌, ◌∷◌, [], true, Some}
use Rattle.std.proofs.Common.{sym, ap, ◌∙◌, subst}
use Rattle.std.specs.Prelude.{nat_eq}
use Rattle.std.specs.List.{list_any}
use Rattle.std.proofs.lemmas.List.{get_or_read}
use Rattle.aa_model.specs.declared.label.Label.{Label}
use Rattle.aa_model.specs.declared.request.Request.{Request}
use Rattle.aa_representatives.specs.Askable.{IsAskable}
use Rattle.aa_reachability.specs.declared.trail.Step.{Step}
use Rattle.aa_reachability.specs.declared.trail.Arrival.{Arrival}
use Rattle.aa_reachability.specs.Granted.{IsGranted}
use Rattle.aa_reachability.specs.Course.{label_on, IsDecidedOn}
use Rattle.aa_reachability.specs.Trail.{no_arrival, arrival_at, IsTrail, IsLevel, IsWithin, Extends}
use Rattle.aa_reachability.proofs.Stepping.{trail_more, level_more, extends_more, reached_more, reached_known, is_known, added_keys}
use Rattle.aa_reachability.proofs.Reaching.{extends_none}
use Rattle.aa_reachability.proofs.Firsts.{added_none, added_more}
use Rattle.aa_reachability.proofs.trail.Trail.follow.Goals as goal

pub label_on-requires-clause-granted : goal.label_on-requires-clause-granted
label_on-requires-clause-granted c = λ said.
    let arrivals = c.args.self.now.arrivals.items in
    let read : c.index-before.result.now ≡ arrival_at arrivals c.args.number =
    get_or_read arrivals c.args.number c.index-before.result.now c.requires.within c.index-before.ensures no_arrival in
    subst (λ (a : Arrival). IsGranted c.args.course.going.policies.now a.label c.args.request.now) (sym read) (c.requires.granted said)

pub label_on-requires-clause-sure : goal.label_on-requires-clause-sure
label_on-requires-clause-sure c = λ said.
    let arrivals = c.args.self.now.arrivals.items in
    let read : c.index-before.result.now ≡ arrival_at arrivals c.args.number =
    get_or_read arrivals c.args.number c.index-before.result.now c.requires.within c.index-before.ensures no_arrival in
    subst (λ (a : Arrival). IsDecidedOn c.args.course a.label c.args.request.now) (sym read) (c.requires.sure said)

pub returns-then-not-is_new-clause-reached : goal.returns-then-not-is_new-clause-reached
returns-then-not-is_new-clause-reached c =
    let arrivals = c.args.self.now.arrivals.items in
    let read : c.index-before.result.now ≡ arrival_at arrivals c.args.number =
    get_or_read arrivals c.args.number c.index-before.result.now c.requires.within c.index-before.ensures no_arrival in
    let label : c.in_ok-label.label ≡ label_on c.args.course (arrival_at arrivals c.args.number).label c.args.request.now =
    c.in_ok-label.ensures ∙ ap (λ (a : Arrival). label_on c.args.course a.label c.args.request.now) read in
    let known : list_any (nat_eq c.code_of.result) c.args.self.now.known.keys ≡ true =
    is_known (list_any (nat_eq c.code_of.result) c.args.self.now.known.keys) c.in_ok-is_new.is_new c.in_ok-is_new.ensures.added c.if-not-is_new.true in
    subst (λ (l : Label). IsWithin arrivals l ((arrival_at arrivals c.args.number).length + 1)) label
    (reached_known (label_on c.args.course) c.args.from c.args.self.now.known.keys arrivals c.requires.trail c.args.number c.in_ok-label.label c.requires.within
    c.requires.level c.code_of.ensures.fits (ap (λ n. list_any (nat_eq n) c.args.self.now.known.keys) (sym c.code_of.ensures.code) ∙ known))

pub returns-clause-trail : goal.returns-clause-trail
returns-clause-trail c =
    let arrivals = c.args.self.now.arrivals.items in
    let read : c.index-before.result.now ≡ arrival_at arrivals c.args.number =
    get_or_read arrivals c.args.number c.index-before.result.now c.requires.within c.index-before.ensures no_arrival in
    let same : c.in_ok-request.request ≡ c.args.request.now = c.in_ok-request.ensures.same in
    let asked : IsAskable c.in_ok-request.request = subst IsAskable (sym same) c.requires.asked in
    let label : c.in_ok-label.label ≡ label_on c.args.course (arrival_at arrivals c.args.number).label c.in_ok-request.request =
    c.in_ok-label.ensures ∙ ap (λ (a : Arrival). label_on c.args.course a.label c.args.request.now) read
    ∙ ap (λ (r : Request). label_on c.args.course (arrival_at arrivals c.args.number).label r) (sym same) in
    let long : c.index-before.result.now.length + 1 ≡ (arrival_at arrivals c.args.number).length + 1 = ap (λ (a : Arrival). a.length + 1) read in
    let keys = added_keys c.args.self.now.known.keys c.insert_full.new.self.keys c.code_of.result c.in_ok-is_new.is_new c.in_ok-is_new.ensures.added c.if-not-is_new.false
    c.in_ok-is_new.ensures.keys in
    let made = trail_more (label_on c.args.course) c.args.from c.args.self.now.known.keys arrivals c.requires.trail c.args.number c.in_ok-request.request c.in_ok-label.label
    c.requires.within c.requires.level asked label c.code_of.ensures.fits (c.index-before.result.now.length + 1) long c.insert_full.new.self.keys
    (keys ∙ ap (λ n. c.args.self.now.known.keys ++ n ∷ []) c.code_of.ensures.code) c.in_ok-is_new.ensures.unique in
    subst (IsTrail (label_on c.args.course) c.args.from c.insert_full.new.self.keys) (sym c.in_ok-push.ensures.items)
    made

pub returns-then-not-is_new-clause-extends : goal.returns-then-not-is_new-clause-extends
returns-then-not-is_new-clause-extends c = extends_none c.args.number c.args.self.now.arrivals.items

pub returns-clause-extends : goal.returns-clause-extends
returns-clause-extends c =
    let arrivals = c.args.self.now.arrivals.items in
    let read : c.index-before.result.now ≡ arrival_at arrivals c.args.number =
    get_or_read arrivals c.args.number c.index-before.result.now c.requires.within c.index-before.ensures no_arrival in
    let same : c.in_ok-request.request ≡ c.args.request.now = c.in_ok-request.ensures.same in
    let asked : IsAskable c.in_ok-request.request = subst IsAskable (sym same) c.requires.asked in
    let label : c.in_ok-label.label ≡ label_on c.args.course (arrival_at arrivals c.args.number).label c.in_ok-request.request =
    c.in_ok-label.ensures ∙ ap (λ (a : Arrival). label_on c.args.course a.label c.args.request.now) read
    ∙ ap (λ (r : Request). label_on c.args.course (arrival_at arrivals c.args.number).label r) (sym same) in
    let long : c.index-before.result.now.length + 1 ≡ (arrival_at arrivals c.args.number).length + 1 = ap (λ (a : Arrival). a.length + 1) read in
    subst (Extends c.args.number arrivals) (sym c.in_ok-push.ensures.items)
    (extends_more (label_on c.args.course) c.args.from c.args.self.now.known.keys arrivals c.requires.trail c.args.number c.in_ok-request.request c.in_ok-label.label
    c.requires.within c.requires.level asked label c.code_of.ensures.fits (c.index-before.result.now.length + 1) long)

pub returns-clause-level : goal.returns-clause-level
returns-clause-level c =
    let arrivals = c.args.self.now.arrivals.items in
    let read : c.index-before.result.now ≡ arrival_at arrivals c.args.number =
    get_or_read arrivals c.args.number c.index-before.result.now c.requires.within c.index-before.ensures no_arrival in
    let same : c.in_ok-request.request ≡ c.args.request.now = c.in_ok-request.ensures.same in
    let asked : IsAskable c.in_ok-request.request = subst IsAskable (sym same) c.requires.asked in
    let label : c.in_ok-label.label ≡ label_on c.args.course (arrival_at arrivals c.args.number).label c.in_ok-request.request =
    c.in_ok-label.ensures ∙ ap (λ (a : Arrival). label_on c.args.course a.label c.args.request.now) read
    ∙ ap (λ (r : Request). label_on c.args.course (arrival_at arrivals c.args.number).label r) (sym same) in
    let long : c.index-before.result.now.length + 1 ≡ (arrival_at arrivals c.args.number).length + 1 = ap (λ (a : Arrival). a.length + 1) read in
    subst (λ l. IsLevel l c.args.number) (sym c.in_ok-push.ensures.items)
    (level_more (label_on c.args.course) c.args.from c.args.self.now.known.keys arrivals c.requires.trail c.args.number c.in_ok-request.request c.in_ok-label.label
    c.requires.within c.requires.level asked label c.code_of.ensures.fits (c.index-before.result.now.length + 1) long)

pub returns-clause-reached : goal.returns-clause-reached
returns-clause-reached c =
    let arrivals = c.args.self.now.arrivals.items in
    let read : c.index-before.result.now ≡ arrival_at arrivals c.args.number =
    get_or_read arrivals c.args.number c.index-before.result.now c.requires.within c.index-before.ensures no_arrival in
    let same : c.in_ok-request.request ≡ c.args.request.now = c.in_ok-request.ensures.same in
    let asked : IsAskable c.in_ok-request.request = subst IsAskable (sym same) c.requires.asked in
    let label : c.in_ok-label.label ≡ label_on c.args.course (arrival_at arrivals c.args.number).label c.in_ok-request.request =
    c.in_ok-label.ensures ∙ ap (λ (a : Arrival). label_on c.args.course a.label c.args.request.now) read
    ∙ ap (λ (r : Request). label_on c.args.course (arrival_at arrivals c.args.number).label r) (sym same) in
    let long : c.index-before.result.now.length + 1 ≡ (arrival_at arrivals c.args.number).length + 1 = ap (λ (a : Arrival). a.length + 1) read in
    let step : Step = record { from = c.args.number; request = c.in_ok-request.request } in
    let new : Arrival = record { label = c.in_ok-label.label; length = c.index-before.result.now.length + 1; step = Some step } in
    let many = (arrival_at arrivals c.args.number).length + 1 in
    subst (λ l. IsWithin l (label_on c.args.course (arrival_at arrivals c.args.number).label c.args.request.now) many) (sym c.in_ok-push.ensures.items)
    (subst (λ (r : Request). IsWithin (arrivals ++ new ∷ []) (label_on c.args.course (arrival_at arrivals c.args.number).label r) many) same
    (subst (λ (m : Label). IsWithin (arrivals ++ new ∷ []) m many) label
    (reached_more (label_on c.args.course) c.args.from c.args.self.now.known.keys arrivals c.requires.trail c.args.number c.in_ok-request.request c.in_ok-label.label
    c.requires.within c.requires.level asked label c.code_of.ensures.fits (c.index-before.result.now.length + 1) long)))

pub returns-then-not-is_new-clause-added : goal.returns-then-not-is_new-clause-added
returns-then-not-is_new-clause-added c = added_none c.args.request.now c.args.self.now.arrivals.items

pub returns-clause-added : goal.returns-clause-added
returns-clause-added c =
    let step : Step = record { from = c.args.number; request = c.in_ok-request.request } in
    let new : Arrival = record { label = c.in_ok-label.label; length = c.index-before.result.now.length + 1; step = Some step } in
    added_more c.args.request.now c.args.self.now.arrivals.items c.push.new.self.items new c.in_ok-push.ensures.items c.in_ok-request.ensures.same
