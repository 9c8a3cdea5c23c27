use Rattle.std.specs.Borrow.{Bor}
use Rattle.std.proofs.Common.{◌≡◌, Bool, false, Option, length, refl, sym, ap, ◌∙◌}
use Rattle.std.specs.List.{slice_get, list_any}
use Rattle.std.specs.Option.{option_map_or}
use Rattle.std.proofs.lemmas.Option.{slice_get_read, slice_get_past}
use Rattle.std.proofs.lemmas.Result.{IfOk-weaker}
use Rattle.aa_model.specs.declared.policy.Policy.{Policy}
use Rattle.aa_skipping.specs.declared.unread.Unread.{Unread}
use Rattle.aa_skipping.specs.Undecided.{undecided}
use Rattle.aa_reachability.specs.Beside.{one_doubts, is_doubted}
use Rattle.aa_reachability.specs.Course.{unreads_of}
use Rattle.aa_reachability.proofs.Besides.{any_pointed}
use Rattle.aa_reachability.proofs.beside.is_doubted.Goals as goal

pub returns-in-Some : goal.returns-in-Some
unfolding is_doubted
returns-in-Some c =
    let ps = c.args.course.going.policies.now in
    let us = c.args.course.unreads.now in
    let l = c.args.label in
    let r = c.args.request.now in
    let a = c.in-Some.compiled.now in
    let there = c.in-Some.ensures.lookup in
    let Doubts : Unread → Bool = λ u. undecided a.profiles u l r in
    IfOk-weaker c.one_doubts.result (λ (b : Bool). b ≡ list_any (λ (u : Bor Unread). Doubts u.now) us) (λ (b : Bool). b ≡ is_doubted ps (unreads_of us) l r)
    (λ b is.
    is ∙ any_pointed Doubts us
    ∙ ap (λ (o : Option Policy). option_map_or (one_doubts (unreads_of us) l r) o false) (sym (slice_get_read ps (length ps) 0 a refl there.3.0 there.1)))
    c.one_doubts.ensures

pub returns-in-None : goal.returns-in-None
unfolding is_doubted
returns-in-None c =
    let ps = c.args.course.going.policies.now in
    let us = c.args.course.unreads.now in
    ap (λ (o : Option Policy). option_map_or (one_doubts (unreads_of us) c.args.label c.args.request.now) o false)
    (sym (slice_get_past ps 0 c.in-None.ensures.lookup.3))
