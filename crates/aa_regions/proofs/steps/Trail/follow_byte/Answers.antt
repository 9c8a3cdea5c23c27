use Rattle.std.proofs.Common.{◌≡◌, ◌<◌, ◌+◌, ◌∷◌, [], Bool, false, true, length, get_or, set, sym, ap, ◌∙◌, subst, arith}
use Rattle.std.proofs.lemmas.List.{get_or_read}
use Rattle.aa_auto.specs.Tables.{row_after}
use Rattle.aa_regions.specs.declared.steps.Step.{Step}
use Rattle.aa_regions.specs.Wanted.{IsFrom}
use Rattle.aa_regions.specs.Steps.{no_step, step_at, IsTrail, IsLevel, IsWithin}
use Rattle.aa_regions.proofs.Stepping.{trail_more, level_more, reached_more}
use Rattle.aa_regions.proofs.steps.Trail.follow_byte.Goals as goal

pub returns-clause-trail : goal.returns-clause-trail
returns-clause-trail c =
    let t = c.args.automaton.now in
    let steps = c.args.self.now.steps.items in
    let seen = c.args.self.now.seen.items in
    let k = c.args.number in
    let row = c.next-row.result in
    let from : IsFrom c.args.low c.args.byte = (c.requires.from, omega (arith, c.ranges.byte.fits)) in
    let read : c.index-step.result.now ≡ step_at steps k = get_or_read steps k c.index-step.result.now c.requires.within c.index-step.ensures no_step in
    let is : row ≡ row_after t (step_at steps k).row (c.args.byte ∷ []) =
    c.next-row.ensures.next ∙ ap (λ (x : Step). row_after t x.row (c.args.byte ∷ [])) read in
    let long : c.index-step.result.now.length + 1 ≡ (step_at steps k).length + 1 = ap (λ (x : Step). x.length + 1) read in
    let lt : row < length seen = omega (arith, c.requires.trail.rows, c.next-row.ensures.within) in
    let seen_is : c.index.result.now ≡ get_or seen row false = get_or_read seen row c.index.result.now lt c.index.ensures false in
    let unmet : get_or seen row false ≡ false = ◌∙◌ {A = Bool} (sym {A = Bool} seen_is) c.if-index.false in
    subst (IsTrail t c.args.head.now c.args.low c.args.max (set seen row true)) (sym c.in_ok-push.ensures.items)
    (trail_more t c.args.head.now c.args.low c.args.max seen steps c.requires.trail k c.args.byte row c.requires.within c.requires.level c.requires.short
    from is c.next-row.ensures.within (c.index-step.result.now.length + 1) long unmet)

pub returns-clause-level : goal.returns-clause-level
returns-clause-level c =
    let t = c.args.automaton.now in
    let steps = c.args.self.now.steps.items in
    let seen = c.args.self.now.seen.items in
    let k = c.args.number in
    let row = c.next-row.result in
    let from : IsFrom c.args.low c.args.byte = (c.requires.from, omega (arith, c.ranges.byte.fits)) in
    let read : c.index-step.result.now ≡ step_at steps k = get_or_read steps k c.index-step.result.now c.requires.within c.index-step.ensures no_step in
    let is : row ≡ row_after t (step_at steps k).row (c.args.byte ∷ []) =
    c.next-row.ensures.next ∙ ap (λ (x : Step). row_after t x.row (c.args.byte ∷ [])) read in
    let long : c.index-step.result.now.length + 1 ≡ (step_at steps k).length + 1 = ap (λ (x : Step). x.length + 1) read in
    subst (λ l. IsLevel l k) (sym c.in_ok-push.ensures.items)
    (level_more t c.args.head.now c.args.low c.args.max seen steps c.requires.trail k c.args.byte row c.requires.within c.requires.level c.requires.short
    from is c.next-row.ensures.within (c.index-step.result.now.length + 1) long)

pub returns-clause-reached : goal.returns-clause-reached
returns-clause-reached c =
    let t = c.args.automaton.now in
    let steps = c.args.self.now.steps.items in
    let seen = c.args.self.now.seen.items in
    let k = c.args.number in
    let row = c.next-row.result in
    let from : IsFrom c.args.low c.args.byte = (c.requires.from, omega (arith, c.ranges.byte.fits)) in
    let read : c.index-step.result.now ≡ step_at steps k = get_or_read steps k c.index-step.result.now c.requires.within c.index-step.ensures no_step in
    let is : row ≡ row_after t (step_at steps k).row (c.args.byte ∷ []) =
    c.next-row.ensures.next ∙ ap (λ (x : Step). row_after t x.row (c.args.byte ∷ [])) read in
    let long : c.index-step.result.now.length + 1 ≡ (step_at steps k).length + 1 = ap (λ (x : Step). x.length + 1) read in
    subst (λ l. IsWithin l (row_after t (step_at steps k).row (c.args.byte ∷ [])) ((step_at steps k).length + 1)) (sym c.in_ok-push.ensures.items)
    (reached_more t c.args.head.now c.args.low c.args.max seen steps c.requires.trail k c.args.byte row c.requires.within c.requires.level c.requires.short
    from is c.next-row.ensures.within (c.index-step.result.now.length + 1) long)
