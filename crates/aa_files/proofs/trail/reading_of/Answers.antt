use Rattle.std.proofs.Common.{◌≡◌, ℕ, ◌-◌, List, [], ◌++◌, None, take, reverse, sym, ap, subst, ◌∙◌}
use Rattle.aa_files.specs.declared.trail.Step.{Step}
use Rattle.aa_files.proofs.Readings.{GoesOn, goes_end}
use Rattle.aa_files.proofs.Steps.{taken, kept_again, kept_new, fewer_again, fewer_new}
use Rattle.aa_files.proofs.trail.reading_of.Goals as goal

pub loop-step-preserved-in-Some-take_steps : goal.loop-step-preserved-in-Some-take_steps
loop-step-preserved-in-Some-take_steps c =
    kept_new c.args.unit.now c.in-Some.step c.in-Some-take_steps.steps c.loop-step.slots.items c.take_steps.new.slots.items c.loop-step.stack.items c.pop.new.self.items c.append.new.self.items c.loop-step.met.items c.push.new.self.items
    c.loop-step.invariant c.in-Some.ensures.items (sym c.in-Some-take_steps.ensures.taken) c.take_steps.ensures.left c.in_ok-append.ensures.items c.in_ok-push.ensures.items

pub loop-step-smaller-in-Some-take_steps : goal.loop-step-smaller-in-Some-take_steps
loop-step-smaller-in-Some-take_steps c =
    fewer_new c.in-Some.step c.in-Some-take_steps.steps c.loop-step.slots.items c.take_steps.new.slots.items c.loop-step.stack.items c.pop.new.self.items c.append.new.self.items
    c.in-Some.ensures.items (sym c.in-Some-take_steps.ensures.taken) c.take_steps.ensures.left c.in_ok-append.ensures.items

pub loop-step-preserved : goal.loop-step-preserved
loop-step-preserved c =
    let none : taken c.loop-step.slots.items c.in-Some.step.to ≡ None = cc (c.take_steps.ensures.taken, c.in_default-take_steps.is) in
    kept_again c.args.unit.now c.in-Some.step c.loop-step.slots.items c.take_steps.new.slots.items c.loop-step.stack.items c.pop.new.self.items c.loop-step.met.items
    c.loop-step.invariant c.in-Some.ensures.items none c.take_steps.ensures.left

pub loop-step-smaller : goal.loop-step-smaller
loop-step-smaller c =
    let none : taken c.loop-step.slots.items c.in-Some.step.to ≡ None = cc (c.take_steps.ensures.taken, c.in_default-take_steps.is) in
    fewer_again c.in-Some.step c.loop-step.slots.items c.take_steps.new.slots.items c.loop-step.stack.items c.pop.new.self.items
    c.in-Some.ensures.items none c.take_steps.ensures.left

pub returns : goal.returns
returns c =
    let empty : c.pop.new.self.items ≡ [] = c.pop.ensures.rest ∙ ap (λ (n : ℕ). take (n - 1) c.loop-step.stack.items) c.in_default.ensures.cases.0 in
    let none : c.loop-step.stack.items ≡ [] = c.in_default.ensures.items ∙ ap (λ (ss : List Step). ss ++ []) empty in
    goes_end c.args.unit.now (reverse c.loop-step.met.items) (subst (λ (ss : List Step). GoesOn c.args.unit.now (reverse ss) (reverse c.loop-step.met.items)) none c.loop-step.invariant.on)
