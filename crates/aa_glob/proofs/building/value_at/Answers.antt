use Rattle.std.proofs.lemmas.Grind.{common_steps}
use Rattle.std.proofs.Common.{suc, ◌-◌, ◌∙◌, [], ap, arith, get_or, sym, Vec, ℕ, Global}
use Rattle.std.proofs.lemmas.List.{get_or-map, length-map}
use Rattle.aa_glob.specs.Ways.{items_of}
use Rattle.aa_glob.proofs.Builds.{value_picked, ends_rise}
use Rattle.aa_glob.proofs.building.value_at.Goals as goal

pub ends_up_to-place-requires : goal.ends_up_to-place-requires
ends_up_to-place-requires c = let r = c.requires in λ i j d le h. ends_rise r.1 0 (items_of c.args.values.now) c.args.ends.now r.3 (suc i) (suc j) d (omega arith) (omega arith)

pub unreachable-requires : goal.unreachable-requires
unreachable-requires c =
    let r = c.requires in
    let v = value_picked r.0 r.1 (items_of c.args.values.now) c.args.ends.now c.args.number c.ends_up_to-place.result r.2 r.3 r.4 c.ends_up_to-place.ensures.below c.ends_up_to-place.ensures.above in
    omega (arith, v.within, length-map c.args.values.now (λ (x : Vec ℕ Global). x.items), c.in_default.ensures.lookup.3)

pub overflow_sub-result : goal.overflow_sub-result
overflow_sub-result c =
    let r = c.requires in
    let v = value_picked r.0 r.1
    (items_of c.args.values.now) c.args.ends.now c.args.number c.ends_up_to-place.result r.2 r.3 r.4 c.ends_up_to-place.ensures.below c.ends_up_to-place.ensures.above in omega
    (arith, v.first, c.end_before-first.ensures)

pub bounds-ends-place : goal.bounds-ends-place
bounds-ends-place c =
    let r = c.requires in
    let v = value_picked r.0 r.1 (items_of c.args.values.now) c.args.ends.now c.args.number c.ends_up_to-place.result r.2 r.3 r.4 c.ends_up_to-place.ensures.below c.ends_up_to-place.ensures.above in omega (arith, v.among)

pub overflow_sub-result-2 : goal.overflow_sub-result-2
overflow_sub-result-2 c =
    let r = c.requires in
    let v = value_picked r.0 r.1 (items_of c.args.values.now) c.args.ends.now c.args.number c.ends_up_to-place.result r.2 r.3 r.4 c.ends_up_to-place.ensures.below c.ends_up_to-place.ensures.above in
    omega (arith, v.first, v.last, c.end_before-first.ensures)

pub returns-clause-stands : goal.returns-clause-stands
returns-clause-stands c = λ depth vars ts ends has.
    let at = c.in-Some.ensures.lookup in
    (value_picked depth vars (items_of c.args.values.now) c.args.ends.now c.args.number c.ends_up_to-place.result ts ends has c.ends_up_to-place.ensures.below c.ends_up_to-place.ensures.above).stands c.as_slice.result _ _
    (c.as_slice.ensures.value ∙ ap (λ (v : Vec ℕ Global). v.items) at.1 ∙ sym (get_or-map (λ (v : Vec ℕ Global). v.items) c.args.values.now c.ends_up_to-place.result c.in-Some.value.now [] at.3.0))
    (ap (λ n. c.args.number - n) c.end_before-first.ensures) (ap (λ n. get_or c.args.ends.now c.ends_up_to-place.result 0 - n) c.end_before-first.ensures)

pub returns-clause-among : goal.returns-clause-among
returns-clause-among c = grind (arith, common_steps, get_or-map, length-map)
