use Rattle.std.proofs.Common.{◌∙◌, List, Bool, length, sym, ap, subst, arith}
use Rattle.aa_redundancy.specs.declared.tables.Table.{Table}
use Rattle.aa_redundancy.specs.Without.{only, marked}
use Rattle.aa_redundancy.specs.Covering.{Within}
use Rattle.aa_redundancy.specs.Tables.{Equal, none_gone, TablesRelated, SameTables}
use Rattle.aa_redundancy.specs.Places.{ProfileAlike, ProfileWithin}
use Rattle.aa_redundancy.specs.Kept.{KeptAlike, KeptWithin, HoldsBut, SameBut}
use Rattle.aa_redundancy.specs.Going.{AreGoing}
use Rattle.aa_redundancy.specs.Reasons.{AreReasons}
use Rattle.aa_redundancy.proofs.Placing.{going_by}
use Rattle.aa_redundancy.proofs.Untold.{to_same_but, from_same_but}
use Rattle.aa_redundancy.proofs.Reasoning.{reasons_by}
use Rattle.aa_redundancy.proofs.redundant.redundant_places.Goals as goal

pub reasons_of-requires : goal.reasons_of-requires
reasons_of-requires c = λ i lt is.
    let are : AreGoing (SameTables c.as_slice.result.now) c.args.count c.args.held.now c.in_ok-going.going = c.in_ok-going.ensures in
    let long = ap length c.as_slice-3.ensures.value in
    subst (λ (ts : List Table). SameTables ts (only i)) (c.as_slice.ensures.value ∙ sym c.as_slice-2.ensures.value)
    ((are.alone i (omega (arith, lt, long, are.many_alone))).0 (ap (λ (fs : List Bool). marked fs i) (sym c.as_slice-3.ensures.value) ∙ is))

pub returns-clause-going : goal.returns-clause-going
returns-clause-going c =
    let ps = c.args.profiles.now in
    let ns = c.args.numbers.now in
    let all = c.in_ok-tables.field-0 in
    let ts = all.tables.items in
    let us = all.untold.items in
    let alike = c.in_ok-tables.ensures.alike in
    going_by ts (SameBut us ps ns (length ps)) c.args.count c.args.held.now c.in_ok-going.going
    (λ gone same. to_same_but us ps ns (length ps) gone (alike.same gone none_gone same)) (λ gone same. alike.told gone none_gone (from_same_but us ps ns (length ps) gone same))
    (subst (λ (xs : List Table). AreGoing (SameTables xs) c.args.count c.args.held.now c.in_ok-going.going) c.as_slice.ensures.value c.in_ok-going.ensures)

pub returns-clause-reasons : goal.returns-clause-reasons
returns-clause-reasons c =
    let ps = c.args.profiles.now in
    let ns = c.args.numbers.now in
    let all = c.in_ok-tables.field-0 in
    let ts = all.tables.items in
    let us = all.untold.items in
    let rs = c.in_ok-reasons.reasons.items in
    reasons_by ts (HoldsBut ProfileAlike KeptAlike us ps ns (length ps)) (HoldsBut ProfileWithin KeptWithin us ps ns (length ps)) c.in_ok-tables.ensures.alike
    c.in_ok-tables.ensures.within c.in_ok-going.going.alone.items rs
    (subst (λ (fs : List Bool). AreReasons (TablesRelated Equal ts) (TablesRelated Within ts) fs rs) c.as_slice-3.ensures.value
    (subst (λ (xs : List Table). AreReasons (TablesRelated Equal xs) (TablesRelated Within xs) c.as_slice-3.result.now rs) c.as_slice-2.ensures.value c.in_ok-reasons.ensures))
