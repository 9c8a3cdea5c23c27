use Rattle.std.proofs.Common.{List, ◌++◌, refl, map, subst}
use Rattle.aa_passed_over.specs.declared.listed.ListedRule.{ListedRule}
use Rattle.aa_passed_over.specs.Listed.{listed}
use Rattle.aa_passed_over.specs.Apart.{text_of, apart, aside, alone, GoesOn}
use Rattle.aa_passed_over.proofs.Keeping.{goes_end, first_is}
use Rattle.aa_passed_over.proofs.apart.push_alone.Goals as goal

pub loop-rest-init : goal.loop-rest-init
loop-rest-init c = record { texts = map text_of (map listed c.args.others.now); kept = c.in_ok-seen.ensures; goes_on = refl }

pub loop-rest-preserved : goal.loop-rest-preserved
loop-rest-preserved c =
    let whole = map apart c.args.found.now.items ++ map (aside c.args.profile c.args.side) (alone (map listed c.args.rules.now) (map listed c.args.others.now)) in
    c.in_ok-push_new.ensures _ whole
    (subst (λ (l : List ListedRule). GoesOn c.args.profile c.args.side c.loop-rest.seen.entries (map apart c.loop-rest.found.items) (map listed l) whole)
    (first_is c.loop-rest.rest.now c.rule-item.result c.in-len1-up.len_at_least c.rule-item.is) c.loop-rest.invariant)

pub returns : goal.returns
returns c = goes_end c.args.profile c.args.side c.loop-rest.seen.entries (map apart c.loop-rest.found.items) c.loop-rest.rest.now _ c.in_default.len_below c.loop-rest.invariant
