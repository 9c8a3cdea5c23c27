use Rattle.std.proofs.Common.{subst, sym, Bool}
use Rattle.aa_glob.specs.Pieces.{pieces_from}
use Rattle.aa_glob.specs.Settled.{AreEnds}
use Rattle.aa_glob.specs.Known.{AreKnown}
use Rattle.aa_glob.specs.Ways.{items_of}
use Rattle.aa_glob.proofs.Tables.{known_at}
use Rattle.aa_glob.proofs.Stacks.{split, build_defined, build_opens, build_blank, build_into, steps_into}
use Rattle.aa_glob.proofs.building.enter.Goals as goal

pub nonzero_div-left : goal.nonzero_div-left
nonzero_div-left c = (split c.requires.building.2 c.args.behind c.args.keep (c.requires.right c.args.name.now _ c.known_summary-known.ensures) c.requires.next).some

pub nonzero_rem-next : goal.nonzero_rem-next
nonzero_rem-next c = (split c.requires.building.2 c.args.behind c.args.keep (c.requires.right c.args.name.now _ c.known_summary-known.ensures) c.requires.next).any

pub nonzero_div-top : goal.nonzero_div-top
nonzero_div-top c = (split c.requires.building.2 c.args.behind c.args.keep (c.requires.right c.args.name.now _ c.known_summary-known.ensures) c.requires.next).any

pub returns-then-known-clause-ok : goal.returns-then-known-clause-ok
returns-then-known-clause-ok c = λ text t b. build_blank b c.args.behind c.args.keep (c.requires.right c.args.name.now _ c.known_summary-known.ensures) c.requires.next c.if-known.true

pub unreachable-requires : goal.unreachable-requires
unreachable-requires c = build_defined c.requires.building.2 c.args.behind c.args.keep (c.requires.right c.args.name.now _ c.known_summary-known.ensures) c.requires.next c.in_default.field-0 c.in_default.ensures.err

pub value_at-value-requires : goal.value_at-value-requires
value_at-value-requires c =
    let right = c.requires.right c.args.name.now c.known_summary-known.result.now c.known_summary-known.ensures in
    let o = build_opens c.requires.building.2 c.args.behind c.args.keep right c.requires.next (items_of c.in-Ok.values.now) c.in-Ok.ensures.ok.0 c.in-Ok.ensures.ok.1 in
    (o.below, c.args.vars.now, _, subst (AreEnds c.args.vars.now 0 (items_of c.in-Ok.values.now)) (sym c.as_slice.ensures.value) (right.ends (items_of c.in-Ok.values.now) c.in-Ok.ensures.ok.1), o.has)

pub returns-clause-ok : goal.returns-clause-ok
returns-clause-ok c = λ text t b.
    let right = c.requires.right c.args.name.now c.known_summary-known.result.now c.known_summary-known.ensures in
    let o = build_opens b c.args.behind c.args.keep right c.requires.next (items_of c.in-Ok.values.now) c.in-Ok.ensures.ok.0 c.in-Ok.ensures.ok.1 in
    build_into b c.args.behind c.args.keep right c.requires.next o c.value_at-value.result c.in_ok-push.ensures.items
    (subst (λ (k : Bool). AreKnown c.args.done.now.entries (pieces_from k 0 c.value_at-value.result.text.now)) (sym c.value_at-value.ensures.fresh)
    (known_at c.args.done.now.entries
    (items_of c.in-Ok.values.now) c.value_at-value.result.text.now c.value_at-value.ensures.among.0 c.value_at-value.ensures.among.1 c.value_at-value.ensures.among.2
    (right.closed (items_of c.in-Ok.values.now) c.in-Ok.ensures.ok.1)))
    (c.value_at-value.ensures.stands o.below c.args.vars.now _
    (subst (AreEnds c.args.vars.now 0 (items_of c.in-Ok.values.now)) (sym c.as_slice.ensures.value) (right.ends (items_of c.in-Ok.values.now) c.in-Ok.ensures.ok.1)) o.has)

pub returns-clause-less : goal.returns-clause-less
returns-clause-less c =
    let right = c.requires.right c.args.name.now c.known_summary-known.result.now c.known_summary-known.ensures in
    let o = build_opens c.requires.building.2 c.args.behind c.args.keep right c.requires.next (items_of c.in-Ok.values.now) c.in-Ok.ensures.ok.0 c.in-Ok.ensures.ok.1 in
    steps_into c.requires.building.2 c.args.behind c.args.keep right c.requires.next o c.value_at-value.result c.in_ok-push.ensures.items c.in-Ok.ensures.ok.1 c.value_at-value.ensures.fresh c.value_at-value.ensures.among
