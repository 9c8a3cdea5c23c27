use Rattle.std.proofs.Common.{◌≡◌, ◌+◌, ◌∷◌, [], ◌∙◌, ap, arith, length, refl, Some, suc}
use Rattle.aa_glob.specs.Pieces.{Plain, Broken, pieces_from}
use Rattle.aa_glob.specs.Parts.{piece_of}
use Rattle.aa_glob.specs.Ways.{unread, unread_all}
use Rattle.aa_glob.specs.declared.pieces.Part.{Part}
use Rattle.aa_glob.proofs.Tables.{IsPut, put_in}
use Rattle.std.proofs.lemmas.List.{nil_from_length}
use Rattle.aa_glob.proofs.Walks.{walk_start, walk_part, walk_value, walk_values, walk_texts, walk_back, walk_end, walk_stops, unseen_less, unread_push}
use Rattle.aa_glob.proofs.walk.walk.Goals as goal

pub loop-part-init : goal.loop-part-init
loop-part-init c = rw c.new-stack.ensures.items (walk_start c.new-done.ensures.empty refl refl refl)

pub returns-in-Broken-clause-err : goal.returns-in-Broken-clause-err
returns-in-Broken-clause-err c = λ _.
    walk_stops c.loop-part.invariant Broken _ 0 (c.in-Some.ensures.first ∙ ap (λ (p : Part). piece_of p ∷ pieces_from c.in-Some.keep 0 c.in-Some.behind.now) c.in-Broken.is) (λ d h. refl)

pub returns-in-Err-clause-err : goal.returns-in-Err-clause-err
returns-in-Err-clause-err c = λ other. c.in-Err.ensures.err other c.args.raw.now c.loop-part.invariant

pub loop-part-preserved-in-Plain : goal.loop-part-preserved-in-Plain
loop-part-preserved-in-Plain c =
    walk_part c.loop-part.invariant c.in-Some.behind c.in-Some.keep (Plain c.in-Plain.field-0) 0 0 ((c.in-Plain.field-0 ∷ []) ∷ [])
    (c.in-Some.ensures.first ∙ ap (λ (p : Part). piece_of p ∷ pieces_from c.in-Some.keep 0 c.in-Some.behind.now) c.in-Plain.is) refl tt

pub loop-part-preserved-in-Ok : goal.loop-part-preserved-in-Ok
loop-part-preserved-in-Ok c = c.in-Ok.ensures.ok c.args.raw.now c.loop-part.invariant

pub loop-part-preserved-in-Some-split_first : goal.loop-part-preserved-in-Some-split_first
loop-part-preserved-in-Some-split_first c =
    walk_value c.loop-part.invariant c.as_slice.result c.in-Some-split_first.others c.in_default.ensures.first c.in-Some-split_first.ensures.cases.0 c.as_slice.ensures.value

pub loop-part-smaller : goal.loop-part-smaller
loop-part-smaller c =
    let put : IsPut c.loop-part.done.entries c.insert.new.self.entries c.loop-part.top.name.now (Some c.in_ok-summary.summary) =
    put_in c.loop-part.done.entries c.insert.new.self.entries c.loop-part.top.name _ c.in_ok-insert.field-0 c.in_ok-insert.ensures.old c.in_ok-insert.ensures.len c.in_ok-insert.ensures.updates.0 in
    let below : unread_all c.loop-part.stack.items ≡ unread_all c.pop.new.self.items + suc (unread c.in-Some-pop.below) = ap unread_all c.in-Some-pop.ensures.items ∙ unread_push c.pop.new.self.items c.in-Some-pop.below in
    omega (arith, below, unseen_less c.loop-part.done.entries c.insert.new.self.entries c.loop-part.top.name.now (Some c.in_ok-summary.summary) put c.args.vars.now)

pub returns-in_default-pop-clause-ok : goal.returns-in_default-pop-clause-ok
returns-in_default-pop-clause-ok c =
    walk_end c.loop-part.invariant (nil_from_length c.loop-part.stack.items (omega (arith, c.in_default-pop.ensures.cases.0, c.loop-part.stack.ok))) c.in_default.ensures.first (nil_from_length _ c.in_default-split_first.ensures.cases)

pub variable_summary-requires : goal.variable_summary-requires
variable_summary-requires c = walk_texts c.loop-part.invariant _ _ c.in-Some-pop.ensures.items c.in_default.ensures.first (nil_from_length _ c.in_default-split_first.ensures.cases)

pub loop-part-preserved : goal.loop-part-preserved
loop-part-preserved c =
    let called = walk_values c.loop-part.invariant _ _ c.in-Some-pop.ensures.items in
    walk_back c.loop-part.invariant _ _ c.in-Some-pop.ensures.items
    (put_in c.loop-part.done.entries c.insert.new.self.entries c.loop-part.top.name _ c.in_ok-insert.field-0 c.in_ok-insert.ensures.old c.in_ok-insert.ensures.len c.in_ok-insert.ensures.updates.0)
    c.in_default.ensures.first (nil_from_length _ c.in_default-split_first.ensures.cases) (λ depth right. c.in_ok-summary.ensures.texts depth c.args.vars.now c.loop-part.top.name.now right called.0 called.1)
    (c.in_ok-summary.ensures.ends (length c.loop-part.done.entries) c.args.vars.now (c.loop-part.invariant.right (length c.loop-part.done.entries) (omega arith)))
