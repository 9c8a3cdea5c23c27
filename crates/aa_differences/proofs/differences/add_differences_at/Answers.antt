use Rattle.std.proofs.Common.{Err, refl, ap, ◌∙◌}
use Rattle.std.proofs.lemmas.Result.{on_ok_weaker}
use Rattle.aa_differences.proofs.SameReplies.{bodies_alike}
use Rattle.aa_differences.proofs.Listing.{adds_nothing, adds_found, adds_labels, exceeds}
use Rattle.aa_differences.proofs.differences.add_differences_at.Goals as goal

pub returns-then-same_body_at : goal.returns-then-same_body_at
returns-then-same_body_at c =
    adds_nothing c.args.old.now c.args.new.now c.args.limit c.args.from c.args.to c.args.found.now
    (bodies_alike c.args.old.now c.args.new.now (c.requires.heads c.if-has_same_heads.true) c.args.from c.args.to (c.same_body_at.ensures c.if-same_body_at.true))

pub returns-in_ok-append-in-Ok : goal.returns-in_ok-append-in-Ok
returns-in_ok-append-in-Ok c =
    adds_found c.args.old.now c.args.new.now c.args.limit c.args.from c.args.to c.args.found.now
    (record { differences = c.append.new.self; untold = c.args.found.now.untold }) c.in-Ok.more.items
    c.in_ok-append-in-Ok.ensures.items refl c.in-Ok.ensures.each c.in-Ok.ensures.all

pub returns-in-Err : goal.returns-in-Err
returns-in-Err c =
    let ps = c.args.old.now in
    let qs = c.args.new.now in
    on_ok_weaker c.add_untold.result
    (λ h. adds_labels ps qs c.args.limit c.args.found.now c.add_untold.new.found (record { from = c.args.from; to = c.args.to; why = h.0 })
    c.add_untold.ensures.differences h.2
    (record {
      labels = c.requires.labels;
      exceed = exceeds ps qs c.args.limit c.args.from c.args.to h.0 c.label_differences.result (c.in-Err.is ∙ ap Err h.1)
          c.label_differences.ensures.many_patterns c.label_differences.ensures.many_states;
    })) c.add_untold.ensures.untold
