use Rattle.std.proofs.Common.{ap, ◌∙◌}
use Rattle.aa_glob.proofs.Runs.{signs_kept, signs_slash, signs_plain, signs_end_kept, signs_end}
use Rattle.aa_glob.proofs.reader.signs_of.Goals as goal
use Rattle.aa_glob.proofs.reader.signs_of.Goals.{then-kept+in_ok-push, else-kept+then-byte-eq92, else-kept+else-byte-eq92+in_ok-push-2, then-kept-2+in_ok-push-3, else-kept-2}

pub loop-byte-preserved : goal.loop-byte-preserved
loop-byte-preserved c =
    let front = c.loop-byte.found.items in let i = c.loop-byte.byte-index in let lt = c.loop-byte-test.true in let inv = c.loop-byte.invariant in
    elim c.if-kept.branch [
      | then-kept+in_ok-push w ↦ signs_kept _ _ front _ _ c.args.text.now i lt w.if-kept.true w.kept-is (ap (λ v. v.items) w.found-is ∙ w.in_ok-push.ensures.items) inv
      | else-kept+then-byte-eq92 w ↦ signs_slash _ _ front _ _ c.args.text.now i lt w.if-kept.false w.kept-is w.if-byte-eq92.true (ap (λ v. v.items) w.found-is) inv
      | else-kept+else-byte-eq92+in_ok-push-2 w ↦ signs_plain _ _ front _ _ c.args.text.now i lt w.if-kept.false (w.kept-is ∙ w.if-kept.false) w.if-byte-eq92.false
          (ap (λ v. v.items) w.found-is ∙ w.in_ok-push-2.ensures.items) inv
    ]

pub returns-clause-ok : goal.returns-clause-ok
returns-clause-ok c =
    let front = c.loop-byte.found.items in let i = c.loop-byte.byte-index in let ge = c.loop-byte-test.false in let inv = c.loop-byte.invariant in
    elim c.if-kept-2.branch [
      | then-kept-2+in_ok-push-3 w ↦ signs_end_kept _ front _ _ c.args.text.now i ge w.if-kept-2.true (ap (λ v. v.items) w.found-is ∙ w.in_ok-push-3.ensures.items) inv
      | else-kept-2 w ↦ signs_end _ front _ _ c.args.text.now i ge w.if-kept-2.false (ap (λ v. v.items) w.found-is) inv
    ]
