use Rattle.std.proofs.Common.{rules}
use Rattle.std.proofs.Common.{sym, ◌∙◌, ap}
use Rattle.aa_glob.proofs.ExpandSteps.{squeeze_left_out, squeeze_kept, squeeze_end}
use Rattle.aa_glob.proofs.expanding.squeeze.Goals as goal
use Rattle.aa_glob.proofs.expanding.squeeze.Goals.{then-not-repeats+in_ok-push, else-not-repeats}

pub loop-byte-preserved : goal.loop-byte-preserved
loop-byte-preserved c =
    elim c.if-not-repeats.branch [
      | then-not-repeats+in_ok-push w ↦ squeeze_kept c.loop-byte.found.items _ _ c.loop-byte.after c.args.text.now c.loop-byte.byte-index _ c.loop-byte-test.true
          (sym c.repeats.ensures ∙ w.if-not-repeats.true) (ap (λ v. v.items) w.found-is ∙ w.in_ok-push.ensures.items) c.loop-byte.invariant
      | else-not-repeats w ↦ rw w.found-is
          (squeeze_left_out c.loop-byte.found.items _ c.loop-byte.after c.args.text.now c.loop-byte.byte-index _ c.loop-byte-test.true
          (sym c.repeats.ensures ∙ w.if-not-repeats.false) c.loop-byte.invariant)
    ]

pub returns-clause-ok : goal.returns-clause-ok
returns-clause-ok c = search (rules, squeeze_end)
