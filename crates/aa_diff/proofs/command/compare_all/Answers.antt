use Rattle.std.proofs.Common.{◌≡◌, ℕ, ◌<◌, Bool, true, false, List, length, Contains, sym, ap, ◌∙◌, subst, arith}
use Rattle.std.specs.Prelude.{◌==◌, ◌&&◌, not, if◌then◌else◌}
use Rattle.std.specs.List.{list_any}
use Rattle.std.proofs.lemmas.Result.{IfOk-weaker}
use Rattle.aa_files.specs.Texts.{texts}
use Rattle.aa_model.specs.declared.policy.Policy.{Policy}
use Rattle.aa_differences.specs.declared.at_labels.Difference.{Difference}
use Rattle.aa_differences.specs.declared.comparison.UntoldLabels.{UntoldLabels}
use Rattle.aa_differences.specs.Differences.{IsUntold}
use Rattle.aa_command.specs.declared.output.Output.{Output}
use Rattle.aa_command.specs.Printed.{Printed, printed}
use Rattle.aa_passed_over.specs.Apart.{ApartRule, all_apart}
use Rattle.aa_diff.specs.declared.options.DiffOptions.{DiffOptions}
use Rattle.aa_diff.specs.declared.finding.Finding.{Finding}
use Rattle.aa_diff.specs.declared.part.Part.{Part}
use Rattle.aa_diff.specs.Accepted.{findings_left, rules_left, gone_of}
use Rattle.aa_diff.specs.Findings.{does_count}
use Rattle.aa_diff.specs.Order.{in_order}
use Rattle.aa_diff.specs.Report.{lines_of}
use Rattle.aa_diff.specs.Unclean.{all_told_unclean}
use Rattle.aa_diff.specs.Untold.{AllUntold, all_untold, decided_of}
use Rattle.aa_diff.specs.Command.{reported, reported_but, compared, AreCompared}
use Rattle.aa_diff.proofs.command.compare_all.Goals as goal

-- whatever counts, and whatever isn't told, the status is low
low : (small none told : Bool) → (if small then (if none then (if told then 0 else 5) else 4) else 1) < 128
low true true true = omega arith
low true true false = omega arith
low true false told = omega arith
low false none told = omega arith

reported_low : (o : DiffOptions) (ps : List Policy) (fs : List Finding) (rs : List ApartRule) (gone : List ℕ) (a : AllUntold)
    → (reported o ps fs rs gone a).status < 128
reported_low o ps fs rs gone a =
    low (length a.too_large == 0) (not (list_any does_count fs) && length rs == 0) (length a.undecided == 0 && length a.not_compared == 0)

but_low : (o : DiffOptions) (accepted : List (List ℕ)) (ps : List Policy) (fs : List Finding) (rs : List ApartRule) (a : AllUntold)
    → (reported_but o accepted ps fs rs a).status < 128
but_low o accepted ps fs rs a =
    reported_low o ps (in_order ps (findings_left ps o.wanted accepted fs)) (rules_left ps o.wanted accepted rs) (gone_of ps accepted fs rs) a

compared_low : (o : DiffOptions) (limit : ℕ) (d e : Part) (xs : List Difference) (us : List UntoldLabels) → (compared o limit d e xs us).status < 128
compared_low o limit d e xs us =
    but_low o (texts o.accepted.now) d.decided.policies.now (all_told_unclean o.unclean (lines_of d.decided e.decided (decided_of d e xs)))
    (all_apart d.decided e.decided) (all_untold o.wanted limit d e us)

pub returns-clause-low : goal.returns-clause-low
returns-clause-low c =
    let o = c.args.options.now in
    let d = c.args.old in
    let e = c.args.new in
    let limit = c.limit_of-limit.result in
    let xs = c.in_ok-found.found.differences.items in
    let us = c.in_ok-found.found.untold.items in
    IfOk-weaker c.print_differences.result (λ (out : Output). printed out ≡ compared o limit d e xs us) (λ (out : Output). out.status < 128)
    (λ out is. subst (λ (n : ℕ). n < 128) (sym (ap (λ (p : Printed). p.status) is)) (compared_low o limit d e xs us)) c.print_differences.ensures

pub returns-clause-compared : goal.returns-clause-compared
returns-clause-compared c =
    let o = c.args.options.now in
    let d = c.args.old in
    let e = c.args.new in
    let limit = c.limit_of-limit.result in
    let xs = c.in_ok-found.found.differences.items in
    let us = c.in_ok-found.found.untold.items in
    IfOk-weaker c.print_differences.result (λ (out : Output). printed out ≡ compared o limit d e xs us) (λ (out : Output). AreCompared o c.args.states d e (printed out))
    (λ out is. record {
      differences = xs;
      untold = us;
      each = c.in_ok-found.ensures.each;
      large = subst (λ (n : ℕ). (u : UntoldLabels) → Contains us u → IsUntold d.decided.policies.now e.decided.policies.now n u) c.limit_of-limit.ensures.is c.in_ok-found.ensures.untold;
      all = c.in_ok-found.ensures.all;
      none = c.in_ok-found.ensures.none;
      is = is ∙ ap (λ (n : ℕ). compared o n d e xs us) c.limit_of-limit.ensures.is;
    }) c.print_differences.ensures
