use Rattle.std.proofs.Common.{◌≡◌, List, Bool, length, sym, ap, ◌∙◌, subst}
use Rattle.std.proofs.lemmas.Result.{IfOk-weaker}
use Rattle.aa_files.specs.Texts.{slices}
use Rattle.aa_command.specs.declared.output.Output.{Output}
use Rattle.aa_command.specs.Printed.{printed}
use Rattle.aa_redundancy.specs.Going.{AreGoing}
use Rattle.aa_redundant.specs.Places.{all_places}
use Rattle.aa_redundant.specs.Leading.{AreOpen}
use Rattle.aa_redundant.specs.Accepted.{held}
use Rattle.aa_redundant.specs.Command.{Spares, redundant_printed, IsRedundantOf}
use Rattle.aa_redundant.proofs.Staying.{answers_stay}
use Rattle.aa_redundant.proofs.Standing.{nothing_matches}
use Rattle.aa_redundant.proofs.command.redundant_by_numbers.Goals as goal

pub returns : goal.returns
returns c =
    let d = c.args.decided in
    let us = d.units.now in
    let ps = all_places d in
    let o = c.args.options.now in
    let lines = slices c.args.lines.now in
    let skipped = c.args.skipped.now in
    let r = c.in_ok-redundant.redundant in
    let unsure = c.as_slice-unsure.result.now in
    let are = subst (AreOpen d skipped) (sym c.as_slice-unsure.ensures.value) c.in_ok-marks.ensures in
    let is_held = c.as_slice.ensures.value ∙ c.in_ok-held.ensures ∙ ap (held us lines unsure) c.requires.places in
    let going = subst (λ (fs : List Bool). AreGoing (Spares d r.untold.items) (length ps) fs r.going) is_held c.in_ok-redundant.ensures.going in
    IfOk-weaker c.redundant_printed.result (λ (out : Output). printed out ≡ redundant_printed o.form lines skipped unsure d r)
    (λ (out : Output). IsRedundantOf c.args.states o lines skipped d (printed out))
    (λ out is. record {
      unsure = unsure;
      are_open = are;
      redundant = r;
      are = record {
        going = going;
        reasons = c.in_ok-redundant.ensures.reasons;
        answers = answers_stay c.spared_rules_change_no_reply.ensures d (held us lines unsure ps) r going;
        silent = nothing_matches c.rules_beside_none_match_nothing.ensures d (held us lines unsure ps) r going c.in_ok-redundant.ensures.reasons;
        untold = c.in_ok-redundant.ensures.untold;
      };
      is = is;
    }) c.redundant_printed.ensures
