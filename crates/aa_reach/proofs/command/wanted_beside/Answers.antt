use Rattle.std.proofs.Common.{◌≡◌, ◌+◌, List, true, sym, ap, ◌∙◌, subst}
use Rattle.aa_skipping.specs.declared.unread.Unread.{Unread}
use Rattle.aa_undecided.specs.Holding.{unreads}
use Rattle.aa_reachability.specs.Beside.{is_sure, AreOpenings}
use Rattle.aa_reachability.specs.Course.{unreads_of}
use Rattle.aa_reach.specs.Doubts.{IsShut, AreOpened}
use Rattle.aa_reach.proofs.Shutting.{shut_sure, told_rightly}
use Rattle.aa_reach.proofs.command.wanted_beside.Goals as goal
use Rattle.aa_command.specs.Counts.{count_of}

pub wanted-requires-clause-beside : goal.wanted-requires-clause-beside
wanted-requires-clause-beside c =
    let ps = c.args.decided.policies.now in
    let sk = c.args.skipped.now in
    let us = unreads_of c.as_slice.result.now in
    let openings = c.as_slice-2.result.now in
    let same : us ≡ unreads sk = ap unreads_of c.as_slice.ensures.value ∙ c.in_ok-unreads.ensures in
    let opened : AreOpened ps sk (count_of ps + 1) openings =
    subst (AreOpened ps sk (count_of ps + 1)) (sym c.as_slice-2.ensures.value) c.in_ok-openings.ensures in
    record {
      unread = same;
      rightly =
          subst (λ (list : List Unread). AreOpenings ps list openings) (sym same) (told_rightly ps sk openings opened c.closed_labels_are_decided.ensures);
      shut = λ l is. subst (λ (list : List Unread). is_sure list openings l ≡ true) (sym same) (shut_sure ps sk openings opened l is);
    }
