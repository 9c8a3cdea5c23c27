use Rattle.std.proofs.Common.{ℕ, ◌<◌, List, sym, ap, ◌∙◌, subst}
use Rattle.aa_redundancy.specs.Reasons.{is_one_of}
use Rattle.aa_redundancy.specs.declared.places.PlaceNumbers.{PlaceNumbers}
use Rattle.aa_redundant.specs.Leading.{open_places}
use Rattle.aa_redundant.proofs.command.open_marks.Goals as goal

pub returns : goal.returns
returns c =
    let d = c.args.decided in
    let skipped = c.args.skipped.now in
    let all = c.as_slice.ensures.value ∙ c.in_ok-places.ensures
    ∙ ap (λ (ns : List PlaceNumbers). open_places d.policies.now ns skipped) c.requires.numbers in record {
      wide = c.in_ok-flags.ensures.many ∙ c.requires.count;
      each = λ n lt. c.in_ok-flags.ensures.marks n (subst (λ (k : ℕ). n < k) (sym c.requires.count) lt) ∙ ap (λ (ns : List ℕ). is_one_of ns n) all;
    }
