use Rattle.std.proofs.Common.{[], ◌++◌, ◌∷◌, ap, sym, subst, ◌∙◌}
use Rattle.aa_auto.specs.Listed.{Listing, AddsRow}
use Rattle.aa_auto.proofs.ListedLemmas.{adds_row, grown_by}
use Rattle.aa_auto.proofs.ExploredLemmas.{got}
use Rattle.aa_auto.proofs.lists.Lists.add.Goals as goal

pub returns : goal.returns
returns c =
    let added = c.insert.new.self in
    subst (λ (l : Listing). AddsRow c.args.self.now (record { lists = l.lists; listed = c.push.new.self }) c.args.numbers.now) (sym c.self.view_is)
    (adds_row c.args.self.now (record { lists = added.lists; listed = c.push.new.self }) c.args.numbers.now c.in_ok-number.number c.requires.listing
    (grown_by c.in_ok-number.field-0-1 c.args.self.now.lists added.lists c.args.numbers.now c.in_ok-number.ensures.grows)
    (got added.lists c.in_ok-number.number c.args.numbers.now [] c.in_ok-number.ensures.found)
    (c.in_ok-push.ensures ∙ ap (λ z. z ++ c.in_ok-number.number ∷ []) (ap (λ (l : Listing). l.listed) c.self.view_is ∙ c.in_ok-number.ensures.listed))
    c.in_ok-number.ensures.apart)
