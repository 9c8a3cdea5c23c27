use Rattle.std.proofs.Common.{◌≡◌, ◌++◌, ◌∷◌, [], Some, slice_get, ap, sym, subst, ◌∙◌}
use Rattle.aa_auto.specs.Apart.{IsApart}
use Rattle.aa_auto.specs.Listed.{Listing}
use Rattle.aa_auto.proofs.SetsLemmas.{apart_sets, found_by, added_last, found_last, length_map}
use Rattle.aa_auto.proofs.lists.Lists.insert.Goals as goal

pub returns-in-Some-clause-found : goal.returns-in-Some-clause-found
returns-in-Some-clause-found c =
    subst (λ z. slice_get z c.in-Some.number ≡ Some c.args.numbers.now) (ap (λ (l : Listing). l.lists) c.self.view_is) (found_by c.self.inside.keys.keys c.in-Some.number c.args.numbers.now (sym c.in-Some.ensures.index))

pub returns-in-Some-clause-apart : goal.returns-in-Some-clause-apart
returns-in-Some-clause-apart c = subst IsApart (ap (λ (l : Listing). l.lists) c.self.view_is) (apart_sets c.self.inside.keys.keys c.len-many.ensures.unique)

pub returns-clause-grows : goal.returns-clause-grows
returns-clause-grows c =
    added_last c.self.inside.keys.keys c.insert.new.self.keys c.args.numbers.now c.in_ok-numbers.numbers c.in_ok-numbers.ensures.items c.in_default.ensures.found c.in_ok-insert.ensures.keys
    ∙ ap (λ z. z ++ c.args.numbers.now ∷ []) (ap (λ (l : Listing). l.lists) c.self.view_is)

pub returns-clause-found : goal.returns-clause-found
returns-clause-found c =
    found_last _ _ c.args.numbers.now c.len-many.result
    (added_last c.self.inside.keys.keys c.insert.new.self.keys c.args.numbers.now c.in_ok-numbers.numbers c.in_ok-numbers.ensures.items c.in_default.ensures.found c.in_ok-insert.ensures.keys)
    (c.len-many.ensures.len ∙ sym (length_map c.self.inside.keys.keys))

pub returns-clause-apart : goal.returns-clause-apart
returns-clause-apart c = apart_sets c.insert.new.self.keys c.in_ok-insert.ensures.unique
