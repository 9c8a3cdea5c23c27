use Rattle.std.proofs.Common.{ℕ, List, [], ◌∷◌, ◌++◌, map, sym, ap, subst, ◌∙◌}
use Rattle.std.proofs.lemmas.List.{map-append}
use Rattle.aa_passed_over.specs.Listed.{Listed, listed}
use Rattle.aa_passed_over.specs.Apart.{apart, aside, is_seen, AreSeen}
use Rattle.aa_passed_over.proofs.Keeping.{goes_known, goes_new}
use Rattle.aa_passed_over.proofs.apart.push_new.Goals as goal

pub returns-then-is_seen : goal.returns-then-is_seen
returns-then-is_seen c = λ rest whole g.
    goes_known _ _ _ _ _ rest whole (ap (is_seen c.args.seen.now.entries) (sym c.as_slice.ensures.value) ∙ sym c.if-is_seen.ensures) g

pub returns : goal.returns
returns c = λ rest whole g.
    let found = c.args.found.now.items in
    goes_new c.args.profile c.args.side c.args.seen.now.entries c.keep.new.seen.entries (map apart found) (map apart c.push.new.self.items) (listed c.args.rule.now) rest whole
    (ap (is_seen c.args.seen.now.entries) (sym c.as_slice.ensures.value) ∙ sym c.if-is_seen.ensures)
    (λ texts h. subst (λ (t : List ℕ). AreSeen c.keep.new.seen.entries (t ∷ texts)) c.as_slice-2.ensures.value (c.in_ok-keep.ensures texts h))
    (ap (map apart) c.in_ok-push.ensures.items ∙ map-append apart found _ ∙ ap (λ (r : Listed). map apart found ++ aside c.args.profile c.args.side r ∷ []) c.in_ok-copy_rule.ensures) g
