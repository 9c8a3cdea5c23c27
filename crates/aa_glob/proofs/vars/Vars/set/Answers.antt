use Rattle.std.proofs.Common.{◌≡◌, ◌∙◌, ap, arith, false, List, map, sym}
use Rattle.aa_glob.specs.NamePlaces.{place_of}
use Rattle.aa_glob.specs.Variables.{variable, has_name}
use Rattle.aa_glob.proofs.VarSteps.{Entry, places_pushed}
use Rattle.aa_glob.proofs.vars.Vars.set.Goals as goal

pub invariant_of-self-in-Ok : goal.invariant_of-self-in-Ok
invariant_of-self-in-Ok c = λ q.
    let absent : has_name c.in_ok-copy.copy.items (map variable c.self.inside.table.items) ≡ false =
    ap (λ n. has_name n (map variable c.self.inside.table.items)) c.in_ok-copy.ensures.items ∙ ap (has_name c.args.name.now) c.self.view_is ∙ sym c.place_of.ensures.there ∙ sym c.is_some.ensures ∙ c.if-is_some.false in
    places_pushed c.self.inside.places.entries c.insert.new.self.entries c.self.inside.table.items c.in_ok-key.key c.in_ok-copy.copy c.in_ok-list.list c.len-place.result c.self.invariant absent
    (c.in_ok-key.ensures.items ∙ sym c.in_ok-copy.ensures.items) (omega (arith, c.len-place.ensures, c.self.inside.table.ok)) c.in-Ok.ensures.updates.1 c.in-Ok.ensures.updates.3 q
    ∙ ap (λ (es : List Entry). place_of q (map variable es)) (sym c.in_ok-push.ensures.items)
