use Rattle.std.proofs.Common.{◌≡◌, ◌++◌, List, [], ◌∷◌, ℕ, length, map, Option, Some, None, refl, sym, ap, ◌∙◌}
use Rattle.std.specs.List.{slice_get}
use Rattle.std.proofs.lemmas.List.{append-nil, map-append}
use Rattle.std.proofs.lemmas.Option.{slice_get_read, slice_get_past}
use Rattle.aa_model.specs.declared.policy.Profile.{Profile}
use Rattle.aa_command.specs.Untold.{Untelling, untelling}
use Rattle.aa_redundant.specs.Untold.{untold_if, untold_of}
use Rattle.aa_redundant.proofs.untold.push_untold_at.Goals as goal

pub returns-in_ok-push-in-Some : goal.returns-in_ok-push-in-Some
returns-in_ok-push-in-Some c =
    let old = c.args.all.now.items in
    let ps = c.args.profiles.now in
    let n = c.args.one.number in
    let p = c.in-Some.profile.now in
    let there = c.in-Some.ensures.lookup in
    let here : slice_get ps n ≡ Some p = slice_get_read ps (length ps) n p refl there.3.0 there.1 in
    ap (map untelling) c.in_ok-push-in-Some.ensures.items ∙ (map-append untelling old (c.in_ok-untold_of-in-Some.field-0 ∷ [])
    ∙ (ap (λ (u : Untelling). map untelling old ++ u ∷ [])
    (c.in_ok-untold_of-in-Some.ensures ∙ ap (λ (name : List ℕ). untold_of name c.args.one.why) c.as_slice.ensures)
    ∙ sym (ap (λ (o : Option Profile). map untelling old ++ untold_if c.args.one.why o) here)))

pub returns-in-None : goal.returns-in-None
returns-in-None c =
    let old = map untelling c.args.all.now.items in
    let none : slice_get c.args.profiles.now c.args.one.number ≡ None =
    slice_get_past c.args.profiles.now c.args.one.number c.in-None.ensures.lookup.3 in
    sym (ap (λ (o : Option Profile). old ++ untold_if c.args.one.why o) none ∙ append-nil old)
