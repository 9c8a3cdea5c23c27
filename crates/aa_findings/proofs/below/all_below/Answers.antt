use Rattle.std.proofs.Common.{◌≡◌, List, ℕ, refl, ap, ◌∙◌, subst, arith}
use Rattle.aa_compile.specs.Attached.{numbers_below}
use Rattle.aa_findings.specs.Places.{lists, list_at}
use Rattle.aa_findings.specs.Below.{IsBelow, parent_at}
use Rattle.aa_findings.proofs.Parents.{more_below}
use Rattle.aa_findings.proofs.below.all_below.Goals as goal

pub loop-place-preserved : goal.loop-place-preserved
loop-place-preserved c =
    let profiles = c.args.profiles.now in
    let n = c.loop-place.place in
    let more = c.in_ok-push_below.ensures in
    let lt = c.loop-place-test.true in
    let many = c.in_ok-groups.ensures.many in
    let group : c.list_at.result.now ≡ numbers_below (parent_at n) 0 profiles =
    c.list_at.ensures ∙ ap (λ vs. list_at (lists vs) n) c.as_slice.ensures.value ∙ c.in_ok-groups.ensures.each n (omega (arith, lt, many, c.len-place-end.ensures)) in
    more_below profiles c.args.limit n (parent_at n) c.loop-place.all.items c.push_below.new.all.items more.0 refl c.loop-place.invariant
    (subst (λ (g : List ℕ). IsBelow profiles g c.args.limit more.0) group more.1) more.2
