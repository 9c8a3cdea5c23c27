use Rattle.std.proofs.Common.{◌≡◌, ◌∙◌, ℕ, List, Bool, not, length, refl, ap, subst}
use Rattle.std.specs.List.{filter}
use Rattle.aa_redundancy.specs.Without.{marked}
use Rattle.aa_redundancy.specs.Keeping.{Keeps}
use Rattle.aa_redundancy.proofs.Reasoning.{reason_is}
use Rattle.aa_redundancy.proofs.reasons.reason_of.Goals as goal

pub returns-clause-reason : goal.returns-clause-reason
returns-clause-reason c =
    let ts = c.args.tables.now in
    let count = length c.args.listed.now in
    let i = c.args.place in
    let b = c.leave_out_all.new.beside in
    let x = c.is_covered-is_covered.new.beside in
    let covers = c.is_covered-is_covered.ensures in
    let wide : length c.keep_enough.new.beside.gone.items ≡ count = c.in_ok-keep_enough.ensures.keeps.wide ∙ c.begin.ensures.wide ∙ c.requires.none.gone.wide in
    let keeps = subst (λ (n : ℕ). Keeps n i b) wide c.leave_out_all.ensures.keeps in
    let left : c.in_ok-left.left.items ≡ filter (λ n. not (marked b.gone.items n)) b.kept.items =
    c.in_ok-left.ensures ∙ ap (λ (fs : List Bool). filter (λ n. not (marked fs n)) x.kept.items) covers.gone ∙ ap (filter (λ n. not (marked b.gone.items n))) covers.kept in
    reason_is ts count i b keeps (record { place = i; beside = c.in_ok-left.left; is_covered = c.is_covered-is_covered.result }) refl left c.leave_out_all.ensures.enough c.leave_out_all.ensures.needed covers.covered covers.overruled
