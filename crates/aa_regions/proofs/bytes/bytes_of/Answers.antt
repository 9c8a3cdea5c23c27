use Rattle.std.proofs.Common.{◌<◌, ◌≤◌, subst, sym, arith, ⊎_elim}
use Rattle.std.specs.Prelude.{slice_index}
use Rattle.std.proofs.lemmas.Bool.{cases_lt}
use Rattle.aa_regions.specs.Bytes.{HasClass, IsMarked}
use Rattle.aa_regions.proofs.bytes.bytes_of.Goals as goal

pub returns-clause-each : goal.returns-clause-each
returns-clause-each c = λ b from.
    let t = c.args.automaton.now in
    let class = slice_index t.classes b in
    let marked : IsMarked c.add_all-2.new.self.marked.items class =
    ⊎_elim
    (λ (l : b < 97). c.in_ok-add_all-2.ensures.marked b (omega (arith, c.from.ensures, from.0)) l)
    (λ (g : 97 ≤ b). c.in_ok-add_all-2.ensures.stay class (c.in_ok-add_all.ensures.marked b g from.1))
    (cases_lt b 97) in
    subst (λ bs. HasClass t bs class) (sym c.into_bytes.ensures) (c.in_ok-add_all-2.ensures.met.each class marked)
