use Rattle.std.proofs.Common.{◌+◌, ◌∷◌, [], length, refl, sym, ap, subst, arith}
use Rattle.std.proofs.lemmas.Result.{IfOk-weaker}
use Rattle.std.specs.List.{slice_get}
use Rattle.aa_auto.specs.Tables.{HasPlaces}
use Rattle.aa_auto.specs.Pairs.{IsBuilt}
use Rattle.aa_auto.proofs.FewLemmas.{places_left}
use Rattle.aa_auto.proofs.JoinLemmas.{can_move}
use Rattle.aa_compile.specs.Rows.{patterns_of}
use Rattle.aa_compile.proofs.HeldLemmas.{profile_there}
use Rattle.aa_representatives.specs.Alike.{filing_at}
use Rattle.aa_representatives.proofs.Making.{err_same, filing_is}
use Rattle.aa_representatives.proofs.more.filing_in_this_and.Goals as goal

pub beside-requires-clause-moved : goal.beside-requires-clause-moved
beside-requires-clause-moved c =
    let ps = c.args.compiled.now.profiles in
    let n = c.args.number in
    let there = profile_there ps n c.requires.there in
    can_move (patterns_of there.0.files) c.file_automaton.result.now 1 (c.file_automaton.ensures there.0 there.1).automaton
    (omega (arith, c.requires.few, ap length (filing_is ps n there.0 there.1)))

pub returns-in_err-first-clause-too_many : goal.returns-in_err-first-clause-too_many
returns-in_err-first-clause-too_many c = λ e.
    places_left (c.args.more.now ∷ []) (filing_at (slice_get c.args.compiled.now.profiles c.args.number)) (c.args.limit + 1)
    (c.in_err-first.ensures.too_many (err_same c.from_residual.result _ _ c.from_residual.ensures.1 e))

pub returns-clause-built : goal.returns-clause-built
returns-clause-built c =
    let ps = c.args.compiled.now.profiles in
    let n = c.args.number in
    let there = profile_there ps n c.requires.there in
    IfOk-weaker c.beside.result _ _ (λ t made. subst (λ qs. IsBuilt (c.args.more.now ∷ qs) t) (sym (filing_is ps n there.0 there.1))
    (made (c.args.more.now ∷ []) (patterns_of there.0.files) c.in_ok-first.ensures.built (c.file_automaton.ensures there.0 there.1) refl))
    c.beside.ensures.automaton

pub returns-clause-too_many : goal.returns-clause-too_many
returns-clause-too_many c = λ e.
    let ps = c.args.compiled.now.profiles in
    let n = c.args.number in
    let there = profile_there ps n c.requires.there in
    subst (λ qs. HasPlaces (c.args.more.now ∷ qs) (c.args.limit + 1)) (sym (filing_is ps n there.0 there.1))
    (c.beside.ensures.too_many e (c.args.more.now ∷ []) (patterns_of there.0.files) c.in_ok-first.ensures.built (c.file_automaton.ensures there.0 there.1))
