use Rattle.std.proofs.Common.{◌+◌, ◌++◌, length, sym, ap, ◌∙◌, subst, arith, length-append}
use Rattle.std.proofs.lemmas.Result.{IfOk-weaker}
use Rattle.aa_auto.specs.Tables.{HasPlaces}
use Rattle.aa_auto.specs.Pairs.{IsBuilt}
use Rattle.aa_auto.proofs.FewLemmas.{places_left}
use Rattle.aa_compile.specs.Rows.{patterns_of}
use Rattle.aa_compile.specs.Checks.{attached_patterns}
use Rattle.aa_compile.specs.Transitions.{tops, children}
use Rattle.aa_compile.proofs.HeldLemmas.{profile_there}
use Rattle.aa_representatives.proofs.Making.{can_move_by, deciding_is, err_same, none_more}
use Rattle.aa_representatives.proofs.automata.in_this_profile.Goals as goal

pub beside-requires-clause-moved : goal.beside-requires-clause-moved
beside-requires-clause-moved c =
    let ps = c.args.compiled.now.profiles in
    let n = c.args.number in
    let there = profile_there ps n c.requires.there in
    let files = patterns_of there.0.files in
    let above = attached_patterns ps (tops ps) in
    let below = attached_patterns ps (children ps n) in
    can_move_by files above c.top_automaton.result.now _ (c.file_patterns-files.ensures.count there.0 there.1) c.top_automaton.ensures
    (omega (arith, c.requires.few, ap length (deciding_is ps n there.0 there.1), length-append (files ++ above) below))

pub beside-requires-2-clause-moved : goal.beside-requires-2-clause-moved
beside-requires-2-clause-moved c =
    let ps = c.args.compiled.now.profiles in
    let n = c.args.number in
    let there = profile_there ps n c.requires.there in
    let files = patterns_of there.0.files in
    let above = attached_patterns ps (tops ps) in
    let below = attached_patterns ps (children ps n) in
    can_move_by (files ++ above) below c.child_automaton.result.now _
    (omega (arith, length-append files above, c.file_patterns-files.ensures.count there.0 there.1, c.top_patterns-tops.ensures.count)) c.child_automaton.ensures
    (omega (arith, c.requires.few, ap length (deciding_is ps n there.0 there.1)))

pub returns-in_err-above-clause-too_many : goal.returns-in_err-above-clause-too_many
returns-in_err-above-clause-too_many c = λ e.
    let ps = c.args.compiled.now.profiles in
    let n = c.args.number in
    let there = profile_there ps n c.requires.there in
    let files = patterns_of there.0.files in
    let above = attached_patterns ps (tops ps) in
    let below = attached_patterns ps (children ps n) in
    subst (λ qs. HasPlaces qs (c.args.limit + 1)) (sym (deciding_is ps n there.0 there.1))
    (places_left (files ++ above) below (c.args.limit + 1)
    (c.in_err-above.ensures.too_many (err_same c.from_residual.result _ _ c.from_residual.ensures.1 e) files above
    (c.file_automaton.ensures there.0 there.1) c.top_automaton.ensures))

pub returns-then-has_none_below-clause-built : goal.returns-then-has_none_below-clause-built
returns-then-has_none_below-clause-built c =
    let ps = c.args.compiled.now.profiles in
    let n = c.args.number in
    let there = profile_there ps n c.requires.there in
    let files = patterns_of there.0.files in
    let above = attached_patterns ps (tops ps) in
    let below = attached_patterns ps (children ps n) in
    subst (λ qs. IsBuilt qs c.in_ok-above.above) (sym (deciding_is ps n there.0 there.1 ∙ none_more (files ++ above) below
    (c.has_none_below.ensures c.if-has_none_below.true)))
    (c.in_ok-above.ensures.automaton files above (c.file_automaton.ensures there.0 there.1) c.top_automaton.ensures
    (sym (c.file_patterns-files.ensures.count there.0 there.1)))

pub returns-clause-built : goal.returns-clause-built
returns-clause-built c =
    let ps = c.args.compiled.now.profiles in
    let n = c.args.number in
    let there = profile_there ps n c.requires.there in
    let files = patterns_of there.0.files in
    let above = attached_patterns ps (tops ps) in
    let below = attached_patterns ps (children ps n) in
    let before = c.in_ok-above.ensures.automaton files above (c.file_automaton.ensures there.0 there.1) c.top_automaton.ensures
    (sym (c.file_patterns-files.ensures.count there.0 there.1)) in
    IfOk-weaker c.beside-2.result _ _ (λ t made. subst (λ qs. IsBuilt qs t) (sym (deciding_is ps n there.0 there.1))
    (made (files ++ above) below before c.child_automaton.ensures
    (omega (arith, length-append files above, c.file_patterns-files.ensures.count there.0 there.1, c.top_patterns-tops.ensures.count))))
    c.beside-2.ensures.automaton

pub returns-clause-too_many : goal.returns-clause-too_many
returns-clause-too_many c = λ e.
    let ps = c.args.compiled.now.profiles in
    let n = c.args.number in
    let there = profile_there ps n c.requires.there in
    let files = patterns_of there.0.files in
    let above = attached_patterns ps (tops ps) in
    let below = attached_patterns ps (children ps n) in
    let before = c.in_ok-above.ensures.automaton files above (c.file_automaton.ensures there.0 there.1) c.top_automaton.ensures
    (sym (c.file_patterns-files.ensures.count there.0 there.1)) in
    subst (λ qs. HasPlaces qs (c.args.limit + 1)) (sym (deciding_is ps n there.0 there.1))
    (c.beside-2.ensures.too_many e (files ++ above) below before c.child_automaton.ensures)
