use Rattle.std.proofs.lemmas.Grind.{common_steps}
use Rattle.std.proofs.Common.{◌≡◌, ℕ, ◌/◌, ◌≤◌, length, take, drop, sym, subst, arith, ⊎_elim, true≢false}
use Rattle.std.proofs.lemmas.Bool.{cases_lt}
use Rattle.std.proofs.lemmas.List.{take_rest}
use Rattle.aa_pattern.specs.Globs.{Matches}
use Rattle.aa_pattern.proofs.Rows.{Allows-Choice, weight-Choice}
use Rattle.aa_pattern.proofs.Equivalences.{not_true, ↔_trans, ↔_sym}
use Rattle.aa_pattern.proofs.FlagSteps.{weight_of_at}
use Rattle.aa_pattern.proofs.HalfSteps.{weight_front, weight_back, some_cut, no_cut, one_item, some_push, some_at}
use Rattle.aa_pattern.proofs.halves.+halves.Goals as goal
use Rattle.aa_pattern.proofs.halves.+halves.Goals.{matches_by_halves-else-matches_by_halves-via-then-matches_by_halves+else-matches_by_halves-2, matches_by_halves-else-matches_by_halves-via-else-matches_by_halves}

pub allows-some_matches-requires : goal.allows-some_matches-requires
allows-some_matches-requires t c = grind (arith, common_steps, weight-Choice)

pub allows-returns-in-Choice : goal.allows-returns-in-Choice
allows-returns-in-Choice t c = grind (arith, common_steps, Allows-Choice, ↔_trans, ↔_sym)

pub some_matches-matches_by_halves-requires : goal.some_matches-matches_by_halves-requires
some_matches-matches_by_halves-requires t c = grind (arith, common_steps, weight_of_at)

pub some_matches-returns-then-matches_by_halves : goal.some_matches-returns-then-matches_by_halves
some_matches-returns-then-matches_by_halves t c = grind (arith, common_steps, some_at)

pub some_matches-loop-branch-preserved : goal.some_matches-loop-branch-preserved
some_matches-loop-branch-preserved t c = grind (arith, common_steps, not_true, some_push)

pub matches_by_halves-returns-in-Some : goal.matches_by_halves-returns-in-Some
matches_by_halves-returns-in-Some t c =
    ↔_trans c.allows.ensures (↔_sym (one_item c.args.items.now c.in-Some.field-0-1.now c.in-Some.item.now c.args.text.now c.in-Some.ensures.cases.0 c.if-items-lt2.true))

pub matches_by_halves-matches_by_halves-requires : goal.matches_by_halves-matches_by_halves-requires
matches_by_halves-matches_by_halves-requires t c = grind (arith, common_steps, weight_front)

pub matches_by_halves-matches_by_halves-requires-then-matches_by_halves : goal.matches_by_halves-matches_by_halves-requires-then-matches_by_halves
matches_by_halves-matches_by_halves-requires-then-matches_by_halves t c = grind (arith, common_steps, weight_back)

pub matches_by_halves-returns-then-matches_by_halves-2 : goal.matches_by_halves-returns-then-matches_by_halves-2
matches_by_halves-returns-then-matches_by_halves-2 t c = grind (arith, common_steps, take_rest, some_cut)

pub matches_by_halves-returns-else-matches_by_halves : goal.matches_by_halves-returns-else-matches_by_halves
matches_by_halves-returns-else-matches_by_halves t c =
    let items = c.args.items.now in let text = c.args.text.now in let half = length c.args.items.now / 2 in let cut = c.loop-cut.cut in
    let last : Matches c.split_at.result.0.now (take cut text) → Matches c.split_at.result.1.now (drop cut text) → ⊥ =
    λ a m. elim c.else-matches_by_halves.branch [
      | matches_by_halves-else-matches_by_halves-via-then-matches_by_halves+else-matches_by_halves-2 w ↦ not_true w.matches_by_halves-then-matches_by_halves.result
          w.matches_by_halves-then-matches_by_halves.ensures w.if-matches_by_halves-2.false (rw take_rest m)
      | matches_by_halves-else-matches_by_halves-via-else-matches_by_halves w ↦ not_true c.matches_by_halves.result c.matches_by_halves.ensures w.if-matches_by_halves.false a
    ] in
    let none : (k : ℕ) → k ≤ length text → Matches (take half items) (take k text) → Matches (drop half items) (drop k text) → ⊥ =
    λ k le a m.
    let a' = subst (λ xs. Matches xs (take k text)) (sym c.split_at.ensures.front) a in
    let m' = subst (λ xs. Matches xs (drop k text)) (sym c.split_at.ensures.back) m in
    ⊎_elim (λ lt. c.loop-cut.invariant k lt a' m')
    (λ ge.
    let e : k ≡ cut = omega arith in
    last (subst (λ n. Matches c.split_at.result.0.now (take n text)) e a') (subst (λ n. Matches c.split_at.result.1.now (drop n text)) e m'))
    (cases_lt k cut) in
    (λ f. absurd (true≢false (sym f)), λ m. absurd (no_cut items half text none m))
