use Rattle.std.proofs.Common.{◌≡◌, ◌≢◌, slice_get, length, arith, refl, Some}
use Rattle.std.proofs.lemmas.Option.{slice_get_read}
use Rattle.aa_lane.proofs.WorldStates.{answering_lawful, finishes}
use Rattle.aa_lane.proofs.world.World.finish.Goals as goal
use Rattle.aa_lane.proofs.world.World.finish.Given as given

module _ (g : given.Over) (c : goal.After-self-1 g) where
  ne : c.self.inside.taken ≢ length c.self.inside.answers.items
  ne = λ e. c.if-self-number.false (omega (arith, c.len-number.ensures, c.self.inside.answers.ok))

  there : slice_get c.self.inside.accepted.items (length c.self.inside.answers.items) ≡ Some c.index.result.now
  there =
      let h = c.self.invariant in
      let n : c.len-number.result ≡ length c.self.inside.answers.items = omega (arith, c.len-number.ensures, c.self.inside.answers.ok) in
      slice_get_read c.self.inside.accepted.items _ _ _ refl (let x = ne in omega arith) (rw (← n) c.index.ensures)

pub invariant_of-self-2 : goal.invariant_of-self-2
invariant_of-self-2 g c =
    rw (c.push_reserved.ensures.items, c.reserve.ensures.items, c.step-answer.ensures.answer, c.step-answer.ensures.state)
    (answering_lawful g.M.Machine.next g.M.Machine.reply _ c.index.result.now c.self.invariant (ne g c) (there g c))

pub returns-clause-after : goal.returns-clause-after
returns-clause-after g c =
    rw (← c.self.view_is, c.push_reserved.ensures.items, c.reserve.ensures.items, c.step-answer.ensures.answer, c.step-answer.ensures.state)
    (finishes g.M.Machine.next g.M.Machine.reply _ c.index.result.now (ne g c) (there g c))
