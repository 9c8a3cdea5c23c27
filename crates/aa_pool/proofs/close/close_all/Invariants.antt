use Rattle.std.proofs.Common.{◌≡◌, ◌+◌, ◌≤◌, ◌++◌, map, length, vec_len, vec_capacity}
use Rattle.aa_lane.specs.Ends.{known, new_shutter}
use Rattle.aa_pool.specs.Closed.{WereClosed}
use Rattle.aa_pool.proofs.close.close_all.Given as goal

abbrev pub invariant-loop-lane : goal.invariant-loop-lane
invariant-loop-lane g l = record {
  owners : map (λ f. f.leaver.lane) l.finished.rest.items ≡ map known l.lane-iterator.rest.items;
  servers : map (λ s. s.lane) l.servers.rest.items ≡ map known l.lane-iterator.rest.items;
  shutters : l.shutters.rest.items ≡ map new_shutter l.lane-iterator.rest.items;
  answers : map (λ o. o.answers.items) l.outcomes.items ++ map (λ f. f.answers.items) l.finished.rest.items ≡ map (λ f. f.answers.items) l.fn.finished.items;
  closed : (os : _) → WereClosed g.M.Machine.next g.M.Machine.reply l.lane-iterator.rest.items os → WereClosed g.M.Machine.next g.M.Machine.reply l.fn.lanes.items (l.outcomes.items ++ os);
  room : vec_len l.outcomes + length l.lane-iterator.rest.items ≤ vec_capacity l.outcomes;
}
