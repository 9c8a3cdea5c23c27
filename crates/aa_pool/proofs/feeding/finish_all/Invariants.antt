use Rattle.std.proofs.Common.{◌≡◌, ◌+◌, ◌≤◌, ◌++◌, All, true, map, length, vec_len, vec_capacity}
use Rattle.aa_lane.specs.Ends.{known}
use Rattle.aa_pool.specs.Fed.{answers_of}
use Rattle.aa_pool.proofs.feeding.finish_all.Given as goal

abbrev pub invariant-loop-feed : goal.invariant-loop-feed
invariant-loop-feed g l = record {
  answers : map (λ f. f.answers.items) l.finished.items ++ map (answers_of g.M.Machine.next g.M.Machine.reply) l.feed-iterator.rest.items ≡ map (answers_of g.M.Machine.next g.M.Machine.reply) l.fn.feeds.items;
  of : map (λ f. f.leaver.lane) l.finished.items ++ map (λ f. known f.lane) l.feed-iterator.rest.items ≡ map (λ f. known f.lane) l.fn.feeds.items;
  machine : All (λ f. f.lane.machine ≡ l.machine) l.feed-iterator.rest.items;
  finished : All (λ f. f.finished ≡ true) l.feed-iterator.rest.items;
  room : vec_len l.finished + length l.feed-iterator.rest.items ≤ vec_capacity l.finished;
}
