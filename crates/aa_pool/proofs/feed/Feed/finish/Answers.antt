use Rattle.std.proofs.Common.{◌≡◌, ◌++◌, map, true, sym, ap, ◌∙◌}
use Rattle.std.specs.Option.{is_none}
use Rattle.aa_lane.specs.Answers.{answered_from}
use Rattle.aa_pool.proofs.Answering.{is_left, has_collected}
use Rattle.aa_pool.proofs.feed.Feed.finish.Goals as goal

pub invariant_of-result : goal.invariant_of-result
invariant_of-result g c =
    let next = g.M.Machine.next in
    let reply = g.M.Machine.reply in
    let lane = c.self.inside.lane.now in
    let done = c.self.inside.answered.items in
    let left = c.self.inside.left.items in
    let finished : is_none c.self.inside.owner ≡ true = ap (λ f. f.finished) c.self.view_is ∙ c.requires.finished in
    let machine : c.args.machine.now ≡ c.self.inside.lane.now.machine = c.requires.machine ∙ sym (ap (λ f. f.lane.machine) c.self.view_is) in
    let start : c.self.inside.start ≡ c.self.inside.lane.now.start = c.self.inside.opened in
    let has = is_left next reply lane c.self.inside.owner c.self.inside.leaver done left c.self.inside.sent _ c.self.inside.is_open c.in-Some.leaver c.self.invariant finished c.in-Some.is in
    record {
      all = has_collected next reply lane c.in-Some.leaver done c.decide_rest-answers.result.items left has
          (c.decide_rest-answers.ensures ∙ (λ i. answered_from next reply (machine i) 0 (start i) (map (λ a. a.request) done ++ left)));
    }
