use Rattle.std.proofs.Common.{◌≡◌, ℕ, List, ◌+◌, ◌++◌, ◌∷◌, [], length, length-append}
use Rattle.aa_lane.specs.Log.{by}
use Rattle.aa_lane.specs.declared.cells.Who.TheVariants.{ByOwner}
use Rattle.aa_lane.specs.declared.event.Event.TheVariants.{Send, Shut}
use Rattle.aa_lane.specs.declared.event.Reply.TheVariants.{Accepted, Count}
use Rattle.aa_lane.proofs.Logs.{log_laws}
use Rattle.aa_lane_tests.proofs.lane.generic.sends_and_leaves.Goals as goal

-- an entry of a number after one of a number, where both numbers are known
in_order : {E : Type 0} (u v w : List E) (accepted count : ℕ → E) (k m n : ℕ) → w ≡ v ++ count n ∷ [] → v ≡ u ++ accepted k ∷ [] → k ≡ m → n ≡ m + 1 → w ≡ (u ++ accepted m ∷ []) ++ count (m + 1) ∷ []
in_order u v w accepted count k m n last before is_m is_more = cc

pub returns-in-Ok : goal.returns-in-Ok
returns-in-Ok g c =
    let laws = log_laws g.M.Machine.next g.M.Machine.reply in
    let s = c.in-Ok.ensures {u = tt} in
    let sends = laws.once _ _ _ _ c.args.owner.log c.send.new.self.log _ _ s.happens in
    let leaves = laws.once _ _ _ _ _ _ _ _ c.exit.ensures.happens in
    let count : length c.send.new.self.sent ≡ length c.args.owner.sent + 1 = rw (s.accepted.2) (length-append c.args.owner.sent (c.args.request ∷ [])) in
    in_order _ (by ByOwner c.send.new.self.log) _ (λ n. (Send c.args.request, Accepted n)) (λ n. (Shut, Count n)) _ _ _ leaves sends s.accepted.1 count
