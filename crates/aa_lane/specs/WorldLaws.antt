-- What holds of a world for good.
use Rattle.std.specs.Prelude.{◌≡◌, true, List, ◌++◌, length}
use Rattle.aa_lane.specs.WorldState.{WorldState, IsLawful, IsSettled, after_all, answer_to}
use Rattle.aa_lane.specs.declared.event.SendFault.TheVariants.{Closed}
use Rattle.aa_lane.specs.declared.event.Event.{Event}
use Rattle.aa_lane.specs.declared.event.Event.TheVariants.{Send, Take, Collect, Shut}
use Rattle.aa_lane.specs.declared.event.Reply.TheVariants.{Unsent, Settled, Nothing}

module _ {M S Q A : Type 0} (next : M → S → Q → S) (reply : M → S → Q → A) where
  -- what holds of worlds, whatever happens
  pub record WorldLaws : Type 0 where
    -- a request is refused as Closed only where the world is shut
    pub closed : (w : WorldState M S Q A) (q : Q) → answer_to next reply w (Send q) ≡ Unsent Closed q → w.shut ≡ true
    -- once it is shut it stays so, and accepts nothing more: each later Shut gives the same count
    pub stays_shut : (w : WorldState M S Q A) (events : List (Event M S Q A)) → w.shut ≡ true → (after_all next reply w events).shut ≡ true
    pub none_accepted : (w : WorldState M S Q A) (events : List (Event M S Q A)) → w.shut ≡ true → (after_all next reply w events).accepted ≡ w.accepted
    pub same_count : (w : WorldState M S Q A) (events : List (Event M S Q A)) → w.shut ≡ true → answer_to next reply (after_all next reply w events) Shut ≡ answer_to next reply w Shut
    -- a Take is answered Settled only where the world is settled, and from then on each one is
    pub settled : (w : WorldState M S Q A) → IsLawful next reply w → answer_to next reply w Take ≡ Settled → IsSettled w
    pub stays_settled : (w : WorldState M S Q A) (events : List (Event M S Q A)) → IsLawful next reply w → IsSettled w → IsSettled (after_all next reply w events)
    pub settled_for_good : (w : WorldState M S Q A) (events : List (Event M S Q A)) → IsLawful next reply w → IsSettled w → answer_to next reply (after_all next reply w events) Take ≡ Settled
    -- where a settled world has nothing to collect, every accepted request was collected
    pub all_collected : (w : WorldState M S Q A) → IsLawful next reply w → IsSettled w → answer_to next reply w Collect ≡ Nothing → w.collected ≡ length w.accepted
    -- what was accepted stays, and so does each answer: the lists only grow at their ends
    pub more_accepted : (w : WorldState M S Q A) (events : List (Event M S Q A)) → (more : List Q) × ((after_all next reply w events).accepted ≡ w.accepted ++ more)
    pub more_answers : (w : WorldState M S Q A) (events : List (Event M S Q A)) → (more : List A) × ((after_all next reply w events).answers ≡ w.answers ++ more)
