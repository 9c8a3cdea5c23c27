-- All that is needed to answer tasks, before the first request is sent.
use Rattle.std.specs.Prelude.{ℕ, List, map}
use Rattle.std.specs.Global.{Vec}
use Rattle.aa_lane.specs.Ends.{LaneSeen, OwnerSeen, ServerSeen, ShutterSeen, IsCapacity}
use Rattle.aa_lane.specs.declared.lane.Answered.{Answered}
use Rattle.aa_pool.specs.Opened.{AreOpened, AreEndsOf}
use Rattle.aa_pool.specs.Answers.{AreRooms}
use Rattle.aa_pool.specs.declared.tasks.Task.{Task}

-- lane i is of the machine and opens with the state of task i, with as many slots as a lane may have, its ends are new, and there is room for the answers to each task
pub record IsStage {M S Q A : Type 0} (machine : M) (capacity : ℕ) (tasks : List (Task M S Q A)) (lanes : List (LaneSeen M S))
    (owners : List (OwnerSeen M S Q A)) (servers : List (ServerSeen M S Q A)) (shutters : List (ShutterSeen M S Q A))
    (rooms : List (Vec (Answered M S Q A))) : Type 0 where
  pub opened : AreOpened machine (map (λ t. t.start) tasks) capacity lanes owners servers shutters
  pub ends : AreEndsOf lanes owners servers shutters
  pub rooms_are : AreRooms tasks rooms
  pub fits : IsCapacity capacity
