-- Threads may share what a task was answered: requests that are lent, and their answers. A search that goes down through all of these types
-- runs out of steps, so each has a line.
use denote.Param.Send.{IsSend, IsSync, sendable}
use denote.Param.SendFields.{as_row_send, declared_send}
use denote.RattleType.{RattleType}
use denote.Ref.{NamedLft}
use Rattle.std.proofs.Crossing.{crosses}
use Rattle.aa_model.specs.contracts.answer.Answer as answer
use Rattle.aa_model.specs.contracts.request.Request as request
use Rattle.aa_mediate.proofs.Shared.{compiled_sync}
use Rattle.aa_engine.specs.contracts.lending.LentRequest as lent_request
use Rattle.aa_engine.specs.contracts.texts.TaskText as task_text

request_sync : IsSync request.the_row
request_sync = search (sendable, crosses) depth 30 fits 10000

pub lent_request_sync : (l : NamedLft) → IsSync (lent_request.the_row l)
lent_request_sync l = search (request_sync, sendable, crosses) depth 30 fits 10000

pub answer_sync : IsSync answer.the_row
answer_sync = search (sendable, crosses) depth 30 fits 10000

-- a task with its answers goes to another thread
pub task_text_send : (r q : NamedLft) (M : RattleType) → IsSync M → IsSend (task_text.the_row r q M)
task_text_send r q M s =
    declared_send (task_text.the_type r q M) (
      search (as_row_send, sendable, crosses) depth 20,
      (
        search (as_row_send, sendable, crosses) depth 20,
        (
          search (compiled_sync, as_row_send, sendable, crosses) depth 20,
          (
            search (s, as_row_send, sendable, crosses) depth 20,
            (
              search (as_row_send, sendable, crosses) depth 20,
              (
                search (lent_request_sync, answer_sync, as_row_send, sendable, crosses) depth 30 fits 10000,
                (search (as_row_send, sendable, crosses) depth 20, tt),
              ),
            ),
          ),
        ),
      ),
    )
