use Rattle.std.proofs.Common.{refl}
use Rattle.aa_assert.proofs.Unanswered.{no_request_at}
use Rattle.aa_assert.proofs.asked.read_requests.Goals as goal

pub returns-in-Err-NoRequest-clause-refused : goal.returns-in-Err-NoRequest-clause-refused
returns-in-Err-NoRequest-clause-refused c = (
  refl,
  no_request_at c.as_slice.result.now c.args.asked.now.text.items c.in-Err-NoRequest.field-0 c.in-Err-NoRequest.why c.in-Err-NoRequest.field-0-is
      c.as_slice.ensures.value c.in-Err-NoRequest.ensures.refused,
)
