-- What a request of a log is answered now.
-- Source: own.
use Rattle.std.specs.Prelude.{ℕ, List, Option, Some, None}
use Rattle.aa_model.specs.declared.policy.Policy.{Policy}
use Rattle.aa_model.specs.declared.label.Label.{Label}
use Rattle.aa_model.specs.declared.request.Request.{Request}
use Rattle.aa_model.specs.declared.answer.Answer.{Answer}
use Rattle.aa_compile.specs.Labels.{label_named}
use Rattle.aa_mediate.specs.Reply.{reply}
use Rattle.aa_logs.specs.declared.answer.Now.{Now}
use Rattle.aa_logs.specs.declared.answer.Now.TheVariants as is
use Rattle.aa_logs.specs.Answers.{answered}
use Rattle.aa_ask.specs.Verdicts.{is_by_complain}

-- what is answered, by the answer
abbrev pub now_by : Answer → Now
now_by a = answered a.granted (is_by_complain a)

-- what is answered at a label, if the policy has it
abbrev pub now_at : List Policy → Request → Option Label → Now
now_at policies request (Some label) = now_by (reply policies label request)
now_at policies request None = is.NoProfile

-- what the mediator answers a task in the profile of that name, if there is one
abbrev pub now_for : List Policy → List ℕ → Request → Now
now_for policies profile request = now_at policies request (label_named policies 0 profile)
