-- What is gained and lost where two policies answer differently.
-- Source: own.
use Rattle.std.specs.Prelude.{ℕ, List, Bool, not, ◌&&◌, ◌||◌, if◌then◌else◌}
use Rattle.std.specs.Str.{bytes_eq}
use Rattle.aa_model.specs.declared.policy.Policy.{Policy}
use Rattle.aa_model.specs.declared.label.Label.{Label}
use Rattle.aa_model.specs.declared.answer.Answer.{Answer}
use Rattle.aa_compile.specs.Labels.{label_name}
use Rattle.aa_ask.specs.Told.{is_confined}
use Rattle.aa_differences.specs.declared.at_labels.Difference.{Difference}
use Rattle.aa_diff.specs.declared.signs.Sign.{Sign}
use Rattle.aa_diff.specs.declared.signs.Sign.TheVariants.{Gain, Loss, Other}

-- both labels have one name
abbrev pub is_called_same : List Policy → List Policy → Label → Label → Bool
is_called_same ps qs l m = bytes_eq (label_name ps l) (label_name qs m)

-- the former answer confines the task, and the latter doesn't by the same profile
abbrev pub moves_on : List Policy → List Policy → Answer → Answer → Bool
moves_on ps qs a b = is_confined a.label && not (is_called_same ps qs a.label b.label)

-- the former answer alone scrubs the environment
abbrev pub unscrubs : Answer → Answer → Bool
unscrubs a b = a.scrub && not b.scrub

-- the latter answer grants what the former doesn't: at all, outside its profile, or without scrubbing
abbrev pub gains : List Policy → List Policy → Answer → Answer → Bool
gains ps qs a b = b.granted && (not a.granted || moves_on ps qs a b || unscrubs a b)

-- what is gained as well as lost is a gain
abbrev pub sign_by : Bool → Bool → Sign
sign_by gain loss = if gain then Gain else (if loss then Loss else Other)

-- a difference is a gain where its new answer grants what the old one doesn't, and a loss where only the old one grants more
abbrev pub sign_of : List Policy → List Policy → Difference → Sign
sign_of ps qs d = sign_by (gains ps qs d.old d.new) (gains qs ps d.new d.old)

-- tells signs apart
abbrev pub sign_number : Sign → ℕ
sign_number Gain = 0
sign_number Loss = 1
sign_number Other = 2
