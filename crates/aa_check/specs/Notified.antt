-- Lists of what SARIF has of a report, as texts.
-- Source: own.
use Rattle.std.specs.Prelude.{ℕ, List, map}
use Rattle.aa_check.specs.declared.sarif.Notification.{Notification}
use Rattle.aa_check.specs.declared.sarif.Found.{Found}
use Rattle.aa_check.specs.declared.sarif.RelatedPlace.{RelatedPlace}
use Rattle.aa_check.specs.Sarif.{result_text, notification_text, link_text}

-- the texts of the notifications in a list
abbrev pub notified : List Notification → List (List ℕ)
notified list = map (λ (n : Notification). notification_text n.level n.bytes.now) list

-- the texts of the includes in a list
abbrev pub related : List RelatedPlace → List (List ℕ)
related list = map (λ (r : RelatedPlace). link_text r.link.now) list

-- the texts of the faults in a list
abbrev pub found : List Found → List (List ℕ)
found list = map (λ (f : Found). result_text f.fault.now) list
