-- Which rules match a request and name some of what it asks for, whatever they say of it.
-- Source: apparmor.d(5), "Access Modes", "Capability rules", "Network rules", "change_profile rules"; own.
use Rattle.std.specs.Prelude.{ℕ, List, [], ◌==◌, ◌&&◌, ◌||◌, not, Bool, Option, Some, None, bit_and, if◌then◌else◌}
use Rattle.std.specs.List.{slice_get, filter_map}
use Rattle.std.specs.Option.{option_and_then}
use Rattle.aa_base.specs.Permissions.{only_link, only_exec, every_permission}
use Rattle.aa_model.specs.declared.rule.FileRule.{FileRule}
use Rattle.aa_model.specs.declared.policy.Profile.{Profile}
use Rattle.aa_model.specs.declared.request.Request.{Request}
use Rattle.aa_model.specs.declared.request.Request.TheVariants.{File, Link, Exec, Cap, Net, Change, Reload}
use Rattle.aa_model.specs.Requests.{RequestedLink}
use Rattle.aa_compile.specs.Said.{minus, granted}
use Rattle.aa_compile.specs.FileRules.{any_sort, applies_by, file_verdict}
use Rattle.aa_compile.specs.Holding.{cap_holds, net_holds, change_holds}
use Rattle.aa_changed_rules.specs.Changed.{Changed}

-- a rule names some of what is asked, and applies to the object at the path, which is owned or not
abbrev pub is_on_file : List ℕ → Bool → ℕ → FileRule → Bool
is_on_file path owned asked r = not (bit_and r.perms.0 asked == 0) && applies_by any_sort path owned r

-- what rules grant at a link's path but for LINK: the target has to be granted that too
abbrev pub wanted_of_target : List FileRule → RequestedLink → ℕ
wanted_of_target rules l = minus (granted (file_verdict rules l.link l.owned)) only_link

-- a rule names some permission at a link's path, where each of them counts, or some of what is wanted of the target at that
abbrev pub is_on_link : ℕ → RequestedLink → FileRule → Bool
is_on_link wanted l r = is_on_file l.link l.owned every_permission r || is_on_file l.target l.owned wanted r

-- the number of a rule of a list, if it is there and is so
abbrev pub number_if : {R : Type 0} → (R → Bool) → List R → ℕ → Option ℕ
number_if {R} is_so rules n = option_and_then (λ (r : R). if is_so r then Some n else None) (slice_get rules n)

-- of these numbers those of rules that are so
abbrev pub those_that : {R : Type 0} → (R → Bool) → List R → List ℕ → List ℕ
those_that is_so rules numbers = filter_map (number_if is_so rules) numbers

-- of these rules of a profile those that match a request and name some of what it asks for, in the one list that it is about
abbrev pub rules_on : Request → Changed → Profile → List ℕ
rules_on (File f) c p = those_that (is_on_file f.path f.owned f.mask.0) p.files c.files
rules_on (Link l) c p = those_that (is_on_link (wanted_of_target p.files l) l) p.files c.files
rules_on (Exec e) c p = those_that (is_on_file e.path e.owned only_exec) p.files c.files
rules_on (Cap cap) c p = those_that (cap_holds cap) p.caps c.caps
rules_on (Net family kind) c p = those_that (net_holds family kind) p.nets c.nets
rules_on (Change name) c p = those_that (change_holds name) p.changes c.changes
rules_on (Reload policy) c p = []
