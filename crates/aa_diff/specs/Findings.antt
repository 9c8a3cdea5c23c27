-- Findings: requests that are answered differently in the same way, for the same reason.
-- Source: own.
use Rattle.std.specs.Prelude.{ℕ, List, [], ◌++◌, ◌==◌, ◌&&◌, not, Bool, true, false, codes, is_some, if◌then◌else◌}
use Rattle.std.specs.Str.{bytes_eq}
use Rattle.aa_base.specs.declared.perms.Perms.{Perms}
use Rattle.aa_model.specs.declared.policy.Policy.{Policy}
use Rattle.aa_model.specs.declared.request.Request.{Request}
use Rattle.aa_model.specs.declared.request.Request.TheVariants.{File, Link, Exec, Cap, Net, Change, Reload}
use Rattle.aa_compile.specs.Said.{perms_of}
use Rattle.aa_command.specs.declared.decided.Decided.{Decided}
use Rattle.aa_differences.specs.declared.at_labels.Difference.{Difference}
use Rattle.aa_diff.specs.declared.signs.Sign.{Sign}
use Rattle.aa_diff.specs.declared.finding.Who.{Who}
use Rattle.aa_diff.specs.declared.finding.Who.TheVariants.{Anybody, Owner, Others}
use Rattle.aa_diff.specs.declared.finding.Finding.{Finding}
use Rattle.aa_ask.specs.Told.{is_confined}
use Rattle.aa_diff.specs.Signs.{sign_number, sign_of}
use Rattle.aa_diff.specs.Changes.{is_same, change_text}
use Rattle.aa_diff.specs.declared.rules.Rule.{Rule}
use Rattle.aa_diff.specs.Rules.{own_at, told_rules, rules_text}
use Rattle.aa_diff.specs.Heads.{heads}

-- tells apart whose objects there are
abbrev pub who_number : Who → ℕ
who_number Anybody = 0
who_number Owner = 1
who_number Others = 2

-- the task's user's, or those of others
abbrev pub whose : Bool → Who
whose owned = if owned then Owner else Others

-- whose object is asked for
abbrev pub who_of : Request → Who
who_of (File r) = whose r.owned
who_of (Link r) = whose r.owned
who_of (Exec r) = whose r.owned
who_of _ = Anybody

-- the permissions that are asked for
abbrev pub letters_of : Request → Perms
letters_of (File r) = r.mask
letters_of _ = perms_of 0

-- tells kinds of requests apart
abbrev pub kind_number : Request → ℕ
kind_number (File r) = 0
kind_number (Link r) = 1
kind_number (Exec r) = 2
kind_number (Cap c) = 3
kind_number (Net f s) = 4
kind_number (Change name) = 5
kind_number (Reload m) = 6

-- to change the profile
abbrev pub is_change : Request → Bool
is_change (Change name) = true
is_change _ = false

-- an unconfined task can change to a profile in one policy alone: the profile is gone or new
abbrev pub is_profile : Finding → Bool
is_profile f = not (is_confined f.from) && is_change f.request

-- both are of one label, sign and kind, told alike for the same reason
abbrev pub is_of_class : Finding → Finding → Bool
is_of_class f g =
    is_same f.from g.from && sign_number f.sign == sign_number g.sign && kind_number f.request == kind_number g.request
    && bytes_eq f.change g.change && bytes_eq f.rules g.rules

-- both are findings of one line; a profile that is gone or new has a line of its own
abbrev pub is_alike : Finding → Finding → Bool
is_alike f g = is_of_class f g && f.letters.0 == g.letters.0 && who_number f.who == who_number g.who && not (is_profile f)

-- to make a hard link
abbrev pub is_link : Request → Bool
is_link (Link r) = true
is_link _ = false

-- a difference is about what is reported of a link alone
abbrev pub is_minor : Sign → Request → Bool
is_minor sign r = sign_number sign == 2 && is_link r

-- what is told of a difference: all links of which other permissions are reported are told alike
abbrev pub told_change : List Policy → List Policy → Bool → Difference → List ℕ
told_change ps qs minor x = if minor then codes "reported otherwise" else change_text ps qs x

-- what was reported is no more
abbrev pub is_unreported : Difference → Bool
is_unreported x = is_some x.old.note && not (is_some x.new.note)

-- the rules of the old policy that are told, and behind them the head whose attachment accounts for it
abbrev pub old_rules : Decided → Decided → Bool → Difference → List Rule
old_rules d e minor x = told_rules minor d (own_at d.policies.now e.policies.now x.from x.to) x.from x.request ++ heads d e.policies.now x.from x.to x.request

-- so of the new policy
abbrev pub new_rules : Decided → Decided → Bool → Difference → List Rule
new_rules d e minor x = told_rules minor e (own_at e.policies.now d.policies.now x.to x.from) x.to x.request ++ heads e d.policies.now x.to x.from x.request

-- the finding that a difference is by itself, with that sign
abbrev pub finding_with : Decided → Decided → Sign → Difference → Finding
finding_with d e sign x = record {
  from = x.from;
  to = x.to;
  sign = sign;
  request = x.request;
  letters = letters_of x.request;
  who = who_of x.request;
  change = told_change d.policies.now e.policies.now (is_minor sign x.request) x;
  rules = rules_text (old_rules d e (is_minor sign x.request) x) (new_rules d e (is_minor sign x.request) x);
  old_rules = old_rules d e (is_minor sign x.request) x;
  new_rules = new_rules d e (is_minor sign x.request) x;
  more = 0;
  unreported = not (is_minor sign x.request) && is_unreported x;
  unclean = false;
}

-- the finding that a difference is by itself
abbrev pub finding_of : Decided → Decided → Difference → Finding
finding_of d e x = finding_with d e (sign_of d.policies.now e.policies.now x) x

-- it is told as one at unclean paths alone, and doesn't count
abbrev pub is_uncounted : Finding → Bool
is_uncounted f = f.unclean

-- it counts
abbrev pub does_count : Finding → Bool
does_count f = not (is_uncounted f)

-- a finding has a line with that sign, and counts
abbrev pub is_counted : Sign → Finding → Bool
is_counted sign f = sign_number f.sign == sign_number sign && not (is_profile f) && does_count f
