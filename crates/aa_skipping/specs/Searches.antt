-- Searches by attachment whose answer profiles that weren't read could change.
-- Source: apparmor.d(5), "Profile Head"; own.
use Rattle.std.specs.Prelude.{ℕ, List, Bool, None, not, ◌&&◌, ◌||◌, nat_lt}
use Rattle.std.specs.List.{list_any}
use Rattle.aa_pattern.specs.declared.pattern.Pattern.{Pattern}
use Rattle.aa_pattern.specs.Matching.{is_match}
use Rattle.aa_model.specs.declared.policy.Profile.{Profile}
use Rattle.aa_model.specs.Lawful.{has_parent}
use Rattle.aa_compile.specs.Patterns.{is_literal}
use Rattle.aa_compile.specs.Attached.{front_of}
use Rattle.aa_skipping.specs.declared.unread.Head.{Head}
use Rattle.aa_skipping.specs.declared.unread.Unread.{Unread}

-- where both match, one attaches more strongly: it is literal and the other isn't, or neither is and more bytes stand at its front
abbrev pub beats : Pattern → Pattern → Bool
beats a b = not (is_literal b) && (is_literal a || nat_lt (front_of b) (front_of a))

-- it matches the path too, and beats the other
abbrev pub beats_at : List ℕ → Pattern → Pattern → Bool
beats_at path b a = is_match a.items.items path && beats a b

-- an attachment of a top-level profile does
abbrev pub is_beaten_by : List ℕ → Pattern → Profile → Bool
is_beaten_by path b p = has_parent None p && list_any (beats_at path b) p.attachments

-- an attachment that matches the path, and that none of a top-level profile beats there
abbrev pub is_rival : List Profile → List ℕ → Pattern → Bool
is_rival profiles path b = is_match b.items.items path && not (list_any (is_beaten_by path b) profiles)

-- one of the head's is such
abbrev pub has_rival : List Profile → List ℕ → Head → Bool
has_rival profiles path h = list_any (is_rival profiles path) h.attachments

-- a profile that wasn't read could be attached to the path, or be the second of two that tie; where nothing is known of some, each could
abbrev pub is_open : List Profile → Unread → List ℕ → Bool
is_open profiles unread path = unread.others || list_any (has_rival profiles path) unread.heads
