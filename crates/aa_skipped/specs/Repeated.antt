-- Files of which more than one may have a profile of one name: which of these profiles a task runs under isn't known.
-- Source: apparmor_parser(8): a profile that is loaded replaces the one of its name; own.
use Rattle.std.specs.Prelude.{ℕ, ◌≡◌, List, [], ◌∷◌, ◌++◌, flat_map, count_by, codes, Bool, true, false, ◌||◌, nat_lt}
use Rattle.std.specs.List.{AllZip, list_any}
use Rattle.aa_base.specs.Kinds.{kind_name}
use Rattle.aa_base.specs.declared.fault.PolicyKind.TheVariants.{DuplicateProfile}
use Rattle.aa_files.specs.declared.unit.Unit as unit
use Rattle.aa_diagnostics.specs.Reports.{IsOfWhole}
use Rattle.aa_skipping.specs.declared.unread.Head.{Head}
use Rattle.aa_skipping.specs.declared.unread.Unread.{Unread}
use Rattle.aa_skipping.specs.Names.{is_of}
use Rattle.aa_skipped.specs.declared.skipped.Skipped.{Skipped}
use Rattle.aa_skipped.specs.declared.skipped.Found.{Found}
use Rattle.aa_skipped.specs.declared.skipped.Found.TheVariants.{Read, Left}
use Rattle.aa_skipped.specs.Heads.{AreHeadsOf}
use Rattle.aa_skipped.specs.Sorting.{units_in, skipped_in}

-- profiles with these heads, or children of theirs, may have one name
abbrev pub may_meet : Head → Head → Bool
may_meet h k = is_of h.name k.name || is_of k.name h.name

-- one of a file's heads is such
abbrev pub meets_one : Unread → Head → Bool
meets_one u h = list_any (may_meet h) u.heads

-- two files may have profiles of one name, as far as their heads are known
abbrev pub may_share : Unread → Unread → Bool
may_share u v = list_any (meets_one v) u.heads

-- a name of a file that is read may be another file's too: of all that are read more than one may have it, itself among them, or one that is skipped
abbrev pub is_repeated : List Unread → List Skipped → Unread → Bool
is_repeated read skipped u = nat_lt 1 (count_by (may_share u) read) || list_any (λ (k : Skipped). may_share u k.unread) skipped

-- the sentence that is said of such a file
unfoldable pub repeated_words : List ℕ
repeated_words = codes "another file has a profile of this name"

-- the unit has no such name
pub record IsAlone (read : List Unread) (skipped : List Skipped) (u : unit.Unit) : Type 0 where
  pub unread : Unread
  pub heads : AreHeadsOf u unread
  pub alone : is_repeated read skipped unread ≡ false

-- the unit has one, and is skipped: that is told of the whole file
pub record IsSetAside (read : List Unread) (skipped : List Skipped) (u : unit.Unit) (k : Skipped) : Type 0 where
  pub path : k.path.items ≡ u.path.items
  pub heads : AreHeadsOf u k.unread
  pub repeated : is_repeated read skipped k.unread ≡ true
  pub told : IsOfWhole (kind_name DuplicateProfile) u.path.items repeated_words k.fault

-- a unit goes on being read, or it is skipped
abbrev pub IsParted : List Unread → List Skipped → unit.Unit → Found → Type 0
IsParted read skipped u (Read v) = (v ≡ u) × IsAlone read skipped u
IsParted read skipped u (Left k) = IsSetAside read skipped u k

-- of some units, those that go on being read, and those that are skipped
pub record ArePartedBy (read : List Unread) (skipped : List Skipped) (units kept : List unit.Unit) (aside : List Skipped) : Type 0 where
  pub founds : List Found
  pub parted : AllZip (IsParted read skipped) units founds
  pub kept_are : kept ≡ flat_map units_in founds
  pub aside_are : aside ≡ flat_map skipped_in founds

-- of files that are read and that are skipped, the units that are still read, and all files that are skipped then
pub record AreParted (units : List unit.Unit) (skipped : List Skipped) (kept : List unit.Unit) (all : List Skipped) : Type 0 where
  pub read : List Unread
  pub heads : AllZip AreHeadsOf units read
  pub aside : List Skipped
  pub parted : ArePartedBy read skipped units kept aside
  pub all_are : all ≡ skipped ++ aside
