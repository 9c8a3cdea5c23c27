-- Requests that can be asked, kind by kind.
-- Source: own.
use Rattle.std.specs.Prelude.{◌≡◌, ◌<◌, ◌⊎◌, true, length}
use Rattle.aa_base.specs.Tables.{capability_names, family_names, sock_type_names}
use Rattle.aa_model.specs.Requests.{is_mask, is_wanted_name}
use Rattle.aa_model.specs.declared.request.Request.{Request}
use Rattle.aa_model.specs.declared.request.Request.TheVariants.{File, Link, Exec, Cap, Net, Change, Reload}
use Rattle.aa_auto.specs.Tables.{IsText}
use Rattle.aa_regions.specs.Regions.{IsAsked}

-- to use a file: the path can be asked for, and so can the permissions
abbrev pub IsFile : Request → Type 0
IsFile (File r) = IsAsked r.path × (is_mask r.mask.0 ≡ true)
IsFile _ = ⊥

-- to execute a file whose path can be asked for
abbrev pub IsExec : Request → Type 0
IsExec (Exec r) = IsAsked r.path
IsExec _ = ⊥

-- to make a hard link at a path to the file at another, both of which can be asked for
abbrev pub IsLink : Request → Type 0
IsLink (Link r) = IsAsked r.link × IsAsked r.target
IsLink _ = ⊥

-- to use a capability of the table
abbrev pub IsCap : Request → Type 0
IsCap (Cap c) = c < length capability_names
IsCap _ = ⊥

-- to make a socket of a family and of a type of the tables
abbrev pub IsNet : Request → Type 0
IsNet (Net f s) = (f < length family_names) × (s < length sock_type_names)
IsNet _ = ⊥

-- to change the profile to that of a name that can be asked for
abbrev pub IsChange : Request → Type 0
IsChange (Change name) = IsText name × (is_wanted_name name ≡ true)
IsChange _ = ⊥

-- to be decided by the policy of a number
abbrev pub IsReload : Request → Type 0
IsReload (Reload m) = m < 65536
IsReload _ = ⊥

-- a request that can be asked
abbrev pub IsAskable : Request → Type 0
IsAskable r = IsFile r ⊎ (IsLink r ⊎ (IsExec r ⊎ (IsCap r ⊎ (IsNet r ⊎ (IsChange r ⊎ IsReload r)))))

-- the kinds of requests
pub data Kind : Type 0 where
  OfFile : Kind
  OfLink : Kind
  OfExec : Kind
  OfCap : Kind
  OfNet : Kind
  OfChange : Kind
  OfReload : Kind

-- the kind of a request
abbrev pub kind_of : Request → Kind
kind_of (File r) = OfFile
kind_of (Link r) = OfLink
kind_of (Exec r) = OfExec
kind_of (Cap c) = OfCap
kind_of (Net f s) = OfNet
kind_of (Change name) = OfChange
kind_of (Reload m) = OfReload

-- both are of one kind
abbrev pub SameKind : Request → Request → Type 0
SameKind r q = kind_of r ≡ kind_of q
