-- Why the files that a command line stands for can't be told.
-- Source: own.
use Rattle.std.specs.Prelude.{ℕ, ◌≡◌, ◌⊎◌, List, [], ◌∷◌, ◌++◌, codes, Option, Some, slice_get, IfSome, Contains}
use Rattle.aa_files.specs.Searches.{path_in}
use Rattle.aa_base.specs.declared.unread.Unread.{Unread}
use Rattle.aa_base.specs.declared.unread.Unread.TheVariants.{TooLarge}
use Rattle.aa_files.specs.declared.unit.UnitFault.{UnitFault}
use Rattle.aa_files.specs.declared.unit.UnitFault.TheVariants.{NoMemory, At, Ambiguous}
use Rattle.aa_files.specs.Files.{Files, Taken}
use Rattle.aa_files.specs.Roots.{folder_of, paths_among, root_paths}

-- it is said of a path at which a look failed, or of a file that is one too many
pub data IsSaidOf (IsLookedAt IsBeyond : List ℕ → Type 0) (path : List ℕ) (why : Unread) : Type 0 where
  Failed : IsLookedAt path → IsSaidOf IsLookedAt IsBeyond path why
  TooMany : why ≡ TooLarge → IsBeyond path → IsSaidOf IsLookedAt IsBeyond path why

-- such a fault, or want of memory
abbrev pub IsFaultOf : (IsLookedAt IsBeyond : List ℕ → Type 0) → UnitFault → Type 0
IsFaultOf looked beyond NoMemory = Unit {0}
IsFaultOf looked beyond (At path why) = IsSaidOf looked beyond path.items why
IsFaultOf looked beyond (Ambiguous report) = ⊥

-- what is looked at of a folder's file: whether it is disabled, and whether force-complain names it
abbrev pub looked_paths : List ℕ → List ℕ → List (List ℕ)
looked_paths base name = path_in (path_in base (codes "disable")) name ∷ path_in (path_in base (codes "force-complain")) name ∷ []

-- one of the names in a folder
abbrev pub IsNameAmong : List ℕ → Option (List (List ℕ)) → Type 0
IsNameAmong name listed = (names : List (List ℕ)) × (listed ≡ Some names) × Contains names name

-- a look at this path is needed to tell what a folder stands for: at the folder, or at what is looked at of one of its files
abbrev pub IsLookedFor : Option Files → (Files → Option (List (List ℕ))) → List ℕ → List ℕ → List ℕ → Type 0
IsLookedFor files stands base folder path = (path ≡ folder) ⊎ ((name : List ℕ) × IfSome files (λ f. IsNameAmong name (stands f)) × Contains (looked_paths base name) path)

-- this is the first path beyond 4,096, where an argument's paths come behind these
abbrev pub IsBeyondWith : Option Files → Option Taken → (Files → Option (List (List ℕ))) → List ℕ → List ℕ → List (List ℕ) → List ℕ → Type 0
IsBeyondWith files taken stands base argument before path =
    IfSome files (λ f. IfSome taken (λ t. slice_get (before ++ paths_among t base argument (stands f)) 4096 ≡ Some path))

-- why an argument's files can't be told behind these
abbrev pub IsArgumentFault : Option Files → Option Taken → (List ℕ → Files → Option (List (List ℕ))) → List ℕ → List ℕ → List (List ℕ) → UnitFault → Type 0
IsArgumentFault files taken stands base argument before =
    IsFaultOf (IsLookedFor files (stands argument) base argument) (IsBeyondWith files taken (stands argument) base argument before)

-- a look at this path is needed to tell what one of the arguments stands for
abbrev pub IsRootLook : Option Files → List ℕ → List (List ℕ) → List ℕ → Type 0
IsRootLook files base arguments path = (argument : List ℕ) × Contains arguments argument × IsLookedFor files (λ f. folder_of f argument) base argument path

-- this is the first path beyond 4,096
abbrev pub IsBeyond : Option Files → Option Taken → List ℕ → List (List ℕ) → List ℕ → Type 0
IsBeyond files taken base arguments path = IfSome files (λ f. IfSome taken (λ t. slice_get (root_paths f t base arguments) 4096 ≡ Some path))

-- Why the files that the arguments stand for can't be told: a look failed at a folder among the arguments, or at a name of one of its
-- files in BASE/disable or BASE/force-complain; or there are too many, of which this is the first beyond 4,096.
abbrev pub IsRootFault : Option Files → Option Taken → List ℕ → List (List ℕ) → UnitFault → Type 0
IsRootFault files taken base arguments = IsFaultOf (IsRootLook files base arguments) (IsBeyond files taken base arguments)
