-- Which side is refused.
-- Source: own.
use Rattle.std.specs.Prelude.{ℕ, ◌≡◌, ◌+◌, ◌<◌, ◌==◌, List, [], ◌++◌, codes, decimal, Bool, MatchBool, if◌then◌else◌}
use Rattle.aa_files.specs.declared.unit.Unit as unit
use Rattle.aa_skipped.specs.declared.skipped.Skipped.{Skipped}
use Rattle.aa_skipped.specs.Sorting.{AreSorted}
use Rattle.aa_skipped.specs.Repeated.{AreParted}
use Rattle.aa_skipped.specs.Telling.{behind_skipped}
use Rattle.aa_skipped.specs.Policies.{IsPrintedOf}
use Rattle.aa_command.specs.declared.decided.Decided.{Decided}
use Rattle.aa_command.specs.Setting.{Setting, AreRoots}
use Rattle.aa_command.specs.Printed.{Printed}
use Rattle.aa_command.specs.Loads.{AreLoaded}
use Rattle.aa_command.specs.Policies.{IsDecidedBy, IsPrintedFor, behind_warnings}

-- the files that arguments stand for are one policy
pub record IsRead (s : Setting) (arguments : List (List ℕ)) (d : Decided) : Type 0 where
  pub paths : List (List ℕ)
  pub warnings : List (List ℕ)
  pub roots : AreRoots s arguments paths warnings
  pub units : List unit.Unit
  pub loaded : AreLoaded s paths units
  pub decided : IsDecidedBy s.states units d

-- they are none, and this is printed of it
abbrev pub IsRefused : Setting → List (List ℕ) → Printed → Type 0
IsRefused s arguments out = IsPrintedFor s arguments (λ _ _. ⊥) out

-- a side can't be compared, and why
abbrev pub refused_text : List ℕ → List ℕ → List ℕ
refused_text side faults = codes "error: " ++ side ++ codes " can't be compared:\n" ++ faults

-- what is printed of a refused side
abbrev pub behind : List ℕ → Printed → Printed
behind side said = record { answers = said.answers; faults = refused_text side said.faults; refusal = said.refusal; status = said.status }

-- what their policy gives, behind what is warned of other files
pub record IsGiven (s : Setting) (arguments : List (List ℕ)) (gives : Decided → Printed → Type 0) (d : Decided) (out : Printed) : Type 0 where
  pub read : IsRead s arguments d
  pub own : Printed
  pub gives_it : gives d own
  pub is : out ≡ behind_warnings read.warnings own

-- what is printed of a side: that it is refused, or what its policy gives
pub data IsOfSide (side : List ℕ) (s : Setting) (arguments : List (List ℕ)) (gives : Decided → Printed → Type 0) (out : Printed) : Type 0 where
  Refused : (said : Printed) → IsRefused s arguments said → out ≡ behind side said → IsOfSide side s arguments gives out
  Compared : (d : Decided) → IsGiven s arguments gives d out → IsOfSide side s arguments gives out

-- the files that arguments stand for are one policy beside those that are skipped
pub record IsReadBeside (s : Setting) (arguments : List (List ℕ)) (skipped : List Skipped) (d : Decided) : Type 0 where
  pub paths : List (List ℕ)
  pub warnings : List (List ℕ)
  pub roots : AreRoots s arguments paths warnings
  pub good : List unit.Unit
  pub refused : List Skipped
  pub sorted : AreSorted s paths good refused
  pub units : List unit.Unit
  pub parted : AreParted good refused units skipped
  pub decided : IsDecidedBy s.states units d

-- they are none, and this is printed of it
abbrev pub IsRefusedBeside : Setting → List (List ℕ) → Printed → Type 0
IsRefusedBeside s arguments out = IsPrintedOf s arguments (λ _ _ _. ⊥) out

-- what their policy gives, behind what is told of the files that are skipped, and what is warned of others
pub record IsGivenBeside (s : Setting) (arguments : List (List ℕ)) (gives : List Skipped → Decided → Printed → Type 0) (out : Printed) : Type 0 where
  pub skipped : List Skipped
  pub decided : Decided
  pub read : IsReadBeside s arguments skipped decided
  pub own : Printed
  pub gives_it : gives skipped decided own
  pub is : out ≡ behind_warnings read.warnings (behind_skipped skipped own)

-- what is printed of a side of which files that are refused are skipped: that the others are refused, or what their policy gives
pub data IsOfPart (side : List ℕ) (s : Setting) (arguments : List (List ℕ)) (gives : List Skipped → Decided → Printed → Type 0) (out : Printed) : Type 0 where
  PartRefused : (said : Printed) → IsRefusedBeside s arguments said → out ≡ behind side said → IsOfPart side s arguments gives out
  PartCompared : IsGivenBeside s arguments gives out → IsOfPart side s arguments gives out

-- what is printed of a side: of all of its files, or where such files are skipped of the others
abbrev pub IsSide : Bool → List ℕ → Setting → List (List ℕ) → (List Skipped → Decided → Printed → Type 0) → Printed → Type 0
IsSide skips side s arguments gives out = MatchBool skips (IsOfPart side s arguments gives out) (IsOfSide side s arguments (gives []) out)

-- how many files a side skips, where it skips some
abbrev pub note_text : List ℕ → ℕ → List ℕ
note_text side n = if n == 0 then [] else codes "warning: " ++ side ++ codes " skips " ++ decimal n ++ codes " files\n"

-- what is printed, behind that
abbrev pub noted : List ℕ → ℕ → Printed → Printed
noted side n own = record { answers = own.answers; faults = note_text side n ++ own.faults; refusal = own.refusal; status = own.status }

-- the status of what a policy gave, between two calls
abbrev pub marked : Printed → Printed
marked p = record { answers = p.answers; faults = p.faults; refusal = p.refusal; status = p.status + 128 }

-- what a policy gave, marked
pub record IsMarked (gives : Decided → Printed → Type 0) (d : Decided) (out : Printed) : Type 0 where
  pub given : Printed
  pub gives_it : gives d given
  pub low : given.status < 128
  pub is : out ≡ marked given
