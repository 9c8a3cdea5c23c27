-- Faults of look-ups.
use Rattle.std.proofs.Common.{◌≡◌, ℕ, List, Option, Some, None, option_map, MatchOption, Contains, Result, Ok, Err, IfErr, refl, sym, subst}
use Rattle.std.specs.Prelude.{◌≢◌}
use Rattle.aa_text.specs.declared.fault.FaultReport.{FaultReport}
use Rattle.aa_files.specs.declared.tree.Found.{Found}
use Rattle.aa_base.specs.declared.unread.Unread.{Unread}
use Rattle.aa_base.specs.declared.unread.Unread.TheVariants as unread
use Rattle.aa_files.specs.declared.unit.UnitFault.{UnitFault}
use Rattle.aa_files.specs.declared.unit.UnitFault.TheVariants.{NoMemory, At, Ambiguous}
use Rattle.aa_files.specs.declared.unit.Unit as unit
use Rattle.aa_files.specs.Files.{Files}
use Rattle.aa_files.specs.FilesData.{read, IsMainText}
use Rattle.aa_files.specs.Walks.{Name, Asked, LiesAt, NothingAt}
use Rattle.aa_files.specs.Ambiguities.{difference, SaysAmbiguous}
use Rattle.aa_files.specs.UnitFaults.{fault_of, IsLookFault, IsHere, IsLookUpFault, IsWalkFault, IsLoadFault}
use Rattle.aa_files.specs.UnitFaults.IsLoadFault.{OfIncludes}

pub look_fault : (paths : List (List ℕ)) (path : Name) (why : Unread) → Contains paths path.items → why ≢ unread.NotFound → IsLookFault paths (fault_of path why)
look_fault paths path unread.NoMemory among there = tt
look_fault paths path unread.NotFound among there = absurd (there refl)
look_fault paths path unread.NotAllowed among there = (among, there)
look_fault paths path unread.NotAFile among there = (among, there)
look_fault paths path unread.Failed among there = (among, there)
look_fault paths path unread.TooLarge among there = (among, there)

pub look_up_fault : (files : Option Files) (u : unit.Unit) (node byte : ℕ) (a : Asked) (e : UnitFault) → IsLookFault a.1 e → IsLookUpFault files u node byte a e
look_up_fault files u node byte a NoMemory h = tt
look_up_fault files u node byte a (At path why) h = h
look_up_fault files u node byte a (Ambiguous report) h = absurd h

pub look_up_faults : (files : Option Files) (u : unit.Unit) (node byte : ℕ) (a : Asked) (r : Result (Unit {0}) UnitFault) → IfErr r (λ e. IsLookFault a.1 e) → IfErr r (λ e. IsLookUpFault files u node byte a e)
look_up_faults files u node byte a (Ok x) h = tt
look_up_faults files u node byte a (Err e) h = look_up_fault files u node byte a e h

-- what was found at some paths lies there
pub here_of : (files : Option Files) (paths : List (List ℕ)) (o : Option (Name × Found))
    → MatchOption o (NothingAt files paths) (λ f. LiesAt files paths f.0.items (read f.1))
    → IsHere files paths (option_map (λ (f : Name × Found). f.0.items) o)
here_of files paths None h = h
here_of files paths (Some f) h = (read f.1, h)

pub said_alike : (u : unit.Unit) (node byte : ℕ) (a b c d : Option (List ℕ)) (r : FaultReport) → a ≡ c → b ≡ d → SaysAmbiguous u node byte (difference a b) r → SaysAmbiguous u node byte (difference c d) r
said_alike u node byte a b c d r e f h = subst (λ (o : Option (List ℕ)). SaysAmbiguous u node byte (difference c o) r) f (subst (λ (o : Option (List ℕ)). SaysAmbiguous u node byte (difference o b) r) e h)

-- a fault that is handed on
pub handed_on : {T : Type 0} (r : Result T UnitFault) (e f : UnitFault) (P : UnitFault → Type 0) → r ≡ Err e → e ≡ f → P f → IfErr r P
handed_on {T} r e f P eq same h = subst (λ (x : Result T UnitFault). IfErr x P) (sym eq) (subst P (sym same) h)

pub load_fault : (files : Option Files) (input : Option (List ℕ)) (folders : List (List ℕ)) (path text : List ℕ) (r : Result unit.Unit UnitFault) → IsMainText files input path text
    → IfErr r (λ e. e ≢ NoMemory → IsWalkFault files folders path text e) → IfErr r (λ e. e ≢ NoMemory → IsLoadFault files input folders path e)
load_fault files input folders path text (Ok u) main h = tt
load_fault files input folders path text (Err e) main h = λ other. OfIncludes text main (h other)
