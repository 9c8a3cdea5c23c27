-- What lies at a path, as the code has it.
-- Source: own.
use Rattle.std.specs.Prelude.{ℕ, ◌≡◌, ◌≢◌, List, Bool, true, false, Option, Some, None, is_some, option_map, Result, MatchResult, IfSome, IfOk, Vec, MatchBool}
use Rattle.std.specs.declared.alloc.Global.{Global}
use Rattle.aa_files.specs.Orders.{AreInByteOrder}
use Rattle.aa_files.specs.Texts.{texts}
use Rattle.aa_files.specs.declared.tree.Content.{Content}
use Rattle.aa_files.specs.declared.tree.Content.TheVariants as content
use Rattle.aa_files.specs.declared.tree.Found.{Found}
use Rattle.aa_files.specs.declared.tree.Found.TheVariants as found
use Rattle.aa_base.specs.declared.unread.Unread.{Unread}
use Rattle.aa_base.specs.declared.unread.Unread.TheVariants.{NoMemory, NotFound}
use Rattle.aa_files.specs.Files.{Files, Taken, Lying, listed, is_input, read_at}
use Rattle.aa_files.specs.Files.Lying.{File, Folder}

-- what lies at a path, without where it lies in memory
abbrev pub lying : Content → Lying
lying (content.File bytes) = File bytes.items
lying (content.Folder names) = Folder (texts names.items)

-- a folder's names come in byte order
abbrev pub IsInOrder : Content → Type 0
IsInOrder (content.File bytes) = Unit {0}
IsInOrder (content.Folder names) = AreInByteOrder names.items

-- the text that was read, and whether it stands for a folder
abbrev pub read : Found → List ℕ × Bool
read (found.Text text) = (text.items, false)
read (found.Folder text) = (text.items, true)

-- where it is known what lies where, a look at a path gives what lies there, and NotFound only where nothing does
abbrev pub IsLooked : Option Files → List ℕ → Result Content Unread → Type 0
IsLooked files path looked = IfSome files (λ f. MatchResult looked (λ c. f path ≡ Some (lying c)) (λ why. why ≡ NotFound → f path ≡ None))

-- the same of the text that is read there
abbrev pub IsRead : Option Files → List ℕ → Result Found Unread → Type 0
IsRead files path looked = IfSome files (λ f. MatchResult looked (λ w. option_map (read_at path) (f path) ≡ Some (read w)) (λ why. why ≡ NotFound → f path ≡ None))

-- where it is known what lies where, it is told whether a folder lies there, but for want of memory
abbrev pub IsFolderTold : Option Files → List ℕ → Result Bool Unread → Type 0
IsFolderTold files path told = IfSome files (λ f. MatchResult told (λ b. b ≡ is_some (listed (f path))) (λ why. why ≡ NoMemory))

-- these are the names in the folder
abbrev pub IsListed : Option Files → List ℕ → Result (Vec (Vec ℕ Global) Global) Unread → Type 0
IsListed files folder listed = IfSome files (λ f. IfOk listed (λ names. f folder ≡ Some (Folder (texts names.items))))

-- whether something has that path
abbrev pub IsTakenTold : Option Taken → List ℕ → Result Bool Unread → Type 0
IsTakenTold taken path told = IfSome taken (λ t. IfOk told (λ b. b ≡ t path))

-- the bytes on standard input, which is always there
abbrev pub IsInput : Option (List ℕ) → Result (Vec ℕ Global) Unread → Type 0
IsInput input got = IfSome input (λ bytes. MatchResult got (λ text. text.items ≡ bytes) (λ why. why ≢ NotFound))

-- a look at a path gives the file's text, and NotFound only where nothing lies there
abbrev pub IsFile : Option Files → List ℕ → Result (Vec ℕ Global) Unread → Type 0
IsFile files path got = IfSome files (λ f. MatchResult got (λ text. f path ≡ Some (File text.items)) (λ why. why ≡ NotFound → f path ≡ None))

-- the text of a file of the command line: `-` is standard input
abbrev pub IsMain : Option Files → Option (List ℕ) → List ℕ → Result (Vec ℕ Global) Unread → Type 0
IsMain files input path got = MatchBool (is_input path) (IsInput input got) (IsFile files path got)

-- the text is that of the file, or of the standard input
abbrev pub IsMainText : Option Files → Option (List ℕ) → List ℕ → List ℕ → Type 0
IsMainText files input path text = MatchBool (is_input path) (IfSome input (λ bytes. text ≡ bytes)) (IfSome files (λ f. f path ≡ Some (File text)))
