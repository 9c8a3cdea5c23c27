-- Files of which some texts are handed in.
-- Source: own.
use Rattle.std.specs.Prelude.{ℕ, List, Option, Some, None, Result, Ok, Err, find, Vec}
use Rattle.std.specs.Str.{bytes_eq}
use Rattle.std.specs.declared.alloc.Global.{Global}
use Rattle.aa_base.specs.declared.unread.Unread.{Unread}
use Rattle.aa_files.specs.Files.{Files, Lying}
use Rattle.aa_files.specs.Files.Lying.{File}
use Rattle.aapolicy.specs.declared.handed.Given.{Given}

-- the first text that is handed in at a path, if there is one
abbrev pub given_at : List Given → List ℕ → Option Given
given_at given path = find (λ g. bytes_eq g.path.items path) given

-- a text that can be read lies there as a file, and of one that can't nothing does
abbrev pub lying_of : Result (Vec ℕ Global) Unread → Option Lying
lying_of (Ok text) = Some (File text.items)
lying_of (Err why) = None

-- what is handed in stands for what lies at its path
abbrev pub lying_with : Option Given → Option Lying → Option Lying
lying_with (Some g) lies = lying_of g.text
lying_with None lies = lies

-- files, of which some texts are handed in
abbrev pub files_with : List Given → Files → Files
files_with given files path = lying_with (given_at given path) (files path)
