-- Requests of a word at a path.
-- Source: own.
use Rattle.std.specs.Prelude.{◌≡◌, ℕ, List, Bool, true, Contains}
use Rattle.aa_base.specs.declared.perms.Perms.{Perms}
use Rattle.aa_model.specs.Requests.{is_mask}
use Rattle.aa_model.specs.declared.request.Request.{Request}
use Rattle.aa_model.specs.declared.request.Request.TheVariants.{File, Exec}
use Rattle.aa_quantifiers.specs.declared.word.Whose.{Whose}
use Rattle.aa_quantifiers.specs.Words.{asks_for}

-- among the requests are those to use the file at the path by the mask, of each owner that is asked for
abbrev pub HasFilesBy : Whose → List ℕ → Perms → List Request → Type 0
HasFilesBy whose path mask rs = (owned : Bool) → is_mask mask.0 ≡ true → asks_for whose owned ≡ true → Contains rs (File (record { path = path; mask = mask; owned = owned }))

-- so by each of the masks
abbrev pub HasFilesOf : Whose → List ℕ → List Perms → List Request → Type 0
HasFilesOf whose path masks rs = (mask : Perms) → Contains masks mask → HasFilesBy whose path mask rs

-- among the requests are those to execute the file at the path, of each owner that is asked for
abbrev pub HasExecsOf : Whose → List ℕ → List Request → Type 0
HasExecsOf whose path rs = (owned : Bool) → asks_for whose owned ≡ true → Contains rs (Exec (record { path = path; owned = owned }))
