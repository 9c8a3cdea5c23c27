-- What lies where, of texts in memory.
-- Source: own.
use Rattle.std.specs.Prelude.{ℕ, ◌==◌, ◌&&◌, List, [], ◌∷◌, length, drop, map, filter_map, Bool, not, nat_eq, if◌then◌else◌, Option, Some, None, is_some, Vec}
use Rattle.std.specs.List.{list_any, starts_with}
use Rattle.std.specs.Map.{lookup}
use Rattle.std.specs.BTreeMap.{insert_entry}
use Rattle.std.specs.Ordering.{nat_cmp}
use Rattle.std.specs.Cmp.Lexicographic.{slice_cmp}
use Rattle.std.specs.Str.{bytes_eq}
use Rattle.std.specs.declared.alloc.Global.{Global}
use Rattle.aa_files.specs.Searches.{path_in}
use Rattle.aa_files.specs.Files.{Lying}
use Rattle.aa_files.specs.Files.Lying.{File, Folder}
use Rattle.aa_question.specs.declared.memory.Texts.{Texts}

-- a path, and the text that lies there
abbrev pub Row : Type 0
Row = List ℕ × List ℕ

-- a text among others, which stand in byte order of their paths: in the place of one that has its path
abbrev pub put : Row → List Row → List Row
put row rows = insert_entry (slice_cmp nat_cmp) rows row.0 row.1

-- texts among others; of several at one path the first lies there
unfoldable pub put_all : List Row → List Row → List Row
put_all [] rows = rows
put_all (t ∷ ts) rows = put t (put_all ts rows)

-- the text at a path
abbrev pub text_at : List Row → List ℕ → Option (List ℕ)
text_at rows path = lookup (λ k. bytes_eq path k) rows

-- a slash stands in it
abbrev pub has_slash : List ℕ → Bool
has_slash name = list_any (λ b. b == 47) name

-- what a path goes on with behind a front, where no slash stands in that
abbrev pub name_behind : List ℕ → List ℕ → Option (List ℕ)
name_behind front path = if starts_with nat_eq path front && not (has_slash (drop (length front) path)) then Some (drop (length front) path) else None

-- that of each path that goes on so
abbrev pub names_behind : List ℕ → List Row → List (List ℕ)
names_behind front rows = filter_map (λ row. name_behind front row.0) rows

-- a path begins with the front
abbrev pub has_front : List ℕ → List Row → Bool
has_front front rows = list_any (λ row. starts_with nat_eq row.0 front) rows

-- a folder lies where a path goes on behind a slash
abbrev pub is_folder : List Row → List ℕ → Bool
is_folder rows path = has_front (path_in path []) rows

-- the names of the texts directly in a folder, in byte order
abbrev pub names_in : List Row → List ℕ → List (List ℕ)
names_in rows folder = names_behind (path_in folder []) rows

-- a text, or else a folder
abbrev pub lying_in : Option (List ℕ) → List ℕ → List Row → Option Lying
lying_in (Some text) path rows = Some (File text)
lying_in None path rows = if is_folder rows path then Some (Folder (names_in rows path)) else None

-- what lies at a path, if something does
abbrev pub lying_at : List Row → List ℕ → Option Lying
lying_at rows path = lying_in (text_at rows path) path rows

-- whether something does
abbrev pub taken_at : List Row → List ℕ → Bool
taken_at rows path = is_some (lying_at rows path)

-- a text and its path, without where they lie in memory
abbrev pub row_of : Vec ℕ Global × Vec ℕ Global → Row
row_of e = (e.0.items, e.1.items)

-- the same of all
abbrev pub rows_of : Texts → List Row
rows_of t = map row_of t.rows.entries
