-- What is said of a name whose two forms find different things.
-- Source: own.
use Rattle.std.specs.Prelude.{ℕ, ◌≡◌, ◌++◌, List, [], codes, not, Option, Some, None}
use Rattle.aa_text.specs.declared.fault.FaultReport.{FaultReport}
use Rattle.aa_files.specs.declared.unit.Unit as unit
use Rattle.aa_files.specs.Nodes.{path_of_node, text_of_node, is_folder_node}
use Rattle.aa_files.specs.Links.{place_if, excerpt_if, AreLinks}

-- how the two forms of a name differ: the path that each finds, if something lies there
abbrev pub difference : Option (List ℕ) → Option (List ℕ) → List ℕ
difference (Some before) (Some here) = before ++ codes " and " ++ here ++ codes " both have this name"
difference (Some before) None = codes "nothing has this name here, and " ++ before ++ codes " has it for its other form"
difference None (Some here) = here ++ codes " has this name, and nothing has it for its other form"
difference None None = []

-- What is said of the include at a byte of a node's text: its file, the place and the line there, unless it stands in the text of a
-- folder, the way to it, and that.
pub record SaysAmbiguous (u : unit.Unit) (node byte : ℕ) (message : List ℕ) (r : FaultReport) : Type 0 where
  pub kind : r.kind.now ≡ codes "AmbiguousInclude"
  pub path : r.path.items ≡ path_of_node u node
  pub place : r.place ≡ place_if (not (is_folder_node u node)) (text_of_node u node) byte
  pub message_is : r.message.items ≡ message
  pub excerpt : r.excerpt.items ≡ excerpt_if (not (is_folder_node u node)) (text_of_node u node) byte
  pub chain : AreLinks u node r.chain.items
  pub further : r.further.items ≡ []
