-- What may stand before a policy's profiles: assignments to variables, and abi rules.
-- Source: apparmor.d(5), "Variables", "Abi"; own.
use Rattle.std.specs.Prelude.{⊤, ◌⊎◌, ℕ, ◌≡◌, ◌≢◌, List, [], ◌∷◌, ◌++◌, Bool, true, false, not, ◌&&◌, ◌||◌, ◌==◌, if◌then◌else◌, Option, Some, None, option_and_then, codes, Result, Ok, Err}
use Rattle.std.specs.List.{list_all}
use Rattle.aa_base.specs.declared.fault.Spot.{Spot}
use Rattle.aa_base.specs.declared.fault.PolicyFault.{PolicyFault}
use Rattle.aa_base.specs.declared.fault.PolicyKind.{PolicyKind}
use Rattle.aa_base.specs.declared.fault.PolicyKind.TheVariants.{VariableTwice, UndefinedVariable}
use Rattle.aa_base.specs.Kinds.{no_memory}
use Rattle.aa_words.specs.declared.word.WordKind.{WordKind}
use Rattle.aa_words.specs.declared.word.WordKind.TheVariants.{Comma, Equals, PlusEquals, Path, Name, Quoted, Value}
use Rattle.aa_words.specs.Splits.{WordData}
use Rattle.aa_glob.specs.Signs.{is_letter, is_letter_or_digit}
use Rattle.aa_glob.specs.Variables.{Variable, has_name, with_more}
use Rattle.aa_glob.specs.Expansions.{is_reserved}
use Rattle.aa_rules.specs.Faults.{is_word_fault}
pub use Rattle.aa_rules.specs.Grammar.{Here}
use Rattle.aa_rules.specs.Grammar.{Ending, Many, Starts, Lacks, Keyword, LacksKeyword, spot_of}

-- a variable's name: a letter, and then letters, digits and underscores
abbrev pub is_variable_byte : ℕ → Bool
is_variable_byte b = is_letter_or_digit b || b == 95

-- a letter, then letters, digits and _
abbrev pub is_variable_name : List ℕ → Bool
is_variable_name [] = false
is_variable_name (b ∷ bs) = is_letter b && list_all is_variable_byte bs

-- the text is @{NAME}
pub record Names (text : List ℕ) (name : List ℕ) : Type 0 where
  pub text_is : text ≡ codes "@{" ++ name ++ codes "}"
  pub is_name : is_variable_name name ≡ true

-- the sign of an assignment that sets a variable, and of one that adds to it
abbrev pub sign_of : Bool → WordKind
sign_of false = Equals
sign_of true = PlusEquals

-- how an assignment begins: its variable's word, which stands at this place, and then its sign
pub record Assigning (ws : List WordData) (at : Spot) (name : List ℕ) (adds : Bool) (rest : List WordData) : Type 0 where
  pub variable : WordData
  pub sign : WordData
  pub after : List WordData
  pub variable_stands : Starts Path ws variable after
  pub names : Names variable.text name
  pub at_is : at ≡ spot_of variable
  pub sign_stands : Starts (sign_of adds) after sign rest

-- no assignment begins there
abbrev pub LacksAssignment : List WordData → Type 0
LacksAssignment ws = (at : Spot) (name : List ℕ) (adds : Bool) (rest : List WordData) → Assigning ws at name adds rest → ⊥

-- one value
pub record IsValue (ws : List WordData) (value : List ℕ) (rest : List WordData) : Type 0 where
  pub word : WordData
  pub stands : Starts Value ws word rest
  pub value_is : value ≡ word.text

-- values end where none stands
abbrev pub NoValue : Ending
NoValue ws rest = (rest ≡ ws) × Lacks Value ws

-- an assignment as written: where its variable stands, the name, whether its sign is +=, its values in order
pub record AssignmentData : Type 0 where
  pub at : Spot
  pub name : List ℕ
  pub adds : Bool
  pub values : List (List ℕ)

-- an assignment of these parts
abbrev pub assignment : Spot → List ℕ → Bool → List (List ℕ) → AssignmentData
assignment at name adds values = record { at = at; name = name; adds = adds; values = values }

-- assignment = "@{NAME}" ("=" | "+=") value+
pub record IsAssignment (ws : List WordData) (assignment : AssignmentData) (rest : List WordData) : Type 0 where
  pub after : List WordData
  pub head : Assigning ws assignment.at assignment.name assignment.adds after
  pub values : Many IsValue NoValue after assignment.values rest
  pub some : assignment.values ≢ []

-- a name stands between < and >
abbrev pub IsAngled : List ℕ → Type 0
IsAngled text = (name : List ℕ) × (text ≡ codes "<" ++ name ++ codes ">")

-- a word that can name an abi: a name in < >, or one in quotes
abbrev pub CanNameAbi : WordKind → List ℕ → Type 0
CanNameAbi Quoted text = ⊤
CanNameAbi Name text = IsAngled text
CanNameAbi _ text = ⊥

-- the words begin with such a word, and the rest follows
pub record NamesAbi (ws : List WordData) (word : WordData) (rest : List WordData) : Type 0 where
  pub words : ws ≡ word ∷ rest
  pub can_name : CanNameAbi word.kind word.text

-- no such word stands there
abbrev pub LacksAbiName : List WordData → Type 0
LacksAbiName ws = (word : WordData) (rest : List WordData) → NamesAbi ws word rest → ⊥

-- abi = "abi" ("<x>" | Quoted) ","
pub record IsAbi (ws : List WordData) (rest : List WordData) : Type 0 where
  pub word : WordData
  pub comma : WordData
  pub named : List WordData
  pub after : List WordData
  pub keyword_stands : Keyword (codes "abi") ws named
  pub word_stands : NamesAbi named word after
  pub comma_stands : Starts Comma after comma rest

-- what stands before the profiles: an assignment, or an abi rule, which has no effect
pub data PreambleData : Type 0 where
  Assigns : AssignmentData → PreambleData
  Abi : PreambleData

-- preamble = (assignment | abi)*
abbrev pub IsPreambleItem : List WordData → PreambleData → List WordData → Type 0
IsPreambleItem ws (Assigns assignment) rest = IsAssignment ws assignment rest
IsPreambleItem ws Abi rest = IsAbi ws rest

-- it ends where neither an assignment nor an abi rule begins
abbrev pub PreambleEnds : Ending
PreambleEnds ws rest = (rest ≡ ws) × LacksAssignment ws × LacksKeyword (codes "abi") ws

-- the words begin with these assignments and abi lines, as many as there are
abbrev pub IsPreamble : List WordData → List PreambleData → List WordData → Type 0
IsPreamble ws items rest = Many IsPreambleItem PreambleEnds ws items rest

-- the variables behind an assignment: = names a new one, += one that is there; none where it can't be made
unfoldable pub assigned : List Variable → AssignmentData → Option (List Variable)
assigned vars a =
    if is_reserved a.name then None
    else (if a.adds then (if has_name a.name vars then Some (with_more a.name a.values vars) else None)
    else (if has_name a.name vars then None else Some (vars ++ record { name = a.name; values = a.values } ∷ [])))

-- the variables behind an item
abbrev pub given : List Variable → PreambleData → Option (List Variable)
given vars (Assigns assignment) = assigned vars assignment
given vars Abi = Some vars

-- the variables behind items
abbrev pub variables_after : List Variable → List PreambleData → Option (List Variable)
variables_after vars [] = Some vars
variables_after vars (item ∷ items) = option_and_then (λ more. variables_after more items) (given vars item)

-- the variables of a preamble
abbrev pub variables_of : List PreambleData → Option (List Variable)
variables_of items = variables_after [] items

-- the sign doesn't fit the name: = to one that is there (adds is false), or += to one that isn't (adds is true)
pub record Misfits (adds : Bool) (vars : List Variable) (name : List ℕ) (sign : Bool) : Type 0 where
  pub sign_is : sign ≡ adds
  pub usable : is_reserved name ≡ false
  pub there : has_name name vars ≡ not adds

-- an assignment begins at this place whose sign doesn't fit its name
pub record Misnames (adds : Bool) (vars : List Variable) (ws : List WordData) (at : Spot) : Type 0 where
  pub name : List ℕ
  pub sign : Bool
  pub rest : List WordData
  pub head : Assigning ws at name sign rest
  pub misfits : Misfits adds vars name sign

-- the refusal of such an assignment, at its variable
abbrev pub misnamed_kind : Bool → PolicyKind
misnamed_kind false = VariableTwice
misnamed_kind true = UndefinedVariable

-- the fault of an assignment whose variable is there, or isn't
abbrev pub misnamed : Bool → Spot → PolicyFault
misnamed adds at = record { kind = misnamed_kind adds; at = at }

-- the answer is that refusal, unless memory is wanting
abbrev pub IsRefusedWith : {T : Type 0} → PolicyFault → Result T PolicyFault → Type 0
IsRefusedWith fault (Ok x) = ⊥
IsRefusedWith fault (Err e) = (e ≡ no_memory) ⊎ (e ≡ fault)

-- the kinds of a preamble's refusals
abbrev pub is_preamble_fault : PolicyKind → Bool
is_preamble_fault VariableTwice = true
is_preamble_fault UndefinedVariable = true
is_preamble_fault kind = is_word_fault kind

-- want of memory, or one of these
abbrev pub IsPreambleRefusal : PolicyFault → Type 0
IsPreambleRefusal e = (e ≡ no_memory) ⊎ (is_preamble_fault e.kind ≡ true)

-- behind items that give variables, such an assignment begins
pub record IsMisnamed (adds : Bool) (ws : List WordData) (at : Spot) : Type 0 where
  pub items : List PreambleData
  pub vars : List Variable
  pub after : List WordData
  pub before : Many IsPreambleItem Here ws items after
  pub gives : variables_of items ≡ Some vars
  pub misnames : Misnames adds vars after at

-- a variable is set twice
abbrev pub IsTwice : List WordData → Spot → Type 0
IsTwice ws at = IsMisnamed false ws at

-- values are added to a variable that is not set
abbrev pub IsUndefined : List WordData → Spot → Type 0
IsUndefined ws at = IsMisnamed true ws at
