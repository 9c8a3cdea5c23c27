-- What a text's rules are as they are written, before any of it is given a meaning.
use Rattle.std.specs.Prelude.{ℕ, Bool, List, Option, option_map, drop}
use Rattle.std.specs.Borrow.{Bor}
use Rattle.aa_base.specs.declared.fault.Spot.{Spot}
use Rattle.aa_words.specs.declared.word.Word.{Word}
use Rattle.aa_words.specs.Splits.{WordData, words_data}
use Rattle.aa_base.specs.declared.perms.Perms.{Perms}
use Rattle.aa_rules.specs.declared.modes.ExecMode.{ExecMode}
use Rattle.aa_rules.specs.declared.modes.Mode.{Mode}
use Rattle.aa_rules.specs.declared.tree.ChangeTree.{ChangeTree}
use Rattle.aa_rules.specs.declared.tree.EntryTree.{EntryTree}
use Rattle.aa_rules.specs.declared.tree.ExecTree.{ExecTree}
use Rattle.aa_model.specs.declared.rule.CapRule.{CapRule}
use Rattle.aa_model.specs.declared.rule.NetRule.{NetRule}
use Rattle.aa_rules.specs.declared.tree.FileTree.{FileTree}
use Rattle.aa_rules.specs.declared.tree.NameTree.{NameTree}
use Rattle.aa_rules.specs.declared.tree.Qualifiers.{Qualifiers}
use Rattle.aa_rules.specs.declared.tree.RuleTree.{RuleTree}
use Rattle.aa_rules.specs.declared.tree.RuleTree.TheVariants.{File, Cap, Net, Change, PassedOver}

-- how a mode lets a program be executed, and the profile behind its arrow
pub record ExecData : Type 0 where
  pub mode : ExecMode
  pub target : Option (List ℕ)

-- what a file rule grants, and where: the place of the word that says the path, the path, the mode
pub record EntryData : Type 0 where
  pub at : Spot
  pub path : List ℕ
  pub mode : Mode

-- a file rule as written: what stands before it, where its path stands, the path, what its mode says
pub record FileData : Type 0 where
  pub qualifiers : Qualifiers
  pub owner : Bool
  pub at : Spot
  pub path : List ℕ
  pub perms : Perms
  pub exec : Option ExecData

-- the name behind an arrow, at its place
pub record NameData : Type 0 where
  pub at : Spot
  pub text : List ℕ

-- a rule on changes of profile as written: what stands before it, and the name behind its arrow, if it has one
pub record ChangeData : Type 0 where
  pub qualifiers : Qualifiers
  pub name : Option NameData

-- a rule of a body as written: a file rule, one on capabilities, sockets or changes of profile, or the keyword of one that is passed over
pub data RuleData : Type 0 where
  OnFile : FileData → RuleData
  OnCap : CapRule → RuleData
  OnNet : NetRule → RuleData
  OnChange : ChangeData → RuleData
  Listed : List ℕ → RuleData

-- a rule without where its text lies in memory
abbrev pub target_data : Option (Bor (List ℕ)) → Option (List ℕ)
target_data target = option_map (λ name. name.now) target

-- how a rule lets programs be executed, without where it lies in memory
abbrev pub exec_data : ExecTree → ExecData
exec_data t = record { mode = t.mode; target = target_data t.target }

-- a path with its mode, without where it lies in memory
abbrev pub entry_data : EntryTree → EntryData
entry_data t = record { at = t.at; path = t.path.now; mode = t.mode }

-- a rule on files, without where it lies in memory
abbrev pub file_data : FileTree → FileData
file_data t = record { qualifiers = t.qualifiers; owner = t.owner; at = t.at; path = t.path.now; perms = t.perms; exec = option_map exec_data t.exec }

-- a name, without where it lies in memory
abbrev pub name_data : NameTree → NameData
name_data t = record { at = t.at; text = t.text.now }

-- a rule on changes of the profile, without where it lies in memory
abbrev pub change_data : ChangeTree → ChangeData
change_data t = record { qualifiers = t.qualifiers; name = option_map name_data t.name }

-- a rule, without where it lies in memory
abbrev pub rule_data : RuleTree → RuleData
rule_data (File t) = OnFile (file_data t)
rule_data (Cap rule) = OnCap rule
rule_data (Net rule) = OnNet rule
rule_data (Change t) = OnChange (change_data t)
rule_data (PassedOver keyword) = Listed keyword.now

-- the words from a place on
abbrev pub rest_of : List Word → ℕ → List WordData
rest_of words at = words_data (drop at words)
