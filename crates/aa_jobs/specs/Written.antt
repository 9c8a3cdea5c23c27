-- What stands in a job: texts, numbers and lists.
use Rattle.std.specs.Prelude.{ℕ, List, Bool}
use Rattle.aa_words.specs.declared.include.Include.{Include}

-- an item of a task's list
pub data WrittenItem : Type 0 where
  exit_item : WrittenItem
  file_item : (path letters : List ℕ) (owned : Bool) → WrittenItem
  link_item : (path target : List ℕ) (owned : Bool) → WrittenItem
  exec_item : (path : List ℕ) (owned : Bool) → WrittenItem
  cap_item : (name : List ℕ) → WrittenItem
  net_item : (family kind : List ℕ) → WrittenItem
  change_item : (name : List ℕ) → WrittenItem
  reload_item : (policy : ℕ) → WrittenItem

-- a task as it is written
pub record WrittenTask : Type 0 where
  pub label : List ℕ
  pub policy : ℕ
  pub items : List WrittenItem

-- an event as it is written
pub record WrittenEvent : Type 0 where
  pub task : ℕ
  pub name : List ℕ

-- several where the policies stand in a list
pub record WrittenJob : Type 0 where
  pub policies : List (List ℕ)
  pub several : Bool
  pub includes : List Include
  pub tasks : List WrittenTask
  pub states : ℕ
  pub capacity : ℕ
  pub events : List WrittenEvent
