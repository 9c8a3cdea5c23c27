-- What a task may ask.
-- Source: own.
use Rattle.std.specs.Prelude.{ℕ, List, [], ◌∷◌, length, Bool, false, not, ◌==◌, ◌&&◌, nat_le, bit_and}
use Rattle.std.specs.List.{list_any}
use Rattle.aa_base.specs.Permissions.{link_and_exec, every_permission}
use Rattle.aa_base.specs.declared.perms.Perms.{Perms}

-- the first byte is that one
abbrev pub begins_with : ℕ → List ℕ → Bool
begins_with c [] = false
begins_with c (b ∷ bs) = b == c

-- a path begins with /, holds no zero byte, and has at most 4,095 bytes
abbrev pub is_path : List ℕ → Bool
is_path path = begins_with 47 path && not (list_any (λ b. b == 0) path) && nat_le (length path) 4095

-- a mask is not empty, and holds neither LINK nor EXEC, nor a bit that is no permission
abbrev pub is_mask : ℕ → Bool
is_mask mask = not (mask == 0) && bit_and mask link_and_exec == 0 && nat_le mask every_permission

-- a file by its path, the permissions that are asked for, and whether the task's user owns it
pub record RequestedFile : Type 0 where
  pub path : List ℕ
  pub mask : Perms
  pub owned : Bool

-- a hard link by its path and that of the file it is to, and whether the task's user owns it
pub record RequestedLink : Type 0 where
  pub link : List ℕ
  pub target : List ℕ
  pub owned : Bool

-- an execution by the path of the file, and whether the task's user owns it
pub record RequestedExec : Type 0 where
  pub path : List ℕ
  pub owned : Bool

-- a name that is asked for is not empty, holds no zero byte, and has at most 1,024 bytes
abbrev pub is_wanted_name : List ℕ → Bool
is_wanted_name name = not (length name == 0) && not (list_any (λ b. b == 0) name) && nat_le (length name) 1024
