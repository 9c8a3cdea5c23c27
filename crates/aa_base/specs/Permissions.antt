-- Sets of permissions by their bits.
-- Source: apparmor.d(5), "Access Modes"; own.
use Rattle.std.specs.Prelude.{ℕ}

-- the permission to link, alone
abbrev pub only_link : ℕ
only_link = 8

-- the permission to execute, alone
abbrev pub only_exec : ℕ
only_exec = 64

-- both of these
abbrev pub link_and_exec : ℕ
link_and_exec = 72

-- the five other permissions
abbrev pub beside_link_and_exec : ℕ
beside_link_and_exec = 55

-- all seven
abbrev pub every_permission : ℕ
every_permission = 127

-- the eight bits of a set, of which one is no permission
abbrev pub every_bit : ℕ
every_bit = 255
