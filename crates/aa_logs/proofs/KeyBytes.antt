-- The bytes of keys, as a table has them.
use Rattle.std.proofs.Common.{◌≡◌, ℕ, ◌<◌, List, ◌++◌, not, get_or, refl}
use Rattle.std.specs.Prelude.{◌==◌, codes, replicate}
use Rattle.std.proofs.lemmas.Bool.{agree_below_at}
use Rattle.aa_logs.specs.Words.{goes_on_key}

abbrev pub table : List ℕ
table = codes "................................................0123456789......"
    ++ codes ".ABCDEFGHIJKLMNOPQRSTUVWXYZ...._.abcdefghijklmnopqrstuvwxyz....."
    ++ replicate 128 46

-- the table has the bytes that a key can go on with
pub as_listed : (b : ℕ) → b < 256 → not (get_or table b 0 == 46) ≡ goes_on_key b
as_listed b within = agree_below_at (λ b. not (get_or table b 0 == 46)) (λ b. goes_on_key b) 256 b refl within
