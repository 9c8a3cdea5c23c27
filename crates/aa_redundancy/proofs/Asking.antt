-- Names that can be asked for.
use Rattle.std.proofs.Common.{◌≡◌, ℕ, List, [], length, true, refl}
use Rattle.std.specs.Prelude.{not, ◌&&◌, ◌==◌, nat_le}
use Rattle.std.specs.List.{list_any}
use Rattle.std.proofs.lemmas.Bool.{and_parts, not-true, leb-true}
use Rattle.aa_auto.specs.Tables.{IsText}
use Rattle.aa_model.specs.Requests.{is_wanted_name}
use Rattle.aa_regions.specs.Wanted.{IsWanted}
use Rattle.aa_regions.proofs.Paths.{no_zero}

-- a name that can be asked for is a text of the kind
pub wanted_name : (s : List ℕ) → IsText s → is_wanted_name s ≡ true → IsWanted [] 1 1024 s
wanted_name s text e =
    let p = and_parts (not (length s == 0) && not (list_any (λ b. b == 0) s)) (nat_le (length s) 1024) e in
    let q = and_parts (not (length s == 0)) (not (list_any (λ b. b == 0) s)) p.0 in
    record { rest = s; whole = refl; bytes = no_zero s (not-true (list_any (λ b. b == 0) s) q.1) text; short = leb-true (length s) 1024 p.1 }
