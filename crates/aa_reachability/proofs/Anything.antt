-- A pattern that matches each path.
use Rattle.std.proofs.Common.{◌≡◌, ℕ, List, [], ◌∷◌, ◌++◌, All, sym, subst, arith, refl}
use Rattle.std.specs.Prelude.{◌==◌, ◌&&◌, not, nat_le, length}
use Rattle.std.specs.List.{list_any}
use Rattle.std.proofs.lemmas.Bool.{and_parts, not-true}
use Rattle.std.proofs.lemmas.List.{append-nil}
use Rattle.std.proofs.lemmas.List.Elements.{All-nil, All-head, All-tail, All-cons}
use Rattle.aa_pattern.specs.declared.item.Item.{Item, Deep}
use Rattle.aa_pattern.specs.declared.pattern.Pattern.{Pattern}
use Rattle.aa_pattern.specs.Globs.{Matches, IsNonzeroByte}
use Rattle.aa_model.specs.Requests.{begins_with}
use Rattle.aa_regions.specs.Wanted.{IsFrom}
use Rattle.aa_regions.specs.Regions.{IsAsked}
use Rattle.aa_regions.proofs.Paths.{no_zero}
use Rattle.aa_reachability.specs.Moves.{MatchesAll}

each : (s : List ℕ) → All (IsFrom 1) s → All IsNonzeroByte s
each [] all = All-nil IsNonzeroByte
each (b ∷ s) all =
    let h = All-head (IsFrom 1) b s all in
    All-cons IsNonzeroByte b s (omega (arith, h.0), h.1) (each s (All-tail (IsFrom 1) b s all))

-- a path that can be asked for holds no zero byte
nonzero : (s : List ℕ) → IsAsked s → All IsNonzeroByte s
nonzero s asked =
    let p = and_parts (begins_with 47 s && not (list_any (λ x. x == 0) s)) (nat_le (length s) 4095) asked.1 in
    let q = and_parts (begins_with 47 s) (not (list_any (λ x. x == 0) s)) p.0 in
    each s (no_zero s (not-true (list_any (λ x. x == 0) s) q.1) asked.0)

pub matches_all : (p : Pattern) → p.items.items ≡ Deep ∷ [] → MatchesAll p
matches_all p is s asked =
    subst (λ (items : List Item). Matches items s) (sym is) (s, [], sym (append-nil s), nonzero s asked, refl)
