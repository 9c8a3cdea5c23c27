-- What the steps over compiled patterns come to.
use Rattle.std.proofs.Common.{Contains, ◌≡◌, ℕ, ◌<◌, Option, Some, List, [], ◌∷◌, length, get_or, suc, zero, slice_get, refl, arith}
use Rattle.std.specs.List.Sorted.{IsStrictlyIncreasing}
use Rattle.std.proofs.lemmas.Option.{slice_get_within}
use Rattle.aa_pattern.specs.declared.pattern.Pattern.{Pattern}
use Rattle.aa_pattern.specs.Globs.{Matches}
use Rattle.aa_auto.specs.declared.net.Net.{Net}
use Rattle.aa_auto.specs.Closed.{IsUpward, IsClosure}
use Rattle.aa_auto.specs.Spots.{IsSpotsOf, AreSeeds, LeadAlike}
use Rattle.aa_auto.specs.Finals.{AreFinals, ListsFinals}
use Rattle.aa_auto.specs.Division.{AreClasses, AreClassesOf}
use Rattle.aa_auto.specs.Nets.{IsNetOf, patterns_of, kept_of}
use Rattle.aa_auto.specs.Explored.{Follows, Lists, Goes}
use Rattle.aa_auto.proofs.SpotsLemmas.{spots_follow, spots_alike}
use Rattle.aa_auto.proofs.ExploredLemmas.{length_kept}
use Rattle.aa_auto.proofs.JumpLemmas.{lists, tells_sources, upward}

module _ (net : Net) (is : IsNetOf net) where
  pub net_upward : IsUpward (lists net.jumps.items)
  net_upward = upward net.nodes.items (lists net.jumps.items) (tells_sources (kept_of net) net.nodes.items is.tells) is.jumps

  pub seeds_below : (byte : Option ℕ) (old seeds : List ℕ) → AreSeeds net.nodes.items byte old seeds → (many : ℕ) → many ≡ length (lists net.jumps.items) → (n : ℕ) → Contains seeds n → n < many
  seeds_below byte old seeds seeded many e n c = omega (arith, ((seeded.exact n).0 c).0, is.jumps.many, e)

  pub follows : (byte : Option ℕ) (old seeds new : List ℕ) → AreSeeds net.nodes.items byte old seeds → IsClosure (lists net.jumps.items) seeds new → Follows net byte old new
  follows byte old seeds new seeded closed = record {
    spots = λ s t leads stood.
        spots_follow (kept_of net) net.nodes.items (lists net.jumps.items) byte old seeds new s t (omega (arith, length_kept net, is.many)) is.tells is.jumps seeded closed leads stood;
  }

  -- a byte that leads alike goes the same way
  pub goes_alike : (sets : List (List ℕ)) (row a b next : ℕ) → LeadAlike net.nodes.items a b (get_or sets row []) → Goes net sets row a next → Goes net sets row b next
  goes_alike sets row a b next like goes = record {
    within = goes.within;
    step = λ s spots.
        spots_alike (kept_of net) net.nodes.items a b (get_or sets row []) (get_or sets next []) s (omega (arith, length_kept net, is.many)) is.tells like spots.exact (goes.step s spots);
  }

  pub spots_below : (set s : List ℕ) → IsSpotsOf (kept_of net) set s → (n : ℕ) → Contains set n → n < length net.nodes.items
  spots_below set s spots n c = omega (arith, ((spots.exact n).0 c).0, is.many, length_kept net)

  getting : (qs : List Pattern) (n : ℕ) → n < length qs → (p : Pattern) × (slice_get qs n ≡ Some p)
  getting [] n lt = absurd (omega arith)
  getting (q ∷ qs) zero lt = (q, refl)
  getting (q ∷ qs) (suc n) lt = getting qs n (omega arith)

  pub net_lists : (set numbers : List ℕ) →
      ((ends : List ℕ) → IsStrictlyIncreasing ends → IsStrictlyIncreasing set → AreFinals ends (length ends) (length net.finals.items) net.finals.items → ListsFinals ends set numbers) → Lists net set numbers
  net_lists set numbers listed = record { lists = λ t spots. record { rising = (all t spots).rising; exact = λ n. (to t spots n, from t spots n) } }
    where
      all : (t : List ℕ) → IsSpotsOf (kept_of net) set t → ListsFinals is.ends set numbers
      all t spots = listed is.ends is.rising spots.rising is.ended

      to : (t : List ℕ) → IsSpotsOf (kept_of net) set t → (n : ℕ) → Contains numbers n → (p : Pattern) × (slice_get (patterns_of net) n ≡ Some p) × Matches p.items.items t
      to t spots n c =
          let q = ((all t spots).exact n).0 c in
          let g = getting (patterns_of net) n (omega (arith, q.0, is.counted)) in
          let e = is.met_ends n g.0 g.1 in
          (g.0, g.1, (e.1 t).0 ((spots.exact (get_or is.ends n 0)).0 q.1).1)

      from : (t : List ℕ) → IsSpotsOf (kept_of net) set t → (n : ℕ) → (p : Pattern) × (slice_get (patterns_of net) n ≡ Some p) × Matches p.items.items t → Contains numbers n
      from t spots n r =
          let e = is.met_ends n r.0 r.1 in
          ((all t spots).exact n).1 (
            omega (arith, slice_get_within (patterns_of net) n r.0 r.1, is.counted),
            (spots.exact (get_or is.ends n 0)).1 (omega (arith, e.0, is.many, length_kept net), (e.1 t).1 r.2),
          )

  pub net_classes : (of bytes : List ℕ) → AreClasses net.nodes.items of bytes → AreClassesOf (patterns_of net) of bytes
  net_classes of bytes all = record {
    division = all.division;
    same = λ a b la lb.
        let f = all.same a b la lb in
        let g = is.alike a b in
        (λ e. g.0 (f.0 e), λ s. f.1 (g.1 s));
  }
