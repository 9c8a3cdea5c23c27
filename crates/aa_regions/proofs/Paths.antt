-- Paths that can be asked for are texts of a kind.
use Rattle.std.proofs.Common.{◌≡◌, ℕ, ◌<◌, ◌≤◌, List, [], ◌∷◌, ◌++◌, true, false, length, Result, Ok, Err, IfOk, OnOk, All, refl, sym, ap, subst, arith}
use Rattle.std.specs.Prelude.{not, ◌&&◌, ◌==◌, nat_le}
use Rattle.std.specs.List.{list_any}
use Rattle.std.proofs.lemmas.Bool.{and_parts, and_from, or_parts, or_from, not-true, not_from_false, eqb-true, ne_eqb, eqb-false, leb-true, le-leb}
use Rattle.std.proofs.lemmas.List.Elements.{All-head, All-tail, All-cons, All-nil}
use Rattle.aa_pattern.specs.declared.pattern.Pattern.{Pattern}
use Rattle.aa_auto.specs.Pairs.{IsNarrowed}
use Rattle.aa_auto.specs.Tables.{Table, IsText}
use Rattle.aa_model.specs.Requests.{begins_with}
use Rattle.aa_regions.specs.declared.regions.Region.{Region}
use Rattle.aa_regions.specs.Wanted.{IsWanted, IsFrom}
use Rattle.aa_regions.specs.Regions.{AreRegions, ArePathRegions, IsAsked}
use Rattle.aa_regions.specs.Automata.{AreRegionsBy, ArePathRegionsWithin}
use Rattle.aa_regions.proofs.Collecting.{last_in, last_of, within_regions}

abbrev head : List ℕ
head = 47 ∷ []

pub no_zero : (s : List ℕ) → list_any (λ b. b == 0) s ≡ false → IsText s → All (IsFrom 1) s
no_zero [] e text = All-nil (IsFrom 1)
no_zero (b ∷ s) e text =
    let p = or_parts (b == 0) (list_any (λ x. x == 0) s) e in
    let ne = eqb-false b 0 p.0 in
    All-cons (IsFrom 1) b s (omega (arith, ne), All-head (λ x. x < 256) b s text) (no_zero s p.1 (All-tail (λ x. x < 256) b s text))

pub zero_none : (s : List ℕ) → All (IsFrom 1) s → list_any (λ b. b == 0) s ≡ false
zero_none [] all = refl
zero_none (b ∷ s) all =
    let h = All-head (IsFrom 1) b s all in
    or_from (b == 0) (list_any (λ x. x == 0) s) (ne_eqb b 0 (λ e. omega (arith, e, h.0))) (zero_none s (All-tail (IsFrom 1) b s all))

asked_wanted : (s : List ℕ) → IsAsked s → IsWanted head 1 4095 s
asked_wanted [] a = absurd (let e : false ≡ true = a.1 in cc)
asked_wanted (b ∷ s) a =
    let p = and_parts (begins_with 47 (b ∷ s) && not (list_any (λ x. x == 0) (b ∷ s))) (nat_le (length (b ∷ s)) 4095) a.1 in
    let q = and_parts (begins_with 47 (b ∷ s)) (not (list_any (λ x. x == 0) (b ∷ s))) p.0 in
    let is : b ≡ 47 = eqb-true b 47 q.0 in
    let zero = or_parts (b == 0) (list_any (λ x. x == 0) s) (not-true (list_any (λ x. x == 0) (b ∷ s)) q.1) in
    record {
      rest = s;
      whole = ap (λ x. x ∷ s) is;
      bytes = no_zero s zero.1 (All-tail (λ x. x < 256) b s a.0);
      short = leb-true (length (b ∷ s)) 4095 p.1;
    }

wanted_asked : (s : List ℕ) → IsWanted head 1 4095 s → IsAsked s
wanted_asked s w =
    let all = zero_none w.rest w.bytes in
    subst IsAsked (sym w.whole) (
      All-cons (λ x. x < 256) 47 w.rest (omega arith) (bytes w.rest w.bytes),
      and_from (not (list_any (λ x. x == 0) (47 ∷ w.rest))) (nat_le (length (47 ∷ w.rest)) 4095)
          (not_from_false (list_any (λ x. x == 0) w.rest) all)
          (le-leb (length (47 ∷ w.rest)) 4095 (subst (λ x. length x ≤ 4095) w.whole w.short)),
    )
  where
    bytes : (s : List ℕ) → All (IsFrom 1) s → All (λ x. x < 256) s
    bytes [] all = All-nil (λ x. x < 256)
    bytes (b ∷ s) all = All-cons (λ x. x < 256) b s (All-head (IsFrom 1) b s all).1 (bytes s (All-tail (IsFrom 1) b s all))

pub path_regions : (ps : List Pattern) (rs : List Region) → AreRegions ps head 1 4095 rs → ArePathRegions ps rs
path_regions ps rs are = record {
  each = λ r in'.
      let is = are.each r in' in
      record {
        asked = wanted_asked r.witness is.wanted;
        lists = is.lists;
        shortest = λ s a l. is.shortest s (asked_wanted s a) l;
      };
  all = λ s a. are.all s (asked_wanted s a);
  apart = are.apart;
}

pub within_paths : (ps : List Pattern) (q : Pattern) (t : Table) (rs : List Region) → IsNarrowed ps q t → AreRegionsBy t head 1 4095 rs → ArePathRegionsWithin ps q rs
within_paths ps q t rs n by =
    let r = within_regions ps q t head 1 4095 rs (All-cons (λ x. x < 256) 47 [] (omega arith) (All-nil (λ x. x < 256))) n by in
    record {
      asked = λ r in'. wanted_asked r.witness (by.wanted r in');
      each = λ r' in' m.
          let is = r.0 r' in' m in
          record { asked = wanted_asked r'.witness is.wanted; lists = is.lists; shortest = λ s a l. is.shortest s (asked_wanted s a) l };
      all = λ s a m. r.1 s (asked_wanted s a) m;
      apart = by.apart;
    }

-- regions of all paths are such of those that the last pattern matches, too
pub all_within : (ps : List Pattern) (q : Pattern) (rs : List Region) → ArePathRegions (ps ++ q ∷ []) rs → ArePathRegionsWithin ps q rs
all_within ps q rs are = record {
  asked = λ r in'. (are.each r in').asked;
  each = λ r in' m. are.each r in';
  all = λ s a m.
      let f = are.all s a in
      (f.0, f.1, last_of ps q f.0.witness f.0.numbers (are.each f.0 f.1).lists (last_in ps q s f.0.numbers f.2 m), f.2);
  apart = are.apart;
}

pub ok_then : {X E : Type 0} (r : Result X E) {P Q : X → Type 0} → IfOk r P → ((x : X) → P x → Q x) → IfOk r Q
ok_then (Ok x) p f = f x p
ok_then (Err e) p f = p

pub ok_both : {X E : Type 0} (r : Result X E) {P Q : X → Type 0} {R : Type 0} → IfOk r P → OnOk r R → ((x : X) → P x → R → Q x) → IfOk r Q
ok_both (Ok x) p q f = f x p q
ok_both (Err e) p q f = p
