-- Requests to change to a name of each region stand for all to change the profile.
use Rattle.std.proofs.Common.{◌≡◌, ℕ, ◌<◌, List, [], ◌∷◌, length, true, false, All, Contains, refl, sym, ◌∙◌, subst, arith}
use Rattle.std.specs.Prelude.{not, ◌&&◌, ◌==◌, nat_le}
use Rattle.std.specs.List.{list_any}
use Rattle.std.proofs.lemmas.Bool.{and_parts, and_from, or_parts, or_from, not-true, not_from_false, ne_eqb, eqb-false, leb-true, le-leb}
use Rattle.std.proofs.lemmas.List.Elements.{All-head, All-tail, All-cons, All-nil, All-weaker, Contains-append_left, Contains-append_right}
use Rattle.std.proofs.lemmas.Slice.Eq.{bytes_eq-Decides}
use Rattle.aa_pattern.specs.declared.pattern.Pattern.{Pattern}
use Rattle.aa_pattern.specs.Globs.{IsNonzeroByte}
use Rattle.aa_auto.specs.Tables.{IsText}
use Rattle.aa_model.specs.Requests.{is_wanted_name}
use Rattle.aa_model.specs.declared.policy.Policy.{Policy}
use Rattle.aa_model.specs.declared.label.Label.{Label}
use Rattle.aa_model.specs.declared.request.Request.{Request}
use Rattle.aa_model.specs.declared.request.Request.TheVariants.{File, Link, Exec, Cap, Net, Change, Reload}
use Rattle.aa_regions.specs.declared.regions.Region.{Region}
use Rattle.aa_regions.specs.Wanted.{IsWanted, IsFrom}
use Rattle.aa_regions.specs.Regions.{AreRegions}
use Rattle.aa_mediate.specs.Reply.{reply}
use Rattle.aa_representatives.specs.Alike.{MatchAlike, changing}
use Rattle.aa_representatives.specs.Askable.{IsChange}
use Rattle.aa_representatives.specs.Names.{profiles_at, told_apart, AreNamePatterns}
use Rattle.aa_representatives.specs.Representatives.{AreRepresentatives, Adds, HasChange}
use Rattle.aa_representatives.proofs.Adding.{adds_each}
use Rattle.aa_representatives.proofs.Standing.{same_list}
use Rattle.aa_representatives.proofs.Literal.{tells_alike}
use Rattle.aa_representatives.proofs.Naming.{names_alike}
use Rattle.aa_representatives.proofs.Replied.{changes_reply_alike}
use Rattle.aa_regions.proofs.Paths.{no_zero, zero_none}

-- a name that can be asked for is a text of the kind
pub asked_wanted : (s : List ℕ) → IsText s → is_wanted_name s ≡ true → IsWanted [] 1 1024 s
asked_wanted s text e =
    let p = and_parts (not (length s == 0) && not (list_any (λ b. b == 0) s)) (nat_le (length s) 1024) e in
    let q = and_parts (not (length s == 0)) (not (list_any (λ b. b == 0) s)) p.0 in
    record { rest = s; whole = refl; bytes = no_zero s (not-true (list_any (λ b. b == 0) s) q.1) text; short = leb-true (length s) 1024 p.1 }

from_one : (s : List ℕ) → IsWanted [] 1 1024 s → All (IsFrom 1) s
from_one s w = subst (All (IsFrom 1)) (sym w.whole) w.bytes

some_byte : (s : List ℕ) → (s ≡ [] → ⊥) → not (length s == 0) ≡ true
some_byte [] ne = absurd (ne refl)
some_byte (b ∷ s) ne = not_from_false (length (b ∷ s) == 0) (ne_eqb (length (b ∷ s)) 0 (λ e. omega (arith, e)))

pub wanted_name : (s : List ℕ) → IsWanted [] 1 1024 s → (s ≡ [] → ⊥) → is_wanted_name s ≡ true
wanted_name s w ne =
    and_from (not (length s == 0) && not (list_any (λ b. b == 0) s)) (nat_le (length s) 1024)
    (and_from (not (length s == 0)) (not (list_any (λ b. b == 0) s)) (some_byte s ne) (not_from_false (list_any (λ b. b == 0) s) (zero_none s (from_one s w))))
    (le-leb (length s) 1024 w.short)

-- bytes but zero are bytes
pub witness_text : (ps : List Pattern) (regions : List Region) → AreRegions ps [] 1 1024 regions → (r : Region) → Contains regions r → IsText r.witness
witness_text ps regions are r c = All-weaker (IsFrom 1) (λ b. b < 256) (λ b from. from.1) r.witness (from_one r.witness (are.each r c).wanted)

pub nonzero : (s : List ℕ) → IsWanted [] 1 1024 s → All IsNonzeroByte s
nonzero s w = All-weaker (IsFrom 1) IsNonzeroByte (λ b from. (omega (arith, from.0), from.1)) s (from_one s w)

module _ (policies : List Policy) (label : Label) (ps : List Pattern) (np : AreNamePatterns policies label ps) (regions : List Region) (are : AreRegions ps [] 1 1024 regions) (rs : List Request)
    (has : (r : Region) → Contains regions r → HasChange r.witness rs) where
  abbrev Texts : List (List ℕ)
  Texts = told_apart (profiles_at policies label)

  change_for : (r : Request) → IsChange r → (q : Request) × Contains rs q × (reply policies label r ≡ reply policies label q)
  change_for (Change s) asked =
      let wanted = asked_wanted s asked.0 asked.1 in
      let r = are.all s wanted in
      let u = r.0.witness in
      let is = are.each r.0 r.1 in
      let alike : MatchAlike ps s u = same_list ps s u r.0.numbers r.2 is.lists in
      let rules : MatchAlike (changing policies label) s u = λ p c. alike p (subst (λ (l : List Pattern). Contains l p) (sym np.are) (Contains-append_left (changing policies label) np.names p c)) in
      let own : MatchAlike np.names s u = λ p c. alike p (subst (λ (l : List Pattern). Contains l p) (sym np.are) (Contains-append_right (changing policies label) np.names p c)) in
      let tells = tells_alike Texts np.names np.literal s u own (nonzero s wanted) (nonzero u is.wanted) in
      let some : u ≡ [] → ⊥ = λ none.
      let empty : s ≡ [] = (bytes_eq-Decides s []).0 (tells [] (0, omega arith, refl) ∙ (bytes_eq-Decides u []).1 none) in
      let bad : is_wanted_name [] ≡ true = subst (λ (x : List ℕ). is_wanted_name x ≡ true) empty asked.1 in
      let e : false ≡ true = bad in
      cc in
      (Change u, has r.0 r.1 (wanted_name u is.wanted some), changes_reply_alike policies s u label rules (names_alike policies label s u tells))
  change_for (File f) asked = absurd asked
  change_for (Link l) asked = absurd asked
  change_for (Exec x) asked = absurd asked
  change_for (Cap c) asked = absurd asked
  change_for (Net f s) asked = absurd asked
  change_for (Reload m) asked = absurd asked

  pub changes_stand : (none : List Request) → none ≡ [] → Adds IsChange none rs → AreRepresentatives policies label IsChange rs
  changes_stand none e adds = record { each = adds_each IsChange none rs e adds; all = change_for }
