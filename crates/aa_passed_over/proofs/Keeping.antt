-- Texts that are kept, and rules that none of them reads as.
use Rattle.std.proofs.Common.{◌≡◌, ℕ, Bool, true, false, ◌||◌, cond, List, [], ◌∷◌, ◌++◌, map, Option, Some, is_some}
use Rattle.std.proofs.Common.{refl, sym, ap, ◌∙◌, append_assoc, ◌<◌, ◌≤◌, ◌-◌, length, get_or, take, drop, arith}
use Rattle.std.proofs.lemmas.List.{append-nil, take_all}
use Rattle.std.specs.Str.{bytes_eq}
use Rattle.std.specs.Map.{lookup}
use Rattle.std.specs.Cmp.Lexicographic.{nat_list_eq_equiv}
use Rattle.aa_load.proofs.Names.{equals}
use Rattle.aa_passed_over.specs.declared.apart.Side.{Side}
use Rattle.aa_passed_over.specs.declared.listed.ListedRule.{ListedRule}
use Rattle.aa_passed_over.specs.Listed.{Listed, listed}
use Rattle.aa_passed_over.specs.Apart.{ApartRule, text_of, is_among, new_among, aside, AreSeen, Seen, is_seen, GoesOn}

-- a text is kept, or another was
pub kept : (old new : Seen) (texts : List (List ℕ)) (t key : List ℕ) (u : Unit {0})
    → ((q : List ℕ) → lookup (equals q) new ≡ cond (bytes_eq key q) (Some u) (lookup (equals q) old)) → key ≡ t → AreSeen old texts → AreSeen new (t ∷ texts)
kept old new texts t key u w e h = λ q.
    ap is_some (w q) ∙ by (bytes_eq key q) (lookup (equals q) old) ∙ ap (λ (b : Bool). bytes_eq key q || b) (h q)
    ∙ ap (λ (k : List ℕ). bytes_eq k q || is_among texts q) e ∙ ap (λ (b : Bool). b || is_among texts q) (nat_list_eq_equiv.symm t q)
  where
    by : (b : Bool) (o : Option (Unit {0})) → is_some (cond b (Some u) o) ≡ (b || is_some o)
    by true o = refl
    by false o = refl

-- one more of some texts is kept, and the others are left
pub one_kept : (texts us whole : List (List ℕ)) (t : List ℕ) → ((q : List ℕ) → (is_among texts q || is_among (t ∷ us) q) ≡ is_among whole q)
    → (q : List ℕ) → (is_among (t ∷ texts) q || is_among us q) ≡ is_among whole q
one_kept texts us whole t h q = by (bytes_eq q t) (is_among texts q) (is_among us q) ∙ h q
  where
    by : (b t u : Bool) → ((b || t) || u) ≡ (t || (b || u))
    by true true u = refl
    by true false u = refl
    by false t u = refl

pub all_kept : (b : Bool) → b ≡ (b || false)
all_kept true = refl
all_kept false = refl

-- a rule that reads as a text that is kept adds nothing
pub goes_known : (n : ℕ) (side : Side) (seen : Seen) (found : List ApartRule) (r : Listed) (rest : List Listed) (whole : List ApartRule) → is_seen seen r.text ≡ true
    → GoesOn n side seen found (r ∷ rest) whole → GoesOn n side seen found rest whole
goes_known n side seen found r rest whole h g = record {
  texts = g.texts;
  kept = g.kept;
  goes_on = ap (λ (b : Bool). found ++ map (aside n side) (cond b (new_among g.texts rest) (r ∷ new_among (r.text ∷ g.texts) rest))) (sym (sym (g.kept r.text) ∙ h)) ∙ g.goes_on;
}

-- any other adds itself, and its text is kept
pub goes_new : (n : ℕ) (side : Side) (old new : Seen) (found after : List ApartRule) (r : Listed) (rest : List Listed) (whole : List ApartRule) → is_seen old r.text ≡ false
    → ((texts : List (List ℕ)) → AreSeen old texts → AreSeen new (r.text ∷ texts)) → after ≡ found ++ aside n side r ∷ []
    → GoesOn n side old found (r ∷ rest) whole → GoesOn n side new after rest whole
goes_new n side old new found after r rest whole h keeps is g = record {
  texts = r.text ∷ g.texts;
  kept = keeps g.texts g.kept;
  goes_on = ap (λ (l : List ApartRule). l ++ map (aside n side) (new_among (r.text ∷ g.texts) rest)) is ∙ append_assoc found (aside n side r ∷ []) (map (aside n side) (new_among (r.text ∷ g.texts) rest))
      ∙ ap (λ (b : Bool). found ++ map (aside n side) (cond b (new_among g.texts rest) (r ∷ new_among (r.text ∷ g.texts) rest))) (sym (sym (g.kept r.text) ∙ h)) ∙ g.goes_on;
}

-- at the end all is found
pub goes_end : (n : ℕ) (side : Side) (seen : Seen) (found : List ApartRule) (rest : List ListedRule) (whole : List ApartRule) → length rest < 1
    → GoesOn n side seen found (map listed rest) whole → found ≡ whole
goes_end n side seen found [] whole h g = sym (append-nil found) ∙ g.goes_on
goes_end n side seen found (r ∷ rest) whole h g = absurd (omega (arith, h))

-- all of some texts are kept at the end
pub kept_end : (seen : Seen) (texts whole : List (List ℕ)) (rest : List ListedRule) → length rest < 1 → AreSeen seen texts
    → ((q : List ℕ) → (is_among texts q || is_among (map text_of (map listed rest)) q) ≡ is_among whole q) → AreSeen seen whole
kept_end seen texts whole [] h k all = λ q. k q ∙ all_kept (is_among texts q) ∙ all q
kept_end seen texts whole (r ∷ rest) h k all = absurd (omega (arith, h))

-- what stands first, and the others
pub first_is : {X : Type 0} (xs : List X) (x : X) → 1 ≤ length xs → x ≡ get_or xs 0 x → xs ≡ x ∷ take (length xs - 1) (drop 1 xs)
first_is [] x h e = absurd (omega (arith, h))
first_is {X} (y ∷ ys) x h e = ap (λ (z : X). z ∷ ys) (sym e) ∙ ap (λ (l : List X). x ∷ l) (sym (take_all (length (y ∷ ys) - 1) ys (omega arith)))
