-- A pattern of a text's bytes tells the text from all others.
use Rattle.std.proofs.Common.{◌≡◌, ℕ, zero, suc, List, [], ◌∷◌, ◌++◌, map, Contains, All, refl, sym, ap, ◌∙◌, subst, arith}
use Rattle.std.specs.Str.{bytes_eq}
use Rattle.std.proofs.lemmas.List.Elements.{All-head, All-tail, Contains-append_left, Contains-append_right}
use Rattle.std.proofs.lemmas.Slice.Eq.{bytes_eq-Decides}
use Rattle.aa_pattern.specs.declared.item.Item.{Item}
use Rattle.aa_pattern.specs.declared.pattern.Pattern.{Pattern}
use Rattle.aa_pattern.specs.Globs.{Matches, IsNonzeroByte}
use Rattle.aa_pattern.specs.Matching.{is_match}
use Rattle.aa_pattern.proofs.Decided.{decided}
use Rattle.aa_representatives.specs.Alike.{MatchAlike}
use Rattle.aa_representatives.specs.Names.{literal_of, items_of, ArePatternsOf}
use Rattle.aa_representatives.proofs.Standing.{same_Bool}
use Rattle.aa_representatives.proofs.Adding.{none_in}

forth : (n s : List ℕ) → Matches (literal_of n) s → s ≡ n
forth [] s m = m
forth (c ∷ n) s m = m.2 ∙ ap (λ (l : List ℕ). l ++ m.1) m.3.0 ∙ ap (λ (l : List ℕ). c ∷ l) (forth n m.1 m.4)

back : (n : List ℕ) → All IsNonzeroByte n → Matches (literal_of n) n
back [] all = refl
back (c ∷ n) all = (c ∷ [], n, refl, (refl, All-head IsNonzeroByte c n all), back n (All-tail IsNonzeroByte c n all))

same_text : (p : Pattern) (n s u : List ℕ) → items_of p ≡ literal_of n → is_match p.items.items s ≡ is_match p.items.items u → All IsNonzeroByte s → s ≡ n → u ≡ n
same_text p n s u e alike all is =
    let m : Matches p.items.items s = subst (λ (l : List Item). Matches l s) (sym e) (subst (λ (x : List ℕ). Matches (literal_of x) s) is (back s all)) in
    let w : Matches p.items.items u = (decided p.items.items u).0 (sym alike ∙ (decided p.items.items s).1 m) in
    forth n u (subst (λ (l : List Item). Matches l u) e w)

-- each text has its pattern
own : (texts : List (List ℕ)) (ps : List Pattern) → ArePatternsOf texts ps → (n : List ℕ) → Contains texts n → (p : Pattern) × Contains ps p × (items_of p ≡ literal_of n)
own [] ps e n c = absurd (none_in n c)
own (t ∷ texts) [] e n c = cc
own (t ∷ texts) (p ∷ ps) e n (zero, lt, is) = let h : items_of p ≡ literal_of t = cc in (p, Contains-append_left (p ∷ []) ps p (0, omega arith, refl), h ∙ ap literal_of is)
own (t ∷ texts) (p ∷ ps) e n (suc k, lt, is) =
    let rest : map items_of ps ≡ map literal_of texts = cc in
    let r = own texts ps rest n (k, omega arith, is) in
    (r.0, Contains-append_right (p ∷ []) ps r.0 r.1, r.2)

-- two names that the same patterns match are both one of the texts, or neither is
pub tells_alike : (texts : List (List ℕ)) (ps : List Pattern) → ArePatternsOf texts ps → (s u : List ℕ) → MatchAlike ps s u → All IsNonzeroByte s → All IsNonzeroByte u
    → (n : List ℕ) → Contains texts n → bytes_eq s n ≡ bytes_eq u n
tells_alike texts ps are s u alike good fine n c =
    let p = own texts ps are n c in
    let same = alike p.0 p.1 in
    same_Bool (bytes_eq s n) (bytes_eq u n)
    (λ e. (bytes_eq-Decides u n).1 (same_text p.0 n s u p.2 same good ((bytes_eq-Decides s n).0 e)))
    (λ e. (bytes_eq-Decides s n).1 (same_text p.0 n u s p.2 (sym same) fine ((bytes_eq-Decides u n).0 e)))
