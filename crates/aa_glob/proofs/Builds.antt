-- The texts that are built from their numbers, one part on.
use Rattle.std.proofs.Common.{◌≡◌, ℕ, zero, suc, ◌+◌, ◌*◌, ◌-◌, ◌/◌, ◌%◌, ◌<◌, ◌≤◌, max, Bool, false, List, [], ◌∷◌}
use Rattle.std.proofs.Common.{◌++◌, map, get_or, length, All, IsTrue, Bor, refl, sym, ap, ◌∙◌, subst, arith, length-append}
use Rattle.std.proofs.Math.Nat.{mul-div_cancel_left}
use Rattle.std.proofs.lemmas.Nat.{div-add-mod', div_below, mod_below}
use Rattle.std.proofs.lemmas.List.{length-map, get_or-map, get_or_append_left, get_or-append-add, get_or-append_right}
use Rattle.aa_glob.specs.declared.summary.VariableSummary.{VariableSummary}
use Rattle.aa_glob.specs.declared.building.Rest.{Rest}
use Rattle.aa_glob.specs.Variables.{Variable}
use Rattle.aa_glob.specs.Pieces.{Piece, Plain, Use, pieces_from}
use Rattle.aa_glob.specs.Expansions.{Outcome, Texts, alone, joined, in_turn, outcome, outcome_of}
use Rattle.aa_glob.specs.Settled.{IsEmptyText, AreEnds, before}
use Rattle.aa_glob.specs.Known.{Table, IsRight}
use Rattle.aa_glob.specs.Built.{HasTexts, Stands, pieces_of}
use Rattle.aa_glob.proofs.Depths.{joins, same_name}
use Rattle.aa_glob.proofs.Summaries.{product, length_product}
use Rattle.aa_glob.proofs.Ways.{one_piece}

-- what two outcomes that make texts are
record Both (c : List (List ℕ) → List (List ℕ) → List (List ℕ)) (x y : Outcome) (m : ℕ) (ts : List (List ℕ)) : Type 0 where
  most_first : ℕ
  first : List (List ℕ)
  most_second : ℕ
  second : List (List ℕ)
  is_first : x ≡ Texts most_first first
  is_second : y ≡ Texts most_second second
  most : m ≡ max most_first most_second
  texts : ts ≡ c first second

both_texts : (c : List (List ℕ) → List (List ℕ) → List (List ℕ)) (x y : Outcome) (m : ℕ) (ts : List (List ℕ)) → joins c x y ≡ Texts m ts → Both c x y m ts
both_texts c (Texts a t1) (Texts n us) m ts e = grind (arith)
both_texts c x y m ts e = absurd (cc e)

-- a text of the product by its number
product_at : (ts us : List (List ℕ)) (q r : ℕ) → r < length us → q < length ts → get_or (product ts us) (q * length us + r) [] ≡ get_or ts q [] ++ get_or us r []
product_at [] us q r hr hq = absurd (omega arith)
product_at (t ∷ ts) us zero r hr hq = grind (arith, get_or_append_left, product, length-map us (λ u. t ++ u), get_or-map (λ u. t ++ u) us r [] [])
product_at (t ∷ ts) us (suc q) r hr hq =
    let z : suc q * length us + r ≡ length (map (λ u. t ++ u) us) + (q * length us + r) = omega (arith, length-map us (λ u. t ++ u)) in
    ap (λ k. get_or (product (t ∷ ts) us) k []) z ∙ get_or-append-add (map (λ u. t ++ u) us) (product ts us) (q * length us + r) [] ∙ product_at ts us q r hr (omega arith)

-- a number below a product
cut : (n a b : ℕ) → n < a * b → (0 < a) × (0 < b) × ((a * b) / a ≡ b) × (n / b < a) × (n % b < b) × (n ≡ (n / b) * b + n % b)
cut n zero b h = absurd (omega arith)
cut n (suc a) zero h = absurd (omega arith)
cut n (suc a) (suc b) h = (omega arith, omega arith, mul-div_cancel_left (suc b) (omega arith), div_below n (suc b) (suc a) (omega arith) h, mod_below n (suc b) (omega arith), sym (div-add-mod' n (suc b)))

module _ (level : ℕ) (vars : List Variable) where
  abbrev of : List ℕ → Outcome
  of = outcome level vars

  -- a part and what is behind it: the number is cut in those of both
  module _ (f : Rest) (behind : Bor (List ℕ)) (keep : Bool) (p : Piece) (t : List ℕ) (e : pieces_of f ≡ p ∷ pieces_from keep 0 behind.now) (s : Stands level vars f t) where
    parts : Both product (alone of p) (joined of (pieces_from keep 0 behind.now)) s.most s.ts
    parts = both_texts product (alone of p) (joined of (pieces_from keep 0 behind.now)) s.most s.ts (sym (one_piece of p _ _ e) ∙ s.texts)

    long : f.count ≡ length parts.first * length parts.second
    long = sym s.count ∙ ap length parts.texts ∙ length_product parts.first parts.second

    stands_behind : (number count : ℕ) → count ≡ length parts.second → number < count → Stands level vars (record { text = behind; kept = keep; number = number; count = count }) (get_or parts.second number [])
    stands_behind number count is within =
        record { most = parts.most_second; ts = parts.second; texts = parts.is_second; few = omega (arith, parts.most, s.few); count = sym is; within = within; is = refl }

    text_is : (q r : ℕ) → f.number ≡ q * length parts.second + r → r < length parts.second → q < length parts.first → t ≡ get_or parts.first q [] ++ get_or parts.second r []
    text_is q r whole within_r within_q = grind (arith, product, product_at, parts)

  -- a byte
  pub stands_plain : (f : Rest) (behind : Bor (List ℕ)) (keep : Bool) (b : ℕ) (t : List ℕ) → pieces_of f ≡ Plain b ∷ pieces_from keep 0 behind.now → Stands level vars f t →
      (u : List ℕ) × (t ≡ b ∷ u) × Stands level vars (record f { text = behind; kept = keep }) u
  stands_plain f behind keep b t e s =
      let p = parts f behind keep (Plain b) t e s in
      let one : p.first ≡ (b ∷ []) ∷ [] = cc p.is_first in
      let single : length p.first ≡ 1 = ap length one in
      let same : f.count ≡ length p.second = long f behind keep (Plain b) t e s ∙ ap (λ n. n * length p.second) single ∙ omega arith in (
        get_or p.second f.number [],
        text_is f behind keep (Plain b) t e s 0 f.number (omega arith) (omega (arith, s.within, same)) (omega (arith, single)) ∙ ap (λ xs. get_or xs 0 [] ++ get_or p.second f.number []) one,
        stands_behind f behind keep (Plain b) t e s f.number f.count same s.within,
      )

  -- what a variable's texts are, and what is behind it, which has so many
  pub record Splits (f : Rest) (behind : Bor (List ℕ)) (keep : Bool) (name : List ℕ) (k : VariableSummary) (t : List ℕ) (left : ℕ) : Type 0 where
    pub some : 0 < k.texts.count
    pub any : 0 < left
    pub most : ℕ
    pub ts : List (List ℕ)
    pub texts : outcome level vars name ≡ Texts most ts
    pub few : most ≤ 1024
    pub within : f.number / left < length ts
    pub later : List ℕ
    pub stands : Stands level vars (record { text = behind; kept = keep; number = f.number % left; count = left }) later
    pub blank : IsTrue k.texts.blank → get_or ts (f.number / left) [] ≡ []
    pub is : t ≡ get_or ts (f.number / left) [] ++ later

  own_few : (d : ℕ) (name : List ℕ) (m : ℕ) (ts : List (List ℕ)) → outcome d vars name ≡ Texts m ts → length ts ≤ m
  unfolding outcome
  own_few zero name m ts e = absurd (cc e)
  own_few (suc d) name m ts e = grind (arith)

  pub stands_use : (f : Rest) (behind : Bor (List ℕ)) (keep : Bool) (name : List ℕ) (k : VariableSummary) (t : List ℕ) (depth : ℕ) (done : Table) → IsRight depth vars done name k →
      pieces_of f ≡ Use name ∷ pieces_from keep 0 behind.now → Stands level vars f t → Splits f behind keep name k t (f.count / k.texts.count)
  stands_use f behind keep name k t depth done right e s =
      let p = parts f behind keep (Use name) t e s in
      let whole : f.count ≡ length p.first * length p.second = long f behind keep (Use name) t e s in
      let same : right.texts.ts ≡ p.first = same_name vars name depth level right.texts.most p.most_first right.texts.ts p.first right.texts.is p.is_first in
      let many : k.texts.count ≡ length p.first = omega (arith, right.texts.sums.count, ap length same, own_few level name p.most_first p.first p.is_first, p.most, s.few) in
      let h = cut f.number (length p.first) (length p.second) (omega (arith, whole, s.within)) in
      subst (Splits f behind keep name k t) (cc (whole, many, h.2)) (record {
        some = omega (arith, h.0, many);
        any = h.1;
        most = p.most_first;
        ts = p.first;
        texts = p.is_first;
        few = omega (arith, p.most, s.few);
        within = h.3;
        later = get_or p.second (f.number % length p.second) [];
        stands = stands_behind f behind keep (Use name) t e s (f.number % length p.second) (length p.second) refl h.4;
        blank = λ b. (subst (All IsEmptyText) same (right.texts.sums.blank b)) (f.number / length p.second) [] h.3;
        is = text_is f behind keep (Use name) t e s (f.number / length p.second) (f.number % length p.second) h.5 h.4 h.3;
      })

  -- the value that a variable's text is of, by where the texts of each end
  pub record IsValue (values : List (List ℕ)) (start number : ℕ) (es : List ℕ) (i : ℕ) (t : List ℕ) : Type 0 where
    pub within : i < length values
    pub among : i < length es
    pub first : before start es i ≤ number
    pub last : number < get_or es i 0
    pub stands : (text : Bor (List ℕ)) (n c : ℕ) → text.now ≡ get_or values i [] → n ≡ number - before start es i → c ≡ get_or es i 0 - before start es i →
        Stands level vars (record { text = text; kept = false; number = n; count = c }) t

  pub value_found : (values : List (List ℕ)) (start r number most : ℕ) (es : List ℕ) (i : ℕ) (ts : List (List ℕ)) → AreEnds vars start values es → in_turn of values ≡ Texts most ts → most ≤ 1024 →
      start + length ts ≤ 1024 → number ≡ start + r → r < length ts → ((k : ℕ) → k < i → get_or es k 0 ≤ number) → (i < length es → number < get_or es i 0) → IsValue values start number es i (get_or ts r [])
  unfolding in_turn
  value_found [] start r number most es i ts ends e few short is lt below above = let h : [] ≡ ts = cc e in absurd (omega (arith, lt, ap length h))
  value_found (v ∷ vs) start r number most [] i ts ends e few short is lt below above = absurd ends
  value_found (v ∷ vs) start r number most (x ∷ es) zero ts ends e few short is lt below above =
      let p = both_texts ◌++◌ (outcome_of level vars v) (in_turn of vs) most ts e in
      let end : x ≡ start + length p.first = omega (arith, ends.1 level p.most_first p.first p.is_first, ap length p.texts, length-append p.first p.second) in
      record {
        within = omega arith;
        among = omega arith;
        first = omega arith;
        last = above (omega arith);
        stands = λ text n c text_is number_is count_is. grind (arith, get_or_append_left, p, end, above);
      }
  value_found (v ∷ vs) start r number most (x ∷ es) (suc i) ts ends e few short is lt below above =
      let p = both_texts ◌++◌ (outcome_of level vars v) (in_turn of vs) most ts e in
      let long : length ts ≡ length p.first + length p.second = ap length p.texts ∙ length-append p.first p.second in
      let end : x ≡ start + length p.first = omega (arith, ends.1 level p.most_first p.first p.is_first, long) in
      let past : x ≤ number = below 0 (omega arith) in
      let same : get_or p.second (r - length p.first) [] ≡ get_or ts r [] =
      sym (ap (λ xs. get_or xs r []) p.texts ∙ get_or-append_right p.first p.second (length p.first) r [] refl (omega arith)) in
      let f =
      value_found vs x (r - length p.first) number p.most_second es i p.second ends.2 p.is_second (omega (arith, p.most)) (omega arith) (omega arith) (omega arith) (λ k h. below (suc k) (omega arith)) (λ h. above (omega (arith, h))) in
      record {
        within = omega (arith, f.within);
        among = omega (arith, f.among);
        first = f.first;
        last = f.last;
        stands = λ text n c text_is number_is count_is. subst (Stands level vars _) same (f.stands text n c text_is number_is count_is);
      }

pub before_is : (start : ℕ) (es : List ℕ) (i : ℕ) → i < length es → before start es (suc i) ≡ get_or es i 0
before_is start [] i h = absurd (omega arith)
before_is start (e ∷ es) zero h = refl
before_is start (e ∷ es) (suc i) h = before_is e es i (omega arith)

-- ends don't fall, nor below the start
pub ends_rise : (vars : List Variable) (start : ℕ) (vs : List (List ℕ)) (es : List ℕ) → AreEnds vars start vs es → (i j d : ℕ) → i ≤ j → j ≤ length es → get_or (start ∷ es) i d ≤ get_or (start ∷ es) j d
ends_rise vars start vs es ends zero zero d le h = omega arith
ends_rise vars start vs es ends (suc i) zero d le h = absurd (omega arith)
ends_rise vars start [] [] ends i (suc j) d le h = absurd (omega arith)
ends_rise vars start [] (e ∷ es) ends i (suc j) d le h = absurd ends
ends_rise vars start (v ∷ vs) [] ends i (suc j) d le h = absurd ends
ends_rise vars start (v ∷ vs) (e ∷ es) ends zero (suc j) d le h = omega (arith, ends.0, ends_rise vars e vs es ends.2 0 j d (omega arith) (omega arith))
ends_rise vars start (v ∷ vs) (e ∷ es) ends (suc i) (suc j) d le h = ends_rise vars e vs es ends.2 i j d (omega arith) (omega arith)

pub value_picked : (depth : ℕ) (vars : List Variable) (values : List (List ℕ)) (es : List ℕ) (number place : ℕ) (ts : List (List ℕ)) → AreEnds vars 0 values es → HasTexts depth vars values ts number →
    ((k : ℕ) → k < place → get_or es k 0 ≤ number) → (place < length es → number < get_or es place 0) → IsValue depth vars values 0 number es place (get_or ts number [])
value_picked depth vars values es number place ts ends has = value_found depth vars values 0 number number has.most es place ts ends has.texts has.few (omega (arith, has.short)) (omega arith) has.within
