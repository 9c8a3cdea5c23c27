-- Summaries, one part and one value on.
use Rattle.std.proofs.Common.{◌≡◌, ℕ, zero, suc, ◌*◌, ◌<◌, ◌≤◌, ◌↔◌, ◌⊎◌, min, max, Bool, true, false, ◌||◌, ◌&&◌}
use Rattle.std.proofs.Common.{List, [], ◌∷◌, ◌++◌, map, flat_map, length, All, IsTrue, Some, sym, ap, ◌∙◌, subst, arith, append_assoc}
use Rattle.std.proofs.Common.{length-append, true≢false}
use Rattle.std.proofs.Math.Bool.{or_assoc, and_assoc, or-false, and-true}
use Rattle.std.proofs.lemmas.Bool.{cases_lt, and_parts, or_cases, or_left, or_right}
use Rattle.std.proofs.lemmas.List.{length-map}
use Rattle.std.proofs.lemmas.List.Elements.{All-nil, All-cons, All-head, All-tail, All-append, All-map, All-weaker}
use Rattle.aa_glob.specs.declared.summary.Summary.{Summary}
use Rattle.aa_glob.specs.Variables.{Variable, values_of}
use Rattle.aa_glob.specs.Pieces.{Piece}
use Rattle.aa_glob.specs.Expansions.{Outcome, Texts, alone, joined, in_turn, outcome, outcome_of, counted, is_reserved}
use Rattle.aa_glob.specs.Settled.{Sums, Settled, IsEmptyText, times, plus, AreEnds}
use Rattle.aa_glob.proofs.Depths.{joins, same_texts}

abbrev pub product : List (List ℕ) → List (List ℕ) → List (List ℕ)
product ts us = flat_map (λ t. map (λ u. t ++ u) us) ts

pub length_product : (ts us : List (List ℕ)) → length (product ts us) ≡ length ts * length us
length_product [] us = omega arith
length_product (t ∷ ts) us = length-append (map (λ u. t ++ u) us) (product ts us) ∙ omega (arith, length-map us (λ u. t ++ u), length_product ts us)

-- products that are counted up to 1,025
capped : (x y : ℕ) → min 1025 (min 1025 x * y) ≡ min 1025 (x * y)
capped x zero = omega arith
capped x (suc y) = grind (arith, cases_lt)

capped_right : (x y : ℕ) → min 1025 (x * min 1025 y) ≡ min 1025 (x * y)
capped_right x y = grind (arith, capped)

-- texts that are all empty
empty_product : (ts us : List (List ℕ)) → All IsEmptyText ts → All IsEmptyText us → All IsEmptyText (product ts us)
empty_product [] us a b = All-nil IsEmptyText
empty_product (t ∷ ts) us a b =
    let each : All IsEmptyText (map (λ u. t ++ u) us) = All-map IsEmptyText (λ u. t ++ u) us (All-weaker IsEmptyText (λ u. IsEmptyText (t ++ u)) (λ u e. ap (λ x. x ++ u) (All-head IsEmptyText t ts a) ∙ e) us b) in
    All-append IsEmptyText (map (λ u. t ++ u) us) (product ts us) each (empty_product ts us (All-tail IsEmptyText t ts a) b)

-- the summary of what two lists of texts make
joined_sums : (s r : Summary) (k m n : ℕ) (ts us vs : List (List ℕ)) → Sums s m ts → Sums r n us → k ≡ min 1025 (length vs) → (All IsEmptyText ts → All IsEmptyText us → All IsEmptyText vs) →
    Sums (record { count = k; many = s.many || r.many; blank = s.blank && r.blank }) (max m n) vs
joined_sums s r k m n ts us vs a b count empty = grind (arith, cases_lt, or_cases, or_left, or_right, and_parts)

pub times_sums : (s r : Summary) (m n : ℕ) (ts us : List (List ℕ)) → Sums s m ts → Sums r n us → Sums (times s r) (max m n) (product ts us)
times_sums s r m n ts us a b = grind (arith, length_product, capped, capped_right, empty_product, joined_sums)

pub plus_sums : (s r : Summary) (m n : ℕ) (ts us : List (List ℕ)) → Sums s m ts → Sums r n us → Sums (plus s r) (max m n) (ts ++ us)
plus_sums s r m n ts us a b = joined_sums s r _ m n ts us _ a b (omega (arith, a.count, b.count, length-append ts us)) (All-append IsEmptyText ts us)

same_summary : (a b : ℕ) (c d e f : Bool) → a ≡ b → c ≡ d → e ≡ f → (let s : Summary = record { count = a; many = c; blank = e } in s) ≡ record { count = b; many = d; blank = f }
same_summary a b c d e f x y z = cc

times_assoc : (s a r : Summary) → times (times s a) r ≡ times s (times a r)
times_assoc s a r = grind (arith, or_assoc, capped, capped_right, same_summary, and_assoc)

plus_assoc : (s a r : Summary) → plus (plus s a) r ≡ plus s (plus a r)
plus_assoc s a r = same_summary _ _ _ _ _ _ (omega arith) (or_assoc s.many a.many r.many) (and_assoc s.blank a.blank r.blank)

-- What the whole comes to, where the rest is settled: s is the summary of what is before.
abbrev pub GoesOn : (Summary → Summary → Summary) → Outcome → Outcome → Summary → Type 0
GoesOn op whole rest s = (r : Summary) → Settled rest r → Settled whole (op s r)

-- one on, where c makes the texts of two outcomes and op their summary
goes_more : (c : List (List ℕ) → List (List ℕ) → List (List ℕ)) (op : Summary → Summary → Summary) →
    ((s r : Summary) (m n : ℕ) (ts us : List (List ℕ)) → Sums s m ts → Sums r n us → Sums (op s r) (max m n) (c ts us)) → ((s a r : Summary) → op (op s a) r ≡ op s (op a r)) →
    (whole part next : Outcome) (s a : Summary) → Settled part a → GoesOn op whole (joins c part next) s → GoesOn op whole next (op s a)
goes_more c op right assoc whole part next s a one g r z = subst (Settled whole) (sym (assoc s a r)) (g (op a r) (record {
  most = max one.most z.most;
  ts = c one.ts z.ts;
  is = ap (λ x. joins c x next) one.is ∙ ap (joins c (Texts one.most one.ts)) z.is;
  sums = right a r one.most z.most one.ts z.ts one.sums z.sums;
}))

none_many : {b : Bool} → b ≡ false → IsTrue b ↔ (1024 < 0)
none_many e = (λ t. absurd (true≢false (sym t ∙ e)), λ h. absurd (omega arith))

module _ (depth : ℕ) (vars : List Variable) where
  abbrev of : List ℕ → Outcome
  of = outcome depth vars

  -- a byte alone
  pub byte_alone : (b : ℕ) → Settled (Texts 0 ((b ∷ []) ∷ [])) (record { count = 1; many = false; blank = false })
  byte_alone b = grind (arith, none_many)

  -- the parts of a text
  pub text_start : (whole : Outcome) → GoesOn times whole whole (record { count = 1; many = false; blank = true })
  text_start whole = grind (arith, same_summary)

  pub text_more : (whole : Outcome) (p : Piece) (ps all : List Piece) (s a : Summary) → all ≡ p ∷ ps → Settled (alone of p) a → GoesOn times whole (joined of all) s → GoesOn times whole (joined of ps) (times s a)
  unfolding joined
  text_more whole p ps all s a e one g = goes_more product times times_sums times_assoc whole (alone of p) (joined of ps) s a one (subst (λ x. GoesOn times whole (joined of x) s) e g)

  pub text_end : (whole : Outcome) (all : List Piece) (s : Summary) → all ≡ [] → s.count ≤ 1025 → GoesOn times whole (joined of all) s → Settled whole s
  unfolding joined
  text_end whole all s e small g =
      let unit : Settled (joined of all) (record { count = 1; many = false; blank = true }) = subst (λ x. Settled (joined of x) (record { count = 1; many = false; blank = true })) (sym e) (grind (arith, none_many, All-cons, All-nil)) in
      subst (Settled whole) (same_summary _ _ _ _ _ _ (omega (arith, small)) (or-false s.many) (and-true s.blank)) (g _ unit)

  -- the values of a variable
  pub values_start : (whole : Outcome) → GoesOn plus whole whole (record { count = 0; many = false; blank = true })
  values_start whole = grind (arith, same_summary)

  pub values_more : (whole : Outcome) (v : List ℕ) (vs all : List (List ℕ)) (s a : Summary) → all ≡ v ∷ vs → Settled (outcome_of depth vars v) a
      → GoesOn plus whole (in_turn of all) s → GoesOn plus whole (in_turn of vs) (plus s a)
  unfolding in_turn
  values_more whole v vs all s a e one g = goes_more ◌++◌ plus plus_sums plus_assoc whole (outcome_of depth vars v) (in_turn of vs) s a one (subst (λ x. GoesOn plus whole (in_turn of x) s) e g)

  pub values_end : (whole : Outcome) (all : List (List ℕ)) (s : Summary) → all ≡ [] → s.count ≤ 1025 → GoesOn plus whole (in_turn of all) s → Settled whole s
  unfolding in_turn
  values_end whole all s e small g =
      let unit : Settled (in_turn of all) (record { count = 0; many = false; blank = true }) = subst (λ x. Settled (in_turn of x) (record { count = 0; many = false; blank = true })) (sym e) (grind (arith, none_many, All-nil)) in
      subst (Settled whole) (same_summary _ _ _ _ _ _ (omega (arith, small)) (or-false s.many) (and-true s.blank)) (g _ unit)

  -- where the texts of one value more end
  pub ends_more : (values : List (List ℕ)) (front new : List ℕ) (v : List ℕ) (vs all : List (List ℕ)) (s a : Summary) → s.count ≤ 1025
      → all ≡ v ∷ vs → new ≡ front ++ (plus s a).count ∷ [] → Settled (outcome_of depth vars v) a →
      ((es : List ℕ) → AreEnds vars s.count all es → AreEnds vars 0 values (front ++ es)) → (es : List ℕ) → AreEnds vars (plus s a).count vs es → AreEnds vars 0 values (new ++ es)
  ends_more values front new v vs all s a small e pushed one earlier = grind (arith, append_assoc, same_texts)

  -- a variable is one deeper than its values
  pub variable_is : (name : List ℕ) (values : List (List ℕ)) → is_reserved name ≡ false → values_of vars name ≡ Some values → outcome (suc depth) vars name ≡ counted (in_turn of values)
  unfolding outcome
  variable_is name values plain defined = grind arith

  -- the variable counts its own texts
  pub settled_variable : (name : List ℕ) (values : List (List ℕ)) (s t : Summary) → is_reserved name ≡ false → values_of vars name ≡ Some values →
      t.count ≡ s.count → (IsTrue t.many ↔ (IsTrue s.many ⊎ (1024 < s.count))) → t.blank ≡ s.blank → Settled (in_turn of values) s → Settled (outcome (suc depth) vars name) t
  settled_variable name values s t plain defined count many blank k = record {
    most = max k.most (length k.ts);
    ts = k.ts;
    is = variable_is name values plain defined ∙ ap counted k.is;
    sums = grind (arith, cases_lt);
  }
