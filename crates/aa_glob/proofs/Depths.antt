-- A text comes to the same at each depth that is deep enough.
use Rattle.std.proofs.Common.{◌≡◌, ◌≢◌, ℕ, zero, suc, ◌≤◌, ◌⊎◌, max, Bool, cond, List, [], ◌∷◌, length, Option, Result, Err, refl, sym, ap, ◌∙◌, subst, inl, inr, arith, lt-ltb}
use Rattle.std.specs.Prelude.{nat_lt, if◌then◌else◌}
use Rattle.std.proofs.lemmas.Bool.{cases_lt, le-ltb}
use Rattle.aa_base.specs.declared.fault.PolicyKind.{PolicyKind}
use Rattle.aa_base.specs.declared.fault.PolicyKind.TheVariants.{Unsupported, VariableCircle, TooManyExpansions}
use Rattle.aa_glob.specs.declared.sign.Token.{Token}
use Rattle.aa_glob.specs.Pieces.{Piece, pieces}
use Rattle.aa_glob.specs.Variables.{Variable, values_of}
use Rattle.aa_glob.specs.Expansions.{Outcome, Texts, Stops, Deeper, both, alone, joined, in_turn, of_values, is_reserved, outcome, outcome_of, expansions, Expands, in_walk, in_circle, too_many, as_texts, ExpandsOnce}

-- where both come to texts, those that c makes of them
abbrev pub joins : (List (List ℕ) → List (List ℕ) → List (List ℕ)) → Outcome → Outcome → Outcome
joins c = both (λ m ts n us. Texts (max m n) (c ts us))

-- deeper, an outcome is the same or was none
abbrev pub Below : Outcome → Outcome → Type 0
Below x y = (x ≡ Deeper) ⊎ (x ≡ y)

below_joins : (c : List (List ℕ) → List (List ℕ) → List (List ℕ)) (x x' y y' : Outcome) → Below x x' → Below y y' → Below (joins c x y) (joins c x' y')
below_joins c x x' y y' a b = grind arith

module _ (of other : List ℕ → Outcome) (each : (n : List ℕ) → Below (of n) (other n)) where
  pub alone_below : (p : Piece) → Below (alone of p) (alone other p)
  alone_below p = grind (arith, each)

  joined_below : (ps : List Piece) → Below (joined of ps) (joined other ps)
  unfolding joined
  joined_below [] = inr refl
  joined_below (p ∷ ps) = below_joins _ (alone of p) (alone other p) (joined of ps) (joined other ps) (alone_below p) (joined_below ps)

  in_turn_below : (vs : List (List ℕ)) → Below (in_turn of vs) (in_turn other vs)
  unfolding in_turn
  in_turn_below [] = inr refl
  in_turn_below (v ∷ vs) = below_joins _ (joined of (pieces v)) (joined other (pieces v)) (in_turn of vs) (in_turn other vs) (joined_below (pieces v)) (in_turn_below vs)

  values_below : (b : Bool) (o : Option (List (List ℕ))) → Below (cond b (Stops Unsupported) (of_values of o)) (cond b (Stops Unsupported) (of_values other o))
  values_below b o = grind (arith, in_turn_below)

pub outcome_below : (vars : List Variable) (d e : ℕ) → d ≤ e → (name : List ℕ) → Below (outcome d vars name) (outcome e vars name)
unfolding outcome
outcome_below vars zero e le name = inl refl
outcome_below vars (suc d) zero le name = absurd (omega arith)
outcome_below vars (suc d) (suc e) le name =
    values_below (outcome d vars) (outcome e vars) (outcome_below vars d e (omega arith)) (is_reserved name) (values_of vars name)

-- outcomes that are each below those of more depth
module _ (of : ℕ → Outcome) (up : (d e : ℕ) → d ≤ e → Below (of d) (of e)) where
  same : (d e : ℕ) → d ≤ e → of d ≢ Deeper → of d ≡ of e
  same d e le some = grind (arith, up d e le)

  one_outcome : (d e : ℕ) → of d ≢ Deeper → of e ≢ Deeper → of d ≡ of e
  one_outcome d e a b = grind (arith, cases_lt, same)

  one_texts : (d e m n : ℕ) (ts us : List (List ℕ)) → of d ≡ Texts m ts → of e ≡ Texts n us → ts ≡ us
  one_texts d e m n ts us a b = grind (arith, one_outcome d e)

  -- at more depth it is those texts, and at less it is deeper or they
  pub texts_above : (n d m : ℕ) (ts : List (List ℕ)) → n ≤ d → of n ≡ Texts m ts → of d ≡ Texts m ts
  texts_above n d m ts le e = grind (arith, up n d le)

  pub texts_near : (n d m : ℕ) (ts : List (List ℕ)) → of n ≡ Texts m ts → Below (of d) (Texts m ts)
  texts_near n d m ts e = subst (Below (of d)) (texts_above n (max n d) m ts (omega arith) e) (up d (max n d) (omega arith))

pub piece_up : (vars : List Variable) (p : Piece) (d e : ℕ) → d ≤ e → Below (alone (outcome d vars) p) (alone (outcome e vars) p)
piece_up vars p d e le = alone_below (outcome d vars) (outcome e vars) (outcome_below vars d e le) p

pub pieces_up : (vars : List Variable) (ps : List Piece) (d e : ℕ) → d ≤ e → Below (joined (outcome d vars) ps) (joined (outcome e vars) ps)
pieces_up vars ps d e le = joined_below (outcome d vars) (outcome e vars) (outcome_below vars d e le) ps

pub same_name : (vars : List Variable) (name : List ℕ) (d e m n : ℕ) (ts us : List (List ℕ)) → outcome d vars name ≡ Texts m ts → outcome e vars name ≡ Texts n us → ts ≡ us
same_name vars name = one_texts (λ k. outcome k vars name) (λ j k le. outcome_below vars j k le name)

pub same_texts : (vars : List Variable) (ps : List Piece) (d e m n : ℕ) (ts us : List (List ℕ)) → joined (outcome d vars) ps ≡ Texts m ts → joined (outcome e vars) ps ≡ Texts n us → ts ≡ us
same_texts vars ps = one_texts (λ k. joined (outcome k vars) ps) (pieces_up vars ps)

-- what an outcome is refused for or expands to
abbrev answer : Outcome → Result (List (List Token)) PolicyKind
answer (Texts most ts) = if nat_lt 1024 (max most (length ts)) then Err TooManyExpansions else expansions ts
answer (Stops fault) = Err fault
answer Deeper = Err VariableCircle

module _ (vars : List Variable) (raw : List ℕ) where
  abbrev at : ℕ → Outcome
  at depth = outcome_of depth vars raw

  -- at some depth that is the answer, or none is deep enough
  abbrev Answers : Result (List (List Token)) PolicyKind → Type 0
  Answers r = ((d : ℕ) × (at d ≢ Deeper) × (r ≡ answer (at d))) ⊎ (((d : ℕ) → at d ≡ Deeper) × (r ≡ Err VariableCircle))

  answers : {r : Result (List (List Token)) PolicyKind} → Expands vars raw r → Answers r
  answers (in_walk d fault e) = inl (d, (λ z. absurd (cc (sym e ∙ z))), sym (ap answer e))
  answers (in_circle all) = inr (all, refl)
  answers (too_many d most ts e many) = grind (arith, lt-ltb)
  answers (as_texts d most ts e few) = grind (arith, le-ltb)

  one_answer : (r s : Result (List (List Token)) PolicyKind) → Answers r → Answers s → r ≡ s
  one_answer r s a b = grind (arith, one_outcome at (pieces_up vars (pieces raw)))

pub expands_once : ExpandsOnce
expands_once vars raw one other a b = one_answer vars raw one other (answers vars raw a) (answers vars raw b)
