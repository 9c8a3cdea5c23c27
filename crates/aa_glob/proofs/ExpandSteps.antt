-- Expansions, one byte and one text on.
use Rattle.std.proofs.Common.{◌≡◌, ◌≢◌, ℕ, ◌+◌, ◌<◌, ◌≤◌, ◌⊎◌, ◌↔◌, Bool, true, false, ◌&&◌, ◌==◌, List, []}
use Rattle.std.proofs.Common.{◌∷◌, ◌++◌, drop, get_or, length, Result, Ok, Err, IfOk, IfErr, refl, sym, ◌∙◌, subst, inl, inr, ⊎_elim, arith}
use Rattle.std.proofs.Common.{append_assoc, lt-ltb, IsTrue, true≢false}
use Rattle.std.specs.List.{list_any}
use Rattle.std.proofs.lemmas.Bool.{cases_lt, and_parts, or_parts}
use Rattle.std.proofs.lemmas.List.{append-nil, at_drop_more, at_drop_all}
use Rattle.aa_base.specs.declared.fault.PolicyKind.{PolicyKind}
use Rattle.aa_base.specs.declared.fault.PolicyKind.TheVariants.{NoMemory, TooManyExpansions}
use Rattle.aa_glob.specs.declared.sign.Token.{Token}
use Rattle.aa_glob.specs.declared.summary.Summary.{Summary}
use Rattle.aa_glob.specs.Variables.{Variable}
use Rattle.aa_glob.specs.Reading.{Gives}
use Rattle.aa_glob.specs.Expansions.{Outcome, Texts, outcome_of, squeezed, expansion, expansions, Expands, in_walk, in_circle, too_many, as_texts, joined, outcome}
use Rattle.aa_glob.specs.Pieces.{pieces_from}
use Rattle.aa_glob.specs.Settled.{Settled}
use Rattle.aa_glob.specs.Ways.{IsWalkFault}
use Rattle.aa_glob.specs.Built.{IsBuilt}

-- a text with each run of / made one, one byte on
pub squeeze_left_out : (front all : List ℕ) (after : Bool) (s : List ℕ) (i d : ℕ) → i < length s → (after && (get_or s i d == 47)) ≡ true → front ++ squeezed after (drop i s) ≡ all →
    front ++ squeezed (get_or s i d == 47) (drop (i + 1) s) ≡ all
unfolding squeezed
squeeze_left_out front all after s i d h e so_far = grind (arith, and_parts, at_drop_more (squeezed after) s i d h)

pub squeeze_kept : (front new all : List ℕ) (after : Bool) (s : List ℕ) (i d : ℕ) → i < length s → (after && (get_or s i d == 47)) ≡ false
    → new ≡ front ++ get_or s i d ∷ [] → front ++ squeezed after (drop i s) ≡ all →
    new ++ squeezed (get_or s i d == 47) (drop (i + 1) s) ≡ all
unfolding squeezed
squeeze_kept front new all after s i d h e pushed so_far = grind (arith, append_assoc, at_drop_more (squeezed after) s i d h)

pub squeeze_end : (front all : List ℕ) (after : Bool) (s : List ℕ) (i : ℕ) → length s ≤ i → front ++ squeezed after (drop i s) ≡ all → front ≡ all
unfolding squeezed
squeeze_end front all after s i le so_far = grind (arith, append-nil, at_drop_all (squeezed after) s i le)

-- what is too long is so however much of it was built
pub built_same : (text t : List ℕ) → IsBuilt text t → expansion text ≡ expansion t
unfolding expansion
built_same text t b = grind (arith, lt-ltb)

-- behind those that were read
abbrev pub behind_read : List (List Token) → Result (List (List Token)) PolicyKind → Result (List (List Token)) PolicyKind
behind_read ps (Ok qs) = Ok (ps ++ qs)
behind_read ps (Err e) = Err e

pub read_more : (ts : List (List ℕ)) (i : ℕ) (ps new : List (List Token)) (p : List Token) → i < length ts → expansion (get_or ts i []) ≡ Ok p → new ≡ ps ++ p ∷ [] →
    behind_read ps (expansions (drop i ts)) ≡ expansions ts → behind_read new (expansions (drop (i + 1) ts)) ≡ expansions ts
unfolding expansions
read_more ts i ps new p h e pushed so_far = grind (arith, append_assoc, at_drop_more expansions ts i [] h)

pub read_refused : (ts : List (List ℕ)) (i : ℕ) (ps : List (List Token)) (fault : PolicyKind) → i < length ts → expansion (get_or ts i []) ≡ Err fault →
    behind_read ps (expansions (drop i ts)) ≡ expansions ts → expansions ts ≡ Err fault
unfolding expansions
read_refused ts i ps fault h e so_far = grind (arith, at_drop_more expansions ts i [] h)

pub read_end : (ts : List (List ℕ)) (i : ℕ) (ps : List (List Token)) → length ts ≤ i → behind_read ps (expansions (drop i ts)) ≡ expansions ts → expansions ts ≡ Ok ps
unfolding expansions
read_end ts i ps h so_far = grind (arith, append-nil, at_drop_all expansions ts i h)

-- a text without @ is its one text
plain_texts : (of : List ℕ → Outcome) (kept : Bool) (s : List ℕ) → list_any (λ b. b == 64) s ≡ false → joined of (pieces_from kept 0 s) ≡ Texts 0 (s ∷ [])
unfolding pieces_from joined
plain_texts of kept [] h = refl
plain_texts of kept (b ∷ s) h = grind (arith, or_parts, plain_texts of false s, plain_texts of (b == 92) s)

pub plain_expands : (vars : List Variable) (raw : List ℕ) (r : Result (List (List Token)) PolicyKind) → list_any (λ b. b == 64) raw ≡ false → expansions (raw ∷ []) ≡ r → Expands vars raw r
plain_expands vars raw r h e = subst (Expands vars raw) e (as_texts 0 0 (raw ∷ []) (plain_texts (outcome 0 vars) false raw h) (omega arith))

-- the whole
pub fault_expands : (vars : List Variable) (raw : List ℕ) (e : PolicyKind) → IsWalkFault vars raw e → Expands vars raw (Err e)
fault_expands vars raw e f =
    ⊎_elim (λ h. in_walk h.0 e h.1)
    (λ h. subst (λ x. Expands vars raw (Err x)) (sym h.0) (in_circle h.1)) f

pub many_expands : (vars : List Variable) (raw : List ℕ) (depth : ℕ) (s : Summary) → Settled (outcome_of depth vars raw) s → (IsTrue s.many ⊎ (1024 < s.count)) → Expands vars raw (Err TooManyExpansions)
many_expands vars raw depth s k (inl m) = let x = k.sums.many.0 m in too_many depth k.most k.ts k.is (omega arith)
many_expands vars raw depth s k (inr c) = too_many depth k.most k.ts k.is (omega (arith, k.sums.count, c))

pub few_most : (m : ℕ) (many : Bool) → (IsTrue many ↔ (1024 < m)) → many ≡ false → m ≤ 1024
few_most m many same e = ⊎_elim (λ (lt : 1024 < m). absurd (true≢false (sym (same.1 lt) ∙ e))) (λ ge. ge) (cases_lt 1024 m)

pub texts_expand : (vars : List Variable) (raw : List ℕ) (depth : ℕ) (s : Summary) (r : Result (List (List Token)) PolicyKind)
    → (k : Settled (outcome_of depth vars raw) s) → s.many ≡ false → s.count ≤ 1024 → expansions k.ts ≡ r → Expands vars raw r
texts_expand vars raw depth s r k few short e =
    let most : k.most ≤ 1024 = few_most k.most s.many k.sums.many few in
    subst (Expands vars raw) e (as_texts depth k.most k.ts k.is (omega (arith, k.sums.count, short, most)))

-- what reading gives, at Ok and where it is refused
pub gives : {X Y : Type 0} (view : X → Y) (P : Result Y PolicyKind → Type 0) (r : Result X PolicyKind) (read : Result Y PolicyKind) → Gives view r read → ((x : Result Y PolicyKind) → read ≡ x → P x) →
    IfOk r (λ v. P (Ok (view v))) × IfErr r (λ e. e ≢ NoMemory → P (Err e))
gives view P (Ok v) read g each = (each (Ok (view v)) g, tt)
gives view P (Err e) read g each = (tt, λ other. each (Err e) (g other))
