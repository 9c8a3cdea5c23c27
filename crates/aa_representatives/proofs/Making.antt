-- Automata that are made of others, by their patterns.
use Rattle.std.proofs.Common.{◌≡◌, ◌↔◌, ℕ, ◌<◌, ◌≤◌, Bool, false, true≢false, IsTrue}
use Rattle.std.proofs.Common.{Option, Some, Result, Ok, Err, IfOk, List, [], ◌∷◌, ◌++◌, length, slice_get}
use Rattle.std.proofs.Common.{refl, sym, ap, ◌∙◌, subst, ⊎_elim, arith, length-append}
use Rattle.std.specs.Option.{option_and_then}
use Rattle.std.specs.Result.{IsErrAnd}
use Rattle.std.proofs.lemmas.Bool.{cases_lt}
use Rattle.std.proofs.lemmas.Option.{slice_get_past}
use Rattle.std.proofs.lemmas.List.{append-nil}
use Rattle.aa_pattern.specs.Limits.{most_patterns}
use Rattle.aa_pattern.specs.declared.pattern.Pattern.{Pattern}
use Rattle.aa_model.specs.declared.policy.Policy.{Policy}
use Rattle.aa_model.specs.declared.policy.Profile.{Profile}
use Rattle.aa_model.specs.declared.label.Label.{Label}
use Rattle.aa_model.specs.declared.label.Label.TheVariants.{Confined}
use Rattle.aa_auto.specs.declared.build.BuildFault.{BuildFault}
use Rattle.aa_auto.specs.Tables.{Table, IsAutomaton}
use Rattle.aa_auto.specs.Pairs.{CanMove, IsBuilt, TellsBytes}
use Rattle.aa_auto.proofs.JoinLemmas.{can_move}
use Rattle.aa_compile.specs.Rows.{patterns_of}
use Rattle.aa_compile.specs.Checks.{attached_patterns}
use Rattle.aa_compile.specs.Transitions.{tops, children}
use Rattle.aa_auto.specs.declared.build.BuildFault.TheVariants.{NoMemory as NoRowMemory, TooManyStates as TooManyRows}
use Rattle.aa_representatives.specs.declared.fault.RepresentativesFault.{RepresentativesFault}
use Rattle.aa_representatives.specs.declared.fault.RepresentativesFault.TheVariants.{TooManyStates, TooManyPatterns}
use Rattle.aa_representatives.specs.Alike.{deciding_at, filing, filing_at}
use Rattle.aa_representatives.specs.Faults.{fault_of}

-- an automaton that was built has both parts
pub built_from : (r : Result Table BuildFault) (qs ps : List Pattern) → qs ≡ ps → IfOk r (IsAutomaton qs) → IfOk r (TellsBytes qs)
    → IfOk r (IsBuilt ps)
built_from (Ok t) qs ps e a b = record { automaton = subst (λ l. IsAutomaton l t) e a; bytes = subst (λ l. TellsBytes l t) e b }
built_from (Err f) qs ps e a b = a

-- the patterns that decide in a profile that is there
pub deciding_is : (profiles : List Profile) (n : ℕ) (p : Profile) → slice_get profiles n ≡ Some p →
    deciding_at profiles n (slice_get profiles n) ≡
    (patterns_of p.files ++ attached_patterns profiles (tops profiles)) ++ attached_patterns profiles (children profiles n)
deciding_is profiles n p e = ap (deciding_at profiles n) e

-- no attachment of children
pub none_more : (xs ys : List Pattern) → length ys ≡ 0 → xs ++ ys ≡ xs
none_more xs [] e = append-nil xs
none_more xs (y ∷ ys) e = absurd (omega (arith, e))

-- the lists of the second can be moved up by the patterns of the first, where all are few enough
pub can_move_by : (ps qs : List Pattern) (t : Table) (count : ℕ) → count ≡ length ps → IsBuilt qs t → length (ps ++ qs) ≤ most_patterns
    → CanMove count t.lists
can_move_by ps qs t count e b few = can_move qs t count b.automaton (omega (arith, few, length-append ps qs, e))

-- a test that fails
past : (b : Bool) (m n : ℕ) → (IsTrue b ↔ (m < n)) → b ≡ false → n ≤ m
past b m n is e = ⊎_elim (λ (lt : m < n). absurd (true≢false (sym (is.1 lt) ∙ e))) (λ (le : n ≤ m). le) (cases_lt m n)

-- none where the test says that the profile isn't there
pub none_there : (profiles : List Profile) (n : ℕ) (b : Bool) → (IsTrue b ↔ (n < length profiles)) → b ≡ false
    → deciding_at profiles n (slice_get profiles n) ≡ []
none_there profiles n b is e = ap (deciding_at profiles n) (slice_get_past profiles n (past b n (length profiles) is e))

-- the error that was handed on
pub err_same : {T U E : Type 0} (r : Result T E) (f g : E) → IsErrAnd r (λ y. y ≡ f) → r ≡ Err g → ◌≡◌ {A = Result U E} (Err f) (Err g)
err_same (Ok t) f g a e = absurd a
err_same (Err y) f g a e =
    let first : y ≡ f = a in
    let last : y ≡ g = cc e in
    cc (first, last)

-- the same where the fault was turned into one of representatives
pub err_from : {T U : Type 0} (r : Result T RepresentativesFault) (f : BuildFault) → IsErrAnd r (λ y. y ≡ fault_of f) → r ≡ Err TooManyStates
    → ◌≡◌ {A = Result U BuildFault} (Err f) (Err TooManyRows)
err_from (Ok t) f a e = absurd a
err_from (Err y) NoRowMemory a e = absurd (cc (sym a, e))
err_from (Err y) TooManyRows a e = refl

-- what an automaton is refused for isn't that there are too many patterns
pub not_many : {T : Type 0} (r : Result T RepresentativesFault) (f : BuildFault) → IsErrAnd r (λ y. y ≡ fault_of f) → r ≡ Err TooManyPatterns → ⊥
not_many (Ok t) f a e = a
not_many (Err y) NoRowMemory a e = cc (sym a, e)
not_many (Err y) TooManyRows a e = cc (sym a, e)

-- the patterns of a profile that is there
pub filing_is : (profiles : List Profile) (n : ℕ) (p : Profile) → slice_get profiles n ≡ Some p
    → filing_at (slice_get profiles n) ≡ patterns_of p.files
filing_is profiles n p e = ap filing_at e

-- none where the test says that it isn't
pub no_filing : (profiles : List Profile) (n : ℕ) (b : Bool) → (IsTrue b ↔ (n < length profiles)) → b ≡ false
    → filing_at (slice_get profiles n) ≡ []
no_filing profiles n b is e = ap filing_at (slice_get_past profiles n (past b n (length profiles) is e))

-- those of a label's profile, where its policy is there
pub filing_found : (policies : List Policy) (label : Label) (k n : ℕ) (p : Policy) → label ≡ Confined k n → slice_get policies k ≡ Some p
    → filing policies label ≡ filing_at (slice_get p.profiles n)
filing_found policies label k n p e there =
    ap (filing policies) e ∙ ap (λ (o : Option Policy). filing_at (option_and_then (λ (q : Policy). slice_get q.profiles n) o)) there

-- none where it isn't
pub filing_lost : (policies : List Policy) (label : Label) (k n : ℕ) → label ≡ Confined k n → length policies ≤ k → filing policies label ≡ []
filing_lost policies label k n e past_end =
    ap (filing policies) e
    ∙ ap (λ (o : Option Policy). filing_at (option_and_then (λ (q : Policy). slice_get q.profiles n) o)) (slice_get_past policies k past_end)
