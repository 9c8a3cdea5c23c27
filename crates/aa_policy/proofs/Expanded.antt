-- Paths that expand, and the first that doesn't.
use Rattle.std.proofs.Common.{◌≡◌, ℕ, suc, zero, ◌+◌, ◌<◌, List, drop, get_or, length, [], ◌∷◌, ◌++◌, map, Bool, true, false, cond, refl, sym, ap, ◌∙◌, subst, inl, inr, Option, Some, None}
use Rattle.std.specs.Prelude.{flat_map, nat_lt, Result, Ok, Err}
use Rattle.std.specs.List.{AllByRecursion}
use Rattle.aa_base.specs.declared.fault.Spot.{Spot}
use Rattle.aa_base.specs.declared.fault.PolicyKind.{PolicyKind}
use Rattle.aa_base.specs.declared.fault.PolicyKind.TheVariants.{RelativePath}
use Rattle.aa_base.specs.declared.fault.PolicyFault.{PolicyFault}
use Rattle.aa_glob.specs.declared.sign.Token.{Token}
use Rattle.aa_glob.specs.Variables.{Variable, values_of}
use Rattle.aa_glob.specs.Pieces.{Piece, Plain, Use, Broken, pieces, begins_with}
use Rattle.aa_glob.specs.Reading.{tokens, tokens_from, or_bad}
use Rattle.aa_glob.specs.Signs.{is_unsupported, signs}
use Rattle.aa_glob.specs.Expansions.{Outcome, Texts, Stops, Deeper, both, alone, joined, in_turn, is_reserved, counted, of_values, outcome, of_path}
use Rattle.aa_glob.specs.Expansions.{pattern_text, expansion, and_more, expansions, Expands, in_walk, in_circle, too_many, as_texts}
use Rattle.aa_glob.proofs.Depths.{expands_once}
use Rattle.aa_policy.specs.Expansion.{PathData, Way, AsPath, AsName, IsReadAs, IsExpanding, IsRefused, IsFirstRefused}
use Rattle.aa_policy.specs.Faults.{is_path_fault}
use Rattle.aa_policy.proofs.Growth.{rest_step}

-- ---- why a path is refused

abbrev Stopped : Outcome → Type 0
Stopped (Stops fault) = is_path_fault fault ≡ true
Stopped _ = Unit {0}

both_stopped : (f : ℕ → List (List ℕ) → ℕ → List (List ℕ) → Outcome) (a b : Outcome) → ((m : ℕ) (ts : List (List ℕ)) (n : ℕ) (us : List (List ℕ)) → Stopped (f m ts n us))
    → Stopped a → Stopped b → Stopped (both f a b)
both_stopped f (Stops fault) b h p q = p
both_stopped f Deeper b h p q = tt
both_stopped f (Texts m ts) (Stops fault) h p q = q
both_stopped f (Texts m ts) Deeper h p q = tt
both_stopped f (Texts m ts) (Texts n us) h p q = h m ts n us

alone_stopped : (of : List ℕ → Outcome) → ((name : List ℕ) → Stopped (of name)) → (p : Piece) → Stopped (alone of p)
alone_stopped of h (Plain b) = tt
alone_stopped of h (Use name) = h name
alone_stopped of h Broken = refl

joined_stopped : (of : List ℕ → Outcome) → ((name : List ℕ) → Stopped (of name)) → (ps : List Piece) → Stopped (joined of ps)
unfolding joined
joined_stopped of h [] = tt
joined_stopped of h (p ∷ ps) = both_stopped _ (alone of p) (joined of ps) (λ m ts n us. tt) (alone_stopped of h p) (joined_stopped of h ps)

in_turn_stopped : (of : List ℕ → Outcome) → ((name : List ℕ) → Stopped (of name)) → (vs : List (List ℕ)) → Stopped (in_turn of vs)
unfolding in_turn
in_turn_stopped of h [] = tt
in_turn_stopped of h (v ∷ vs) = both_stopped _ (joined of (pieces v)) (in_turn of vs) (λ m ts n us. tt) (joined_stopped of h (pieces v)) (in_turn_stopped of h vs)

counted_stopped : (o : Outcome) → Stopped o → Stopped (counted o)
counted_stopped (Texts m ts) h = tt
counted_stopped (Stops fault) h = h
counted_stopped Deeper h = tt

values_stopped : (of : List ℕ → Outcome) → ((name : List ℕ) → Stopped (of name)) → (o : Option (List (List ℕ))) → Stopped (of_values of o)
values_stopped of h None = refl
values_stopped of h (Some values) = counted_stopped (in_turn of values) (in_turn_stopped of h values)

if_stopped : (b : Bool) (x y : Outcome) → Stopped x → Stopped y → Stopped (cond b x y)
if_stopped true x y p q = p
if_stopped false x y p q = q

outcome_stopped : (depth : ℕ) (vars : List Variable) (name : List ℕ) → Stopped (outcome depth vars name)
unfolding outcome
outcome_stopped zero vars name = tt
outcome_stopped (suc depth) vars name =
    if_stopped (is_reserved name) _ _ refl (values_stopped (outcome depth vars) (λ n. outcome_stopped depth vars n) (values_of vars name))

abbrev Refused : {X : Type 0} → Result X PolicyKind → Type 0
Refused (Err fault) = is_path_fault fault ≡ true
Refused (Ok x) = Unit {0}

if_refused : {X : Type 0} (b : Bool) (x y : Result X PolicyKind) → Refused x → Refused y → Refused (cond b x y)
if_refused true x y p q = p
if_refused false x y p q = q

bad_refused : (o : Option (List Token)) → Refused (or_bad o)
bad_refused None = refl
bad_refused (Some ts) = tt

tokens_refused : (text : List ℕ) → Refused (tokens text)
unfolding tokens
tokens_refused text = if_refused (is_unsupported text) _ _ refl (bad_refused (tokens_from 0 false 0 (signs text)))

path_refused : (text : List ℕ) (r : Result (List Token) PolicyKind) → Refused r → Refused (of_path text r)
path_refused text (Ok ts) h = if_refused {X = List Token} (begins_with 47 text) (Ok ts) (Err RelativePath) tt refl
path_refused text (Err fault) h = h

expansion_refused : (text : List ℕ) → Refused (expansion text)
unfolding expansion
expansion_refused text = if_refused (nat_lt 16384 (length text)) _ _ refl (path_refused (pattern_text text) (tokens (pattern_text text)) (tokens_refused (pattern_text text)))

more_refused : (r : Result (List Token) PolicyKind) (rs : Result (List (List Token)) PolicyKind) → Refused r → Refused rs → Refused (and_more r rs)
more_refused (Err fault) rs h k = h
more_refused (Ok p) (Err fault) h k = k
more_refused (Ok p) (Ok ps) h k = tt

expansions_refused : (ts : List (List ℕ)) → Refused (expansions ts)
unfolding expansions
expansions_refused [] = tt
expansions_refused (t ∷ ts) = more_refused (expansion t) (expansions ts) (expansion_refused t) (expansions_refused ts)

expands_refused : (vars : List Variable) (raw : List ℕ) {r : Result (List (List Token)) PolicyKind} → Expands vars raw r → Refused r
expands_refused vars raw (in_walk depth fault e) = subst Stopped e (joined_stopped (outcome depth vars) (λ n. outcome_stopped depth vars n) (pieces raw))
expands_refused vars raw (in_circle all) = refl
expands_refused vars raw (too_many depth most ts e many) = refl
expands_refused vars raw (as_texts depth most ts e few) = expansions_refused ts

-- only for its expansions
pub fault_of_path : (vars : List Variable) (raw : List ℕ) (fault : PolicyKind) → Expands vars raw (Err fault) → is_path_fault fault ≡ true
fault_of_path vars raw fault h = expands_refused vars raw h

-- a name only for what it is read as
pub fault_of_name : (text : List ℕ) (fault : PolicyKind) → tokens text ≡ Err fault → is_path_fault fault ≡ true
fault_of_name text fault e = subst Refused e (tokens_refused text)

-- ---- the first path that is refused

abbrev AllExpanding : List Variable → List PathData → Type 0
AllExpanding vars paths = AllByRecursion (IsExpanding vars) paths

-- behind paths that expand
pub expanding_then : (vars : List Variable) (paths rest : List PathData) (e : PolicyFault) → AllExpanding vars paths → IsFirstRefused vars rest e → IsFirstRefused vars (paths ++ rest) e
expanding_then vars [] rest e a h = h
expanding_then vars (p ∷ ps) rest e a h = inr (a.0, expanding_then vars ps rest e a.1 h)

-- others may follow
pub refused_before : (vars : List Variable) (paths rest : List PathData) (e : PolicyFault) → IsFirstRefused vars paths e → IsFirstRefused vars (paths ++ rest) e
refused_before vars [] rest e h = absurd h
refused_before vars (p ∷ ps) rest e (inl h) = inl h
refused_before vars (p ∷ ps) rest e (inr h) = inr (h.0, refused_before vars ps rest e h.1)

abbrev pub expanded : List (List Token) → Result (List (List Token)) PolicyKind
expanded ts = Ok ts

ok_err : (ts : List (List Token)) (fault : PolicyKind) → expanded ts ≡ Err fault → ⊥
ok_err ts fault e = cc

-- a text is read in one way alone
read_once : (way : Way) (vars : List Variable) (text : List ℕ) (r s : Result (List (List Token)) PolicyKind) → IsReadAs way vars text r → IsReadAs way vars text s → r ≡ s
read_once AsPath vars text r s h k = expands_once vars text r s h k
read_once AsName vars text r s h k = sym h ∙ k

-- what expands is not refused
pub never_refused : (vars : List Variable) (paths : List PathData) (e : PolicyFault) → AllExpanding vars paths → IsFirstRefused vars paths e → ⊥
never_refused vars [] e a h = h
never_refused vars (p ∷ ps) e a (inl h) = ok_err a.0.0 e.kind (read_once p.way vars p.text (Ok a.0.0) (Err e.kind) a.0.1 h.kind)
never_refused vars (p ∷ ps) e a (inr h) = never_refused vars ps e a.1 h.1

abbrev refused : PolicyKind → Result (List (List Token)) PolicyKind
refused kind = Err kind

same_kind : (a b : PolicyKind) → refused a ≡ refused b → a ≡ b
same_kind a b e = cc

pub same_fault : (e f : PolicyFault) → e.kind ≡ f.kind → e.at ≡ f.at → e ≡ f
same_fault e f k a = ap (λ (x : PolicyKind). record { kind = x; at = e.at }) k ∙ ap (λ (x : Spot). record { kind = f.kind; at = x }) a

-- what is refused does not expand
not_expanding : (vars : List Variable) (p : PathData) (e : PolicyFault) → IsRefused vars p e → IsExpanding vars p → ⊥
not_expanding vars p e h x = ok_err x.0 e.kind (read_once p.way vars p.text (Ok x.0) (Err e.kind) x.1 h.kind)

-- there is one first refusal
pub first_once : (vars : List Variable) (paths : List PathData) (e f : PolicyFault) → IsFirstRefused vars paths e → IsFirstRefused vars paths f → e ≡ f
first_once vars [] e f h k = absurd h
first_once vars (p ∷ ps) e f (inl h) (inl k) =
    same_fault e f (same_kind e.kind f.kind (read_once p.way vars p.text (Err e.kind) (Err f.kind) h.kind k.kind)) (h.at_is ∙ sym k.at_is)
first_once vars (p ∷ ps) e f (inl h) (inr k) = absurd (not_expanding vars p e h k.0)
first_once vars (p ∷ ps) e f (inr h) (inl k) = absurd (not_expanding vars p f k h.0)
first_once vars (p ∷ ps) e f (inr h) (inr k) = first_once vars ps e f h.1 k.1

-- the refusal of one of the things that are read in turn
pub refused_at : {X Y : Type 0} (vars : List Variable) (f : Y → List PathData) (g : X → Y) (xs : List X) (i : ℕ) (d : X) (e : PolicyFault) → i < length xs
    → IsFirstRefused vars (f (g (get_or xs i d))) e → IsFirstRefused vars (flat_map f (map g (drop i xs))) e
refused_at vars f g xs i d e h r = rw (rest_step f g xs i d h) (refused_before vars (f (g (get_or xs i d))) (flat_map f (map g (drop (i + 1) xs))) e r)

-- one that is read is passed
pub passed_at : {X Y : Type 0} (vars : List Variable) (f : Y → List PathData) (g : X → Y) (xs : List X) (i : ℕ) (d : X) (e : PolicyFault) → i < length xs
    → AllExpanding vars (f (g (get_or xs i d))) → IsFirstRefused vars (flat_map f (map g (drop (i + 1) xs))) e → IsFirstRefused vars (flat_map f (map g (drop i xs))) e
passed_at vars f g xs i d e h a r = rw (rest_step f g xs i d h) (expanding_then vars (f (g (get_or xs i d))) (flat_map f (map g (drop (i + 1) xs))) e a r)
