-- Names of sources.
use Rattle.std.proofs.Common.{◌≡◌, ℕ, ◌+◌, map, Option, None, List, [], ◌∷◌, ◌++◌, Bool, true, false, Some, is_some, cond, ◌||◌}
use Rattle.std.proofs.Common.{IsTrue, Result, Ok, Err, IsErrAnd, ◌<◌, length, arith, refl, sym, ap, subst, ◌∙◌}
use Rattle.std.proofs.lemmas.List.{length-map}
use Rattle.std.specs.Map.{lookup}
use Rattle.std.specs.List.{position, position_from}
use Rattle.std.proofs.lemmas.Iterator.Adapters.{position_from-zero}
use Rattle.aa_words.specs.Splits.{source_from}
use Rattle.std.specs.Global.{Vec}
use Rattle.std.specs.Str.{bytes_eq}
use Rattle.indexmap.specs.IndexMap.{insert_entry}
use Rattle.aa_base.specs.declared.fault.PolicyFault.{PolicyFault}
use Rattle.aa_base.specs.declared.fault.PolicyKind.TheVariants.{NoMemory, Syntax}
use Rattle.aa_base.specs.Kinds.{at_start, no_memory}
use Rattle.aa_words.specs.Sources.{has_name, entries}

-- a look-up by name finds what the list of names has
found : (name : List ℕ) (es : List (Vec ℕ × Vec ℕ)) → is_some (lookup (λ k. bytes_eq name k.items) es) ≡ has_name name (entries es)
found name [] = refl
found name (e ∷ es) =
    elim (bytes_eq name e.0.items) as (λ v. is_some (cond v (Some e.1) (lookup (λ k. bytes_eq name k.items) es)) ≡ v || has_name name (entries es)) [ true ↦ refl | false ↦ found name es ]

-- the same, as the code names it
pub named : (name : List ℕ) (es : List (Vec ℕ × Vec ℕ)) (self : List (List ℕ × List ℕ)) (r b : Bool) → r ≡ is_some (lookup (λ k. bytes_eq name k.items) es) → entries es ≡ self → r ≡ b → has_name name self ≡ b
named name es self r b e view b-is = ap (has_name name) (sym view) ∙ sym (found name es) ∙ sym e ∙ b-is

-- a new name goes last
inserted : (k v : Vec ℕ) (es : List (Vec ℕ × Vec ℕ)) → has_name k.items (entries es) ≡ false
    → entries (insert_entry (λ a b. bytes_eq a.items b.items) es k v) ≡ entries es ++ (k.items, v.items) ∷ []
inserted k v [] h = refl
inserted k v (e ∷ es) h =
    elim (bytes_eq k.items e.0.items) as (λ b. b || has_name k.items (entries es) ≡ false
    → entries (cond b ((e.0, v) ∷ es) (e ∷ insert_entry (λ x y. bytes_eq x.items y.items) es k v)) ≡ (e.0.items, e.1.items) ∷ (entries es ++ (k.items, v.items) ∷ []))
    [ true ↦ λ t. absurd cc | false ↦ λ f. ap (λ (r : List (List ℕ × List ℕ)). (e.0.items, e.1.items) ∷ r) (inserted k v es f) ] h

pub added : (name text : List ℕ) (k v : Vec ℕ) (es new : List (Vec ℕ × Vec ℕ)) (self : List (List ℕ × List ℕ)) → k.items ≡ name → v.items ≡ text → entries es ≡ self
    → has_name name self ≡ false → new ≡ insert_entry (λ a b. bytes_eq a.items b.items) es k v → entries new ≡ self ++ (name, text) ∷ []
added name text k v es new self k-is v-is view absent e =
    let none : has_name k.items (entries es) ≡ false = ap (λ (n : List ℕ). has_name n (entries es)) k-is ∙ ap (has_name name) view ∙ absent in
    ap entries e ∙ inserted k v es none ∙ ap (λ (l : List (List ℕ × List ℕ)). l ++ (k.items, v.items) ∷ []) view
    ∙ ap (λ (n : List ℕ). self ++ (n, v.items) ∷ []) k-is ∙ ap (λ (t : List ℕ). self ++ (name, t) ∷ []) v-is

pub not_taken : (b : Bool) → b ≡ false → IsTrue b → ⊥
not_taken b e h = let t : IsTrue false = subst IsTrue e h in cc

-- want of memory is another cause
no_memory_differs : no_memory ≡ at_start Syntax → ⊥
no_memory_differs e = let k : NoMemory ≡ Syntax = ap (λ (f : PolicyFault). f.kind) e in cc

pub other_cause : {T : Type 0} (r : Result T PolicyFault) → IsErrAnd r (λ e. e ≡ no_memory) → r ≡ Err (at_start Syntax) → ⊥
other_cause (Ok x) h e = cc
other_cause (Err f) h e = let same : f ≡ at_start Syntax = cc in no_memory_differs (sym h ∙ same)

-- as many names are there as entries
pub many : (es : List (Vec ℕ × Vec ℕ)) → length es ≡ length (entries es)
many es = simp length-map

pub room : (es : List (Vec ℕ × Vec ℕ)) (self : List (List ℕ × List ℕ)) (n : ℕ) → n ≡ length es → entries es ≡ self → n < 4095 → length self < 4095
room es self n e view h = let same : length (entries es) ≡ length self = ap length view in omega (arith, simp length-map at same)

-- a source's number and text, from the place of its key and from what stands under it
abbrev pub numbered : Option ℕ → Option (Vec ℕ) → Option (ℕ × List ℕ)
numbered (Some i) (Some text) = Some (i + 1, text.items)
numbered (Some i) None = None
numbered None text = None

found_from : (i : ℕ) (name : List ℕ) (es : List (Vec ℕ × Vec ℕ)) → source_from (i + 1) name (entries es) ≡ numbered (position_from (λ k. bytes_eq name k.items) i (map (λ e. e.0) es)) (lookup (λ k. bytes_eq name k.items) es)
unfolding source_from
found_from i name [] = refl
found_from i name (e ∷ es) =
    elim (bytes_eq name e.0.items) as (λ v. cond v (Some (i + 1, e.1.items)) (source_from (i + 1 + 1) name (entries es))
    ≡ numbered (cond v (Some i) (position_from (λ k. bytes_eq name k.items) (i + 1) (map (λ x. x.0) es))) (cond v (Some e.1) (lookup (λ k. bytes_eq name k.items) es))) [ true ↦ refl | false ↦ found_from (i + 1) name es ]

-- the source of a name stands at the place of its key
pub source_numbered : (name : List ℕ) (es : List (Vec ℕ × Vec ℕ)) (self : List (List ℕ × List ℕ)) (i : Option ℕ) (text : Option (Vec ℕ))
    → i ≡ position (λ k. bytes_eq name k.items) (map (λ e. e.0) es) → text ≡ lookup (λ k. bytes_eq name k.items) es → entries es ≡ self
    → source_from 1 name self ≡ numbered i text
source_numbered name es self i text at found view =
    let from : i ≡ position_from (λ k. bytes_eq name k.items) 0 (map (λ e. e.0) es) = at ∙ position_from-zero (λ k. bytes_eq name k.items) (map (λ e. e.0) es) in
    ap (source_from 1 name) (sym view) ∙ found_from 0 name es ∙ ap (λ (x : Option ℕ). numbered x (lookup (λ k. bytes_eq name k.items) es)) (sym from) ∙ ap (numbered i) (sym found)
