-- What a table knows, one entry on.
use Rattle.std.proofs.Common.{◌≡◌, ℕ, zero, suc, ◌≤◌, ◌<◌, ◌⊎◌, ⊎_elim, Bool, true, cond, List, [], ◌∷◌, ◌++◌, get_or}
use Rattle.std.proofs.Common.{length, reverse, Option, Some, None, is_some, Bor, ◌+◌, refl, sym, ap, ◌∙◌, subst, arith}
use Rattle.std.proofs.Math.Path.{fun_ext}
use Rattle.std.specs.Map.{lookup}
use Rattle.std.specs.Ordering.{is_eq, nat_cmp}
use Rattle.std.specs.Cmp.Lexicographic.{slice_cmp, texts_ties}
use Rattle.std.specs.Str.{bytes_eq}
use Rattle.std.proofs.lemmas.List.{reverse-append, length_push}
use Rattle.std.proofs.lemmas.Slice.Eq.{bytes_eq-Decides}
use Rattle.aa_glob.specs.declared.summary.VariableSummary.{VariableSummary}
use Rattle.aa_glob.specs.Variables.{Variable}
use Rattle.aa_glob.specs.Pieces.{Piece, Plain, Use, Broken, pieces}
use Rattle.aa_glob.specs.Known.{Table, found, IsKnown, AreKnown, AreTextsKnown, IsRight}
use Rattle.aa_glob.specs.Ways.{Grows}

pub same_bytes : (a b : List ℕ) → bytes_eq a b ≡ true → a ≡ b
same_bytes a b e = (bytes_eq-Decides a b).0 e

-- the table after an entry is put in
pub record IsPut (es new : Table) (key : List ℕ) (v : Option VariableSummary) : Type 0 where
  pub at : (name : List ℕ) → found name new ≡ cond (bytes_eq key name) (Some v) (found name es)
  pub longer : length es ≤ length new
  pub fresh : found key es ≡ None → suc (length es) ≤ length new

-- a name compares equal to those that it is
same_found : (name : List ℕ) (es : Table) → lookup (λ k. is_eq (slice_cmp nat_cmp name k.now)) es ≡ found name es
same_found name es = ap (λ (test : Bor (List ℕ) → Bool). lookup test es) (fun_ext (λ k. sym (texts_ties name k.now)))

-- from what `get` ensures
pub told : (name : List ℕ) (es : Table) (x : Option (Option VariableSummary)) → x ≡ lookup (λ k. is_eq (slice_cmp nat_cmp name k.now)) es → found name es ≡ x
told name es x e = sym (same_found name es) ∙ sym e

-- from what `insert` ensures
pub put_in : (es new : Table) (key : Bor (List ℕ)) (v : Option VariableSummary) (old : Option (Option VariableSummary)) → old ≡ lookup (λ k. is_eq (slice_cmp nat_cmp key.now k.now)) es →
    length new ≡ length es + cond (is_some old) 0 1 →
    ((q : Bor (List ℕ)) → lookup (λ k. is_eq (slice_cmp nat_cmp q.now k.now)) new ≡ cond (is_eq (slice_cmp nat_cmp key.now q.now)) (Some v) (lookup (λ k. is_eq (slice_cmp nat_cmp q.now k.now)) es)) → IsPut es new key.now v
put_in es new key v old is len at = record {
  at = λ name. cc (same_found name new, same_found name es, at (record key { now = name }), texts_ties key.now name);
  longer = grind arith;
  fresh = λ none. grind (arith, told key.now es old is);
}

-- what it has of a name is that entry, or was there before
pub put_case : (es new : Table) (key : List ℕ) (v : Option VariableSummary) → IsPut es new key v → (name : List ℕ) (x : Option (Option VariableSummary)) → found name new ≡ x →
    ((key ≡ name) × (Some v ≡ x)) ⊎ ((key ≡ name → ⊥) × (found name es ≡ x))
put_case es new key v put name x h = grind (arith, bytes_eq-Decides, same_bytes)

pub grows_put : (es new : Table) (key : List ℕ) (v : Option VariableSummary) → IsPut es new key v → ((s : VariableSummary) → found key es ≡ Some (Some s) → (t : VariableSummary) × (v ≡ Some t)) → Grows es new
grows_put es new key v put keeps = λ name s h.
    ⊎_elim (λ x. let t = keeps s (ap (λ n. found n es) x.0 ∙ h) in (t.0, sym x.1 ∙ ap Some t.1)) (λ x. (s, sym x.1 ∙ h)) (put_case es new key v put name (found name new) refl)

-- larger tables know more
pub grows_then : (a b c : Table) → Grows a b → Grows b c → Grows a c
grows_then a b c f g = λ name s h. let t = f name s h in g name t.0 t.1

module _ (done more : Table) (g : Grows done more) where
  pub known_more : (p : Piece) → IsKnown done p → IsKnown more p
  known_more (Plain b) k = tt
  known_more (Use name) k = g name k.0 k.1
  known_more Broken k = k

  are_known_more : (ps : List Piece) → AreKnown done ps → AreKnown more ps
  are_known_more [] k = tt
  are_known_more (p ∷ ps) k = (known_more p k.0, are_known_more ps k.1)

  texts_known_more : (ts : List (List ℕ)) → AreTextsKnown done ts → AreTextsKnown more ts
  texts_known_more [] k = tt
  texts_known_more (t ∷ ts) k = (are_known_more (pieces t) k.0, texts_known_more ts k.1)

  pub right_more : (depth : ℕ) (vars : List Variable) (name : List ℕ) (s : VariableSummary) → IsRight depth vars done name s → IsRight depth vars more name s
  right_more depth vars name s r = record { texts = r.texts; ends = r.ends; closed = λ values d. texts_known_more values (r.closed values d) }

-- one of the texts that are known
pub known_at : (done : Table) (texts : List (List ℕ)) (text : List ℕ) (k : ℕ) → k < length texts → get_or texts k text ≡ text → AreTextsKnown done texts → AreKnown done (pieces text)
known_at done [] text k h e all = absurd (omega arith)
known_at done (t ∷ ts) text zero h e all = subst (λ x. AreKnown done (pieces x)) e all.0
known_at done (t ∷ ts) text (suc k) h e all = known_at done ts text k (omega arith) e all.1

-- one more on a stack
pub pushed_up : {A : Type 0} (xs new : List A) (x : A) → new ≡ xs ++ x ∷ [] → reverse new ≡ x ∷ reverse xs
pushed_up xs new x e = ap reverse e ∙ reverse-append xs (x ∷ [])

pub pushed_long : {A : Type 0} (xs new : List A) (x : A) → new ≡ xs ++ x ∷ [] → length new ≡ length xs + 1
pushed_long xs new x e = ap length e ∙ length_push xs x
