-- Texts by their paths, as the code keeps them.
use Rattle.std.proofs.Common.{◌≡◌, ℕ, List, [], ◌∷◌, ◌++◌, Bool, true, false, cond, map, Vec, Global, Ordering, Less, Equal, Greater, nat_cmp}
use Rattle.std.proofs.Common.{is_eq, bytes_eq, length, Bor, option_copied, arith, Option, Some, None, option_map, refl, sym, ap, ◌∙◌}
use Rattle.std.specs.BTreeMap.{insert_entry, is_at}
use Rattle.std.specs.Map.{lookup}
use Rattle.std.specs.Ordering.{match_ordering}
use Rattle.std.specs.Cmp.Lexicographic.{slice_cmp}
use Rattle.std.proofs.lemmas.Map.Text.{is_eq-slice_cmp}
use Rattle.std.proofs.lemmas.List.{map_push}
use Rattle.aa_question.specs.Memory.{Row, put, put_all, row_of}

abbrev pub Entry : Type 0
Entry = Vec ℕ Global × Vec ℕ Global

abbrev pub path_cmp : Vec ℕ Global → Vec ℕ Global → Ordering
path_cmp a b = slice_cmp nat_cmp a.items b.items

pub put_all_last : (xs : List Row) (t : Row) (rows : List Row) → put_all (xs ++ t ∷ []) rows ≡ put_all xs (put t rows)
unfolding put_all
put_all_last [] t rows = refl
put_all_last (x ∷ xs) t rows = ap (put x) (put_all_last xs t rows)

rows-match : (o : Ordering) (a b c : List Entry) → map row_of (match_ordering o a b c) ≡ match_ordering o (map row_of a) (map row_of b) (map row_of c)
rows-match Less a b c = refl
rows-match Equal a b c = refl
rows-match Greater a b c = refl

pub rows_insert : (es : List Entry) (k v : Vec ℕ Global) → map row_of (insert_entry path_cmp es k v) ≡ put (row_of (k, v)) (map row_of es)
rows_insert [] k v = refl
rows_insert (e ∷ es) k v = rows-match (path_cmp k e.0) _ _ _ ∙ rw (rows_insert es k v)

one_found : (b : Bool) (v : Vec ℕ Global) (o : Option (Vec ℕ Global)) (p : Option (List ℕ)) → option_map (λ x. x.items) o ≡ p → option_map (λ x. x.items) (cond b (Some v) o) ≡ cond b (Some v.items) p
one_found true v o p e = refl
one_found false v o p e = e

pub found_is : (path : List ℕ) (es : List Entry) → option_map (λ v. v.items) (lookup (is_at (λ k. slice_cmp nat_cmp path k.items)) es) ≡ lookup (λ k. bytes_eq path k) (map row_of es)
found_is path [] = refl
found_is path (e ∷ es) =
    one_found (is_eq (slice_cmp nat_cmp path e.0.items)) e.1 _ _ (found_is path es)
    ∙ ap (λ (b : Bool). cond b (Some e.1.items) (lookup (λ k. bytes_eq path k) (map row_of es))) (is_eq-slice_cmp path e.0.items)

-- ---- texts that are put among others, the last first

pub put_on : (xs ys es fs : List Entry) (k v : Vec ℕ Global) (total : List Row) → xs ≡ ys ++ (k, v) ∷ [] → fs ≡ insert_entry path_cmp es k v
    → put_all (map row_of xs) (map row_of es) ≡ total → put_all (map row_of ys) (map row_of fs) ≡ total
put_on xs ys es fs k v total is more so_far =
    ap (λ (gs : List Entry). put_all (map row_of ys) (map row_of gs)) more
    ∙ ap (put_all (map row_of ys)) (rows_insert es k v)
    ∙ sym (put_all_last (map row_of ys) (row_of (k, v)) (map row_of es))
    ∙ ap (λ (ts : List Row). put_all ts (map row_of es)) (sym (ap (map row_of) is ∙ map_push row_of ys (k, v)))
    ∙ so_far

pub put_done : (xs es : List Entry) (total : List Row) → xs ≡ [] → put_all (map row_of xs) (map row_of es) ≡ total → map row_of es ≡ total
unfolding put_all
put_done xs es total none so_far = sym (ap (λ (ys : List Entry). put_all (map row_of ys) (map row_of es)) none) ∙ so_far

pub paths_are : (es : List Entry) → map (λ e. e.0.items) es ≡ map (λ (row : Row). row.0) (map row_of es)
paths_are [] = refl
paths_are (e ∷ es) = ap (λ (ps : List (List ℕ)). e.0.items ∷ ps) (paths_are es)

pub rows_append : (es fs : List Entry) → map row_of (es ++ fs) ≡ map row_of es ++ map row_of fs
rows_append [] fs = refl
rows_append (e ∷ es) fs = ap (λ (rows : List Row). row_of e ∷ rows) (rows_append es fs)

pub none_left : (es : List Entry) → length es ≡ 0 → es ≡ []
none_left [] e = refl
none_left (x ∷ es) e = absurd (omega arith)

pub copied_items : (o : Option (Bor (Vec ℕ Global))) → option_map (λ t. t.now.items) o ≡ option_map (λ v. v.items) (option_copied o)
copied_items None = refl
copied_items (Some t) = refl
