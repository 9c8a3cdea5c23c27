-- The same variables, wherever they are looked for.
use Rattle.std.proofs.Common.{◌≡◌, ℕ, zero, suc, ◌+◌, ◌≤◌, ◌==◌, ◌&&◌, ◌↔◌, Bool, true, false, not, cond, List, [], ◌∷◌}
use Rattle.std.proofs.Common.{◌++◌, length, take, drop, refl, sym, ap, ◌∙◌, arith, Some, None, Option}
use Rattle.std.specs.Prelude.{codes}
use Rattle.std.specs.List.{list_all, prefix_len, take_while}
use Rattle.std.specs.Str.{bytes_eq}
use Rattle.std.proofs.Math.Seq.{take-append-add, drop-append-add}
use Rattle.std.proofs.lemmas.Bool.{and_parts, and_from, eqb-true}
use Rattle.std.proofs.lemmas.Bool.Decides.{nat_tests}
use Rattle.std.proofs.lemmas.List.{length-append, length-take, length-drop, take-append-drop, append_assoc}
use Rattle.std.proofs.lemmas.List.Folds.{length-prefix_len}
use Rattle.std.proofs.lemmas.Slice.Eq.{bytes_eq-Decides}
use Rattle.aa_words.specs.Runs as lexer
use Rattle.aa_glob.specs.Signs as signs
use Rattle.aa_glob.specs.Pieces.{Piece, Plain, Use, Broken, pieces, pieces_from, name_at, behind_name}
use Rattle.aa_glob.specs.Pieces as glob
use Rattle.aa_policy.specs.Preamble.{Names, is_variable_byte, is_variable_name}
use Rattle.aa_rules.specs.Modes.{behind}
use Rattle.aa_language_laws.specs.Assigned.{IsAssigned}
use Rattle.aa_language_laws.proofs.Fronts.{left_cons, all_taken, up_to, put_together}

same_letter : (b : ℕ) → lexer.is_letter b ≡ signs.is_letter b
same_letter b = grind (arith, nat_tests)

same_byte : (b : ℕ) → lexer.ends_variable b ≡ not (is_variable_byte b)
same_byte b = grind (arith, nat_tests)

letter_fits : (b : ℕ) → signs.is_letter b ≡ true → is_variable_byte b ≡ true
letter_fits b h = grind (arith, nat_tests)

one_long : (t v : Bool) (m n : ℕ) → t ≡ not v → m ≡ n → cond t 0 (suc m) ≡ cond v (1 + n) 0
one_long t v m n e h = grind (arith, nat_tests)

lexer_long : (bs : List ℕ) → lexer.variable_len bs ≡ prefix_len is_variable_byte bs
unfolding lexer.variable_len
lexer_long [] = refl
lexer_long (b ∷ bs) = one_long (lexer.ends_variable b) (is_variable_byte b) _ _ (same_byte b) (lexer_long bs)

one_more : (v : Bool) (m n : ℕ) → m ≡ n → cond v (suc m) 0 ≡ cond v (1 + n) 0
one_more v m n h = grind (arith, nat_tests)

glob_long : (bs : List ℕ) → glob.name_len bs ≡ prefix_len is_variable_byte bs
unfolding glob.name_len
glob_long [] = refl
glob_long (b ∷ bs) = one_more (is_variable_byte b) _ _ (glob_long bs)

-- behind its first letter the name goes on, and then stands what is behind it
lexer_behind : (c : ℕ) (cs : List ℕ) → signs.is_letter c ≡ true → drop (lexer.variable_len (c ∷ cs)) (c ∷ cs) ≡ behind is_variable_byte cs
lexer_behind c cs h = ap (λ (n : ℕ). drop n (c ∷ cs)) (lexer_long (c ∷ cs)) ∙ left_cons is_variable_byte c cs true (letter_fits c h)

lexer_count : (c : ℕ) (cs : List ℕ) → signs.is_letter c ≡ true → lexer.variable_len (c ∷ cs) ≡ 1 + prefix_len is_variable_byte cs
lexer_count c cs h = lexer_long (c ∷ cs) ∙ ap (λ (v : Bool). cond v (1 + prefix_len is_variable_byte cs) 0) (letter_fits c h)

four : (p q r s : Bool) → (p && (q && r && s)) ≡ true → (p ≡ true) × (q ≡ true) × (r ≡ true) × (s ≡ true)
four p q r s e = grind (arith, nat_tests)

from_four : (p q r s : Bool) → p ≡ true → q ≡ true → r ≡ true → s ≡ true → (p && (q && r && s)) ≡ true
from_four p q r s a b c d = grind (arith, nat_tests)

-- the text is a variable whose name begins with that letter
named : (c : ℕ) (cs rest : List ℕ) → signs.is_letter c ≡ true → behind is_variable_byte cs ≡ 125 ∷ [] → Names (64 ∷ 123 ∷ c ∷ cs) (c ∷ take_while is_variable_byte cs)
named c cs rest l e = record {
  text_is = ap (λ (x : List ℕ). 64 ∷ 123 ∷ c ∷ x) (sym (put_together is_variable_byte cs) ∙ ap (λ (x : List ℕ). take_while is_variable_byte cs ++ x) e);
  is_name = and_from (signs.is_letter c) _ l (all_taken is_variable_byte cs);
}

some_variable : (text : List ℕ) → lexer.is_variable text ≡ true → (name : List ℕ) × Names text name
unfolding lexer.is_variable
some_variable [] e = absurd cc
some_variable (b ∷ []) e = absurd (grind (arith, nat_tests))
some_variable (b ∷ d ∷ []) e = absurd (grind (arith, nat_tests))
some_variable (b ∷ d ∷ c ∷ cs) e =
    let f = four (b == 64) (d == 123) (lexer.is_letter c) (bytes_eq (drop (lexer.variable_len (c ∷ cs)) (c ∷ cs)) (codes "}")) e in
    let l = sym (same_letter c) ∙ f.2 in
    let closed = sym (lexer_behind c cs l) ∙ (bytes_eq-Decides (drop (lexer.variable_len (c ∷ cs)) (c ∷ cs)) (codes "}")).0 f.3 in
    let n = named c cs [] l closed in
    (c ∷ take_while is_variable_byte cs, record { text_is = ap (λ (x : ℕ). x ∷ d ∷ c ∷ cs) (eqb-true b 64 f.0) ∙ ap (λ (x : ℕ). 64 ∷ x ∷ c ∷ cs) (eqb-true d 123 f.1) ∙ n.text_is; is_name = n.is_name })

named_variable : (text name : List ℕ) → Names text name → lexer.is_variable text ≡ true
unfolding lexer.is_variable
named_variable text [] n = absurd (grind (arith, nat_tests, n.is_name))
named_variable text (c ∷ cs) n =
    let p = and_parts (signs.is_letter c) (list_all is_variable_byte cs) n.is_name in
    let closed = lexer_behind c (cs ++ (125 ∷ [])) p.0 ∙ (up_to is_variable_byte 125 refl cs [] p.1).1 in
    ap lexer.is_variable n.text_is
    ∙ from_four true true (lexer.is_letter c) (bytes_eq (drop (lexer.variable_len (c ∷ (cs ++ (125 ∷ [])))) (c ∷ (cs ++ (125 ∷ [])))) (codes "}")) refl refl (same_letter c ∙ p.0)
    ((bytes_eq-Decides (drop (lexer.variable_len (c ∷ (cs ++ (125 ∷ [])))) (c ∷ (cs ++ (125 ∷ [])))) (codes "}")).1 closed)

pub whole_variables : (text : List ℕ) → (lexer.is_variable text ≡ true) ↔ ((name : List ℕ) × Names text name)
whole_variables text = (some_variable text, λ h. named_variable text h.0 h.1)

some_same : (m n : ℕ) → Some m ≡ Some n → m ≡ n
some_same m n e = cc

two_more : (n : ℕ) → n + 2 ≡ suc (n + 1)
two_more n = omega arith

-- a name, and what follows its closing brace
taken_name : (name rest : List ℕ) → take (length name + 2) (123 ∷ (name ++ (125 ∷ rest))) ≡ 123 ∷ (name ++ (125 ∷ []))
taken_name name rest = ap (λ (n : ℕ). take n (123 ∷ (name ++ (125 ∷ rest)))) (two_more (length name)) ∙ ap (λ (x : List ℕ). 123 ∷ x) (take-append-add name (125 ∷ rest) 1)

dropped_name : (name rest : List ℕ) → drop (length name + 2) (123 ∷ (name ++ (125 ∷ rest))) ≡ rest
dropped_name name rest = ap (λ (n : ℕ). drop n (123 ∷ (name ++ (125 ∷ rest)))) (two_more (length name)) ∙ drop-append-add name (125 ∷ rest) 1

-- what pieces are left behind so many bytes
skipped : (n : ℕ) (bs : List ℕ) → length bs ≤ n → pieces_from false n bs ≡ []
unfolding pieces_from
skipped zero [] h = refl
skipped (suc n) [] h = refl
skipped zero (b ∷ bs) h = absurd (omega arith)
skipped (suc n) (b ∷ bs) h = skipped n bs (omega arith)

some_piece : (b : ℕ) (bs : List ℕ) (v : Bool) (o : Option (List ℕ)) (p : Piece) (ps : List Piece) (f : ℕ → List Piece) → cond v (behind_name o f) (p ∷ ps) ≡ [] → ⊥
some_piece b bs true None p ps f e = absurd cc
some_piece b bs true (Some n) p ps f e = absurd cc
some_piece b bs false o p ps f e = absurd cc

all_skipped : (n : ℕ) (bs : List ℕ) → pieces_from false n bs ≡ [] → length bs ≤ n
unfolding pieces_from
all_skipped zero [] e = omega arith
all_skipped (suc n) [] e = omega arith
all_skipped zero (b ∷ bs) e = absurd (some_piece b bs _ (name_at (drop 1 bs)) _ _ _ e)
all_skipped (suc n) (b ∷ bs) e = let h = all_skipped n bs e in omega arith

-- a name that a closing brace ends is found behind its first letter
name_found : (c : ℕ) (cs rest : List ℕ) → signs.is_letter c ≡ true → behind is_variable_byte cs ≡ 125 ∷ rest → name_at (c ∷ cs) ≡ Some (c ∷ take_while is_variable_byte cs)
name_found c cs rest l e =
    let n = glob_long cs in
    ap (λ (v : Bool). cond (v && glob.begins_with 125 (drop (glob.name_len cs) cs)) (Some (c ∷ take (glob.name_len cs) cs)) None) l
    ∙ ap (λ (m : ℕ). cond (glob.begins_with 125 (drop m cs)) (Some (c ∷ take m cs)) None) n
    ∙ ap (λ (x : List ℕ). cond (glob.begins_with 125 x) (Some (c ∷ take_while is_variable_byte cs)) None) e

begun : (x : List ℕ) → glob.begins_with 125 x ≡ true → (rest : List ℕ) × (x ≡ 125 ∷ rest)
begun [] e = absurd cc
begun (b ∷ bs) e = (bs, ap (λ (x : ℕ). x ∷ bs) (eqb-true b 125 e))

found_by : (c : ℕ) (cs name : List ℕ) (v : Bool) → (signs.is_letter c && glob.begins_with 125 (drop (glob.name_len cs) cs)) ≡ v
    → cond v (Some (c ∷ take (glob.name_len cs) cs)) None ≡ Some name
    → (signs.is_letter c ≡ true) × ((rest : List ℕ) × (behind is_variable_byte cs ≡ 125 ∷ rest)) × (name ≡ c ∷ take_while is_variable_byte cs)
found_by c cs name true t e =
    let p = and_parts (signs.is_letter c) (glob.begins_with 125 (drop (glob.name_len cs) cs)) t in
    let n = glob_long cs in
    let b = begun (drop (glob.name_len cs) cs) p.1 in
    let same : c ∷ take (glob.name_len cs) cs ≡ name = cc in
    (p.0, (b.0, ap (λ (m : ℕ). drop m cs) (sym n) ∙ b.1), sym same ∙ ap (λ (m : ℕ). c ∷ take m cs) n)
found_by c cs name false t e = absurd cc

-- what is behind a name and its closing brace
long_enough : (c : ℕ) (cs rest : List ℕ) → behind is_variable_byte cs ≡ 125 ∷ rest → length (123 ∷ c ∷ cs) ≤ length (c ∷ take_while is_variable_byte cs) + 2 → rest ≡ []
long_enough c cs [] e h = refl
long_enough c cs (b ∷ bs) e h =
    let whole = ap length (put_together is_variable_byte cs) in
    let parts = length-append (take_while is_variable_byte cs) (behind is_variable_byte cs) in
    let more = ap length e in
    absurd (omega arith)

used : (b : ℕ) (bs name : List ℕ) (o : Option (List ℕ)) → name_at (drop 1 bs) ≡ o → glob.begins_with 123 bs ≡ true → b ≡ 64
    → behind_name o (λ n. pieces_from false n bs) ≡ Use name ∷ [] → Names (b ∷ bs) name
used b [] name o f e is u = absurd cc
used b (d ∷ []) name None f e is u = absurd cc
used b (d ∷ []) name (Some n) f e is u = absurd cc
used b (d ∷ c ∷ cs) name None f e is u = absurd cc
used b (d ∷ c ∷ cs) name (Some n) f e is u =
    let g = found_by c cs n _ refl f in
    let same : n ≡ name = cc in
    let done : pieces_from false (length n + 2) (d ∷ c ∷ cs) ≡ [] = cc in
    let few = all_skipped (length n + 2) (d ∷ c ∷ cs) done in
    let none = long_enough c cs g.1.0 g.1.1 (rw g.2 at few) in
    let t = named c cs [] g.0 (g.1.1 ∙ ap (λ (x : List ℕ). 125 ∷ x) none) in
    let begins = eqb-true d 123 e in
    rw (sym same ∙ g.2) (record { text_is = ap (λ (x : ℕ). x ∷ d ∷ c ∷ cs) is ∙ ap (λ (x : ℕ). 64 ∷ x ∷ c ∷ cs) begins ∙ t.text_is; is_name = t.is_name })

used_by : (b : ℕ) (bs name : List ℕ) (v : Bool) → (b == 64 && glob.begins_with 123 bs) ≡ v
    → cond v (behind_name (name_at (drop 1 bs)) (λ n. pieces_from false n bs)) (Plain b ∷ pieces_from (b == 92) 0 bs) ≡ Use name ∷ [] → Names (b ∷ bs) name
used_by b bs name true t u =
    let p = and_parts (b == 64) (glob.begins_with 123 bs) t in
    used b bs name _ refl p.1 (eqb-true b 64 p.0) u
used_by b bs name false t u = absurd cc

use_named : (text name : List ℕ) → pieces text ≡ Use name ∷ [] → Names text name
unfolding pieces_from
use_named [] name u = absurd cc
use_named (b ∷ bs) name u = used_by b bs name _ refl u

named_use : (text name : List ℕ) → Names text name → pieces text ≡ Use name ∷ []
unfolding pieces_from
named_use text [] n = absurd (grind (arith, nat_tests, n.is_name))
named_use text (c ∷ cs) n =
    let p = and_parts (signs.is_letter c) (list_all is_variable_byte cs) n.is_name in
    let u = up_to is_variable_byte 125 refl cs [] p.1 in
    let f = name_found c (cs ++ (125 ∷ [])) [] p.0 u.1 ∙ ap (λ (x : List ℕ). Some (c ∷ x)) u.0 in
    let few : length (123 ∷ c ∷ (cs ++ (125 ∷ []))) ≤ length (c ∷ cs) + 2 = omega (arith, length-append cs (125 ∷ [])) in
    ap pieces n.text_is
    ∙ ap (λ (o : Option (List ℕ)). behind_name o (λ m. pieces_from false m (123 ∷ c ∷ (cs ++ (125 ∷ []))))) f
    ∙ ap (λ (x : List Piece). Use (c ∷ cs) ∷ x) (skipped (length (c ∷ cs) + 2) (123 ∷ c ∷ (cs ++ (125 ∷ []))) few)

pub pattern_variables : (text name : List ℕ) → (pieces text ≡ Use name ∷ []) ↔ Names text name
pattern_variables text name = (use_named text name, named_use text name)

closes : (x : List ℕ) → lexer.closes_before_sign x ≡ true → (rest : List ℕ) × (x ≡ 125 ∷ rest) × (lexer.assigns rest ≡ true)
closes [] e = absurd cc
closes (b ∷ bs) e = let p = and_parts (b == 125) (lexer.assigns bs) e in (bs, ap (λ (x : ℕ). x ∷ bs) (eqb-true b 125 p.0), p.1)

-- a name, a closing brace and a sign are what an assignment begins with
assigned_name : (name rest : List ℕ) → is_variable_name name ≡ true → lexer.assigns rest ≡ true → IsAssigned (123 ∷ (name ++ (125 ∷ rest))) (length name + 2)
assigned_name name rest n a = record {
  name = name;
  names = record { text_is = ap (λ (x : List ℕ). 64 ∷ x) (taken_name name rest); is_name = n };
  sign = ap lexer.assigns (dropped_name name rest) ∙ a;
}

assigned_by : (c : ℕ) (cs : List ℕ) (long d : ℕ) (v : Bool) → (d == 123 && lexer.is_letter c && lexer.closes_before_sign (drop (lexer.variable_len (c ∷ cs)) (c ∷ cs))) ≡ v
    → cond v (Some (lexer.variable_len (c ∷ cs) + 2)) None ≡ Some long → IsAssigned (d ∷ c ∷ cs) long
assigned_by c cs long d true t e =
    let o = and_parts (d == 123 && lexer.is_letter c) (lexer.closes_before_sign (drop (lexer.variable_len (c ∷ cs)) (c ∷ cs))) t in
    let p = and_parts (d == 123) (lexer.is_letter c) o.0 in
    let l = sym (same_letter c) ∙ p.1 in
    let q = closes (drop (lexer.variable_len (c ∷ cs)) (c ∷ cs)) o.1 in
    let rest = sym (lexer_behind c cs l) ∙ q.1 in
    let whole : c ∷ (take_while is_variable_byte cs ++ (125 ∷ q.0)) ≡ c ∷ cs =
    ap (λ (x : List ℕ). c ∷ (take_while is_variable_byte cs ++ x)) (sym rest) ∙ ap (λ (x : List ℕ). c ∷ x) (put_together is_variable_byte cs) in
    let count : length (c ∷ take_while is_variable_byte cs) + 2 ≡ long =
    omega (arith, lexer_count c cs l, length-prefix_len is_variable_byte cs, some_same _ _ e) in
    let a = assigned_name (c ∷ take_while is_variable_byte cs) q.0 (and_from (signs.is_letter c) _ l (all_taken is_variable_byte cs)) q.2 in
    let b : IsAssigned (123 ∷ c ∷ cs) long = rw (whole, count) at a in
    rw (eqb-true d 123 p.0) b
assigned_by c cs long d false t e = absurd cc

assigned : (bytes : List ℕ) (long : ℕ) → lexer.assigned_len bytes ≡ Some long → IsAssigned bytes long
unfolding lexer.assigned_len
assigned [] long e = absurd cc
assigned (d ∷ []) long e = absurd (grind (arith, nat_tests))
assigned (d ∷ c ∷ cs) long e = assigned_by c cs long d _ refl e

none_assigns : lexer.assigns [] ≡ true → ⊥
none_assigns e = absurd cc

named_assigned : (name rest : List ℕ) → is_variable_name name ≡ true → lexer.assigns rest ≡ true → lexer.assigned_len (123 ∷ (name ++ (125 ∷ rest))) ≡ Some (length name + 2)
unfolding lexer.assigned_len
named_assigned [] rest n a = absurd cc
named_assigned (c ∷ cs) rest n a =
    let p = and_parts (signs.is_letter c) (list_all is_variable_byte cs) n in
    let u = up_to is_variable_byte 125 refl cs rest p.1 in
    let b = lexer_behind c (cs ++ (125 ∷ rest)) p.0 ∙ u.1 in
    let k : lexer.variable_len (c ∷ (cs ++ (125 ∷ rest))) ≡ length (c ∷ cs) =
    omega (arith, lexer_count c (cs ++ (125 ∷ rest)) p.0, length-prefix_len is_variable_byte (cs ++ (125 ∷ rest)), ap length u.0) in
    ap (λ (v : Bool). cond (v && lexer.closes_before_sign (drop (lexer.variable_len (c ∷ (cs ++ (125 ∷ rest)))) (c ∷ (cs ++ (125 ∷ rest)))))
    (Some (lexer.variable_len (c ∷ (cs ++ (125 ∷ rest))) + 2)) None) (same_letter c ∙ p.0)
    ∙ ap (λ (x : List ℕ). cond (lexer.closes_before_sign x) (Some (lexer.variable_len (c ∷ (cs ++ (125 ∷ rest))) + 2)) None) b
    ∙ ap (λ (v : Bool). cond v (Some (lexer.variable_len (c ∷ (cs ++ (125 ∷ rest))) + 2)) None) a
    ∙ ap (λ (n : ℕ). Some (n + 2)) k

-- a sign is behind the bytes that are taken, so as many are taken as are wanted
all_there : (bytes : List ℕ) (long : ℕ) (name : List ℕ) → 64 ∷ take long bytes ≡ 64 ∷ 123 ∷ (name ++ (125 ∷ [])) → (rest : List ℕ)
    → drop long bytes ≡ rest → lexer.assigns rest ≡ true → long ≡ length name + 2
all_there bytes long name t [] d a = absurd (none_assigns a)
all_there bytes long name t (b ∷ bs) d a =
    omega (arith, length-take long bytes, length-drop long bytes, ap length t, ap length d, length-append name (125 ∷ []))

tail_same : (b : ℕ) (xs ys : List ℕ) → b ∷ xs ≡ b ∷ ys → xs ≡ ys
tail_same b xs ys e = cc

back_together : (bytes : List ℕ) (long : ℕ) (name : List ℕ) → 64 ∷ take long bytes ≡ 64 ∷ 123 ∷ (name ++ (125 ∷ [])) → bytes ≡ 123 ∷ (name ++ (125 ∷ drop long bytes))
back_together bytes long name t =
    sym (take-append-drop long bytes) ∙ ap (λ (x : List ℕ). x ++ drop long bytes) (tail_same 64 _ _ t) ∙ ap (λ (x : List ℕ). 123 ∷ x) (append_assoc name (125 ∷ []) (drop long bytes))

assigned_long : (bytes : List ℕ) (long : ℕ) → IsAssigned bytes long → lexer.assigned_len bytes ≡ Some long
assigned_long bytes long i =
    ap lexer.assigned_len (back_together bytes long i.name i.names.text_is)
    ∙ named_assigned i.name (drop long bytes) i.names.is_name i.sign
    ∙ ap Some (sym (all_there bytes long i.name i.names.text_is (drop long bytes) refl i.sign))

pub assigned_variables : (bytes : List ℕ) (long : ℕ) → (lexer.assigned_len bytes ≡ Some long) ↔ IsAssigned bytes long
assigned_variables bytes long = (assigned bytes long, assigned_long bytes long)
