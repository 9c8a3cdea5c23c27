-- Tokens, one after the other.
use Rattle.std.proofs.lemmas.Grind.{common_steps}
use Rattle.std.proofs.Common.{◌≡◌, ℕ, zero, suc, ◌+◌, ◌<◌, ◌≤◌, Bool, List, [], ◌∷◌, ◌++◌, length, drop, get_or, refl, arith}
use Rattle.std.proofs.Common.{sym, ap, ◌∙◌, append_assoc, flat_map, length-append, Vec, Global, Option, Some, None, Result, Ok, Err}
use Rattle.std.specs.Result.{IfOk}
use Rattle.aa_base.specs.declared.fault.PolicyKind.{PolicyKind}
use Rattle.std.specs.Option.{option_map, option_and_then}
use Rattle.std.proofs.lemmas.List.{at_drop_more, at_drop_all, drop-drop, append-nil}
use Rattle.std.proofs.lemmas.List.Concat.{flat_map-append}
use Rattle.aa_pattern.specs.declared.item.Item.{Item, Choice, Row_of-Item, end_of-Item, more_of-Item, items-the_row-Item, items_shown-the_row-Item-0}
use Rattle.aa_pattern.specs.declared.item.Item.{Row_of-Item-Choice-0-1, end_of-Item-Choice-0-1, more_of-Item-Choice-0-1, items-the_row-Item-Choice-0-1}
use Rattle.aa_pattern.specs.declared.item.Item.{items_hidden-the_row-Item-Choice-0-1-1}
use Rattle.aa_glob.specs.declared.sign.Sign.{Sign}
use Rattle.aa_glob.specs.declared.sign.Token.{Token}
use Rattle.aa_glob.specs.declared.sign.Token.TheVariants.{Open, Comma, Close, Single}
use Rattle.aa_glob.specs.Reading.{token_at, tokens_from, depth_after, is_slash, spelled, spelled_item, spelled_row, spelled_choice, spelled_rest}
use Rattle.aa_glob.specs.declared.reader.OpenChoice.{OpenChoice}
use Rattle.aa_glob.specs.Stack.{begun, begun_choice, so_far, IsFit}
use Rattle.aa_pattern.proofs.Rows.{rows_of}

pub tokens_skip : (d : ℕ) (b : Bool) (n : ℕ) (s : List Sign) → tokens_from d b n s ≡ tokens_from d b 0 (drop n s)
unfolding tokens_from
tokens_skip d b zero [] = refl
tokens_skip d b zero (s ∷ ss) = refl
tokens_skip d b (suc n) [] = refl
tokens_skip d b (suc n) (s ∷ ss) = tokens_skip d b n ss

abbrev pub with_front : List Token → Option (List Token) → Option (List Token)
with_front front o = option_map (λ ts. front ++ ts) o

pub front_more : (front : List Token) (t : Token) (o : Option (List Token)) → with_front front (option_map (λ ts. t ∷ ts) o) ≡ with_front (front ++ t ∷ []) o
front_more front t None = refl
front_more front t (Some ts) = ap Some (sym (append_assoc front (t ∷ []) ts))

abbrev then_from : (d : ℕ) (ss : List Sign) → Token × ℕ → Option (List Token)
then_from d ss t = option_map (λ ts. t.0 ∷ ts) (tokens_from (depth_after d t.0) (is_slash t.0) t.1 ss)

tokens_cons : (d : ℕ) (b : Bool) (s : Sign) (ss : List Sign) → tokens_from d b 0 (s ∷ ss) ≡ option_and_then (then_from d ss) (token_at d b s ss)
unfolding tokens_from
tokens_cons d b s ss = refl

pub tokens_step : (d : ℕ) (b : Bool) (s : List Sign) (i : ℕ) (x : Sign) (t : Token) (n : ℕ) → i < length s →
    token_at d b (get_or s i x) (drop (i + 1) s) ≡ Some (t, n) →
    tokens_from d b 0 (drop i s) ≡ option_map (λ ts. t ∷ ts) (tokens_from (depth_after d t) (is_slash t) 0 (drop (i + 1 + n) s))
tokens_step d b s i x t n h e = grind (arith, common_steps, at_drop_more, drop-drop, tokens_skip, tokens_cons)

pub tokens_stop : (d : ℕ) (b : Bool) (s : List Sign) (i : ℕ) (x : Sign) → i < length s →
    token_at d b (get_or s i x) (drop (i + 1) s) ≡ None → tokens_from d b 0 (drop i s) ≡ None
tokens_stop d b s i x h e = grind (arith, common_steps, at_drop_more, tokens_cons)

pub tokens_end : (d : ℕ) (b : Bool) → d ≡ 0 → tokens_from d b 0 [] ≡ Some []
unfolding tokens_from
tokens_end zero b e = refl
tokens_end (suc d) b e = absurd (omega arith)

pub tokens_open : (d : ℕ) (b : Bool) → 0 < d → tokens_from d b 0 [] ≡ None
unfolding tokens_from
tokens_open zero b e = absurd (omega arith)
tokens_open (suc d) b e = refl

-- one token more, in the loop
pub goes_on : (front : List Token) (whole : Option (List Token)) (d : ℕ) (b : Bool) (s : List Sign) (i : ℕ) (x : Sign) (t : Token) (n : ℕ) (after : List Token) (d2 : ℕ) →
    i < length s → token_at d b (get_or s i x) (drop (i + 1) s) ≡ Some (t, n) → after ≡ front ++ t ∷ [] → d2 ≡ depth_after d t →
    with_front front (tokens_from d b 0 (drop i s)) ≡ whole → with_front after (tokens_from d2 (is_slash t) 0 (drop (i + 1 + n) s)) ≡ whole
goes_on front whole d b s i x t n after d2 h e more deep so_far =
    ap (λ f. with_front f (tokens_from d2 (is_slash t) 0 (drop (i + 1 + n) s))) more
    ∙ ap (λ m. with_front (front ++ t ∷ []) (tokens_from m (is_slash t) 0 (drop (i + 1 + n) s))) deep
    ∙ sym (front_more front t (tokens_from (depth_after d t) (is_slash t) 0 (drop (i + 1 + n) s)))
    ∙ sym (ap (with_front front) (tokens_step d b s i x t n h e)) ∙ so_far

-- Spellings.

pub spelled-append : (xs ys : List Item) → spelled (xs ++ ys) ≡ spelled xs ++ spelled ys
spelled-append [] ys = refl
spelled-append (x ∷ xs) ys = ap (λ r. spelled_item x ++ r) (spelled-append xs ys) ∙ sym (append_assoc (spelled_item x) (spelled xs) (spelled ys))

pub spelled-push : (xs : List Item) (x : Item) → spelled (xs ++ x ∷ []) ≡ spelled xs ++ spelled_item x
spelled-push xs x = spelled-append xs (x ∷ []) ∙ ap (λ r. spelled xs ++ r) (append-nil (spelled_item x))

pub begun-push : (t : Token) (bs : List (Vec Item Global)) (b : Vec Item Global) → begun t (bs ++ b ∷ []) ≡ (begun t bs ++ spelled b.items) ++ Comma ∷ []
begun-push t [] b = refl
begun-push t (c ∷ bs) b =
    ap (λ r. t ∷ (spelled c.items ++ r)) (begun-push Comma bs b)
    ∙ ap (λ r. t ∷ r) (sym (append_assoc (spelled c.items) (begun Comma bs ++ spelled b.items) (Comma ∷ [])) ∙ ap (λ r. r ++ Comma ∷ []) (sym (append_assoc (spelled c.items) (begun Comma bs) (spelled b.items))))

-- `spelled_rest`, of lists
abbrev rest_of_lists : List (Vec Item Global) → List Token
rest_of_lists [] = Close ∷ []
rest_of_lists (branch ∷ rest) = Comma ∷ (spelled branch.items ++ rest_of_lists rest)

-- `spelled_choice`, of lists
abbrev pub choice_of_lists : Item → List (Vec Item Global) → List Token
choice_of_lists choice [] = Single choice ∷ []
choice_of_lists choice (branch ∷ rest) = Open ∷ (spelled branch.items ++ rest_of_lists rest)

behind : (t : Token) (front xs ys zs : List Token) → xs ≡ (ys ++ zs) ++ Close ∷ [] → t ∷ (front ++ xs) ≡ (t ∷ (front ++ ys) ++ zs) ++ Close ∷ []
behind t front xs ys zs e = grind (arith, append_assoc)

rest-push : (bs : List (Vec Item Global)) (b : Vec Item Global) → rest_of_lists (bs ++ b ∷ []) ≡ (begun Comma bs ++ spelled b.items) ++ Close ∷ []
rest-push [] b = refl
rest-push (c ∷ bs) b = behind Comma (spelled c.items) _ (begun Comma bs) (spelled b.items) (rest-push bs b)

pub choice-push : (choice : Item) (bs : List (Vec Item Global)) (b : Vec Item Global) → choice_of_lists choice (bs ++ b ∷ []) ≡ (begun Open bs ++ spelled b.items) ++ Close ∷ []
choice-push choice [] b = refl
choice-push choice (c ∷ bs) b = behind Open (spelled c.items) _ (begun Comma bs) (spelled b.items) (rest-push bs b)

row_spelled : {n : _} (row : Row_of-Item n) → spelled_row row ≡ spelled (items-the_row-Item _ row)
row_spelled end_of-Item = refl
row_spelled (more_of-Item item rest) = ap (λ r. spelled_item item ++ r) (row_spelled rest)

joined : (t : Token) {a b c d : List Token} → a ≡ b → c ≡ d → t ∷ (a ++ c) ≡ t ∷ (b ++ d)
joined t p q = cc (p, q)

rest_spelled : {n : _} (rows : Row_of-Item-Choice-0-1 n) → spelled_rest rows ≡ rest_of_lists (items-the_row-Item-Choice-0-1 _ rows)
rest_spelled end_of-Item-Choice-0-1 = refl
rest_spelled (more_of-Item-Choice-0-1 shape branch rest) =
    joined Comma (row_spelled branch ∙ sym (ap spelled (items_shown-the_row-Item-0 shape branch))) (rest_spelled rest)

choice_spelled : {n : _} (choice : Item) (rows : Row_of-Item-Choice-0-1 n) → spelled_choice choice rows ≡ choice_of_lists choice (items-the_row-Item-Choice-0-1 _ rows)
choice_spelled choice end_of-Item-Choice-0-1 = refl
choice_spelled choice (more_of-Item-Choice-0-1 shape branch rest) =
    joined Open (row_spelled branch ∙ sym (ap spelled (items_shown-the_row-Item-0 shape branch))) (rest_spelled rest)

pub spelled-Choice : (v : Vec (Vec Item Global) Global) → spelled_item (Choice v) ≡ choice_of_lists (Choice v) v.items
spelled-Choice v = choice_spelled (Choice v) (rows_of (Choice v)).1 ∙ ap (choice_of_lists (Choice v)) (items_hidden-the_row-Item-Choice-0-1-1 v)

-- One token behind those so far.

pub put_single : (stack : List OpenChoice) (items new : List Item) (item : Item) (token : Token) → token ≡ Single item → IsFit (length stack) token → new ≡ items ++ item ∷ [] →
    (so_far stack new ≡ so_far stack items ++ token ∷ []) × (length stack ≡ depth_after (length stack) token)
put_single stack items new item token is fit e = grind (arith, append_assoc, spelled-push)

regroup_comma : (a b c d e : List Token) → (a ++ ((b ++ ((c ++ d) ++ e)) ++ [])) ++ [] ≡ ((a ++ ((b ++ c) ++ [])) ++ d) ++ e
regroup_comma a b c d e = simp (append_assoc, append-nil) refl

regroup_close : (a b c d e : List Token) → a ++ (b ++ ((c ++ d) ++ e)) ≡ ((a ++ ((b ++ c) ++ [])) ++ d) ++ e
regroup_close a b c d e = simp (append_assoc, append-nil) refl

-- the stack so far, and its last choice
so_far_last : (stack rest : List OpenChoice) (f : OpenChoice) (items : List Item) (token t : Token) → stack ≡ rest ++ f ∷ [] → token ≡ t →
    so_far stack items ++ token ∷ [] ≡ ((flat_map begun_choice rest ++ (begun_choice f ++ [])) ++ spelled items) ++ t ∷ []
so_far_last stack rest f items token t was is = grind (arith, flat_map-append)

pub put_comma : (stack rest new : List OpenChoice) (f g : OpenChoice) (items : Vec Item Global) (token : Token) → token ≡ Comma →
    stack ≡ rest ++ f ∷ [] → new ≡ rest ++ g ∷ [] → g.before ≡ f.before → g.branches.items ≡ f.branches.items ++ items ∷ [] →
    (so_far new [] ≡ so_far stack items.items ++ token ∷ []) × (length new ≡ depth_after (length stack) token)
put_comma stack rest new f g items token is was now before branches = grind (arith, length-append, flat_map-append, begun-push, regroup_comma, so_far_last)

pub put_close : (stack rest : List OpenChoice) (f : OpenChoice) (items : Vec Item Global) (v : Vec (Vec Item Global) Global) (new : List Item) (token : Token) → token ≡ Close →
    stack ≡ rest ++ f ∷ [] → v.items ≡ f.branches.items ++ items ∷ [] → new ≡ f.before.items ++ Choice v ∷ [] →
    (so_far rest new ≡ so_far stack items.items ++ token ∷ []) × (length rest ≡ depth_after (length stack) token)
put_close stack rest f items v new token is was branches now = grind (arith, length-append, spelled-push, choice-push, spelled-Choice, regroup_close, so_far_last)

-- At the end of the signs.

pub reads_done : (stack : List OpenChoice) (items : List Item) (b : Bool) (s : List Sign) (i : ℕ) (whole : Option (List Token)) → length stack ≡ 0 → length s ≤ i →
    with_front (so_far stack items) (tokens_from (length stack) b 0 (drop i s)) ≡ whole → whole ≡ Some (spelled items)
reads_done [] items b s i whole none h inv = grind (arith, common_steps, at_drop_all, append-nil, tokens_end)
reads_done (f ∷ fs) items b s i whole none h inv = absurd (omega (arith, none))

pub reads_open : (stack : List OpenChoice) (items : List Item) (b : Bool) (s : List Sign) (i : ℕ) (whole : Option (List Token)) → 0 < length stack → length s ≤ i →
    with_front (so_far stack items) (tokens_from (length stack) b 0 (drop i s)) ≡ whole → whole ≡ None
reads_open stack items b s i whole some h inv = grind (arith, common_steps, at_drop_all, tokens_open)

pub fit_at : (r : Result (Token × ℕ) PolicyKind) (d : ℕ) → IfOk r (λ t. (depth : ℕ) → IsFit depth t.0) → IfOk r (λ t. IsFit d t.0)
fit_at (Ok t) d h = h d
fit_at (Err e) d h = tt
