-- Texts in code spans are read as they are.
use Rattle.std.proofs.Common.{◌≡◌, ℕ, ◌==◌, ◌+◌, ◌<◌, ◌||◌, ◌&&◌, List, [], ◌∷◌, ◌++◌}
use Rattle.std.proofs.Common.{length, flat_map, Bool, true, false, not, cond, inl, inr, Option, Some, None, option_map, refl}
use Rattle.std.proofs.Common.{sym, subst, ap, ◌∙◌, append_assoc, append-nil, length-append, nat_lt, arith}
use Rattle.std.proofs.lemmas.Bool.{false≢true, cases_eq, cases_Bool, cond_both, or_parts, or_from, eq-eqb, ne_eqb}
use Rattle.std.proofs.lemmas.List.Folds.{list_any-append}
use Rattle.std.specs.List.{list_any}
use Rattle.aa_text.specs.Visible.{visible, all_visible}
use Rattle.aa_report.specs.Spans.{tick_if, fence, is_blank_first, is_padded, pad, span, shown_span}
use Rattle.aa_report.specs.Reading.{Read, behind, read_within, read_between, is_blank, is_blank_last, but_last, without_pad, stripped, read_span, is_tick_first, read_as, ends_line, SpansEndAtFences}

-- ---- backquotes

-- how many a text has
abbrev ticks_in : List ℕ → ℕ
ticks_in [] = 0
ticks_in (b ∷ bs) = cond (b == 96) (ticks_in bs + 1) (ticks_in bs)

-- a byte is one or none
by_tick : (b : ℕ) (P : Bool → Type 0) → ((b == 96) ≡ true → P true) → ((b == 96) ≡ false → P false) → P (b == 96)
by_tick b P is isnt =
    elim (cases_eq b 96) as (λ _. P (b == 96))
    [ inl e ↦ subst P (sym (eq-eqb b 96 e)) (is (eq-eqb b 96 e)) | inr d ↦ subst P (sym (ne_eqb b 96 d)) (isnt (ne_eqb b 96 d)) ]

-- so many are kept of it
ticks_length : (text : List ℕ) → length (flat_map tick_if text) ≡ ticks_in text
ticks_length [] = refl
ticks_length (b ∷ text) =
    by_tick b (λ t. length (cond t (b ∷ []) [] ++ flat_map tick_if text) ≡ cond t (ticks_in text + 1) (ticks_in text))
    (λ e. length-append (b ∷ []) (flat_map tick_if text) ∙ (let same = ticks_length text in omega (arith, same)))
    (λ e. ticks_length text)

-- they are counted at the begin of a span
opened : (text rest : List ℕ) (n : ℕ) → read_between n (flat_map tick_if text ++ rest) ≡ read_between (n + ticks_in text) rest
opened [] rest n = let e : n ≡ n + 0 = omega arith in ap (λ m. read_between m rest) e
opened (b ∷ text) rest n =
    by_tick b (λ t. read_between n ((cond t (b ∷ []) [] ++ flat_map tick_if text) ++ rest) ≡ read_between (n + cond t (ticks_in text + 1) (ticks_in text)) rest)
    (λ e. let sums : (n + 1) + ticks_in text ≡ n + (ticks_in text + 1) = omega arith in rw e (opened text rest (n + 1) ∙ ap (λ m. read_between m rest) sums))
    (λ e. opened text rest n)

-- and behind its text
closed : (text rest run : List ℕ) (n : ℕ) → read_within n run (flat_map tick_if text ++ rest) ≡ read_within n (run ++ flat_map tick_if text) rest
closed [] rest run n = ap (λ r. read_within n r rest) (sym (append-nil run))
closed (b ∷ text) rest run n =
    by_tick b (λ t. read_within n run ((cond t (b ∷ []) [] ++ flat_map tick_if text) ++ rest) ≡ read_within n (run ++ (cond t (b ∷ []) [] ++ flat_map tick_if text)) rest)
    (λ e. rw e (closed text rest (run ++ b ∷ []) n ∙ ap (λ r. read_within n r rest) (append_assoc run (b ∷ []) (flat_map tick_if text))))
    (λ e. closed text rest run n)

-- ---- the fences

no_length : (k : ℕ) → ((k + 1) == 0) ≡ false
no_length k = ne_eqb (k + 1) 0 (λ e. omega (arith, e))

no_run : (k : ℕ) → (0 == (k + 1)) ≡ false
no_run k = ne_eqb 0 (k + 1) (λ e. omega (arith, e))

-- a span begins with that of its text
begun : (text : List ℕ) (c : ℕ) (cs : List ℕ) → (c == 96) ≡ false → read_between 0 (fence text ++ c ∷ cs) ≡ read_within (ticks_in text + 1) [] (c ∷ cs)
unfolding fence
begun text c cs plain =
    let counted : 0 + ticks_in text ≡ ticks_in text = omega arith in
    ap (read_between 0) (append_assoc (flat_map tick_if text) (96 ∷ []) (c ∷ cs))
    ∙ (opened text (96 ∷ c ∷ cs) 0
    ∙ (ap (λ m. read_between m (96 ∷ c ∷ cs)) counted ∙ rw plain (rw (no_length (ticks_in text)) refl)))

-- a run of that length ends a span
ended : (run rest : List ℕ) (n : ℕ) → length run ≡ n → is_tick_first rest ≡ false → read_within n run rest ≡ Some (record { text = []; rest = rest })
ended run [] n e plain = rw (eq-eqb (length run) n e) refl
ended run (b ∷ bs) n e plain = rw plain (rw (eq-eqb (length run) n e) refl)

-- it ends with that of its text
fenced : (text rest : List ℕ) → is_tick_first rest ≡ false → read_within (ticks_in text + 1) [] (fence text ++ rest) ≡ Some (record { text = []; rest = rest })
unfolding fence
fenced text rest plain =
    let ticks = flat_map tick_if text in
    let long : length (ticks ++ 96 ∷ []) ≡ ticks_in text + 1 = length-append ticks (96 ∷ []) ∙ ap (λ k. k + 1) (ticks_length text) in
    ap (read_within (ticks_in text + 1) []) (append_assoc ticks (96 ∷ []) rest)
    ∙ (closed text (96 ∷ rest) [] (ticks_in text + 1) ∙ ended (ticks ++ 96 ∷ []) rest (ticks_in text + 1) long plain)

-- ---- the text

nothing_behind : (o : Option Read) → option_map (behind []) o ≡ o
nothing_behind None = refl
nothing_behind (Some r) = refl

both_behind : (x y : List ℕ) (o : Option Read) → option_map (behind x) (option_map (behind y) o) ≡ option_map (behind (x ++ y)) o
both_behind x y None = refl
both_behind x y (Some r) = ap (λ (t : List ℕ). Some (record { text = t; rest = r.rest })) (sym (append_assoc x y r.text))

-- a text with fewer backquotes than the fence, and a space behind it
within : (x tail run : List ℕ) (n : ℕ) → length run + ticks_in x < n → read_within n run (x ++ 32 ∷ tail) ≡ option_map (behind (run ++ (x ++ 32 ∷ []))) (read_within n [] tail)
within [] tail run n = λ few. rw (ne_eqb (length run) n (λ e. omega (arith, e, few))) refl
within (b ∷ bs) tail run n =
    by_tick b
    (λ t. length run + cond t (ticks_in bs + 1) (ticks_in bs) < n → cond t (read_within n (run ++ b ∷ []) (bs ++ 32 ∷ tail))
    (cond (length run == n) (Some (record { text = []; rest = b ∷ (bs ++ 32 ∷ tail) })) (option_map (behind (run ++ b ∷ [])) (read_within n [] (bs ++ 32 ∷ tail))))
    ≡ option_map (behind (run ++ b ∷ (bs ++ 32 ∷ []))) (read_within n [] tail))
    (λ e few. let more = length-append run (b ∷ []) in
    within bs tail (run ++ b ∷ []) n (omega (arith, more, few)) ∙ ap (λ r. option_map (behind r) (read_within n [] tail)) (append_assoc run (b ∷ []) (bs ++ 32 ∷ [])))
    (λ e few. rw (ne_eqb (length run) n (λ same. omega (arith, same, few)))
    (ap (option_map (behind (run ++ b ∷ []))) (within bs tail [] n (omega (arith, few)))
    ∙ (both_behind (run ++ b ∷ []) (bs ++ 32 ∷ []) (read_within n [] tail)
    ∙ ap (λ r. option_map (behind r) (read_within n [] tail)) (append_assoc run (b ∷ []) (bs ++ 32 ∷ [])))))

-- a text without any
alone : (x tail : List ℕ) (k : ℕ) → list_any (λ b. b == 96) x ≡ false → read_within (k + 1) [] (x ++ tail) ≡ option_map (behind x) (read_within (k + 1) [] tail)
alone [] tail k = λ none. sym (nothing_behind (read_within (k + 1) [] tail))
alone (b ∷ bs) tail k =
    by_tick b
    (λ t. (t || list_any (λ c. c == 96) bs) ≡ false → cond t (read_within (k + 1) (b ∷ []) (bs ++ tail))
    (cond (0 == (k + 1)) (Some (record { text = []; rest = b ∷ (bs ++ tail) })) (option_map (behind (b ∷ [])) (read_within (k + 1) [] (bs ++ tail))))
    ≡ option_map (behind (b ∷ bs)) (read_within (k + 1) [] tail))
    (λ e none. absurd (false≢true (sym none)))
    (λ e none. rw (no_run k) (ap (option_map (behind (b ∷ []))) (alone bs tail k none) ∙ both_behind (b ∷ []) bs (read_within (k + 1) [] tail)))

-- ---- the spaces beside it

ends_blank : (x : List ℕ) → is_blank_last (x ++ 32 ∷ []) ≡ true
ends_blank [] = refl
ends_blank (b ∷ []) = refl
ends_blank (b ∷ c ∷ bs) = ends_blank (c ∷ bs)

last_left : (x : List ℕ) → but_last (x ++ 32 ∷ []) ≡ x
last_left [] = refl
last_left (b ∷ []) = refl
last_left (b ∷ c ∷ bs) = ap (λ xs. b ∷ xs) (last_left (c ∷ bs))

blank_with : (x : List ℕ) → is_blank (x ++ 32 ∷ []) ≡ is_blank x
blank_with [] = refl
blank_with (b ∷ bs) = ap (λ t. (b == 32) && t) (blank_with bs)

cond_not : (t : Bool) (x y : List ℕ) → cond (not t) x y ≡ cond t y x
cond_not true x y = refl
cond_not false x y = refl

-- between such spaces a text is read as it is
between : (text : List ℕ) → without_pad (32 ∷ (text ++ 32 ∷ [])) ≡ read_as text
between text = rw (ends_blank text) (rw (blank_with text) (rw (last_left text) (cond_not (is_blank text) text (32 ∷ (text ++ 32 ∷ [])))))

-- ---- spans

-- a span whose text stands between spaces
read_padded : (text rest : List ℕ) → is_tick_first rest ≡ false
    → option_map stripped (read_between 0 (fence text ++ 32 ∷ (text ++ 32 ∷ (fence text ++ rest)))) ≡ Some (record { text = read_as text; rest = rest })
read_padded text rest plain =
    let n = ticks_in text + 1 in
    let inner = within text (fence text ++ rest) [] n (omega arith) in
    let all : read_between 0 (fence text ++ 32 ∷ (text ++ 32 ∷ (fence text ++ rest))) ≡ Some (record { text = 32 ∷ ((text ++ 32 ∷ []) ++ []); rest = rest }) =
    begun text 32 (text ++ 32 ∷ (fence text ++ rest)) refl
    ∙ rw (no_run (ticks_in text)) (ap (option_map (behind (32 ∷ []))) (inner ∙ ap (option_map (behind (text ++ 32 ∷ []))) (fenced text rest plain))) in
    ap (option_map stripped) all
    ∙ ap (λ (t : List ℕ). Some (record { text = t; rest = rest })) (ap (λ (t : List ℕ). without_pad (32 ∷ t)) (append-nil (text ++ 32 ∷ [])) ∙ between text)

-- one whose text doesn't
read_alone : (text rest : List ℕ) → is_tick_first rest ≡ false → is_blank_first text ≡ false → list_any (λ b. b == 96) text ≡ false
    → option_map stripped (read_between 0 (fence text ++ (text ++ (fence text ++ rest)))) ≡ Some (record { text = read_as text; rest = rest })
read_alone [] rest plain filled none = absurd (false≢true (sym filled))
read_alone (b ∷ bs) rest plain filled none =
    let text = b ∷ bs in
    let first : (b == 96) ≡ false = by_tick b (λ t. (t || list_any (λ c. c == 96) bs) ≡ false → t ≡ false) (λ e h. absurd (false≢true (sym h))) (λ e h. refl) none in
    let all : read_between 0 (fence text ++ (text ++ (fence text ++ rest))) ≡ Some (record { text = text ++ []; rest = rest }) =
    begun text b (bs ++ (fence text ++ rest)) first
    ∙ (alone text (fence text ++ rest) (ticks_in text) none ∙ ap (option_map (behind text)) (fenced text rest plain)) in
    ap (option_map stripped) all
    ∙ ap (λ (t : List ℕ). Some (record { text = t; rest = rest })) (ap without_pad (append-nil text) ∙ rw filled refl)

-- the parts of a span
parted : (text : List ℕ) → span text ≡ fence text ++ (pad text ++ (text ++ (pad text ++ fence text)))
unfolding span
parted text = simp append_assoc

-- the same before what stands behind it
followed : (f p text rest : List ℕ) → (f ++ (p ++ (text ++ (p ++ f)))) ++ rest ≡ f ++ (p ++ (text ++ (p ++ (f ++ rest))))
followed f p text rest = simp append_assoc

-- either
read : (text rest : List ℕ) → is_tick_first rest ≡ false → read_span (span text ++ rest) ≡ Some (record { text = read_as text; rest = rest })
read text rest plain =
    let f = fence text in
    ap read_span (ap (λ x. x ++ rest) (parted text) ∙ followed f (pad text) text rest)
    ∙ elim (cases_Bool (is_padded text)) as (λ _. read_span (f ++ (pad text ++ (text ++ (pad text ++ (f ++ rest))))) ≡ Some (record { text = read_as text; rest = rest })) [
      | inl e ↦ rw e (read_padded text rest plain)
      | inr d ↦ let parts = or_parts (is_blank_first text) (list_any (λ b. b == 96) text) d in rw d (read_alone text rest plain parts.0 parts.1)
    ]

-- ---- ends of lines

no_end_shown : (b : ℕ) → ends_line (visible b) ≡ false
no_end_shown b =
    elim (cases_eq b 10) as (λ _. ends_line (visible b) ≡ false) [
      | inl e ↦ subst (λ k. ends_line (visible k) ≡ false) (sym e) refl
      | inr no10 ↦ elim (cases_eq b 13) as (λ _. ends_line (visible b) ≡ false) [
        | inl e ↦ subst (λ k. ends_line (visible k) ≡ false) (sym e) refl
        | inr no13 ↦ cond_both ((nat_lt b 32 && not (b == 9)) || b == 127) 63 b (λ k. ends_line k ≡ false) (λ e. refl)
            (λ e. rw (ne_eqb b 10 no10) (rw (ne_eqb b 13 no13) refl))
      ]
    ]

no_end_in : (bytes : List ℕ) → list_any ends_line (all_visible bytes) ≡ false
no_end_in [] = refl
no_end_in (b ∷ bs) = or_from (ends_line (visible b)) (list_any ends_line (all_visible bs)) (no_end_shown b) (no_end_in bs)

no_end_of : (b : ℕ) → list_any ends_line (tick_if b) ≡ false
no_end_of b =
    elim (cases_eq b 96) as (λ _. list_any ends_line (tick_if b) ≡ false)
    [ inl e ↦ subst (λ k. list_any ends_line (tick_if k) ≡ false) (sym e) refl | inr d ↦ rw (ne_eqb b 96 d) refl ]

-- neither of two texts has one
no_end_of_both : (xs ys : List ℕ) → list_any ends_line xs ≡ false → list_any ends_line ys ≡ false → list_any ends_line (xs ++ ys) ≡ false
no_end_of_both xs ys p q = list_any-append ends_line xs ys ∙ or_from (list_any ends_line xs) (list_any ends_line ys) p q

no_end_in_ticks : (text : List ℕ) → list_any ends_line (flat_map tick_if text) ≡ false
no_end_in_ticks [] = refl
no_end_in_ticks (b ∷ text) = no_end_of_both (tick_if b) (flat_map tick_if text) (no_end_of b) (no_end_in_ticks text)

no_end_in_fence : (text : List ℕ) → list_any ends_line (fence text) ≡ false
unfolding fence
no_end_in_fence text = no_end_of_both (flat_map tick_if text) (96 ∷ []) (no_end_in_ticks text) refl

no_end_in_pad : (text : List ℕ) → list_any ends_line (pad text) ≡ false
no_end_in_pad text = cond_both (is_padded text) (32 ∷ []) [] (λ x. list_any ends_line x ≡ false) (λ e. refl) (λ e. refl)

one_line : (bytes : List ℕ) → list_any ends_line (shown_span bytes) ≡ false
one_line bytes =
    let text = all_visible bytes in
    let f = fence text in
    let p = pad text in
    ap (list_any ends_line) (parted text)
    ∙ no_end_of_both f (p ++ (text ++ (p ++ f))) (no_end_in_fence text)
    (no_end_of_both p (text ++ (p ++ f)) (no_end_in_pad text)
    (no_end_of_both text (p ++ f) (no_end_in bytes) (no_end_of_both p f (no_end_in_pad text) (no_end_in_fence text))))

pub spans_end_at_fences : SpansEndAtFences
spans_end_at_fences = record { read = read; one_line = one_line }
