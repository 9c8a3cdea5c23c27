-- Bytes cut into lines.
use Rattle.std.proofs.Common.{Option, Some, None, unwrap_or, le_refl, ◌≡◌, ◌≢◌, ℕ, suc, ◌+◌, ◌-◌, ◌<◌, ◌≤◌, ◌==◌, ◌&&◌}
use Rattle.std.proofs.Common.{List, [], ◌∷◌, ◌++◌, length, map, take, drop, min, Bool, true, false, if◌then◌else◌, not, refl, sym, ap, subst}
use Rattle.std.proofs.Common.{◌∙◌, append_assoc, append-nil, arith, inl, inr}
use Rattle.std.specs.List.{prefix_len, list_all}
use Rattle.std.proofs.lemmas.Bool.{cases_lt, eqb-true, eqb-false}
use Rattle.std.proofs.lemmas.List.{take_all, length-take, length-append, length-map, map-append, take-append-le}
use Rattle.std.proofs.lemmas.List.Sums.{prefix_len_is, prefix_len-le-length}
use Rattle.std.proofs.Math.Seq.{take-append-add}
use Rattle.memchr.specs.Find.{IsFirstByte, is_byte}
use Rattle.aa_logs.specs.LogLines.{LogLine, log_line, in_front, lines_of, kept, numbered, log_lines, is_in_line, ended, left_open, last_line}

least : (n : ℕ) (s : List ℕ) → take (min n (length s)) s ≡ take n s
least n s = elim (cases_lt n (length s)) [
  | inl lt ↦ ap (λ (m : ℕ). take m s) (omega arith)
  | inr le ↦ take_all (min n (length s)) s (omega arith) ∙ sym (take_all n s le)
]

-- as much is kept as there is room for
room_for : (limit : ℕ) (old bytes : List ℕ) (taken : ℕ) → length old ≤ limit → taken ≡ min (limit - length old) (length bytes) → old ++ take taken bytes ≡ take limit (old ++ bytes)
room_for limit old bytes taken le e =
    let room = limit - length old in
    let whole : limit ≡ length old + room = omega arith in
    ap (λ (m : ℕ). old ++ take m bytes) e ∙ ap (λ (x : List ℕ). old ++ x) (least room bytes) ∙ sym (take-append-add old bytes room) ∙ ap (λ (m : ℕ). take m (old ++ bytes)) (sym whole)

pub kept_with : (old bytes : List ℕ) (taken : ℕ) → length old ≤ 65537 → taken ≡ min (65537 - length old) (length bytes) → old ++ take taken bytes ≡ kept (old ++ bytes)
unfolding kept
kept_with old bytes taken le e = room_for 65537 old bytes taken le e

front_kept : (limit : ℕ) (xs ys : List ℕ) → take limit (take limit xs ++ ys) ≡ take limit (xs ++ ys)
front_kept limit xs ys = elim (cases_lt limit (length xs)) [
  | inl lt ↦ let len : length (take limit xs) ≡ limit = omega (arith, length-take limit xs) in
      take-append-le limit (take limit xs) ys (omega arith) ∙ take_all limit (take limit xs) (omega arith) ∙ sym (take-append-le limit xs ys (omega arith))
  | inr le ↦ ap (λ (x : List ℕ). take limit (x ++ ys)) (take_all limit xs le)
]

-- what a front keeps, the whole keeps
pub kept-append : (xs ys : List ℕ) → kept (kept xs ++ ys) ≡ kept (xs ++ ys)
unfolding kept
kept-append xs ys = front_kept 65537 xs ys

pub kept-kept : (xs : List ℕ) → kept (kept xs) ≡ kept xs
kept-kept xs = ap kept (sym (append-nil (kept xs))) ∙ kept-append xs [] ∙ ap kept (append-nil xs)

-- what has room is kept whole
pub kept_whole : (xs : List ℕ) → length xs ≤ 65537 → kept xs ≡ xs
unfolding kept
kept_whole xs le = take_all 65537 xs le

pub length-kept : (xs : List ℕ) → length (kept xs) ≤ 65537
unfolding kept
length-kept xs = omega (arith, length-take 65537 xs)

-- what stands open behind two runs of bytes
pub left_open-append : (front a b : List ℕ) → left_open front (a ++ b) ≡ left_open (left_open front a) b
unfolding left_open
left_open-append front [] b = refl
left_open-append front (x ∷ a) b =
    elim (x == 10) as (λ t. (if t then left_open [] (a ++ b) else left_open (front ++ x ∷ []) (a ++ b)) ≡ left_open (if t then left_open [] a else left_open (front ++ x ∷ []) a) b) [
      | true ↦ left_open-append [] a b
      | false ↦ left_open-append (front ++ x ∷ []) a b
    ]

-- the lines that end among two runs of bytes
pub ended-append : (front a b : List ℕ) → ended front (a ++ b) ≡ ended front a ++ ended (left_open front a) b
unfolding left_open ended
ended-append front [] b = refl
ended-append front (x ∷ a) b =
    elim (x == 10) as
    (λ t. (if t then front ∷ ended [] (a ++ b) else ended (front ++ x ∷ []) (a ++ b)) ≡
    (if t then front ∷ ended [] a else ended (front ++ x ∷ []) a) ++ ended (if t then left_open [] a else left_open (front ++ x ∷ []) a) b) [
      | true ↦ ap (λ (l : List (List ℕ)). front ∷ l) (ended-append [] a b)
      | false ↦ ended-append (front ++ x ∷ []) a b
    ]

-- of a line in front only what is kept counts
pub left_open-kept : (front bs : List ℕ) → kept (left_open (kept front) bs) ≡ kept (left_open front bs)
unfolding left_open
left_open-kept front [] = kept-kept front
left_open-kept front (b ∷ bs) =
    elim (b == 10) as (λ t. kept (if t then left_open [] bs else left_open (kept front ++ b ∷ []) bs) ≡ kept (if t then left_open [] bs else left_open (front ++ b ∷ []) bs)) [
      | true ↦ refl
      | false ↦ sym (left_open-kept (kept front ++ b ∷ []) bs) ∙ ap (λ (x : List ℕ). kept (left_open x bs)) (kept-append front (b ∷ [])) ∙ left_open-kept (front ++ b ∷ []) bs
    ]

pub ended-kept : (front bs : List ℕ) → map kept (ended (kept front) bs) ≡ map kept (ended front bs)
unfolding ended
ended-kept front [] = refl
ended-kept front (b ∷ bs) =
    elim (b == 10) as (λ t. map kept (if t then kept front ∷ ended [] bs else ended (kept front ++ b ∷ []) bs) ≡ map kept (if t then front ∷ ended [] bs else ended (front ++ b ∷ []) bs)) [
      | true ↦ ap (λ (x : List ℕ). x ∷ map kept (ended [] bs)) (kept-kept front)
      | false ↦ sym (ended-kept (kept front ++ b ∷ []) bs) ∙ ap (λ (x : List ℕ). map kept (ended x bs)) (kept-append front (b ∷ [])) ∙ ended-kept (front ++ b ∷ []) bs
    ]

length-ended-kept : (front bs : List ℕ) → length (ended (kept front) bs) ≡ length (ended front bs)
unfolding ended
length-ended-kept front [] = refl
length-ended-kept front (b ∷ bs) =
    elim (b == 10) as (λ t. length (if t then kept front ∷ ended [] bs else ended (kept front ++ b ∷ []) bs) ≡ length (if t then front ∷ ended [] bs else ended (front ++ b ∷ []) bs)) [
      | true ↦ refl
      | false ↦ sym (length-ended-kept (kept front ++ b ∷ []) bs) ∙ ap (λ (x : List ℕ). length (ended x bs)) (kept-append front (b ∷ [])) ∙ length-ended-kept (front ++ b ∷ []) bs
    ]

-- bytes in front of lines
with_front : List ℕ → List (List ℕ) → List (List ℕ)
with_front [] lines = lines
with_front (b ∷ bs) lines = in_front b (with_front bs lines)

with_front-none : (front : List ℕ) → with_front front [] ≡ last_line front
unfolding with_front
with_front-none [] = refl
with_front-none (b ∷ bs) = ap (in_front b) (with_front-none bs) ∙ (elim bs as (λ t. in_front b (last_line t) ≡ (b ∷ t) ∷ []) [ [] ↦ refl | c ∷ cs ↦ refl ])

with_front-end : (front : List ℕ) (lines : List (List ℕ)) → with_front front ([] ∷ lines) ≡ front ∷ lines
unfolding with_front
with_front-end [] lines = refl
with_front-end (b ∷ bs) lines = ap (in_front b) (with_front-end bs lines)

with_front-more : (front : List ℕ) (b : ℕ) (lines : List (List ℕ)) → with_front front (in_front b lines) ≡ with_front (front ++ b ∷ []) lines
unfolding with_front
with_front-more [] b lines = refl
with_front-more (c ∷ cs) b lines = ap (in_front c) (with_front-more cs b lines)

cut : (front bs : List ℕ) → with_front front (lines_of bs) ≡ ended front bs ++ last_line (left_open front bs)
unfolding ended left_open lines_of with_front
cut front [] = with_front-none front
cut front (b ∷ bs) =
    elim (b == 10) as
    (λ t. with_front front (if t then [] ∷ lines_of bs else in_front b (lines_of bs)) ≡
    (if t then front ∷ ended [] bs else ended (front ++ b ∷ []) bs) ++ last_line (if t then left_open [] bs else left_open (front ++ b ∷ []) bs)) [
      | true ↦ with_front-end front (lines_of bs) ∙ ap (λ (l : List (List ℕ)). front ∷ l) (cut [] bs)
      | false ↦ with_front-more front b (lines_of bs) ∙ cut (front ++ b ∷ []) bs
    ]

-- the lines of bytes: those that end, and the last one
pub lines_cut : (bs : List ℕ) → lines_of bs ≡ ended [] bs ++ last_line (left_open [] bs)
unfolding with_front
lines_cut bs = cut [] bs

-- a last line is kept as others are
pub last_line-kept : (line : List ℕ) → map kept (last_line line) ≡ last_line (kept line)
unfolding kept
last_line-kept [] = refl
last_line-kept (b ∷ bs) = refl

-- lines, and more behind them
pub numbered-append : (log number : ℕ) (a b : List (List ℕ)) → numbered log number (a ++ b) ≡ numbered log number a ++ numbered log (number + length a) b
unfolding numbered
numbered-append log number [] b = ap (λ (n : ℕ). numbered log n b) (omega arith)
numbered-append log number (line ∷ a) b = ap (λ (l : List LogLine). log_line log number line ∷ l) (numbered-append log (number + 1) a b ∙ ap (λ (n : ℕ). numbered log (number + 1) a ++ numbered log n b) (omega arith))

-- bytes without a line end make the line longer
clean_open : (front line rest : List ℕ) → list_all is_in_line line ≡ true → left_open front (line ++ rest) ≡ left_open (front ++ line) rest
unfolding left_open
clean_open front [] rest e = ap (λ (x : List ℕ). left_open x rest) (sym (append-nil front))
clean_open front (b ∷ line) rest e =
    (elim (b == 10) as (λ t. not t && list_all is_in_line line ≡ true → (if t then left_open [] (line ++ rest) else left_open (front ++ b ∷ []) (line ++ rest)) ≡ left_open (front ++ b ∷ line) rest) [
      | true ↦ λ no. absurd (cc)
      | false ↦ λ clean. clean_open (front ++ b ∷ []) line rest clean ∙ ap (λ (x : List ℕ). left_open x rest) (append_assoc front (b ∷ []) line)
    ]) e

clean_ended : (front line rest : List ℕ) → list_all is_in_line line ≡ true → ended front (line ++ rest) ≡ ended (front ++ line) rest
unfolding ended
clean_ended front [] rest e = ap (λ (x : List ℕ). ended x rest) (sym (append-nil front))
clean_ended front (b ∷ line) rest e =
    (elim (b == 10) as (λ t. not t && list_all is_in_line line ≡ true → (if t then front ∷ ended [] (line ++ rest) else ended (front ++ b ∷ []) (line ++ rest)) ≡ ended (front ++ b ∷ line) rest) [
      | true ↦ λ no. absurd (cc)
      | false ↦ λ clean. clean_ended (front ++ b ∷ []) line rest clean ∙ ap (λ (x : List ℕ). ended x rest) (append_assoc front (b ∷ []) line)
    ]) e

-- no line ends before the first line end
pub front_clean : (p : ℕ → Bool) (xs : List ℕ) → list_all p (take (prefix_len p xs) xs) ≡ true
front_clean p [] = refl
front_clean p (x ∷ xs) =
    let n = prefix_len p xs in
    let s : 1 + n ≡ suc n = omega arith in
    (elim (p x) as (λ t. p x ≡ t → list_all p (take (if t then 1 + n else 0) (x ∷ xs)) ≡ true) [
      | true ↦ λ e. subst (λ (m : ℕ). list_all p (take m (x ∷ xs)) ≡ true) (sym s) (ap (λ (b : Bool). b && list_all p (take n xs)) e ∙ front_clean p xs)
      | false ↦ λ e. refl
    ]) refl

-- and there one does
pub stops : (p : ℕ → Bool) (xs : List ℕ) (x : ℕ) (after : List ℕ) → drop (prefix_len p xs) xs ≡ x ∷ after → p x ≡ false
stops p [] x after e = absurd (cc)
stops p (y ∷ ys) x after e =
    let n = prefix_len p ys in
    let s : 1 + n ≡ suc n = omega arith in
    (elim (p y) as (λ t. p y ≡ t → drop (if t then 1 + n else 0) (y ∷ ys) ≡ x ∷ after → p x ≡ false) [
      | true ↦ λ yes same. stops p ys x after (subst (λ (m : ℕ). drop m (y ∷ ys) ≡ x ∷ after) s same)
      | false ↦ λ no same. (let here : x ≡ y = cc in ap p here ∙ no)
    ]) refl e

end_of : (front : List ℕ) (x : ℕ) → is_in_line x ≡ false → (ended front (x ∷ []) ≡ front ∷ []) × (left_open front (x ∷ []) ≡ [])
unfolding ended left_open
end_of front x e =
    (elim (x == 10) as (λ t. not t ≡ false → ((if t then front ∷ [] else []) ≡ front ∷ []) × ((if t then [] else front ++ x ∷ []) ≡ [])) [
      | true ↦ λ yes. (refl, refl)
      | false ↦ λ no. absurd (cc)
    ]) e

-- a line that ends behind bytes is one line more, and nothing stands open
pub line_more : (front done line : List ℕ) (x : ℕ) → list_all is_in_line line ≡ true → is_in_line x ≡ false → ended front (done ++ (line ++ x ∷ [])) ≡ ended front done ++ (left_open front done ++ line) ∷ []
line_more front done line x clean end =
    ended-append front done (line ++ x ∷ []) ∙ ap (λ (l : List (List ℕ)). ended front done ++ l) (clean_ended (left_open front done) line (x ∷ []) clean ∙ (end_of (left_open front done ++ line) x end).0)

pub none_open : (front done line : List ℕ) (x : ℕ) → list_all is_in_line line ≡ true → is_in_line x ≡ false → left_open front (done ++ (line ++ x ∷ [])) ≡ []
none_open front done line x clean end =
    left_open-append front done (line ++ x ∷ []) ∙ clean_open (left_open front done) line (x ∷ []) clean ∙ (end_of (left_open front done ++ line) x end).1

-- bytes without a line end leave the line open
pub more_open : (front done line : List ℕ) → list_all is_in_line line ≡ true → left_open front (done ++ line) ≡ left_open front done ++ line
unfolding left_open
more_open front done line clean = left_open-append front done line ∙ ap (left_open (left_open front done)) (sym (append-nil line)) ∙ clean_open (left_open front done) line [] clean

pub no_more : (front done line : List ℕ) → list_all is_in_line line ≡ true → ended front (done ++ line) ≡ ended front done
unfolding ended
no_more front done line clean = ended-append front done line
    ∙ ap (λ (l : List (List ℕ)). ended front done ++ l)
    (ap (ended (left_open front done)) (sym (append-nil line)) ∙ clean_ended (left_open front done) line [] clean) ∙ append-nil (ended front done)

-- one line behind those that are taken
pub taken_more : (log first number : ℕ) (before : List LogLine) (lines : List (List ℕ)) (line : List ℕ) → number ≡ first + length lines
    → (before ++ numbered log first (map kept lines)) ++ log_line log number (kept line) ∷ [] ≡ before ++ numbered log first
    (map kept (lines ++ line ∷ []))
unfolding numbered
taken_more log first number before lines line e =
    let at : number ≡ first + length (map kept lines) = e ∙ ap (λ (n : ℕ). first + n) (sym (length-map lines kept)) in
    append_assoc before (numbered log first (map kept lines)) (log_line log number (kept line) ∷ [])
    ∙ ap (λ (l : List LogLine). before ++ l)
    (ap (λ (n : ℕ). numbered log first (map kept lines) ++ log_line log n (kept line) ∷ []) at
    ∙ sym (numbered-append log first (map kept lines) (kept line ∷ [])) ∙ ap (numbered log first) (sym (map-append kept lines (line ∷ []))))

-- the lines of more bytes behind those that are taken
pub taken_behind : (log first number : ℕ) (before : List LogLine) (lines more : List (List ℕ)) → number ≡ first + length lines
    → (before ++ numbered log first (map kept lines)) ++ numbered log number (map kept more) ≡ before ++ numbered log first (map kept (lines ++ more))
taken_behind log first number before lines more e =
    let at : number ≡ first + length (map kept lines) = e ∙ ap (λ (n : ℕ). first + n) (sym (length-map lines kept)) in
    append_assoc before (numbered log first (map kept lines)) (numbered log number (map kept more))
    ∙ ap (λ (l : List LogLine). before ++ l)
    (ap (λ (n : ℕ). numbered log first (map kept lines) ++ numbered log n (map kept more)) at
    ∙ sym (numbered-append log first (map kept lines) (map kept more)) ∙ ap (numbered log first) (sym (map-append kept lines more)))

-- the lines among bytes that are read behind others, where of these is known what is kept of the open line
pub open_behind : (front bytes : List ℕ) → kept (left_open (kept (left_open [] front)) bytes) ≡ kept (left_open [] (front ++ bytes))
open_behind front bytes = left_open-kept (left_open [] front) bytes ∙ ap kept (sym (left_open-append [] front bytes))

pub ended_behind : (front bytes : List ℕ) → map kept (ended [] front) ++ map kept (ended (kept (left_open [] front)) bytes) ≡ map kept (ended [] (front ++ bytes))
ended_behind front bytes =
    ap (λ (l : List (List ℕ)). map kept (ended [] front) ++ l) (ended-kept (left_open [] front) bytes) ∙ sym (map-append kept (ended [] front) (ended (left_open [] front) bytes)) ∙ ap (map kept) (sym (ended-append [] front bytes))

pub count_behind : (front bytes : List ℕ) → length (ended [] front) + length (ended (kept (left_open [] front)) bytes) ≡ length (ended [] (front ++ bytes))
count_behind front bytes =
    ap (λ (n : ℕ). length (ended [] front) + n) (length-ended-kept (left_open [] front) bytes) ∙ sym (length-append (ended [] front) (ended (left_open [] front) bytes)) ∙ ap length (sym (ended-append [] front bytes))

-- lines that are taken, and behind them those of more bytes
pub taken_with : (log number : ℕ) (before : List LogLine) (front bytes : List ℕ) → number ≡ 1 + length (ended [] front)
    → (before ++ numbered log 1 (map kept (ended [] front))) ++ numbered log number
    (map kept (ended (kept (left_open [] front)) bytes)) ≡ before ++ numbered log 1 (map kept (ended [] (front ++ bytes)))
taken_with log number before front bytes e =
    let at : number ≡ 1 + length (map kept (ended [] front)) = e ∙ ap (λ (n : ℕ). 1 + n) (sym (length-map (ended [] front) kept)) in
    append_assoc before (numbered log 1 (map kept (ended [] front))) (numbered log number (map kept (ended (kept (left_open [] front)) bytes)))
    ∙ ap (λ (l : List LogLine). before ++ l)
    (ap (λ (n : ℕ). numbered log 1 (map kept (ended [] front)) ++ numbered log n (map kept (ended (kept (left_open [] front)) bytes))) at
    ∙ sym (numbered-append log 1 (map kept (ended [] front)) (map kept (ended (kept (left_open [] front)) bytes)))
    ∙ ap (numbered log 1) (ended_behind front bytes))

-- and behind all of them the last one
pub taken_all : (log number : ℕ) (before : List LogLine) (bytes : List ℕ) → number ≡ 1 + length (ended [] bytes)
    → (before ++ numbered log 1 (map kept (ended [] bytes))) ++ numbered log number (last_line (kept (left_open [] bytes))) ≡ before ++ log_lines log bytes
taken_all log number before bytes e =
    ap (λ (l : List (List ℕ)). (before ++ numbered log 1 (map kept (ended [] bytes))) ++ numbered log number l) (sym (last_line-kept (left_open [] bytes)))
    ∙ taken_behind log 1 number before (ended [] bytes) (last_line (left_open [] bytes)) e
    ∙ ap (λ (l : List (List ℕ)). before ++ numbered log 1 (map kept l)) (sym (lines_cut bytes))

-- what stands before the first line end has none
clean_line : (rest line : List ℕ) (n : ℕ) → n ≡ prefix_len is_in_line rest → line ≡ take n rest → list_all is_in_line line ≡ true
clean_line rest line n e is = ap (list_all is_in_line) (is ∙ ap (λ (m : ℕ). take m rest) e) ∙ front_clean is_in_line rest

pub none_below : (xs : List ℕ) → length xs < 1 → xs ≡ []
none_below [] lt = refl
none_below (x ∷ xs) lt = absurd (omega (arith, lt))

-- bytes of which some are left
pub record Begins (xs after : List ℕ) : Type 0 where
  pub byte : ℕ
  pub is : xs ≡ byte ∷ after

pub begins : (xs : List ℕ) → 1 ≤ length xs → Begins xs (take (length xs - 1) (drop 1 xs))
begins [] le = absurd (omega (arith, le))
begins (x ∷ xs) le = record { byte = x; is = ap (λ (l : List ℕ). x ∷ l) (sym (take_all (length (x ∷ xs) - 1) xs (omega arith))) }

-- the bytes so far are those that were taken, and a last piece without a line end
whole : (bytes done rest line behind : List ℕ) → bytes ≡ done ++ rest → rest ≡ line ++ behind → length behind < 1 → bytes ≡ done ++ line
whole bytes done rest line behind is split none = is ∙ ap (λ (l : List ℕ). done ++ l) (split ∙ ap (λ (l : List ℕ). line ++ l) (none_below behind none) ∙ append-nil line)

pub last_held : (front bytes done rest line behind held new : List ℕ) (n : ℕ) → bytes ≡ done ++ rest → held ≡ kept (left_open front done)
    → n ≡ prefix_len is_in_line rest → line ≡ take n rest → rest ≡ line ++ behind → length behind < 1 → new ≡ kept (held ++ line)
    → new ≡ kept (left_open front bytes)
last_held front bytes done rest line behind held new n is e count first split none kept_so =
    kept_so ∙ ap (λ (l : List ℕ). kept (l ++ line)) e ∙ kept-append (left_open front done) line
    ∙ ap kept (sym (more_open front done line (clean_line rest line n count first)) ∙ ap (left_open front) (sym (whole bytes done rest line behind is split none)))

pub last_ended : (front bytes done rest line behind : List ℕ) (n : ℕ) → bytes ≡ done ++ rest → n ≡ prefix_len is_in_line rest
    → line ≡ take n rest → rest ≡ line ++ behind → length behind < 1 → ended front done ≡ ended front bytes
last_ended front bytes done rest line behind n is count first split none =
    sym (no_more front done line (clean_line rest line n count first)) ∙ ap (ended front) (sym (whole bytes done rest line behind is split none))

-- a line that ends: what is taken then of the bytes, and what is left
pub step_bytes : (bytes done rest line behind after : List ℕ) (x : ℕ) → bytes ≡ done ++ rest → rest ≡ line ++ behind → behind ≡ x ∷ after → bytes ≡ (done ++ (line ++ x ∷ [])) ++ after
step_bytes bytes done rest line behind after x is split begin =
    is ∙ ap (λ (l : List ℕ). done ++ l) (split ∙ ap (λ (l : List ℕ). line ++ l) begin ∙ sym (append_assoc line (x ∷ []) after)) ∙ sym (append_assoc done (line ++ x ∷ []) after)

ends_there : (rest behind after : List ℕ) (x n : ℕ) → n ≡ prefix_len is_in_line rest → behind ≡ drop n rest → behind ≡ x ∷ after → is_in_line x ≡ false
ends_there rest behind after x n count back begin = stops is_in_line rest x after (ap (λ (m : ℕ). drop m rest) (sym count) ∙ sym back ∙ begin)

pub step_held : (front done rest line behind after new : List ℕ) (x n : ℕ) → n ≡ prefix_len is_in_line rest → line ≡ take n rest
    → behind ≡ drop n rest → behind ≡ x ∷ after → new ≡ [] → new ≡ kept (left_open front (done ++ (line ++ x ∷ [])))
step_held front done rest line behind after new x n count first back begin empty =
    empty ∙ sym (kept_whole [] (omega arith)) ∙ ap kept (sym (none_open front done line x (clean_line rest line n count first) (ends_there rest behind after x n count back begin)))

pub step_ended : (front done rest line behind after : List ℕ) (x n : ℕ) → n ≡ prefix_len is_in_line rest → line ≡ take n rest
    → behind ≡ drop n rest → behind ≡ x ∷ after
    → ended front (done ++ (line ++ x ∷ [])) ≡ ended front done ++ (left_open front done ++ line) ∷ []
step_ended front done rest line behind after x n count first back begin =
    line_more front done line x (clean_line rest line n count first) (ends_there rest behind after x n count back begin)

pub step_number : (front done line : List ℕ) (x first number new : ℕ)
    → ended front (done ++ (line ++ x ∷ [])) ≡ ended front done ++ (left_open front done ++ line) ∷ [] → number ≡ first + length (ended front done)
    → new ≡ number + 1 → new ≡ first + length (ended front (done ++ (line ++ x ∷ [])))
step_number front done line x first number new is e more =
    let len : length (ended front (done ++ (line ++ x ∷ []))) ≡ length (ended front done) + 1 = ap length is ∙ length-append (ended front done) ((left_open front done ++ line) ∷ []) in
    omega (arith, len, e, more)

pub step_taken : (log now first number : ℕ) (before : List LogLine) (front done line held : List ℕ) (x : ℕ) → now ≡ log
    → number ≡ first + length (ended front done) → held ≡ kept (left_open front done)
    → ended front (done ++ (line ++ x ∷ [])) ≡ ended front done ++ (left_open front done ++ line) ∷ []
    → (before ++ numbered log first (map kept (ended front done))) ++ log_line now number (kept (held ++ line)) ∷ [] ≡ before ++ numbered log first (map kept (ended front (done ++ (line ++ x ∷ []))))
step_taken log now first number before front done line held x same e is more =
    let so_far : List LogLine = before ++ numbered log first (map kept (ended front done)) in
    ap (λ (m : ℕ). so_far ++ log_line m number (kept (held ++ line)) ∷ []) same
    ∙ ap (λ (l : List ℕ). so_far ++ log_line log number l ∷ []) (ap (λ (l : List ℕ). kept (l ++ line)) is ∙ kept-append (left_open front done) line)
    ∙ taken_more log first number before (ended front done) (left_open front done ++ line) e
    ∙ ap (λ (l : List (List ℕ)). before ++ numbered log first (map kept l)) (sym more)

-- more bytes of a log, by what is known of the open line
pub chunk_held : (front bytes held new : List ℕ) → held ≡ kept (left_open [] front) → new ≡ kept (left_open held bytes) → new ≡ kept (left_open [] (front ++ bytes))
chunk_held front bytes held new is e = e ∙ ap (λ (l : List ℕ). kept (left_open l bytes)) is ∙ open_behind front bytes

pub chunk_number : (front bytes held : List ℕ) (number new : ℕ) → held ≡ kept (left_open [] front) → number ≡ 1 + length (ended [] front)
    → new ≡ number + length (ended held bytes) → new ≡ 1 + length (ended [] (front ++ bytes))
chunk_number front bytes held number new is e more =
    let more' : new ≡ number + length (ended (kept (left_open [] front)) bytes) = more ∙ ap (λ (l : List ℕ). number + length (ended l bytes)) is in
    omega (arith, e, more', count_behind front bytes)

pub chunk_taken : (log now number : ℕ) (before : List LogLine) (front bytes held : List ℕ) → now ≡ log → held ≡ kept (left_open [] front) → number ≡ 1 + length (ended [] front)
    → (before ++ numbered log 1 (map kept (ended [] front))) ++ numbered now number (map kept (ended held bytes)) ≡ before ++ numbered log 1 (map kept (ended [] (front ++ bytes)))
chunk_taken log now number before front bytes held same is e =
    let so_far : List LogLine = before ++ numbered log 1 (map kept (ended [] front)) in
    ap (λ (m : ℕ). so_far ++ numbered m number (map kept (ended held bytes))) same
    ∙ ap (λ (l : List ℕ). so_far ++ numbered log number (map kept (ended l bytes))) is
    ∙ taken_with log number before front bytes e

pub end_taken : (log now number : ℕ) (before : List LogLine) (bytes held : List ℕ) → now ≡ log → held ≡ kept (left_open [] bytes) → number ≡ 1 + length (ended [] bytes)
    → (before ++ numbered log 1 (map kept (ended [] bytes))) ++ numbered now number (last_line held) ≡ before ++ log_lines log bytes
end_taken log now number before bytes held same is e =
    let so_far : List LogLine = before ++ numbered log 1 (map kept (ended [] bytes)) in
    ap (λ (m : ℕ). so_far ++ numbered m number (last_line held)) same ∙ ap (λ (l : List ℕ). so_far ++ numbered log number (last_line l)) is ∙ taken_all log number before bytes e

-- no line is taken of no bytes
pub none_taken : (log number : ℕ) (before : List LogLine) (front : List ℕ) → before ++ numbered log number (map kept (ended front [])) ≡ before
unfolding numbered ended
none_taken log number before front = append-nil before

pub none_held : (front : List ℕ) → left_open front [] ≡ front
unfolding left_open
none_held front = refl

pub none_ended : (front : List ℕ) → length (ended front []) ≡ 0
unfolding ended
none_ended front = refl

-- the last line, where there is none, and where there is one
pub no_last : (log number : ℕ) (before : List LogLine) (held : List ℕ) → held ≡ [] → before ++ numbered log number (last_line held) ≡ before
unfolding numbered
no_last log number before held e = ap (λ (l : List ℕ). before ++ numbered log number (last_line l)) e ∙ append-nil before

pub one_last : (log number : ℕ) (before : List LogLine) (held : List ℕ) → held ≢ [] → before ++ log_line log number held ∷ [] ≡ before ++ numbered log number (last_line held)
unfolding numbered
one_last log number before [] differs = absurd (differs refl)
one_last log number before (b ∷ bs) differs = refl

pub none_where : (xs : List ℕ) (b : Bool) → b ≡ (length xs == 0) → b ≡ true → xs ≡ []
none_where xs b is holds = none_below xs (let none : length xs ≡ 0 = eqb-true (length xs) 0 (sym is ∙ holds) in omega arith)

pub some_where : (xs : List ℕ) (b : Bool) → b ≡ (length xs == 0) → b ≡ false → xs ≢ []
some_where xs b is fails = λ e. eqb-false (length xs) 0 (sym is ∙ fails) (ap length e)

pub not_true : (b : Bool) → (b ≡ true → ⊥) → b ≡ false
not_true true fails = absurd (fails refl)
not_true false fails = refl

-- the first line end is where a search for LF finds one
pub first_end : (bytes : List ℕ) (r : Option ℕ) → IsFirstByte (is_byte 10) bytes r → unwrap_or r (length bytes) ≡ prefix_len is_in_line bytes
first_end bytes None nowhere =
    sym (prefix_len_is is_in_line bytes (length bytes) 0 (le_refl (length bytes)) (λ k lt. ap not (not_true _ (nowhere k (omega arith) lt))) (λ lt. absurd (omega arith)))
first_end bytes (Some n) there =
    let first = there.0 in
    sym (prefix_len_is is_in_line bytes n 0 (omega (arith, first.high)) (λ k lt. ap not (not_true _ (first.before k (omega arith) lt))) (λ lt. ap not there.1))

pub end_within : (bytes : List ℕ) (n : ℕ) → n ≡ prefix_len is_in_line bytes → n ≤ length bytes
end_within bytes n e = omega (arith, e, prefix_len-le-length is_in_line bytes)

-- a line of which nothing is held yet is kept whole
pub kept_alone : (held bytes : List ℕ) → length held ≡ 0 → length bytes ≤ 65537 → kept (held ++ bytes) ≡ bytes
kept_alone [] bytes none le = kept_whole bytes le
kept_alone (x ∷ held) bytes none le = absurd (omega (arith, none))
