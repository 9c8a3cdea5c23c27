-- What the lexer knows at a place in a rule that is passed over.
use Rattle.std.proofs.Common.{◌≡◌, ℕ, zero, suc, ◌+◌, ◌≤◌, ◌==◌, ◌&&◌, ◌||◌, ◌⊎◌, Bool, true, false, not, cond, List, []}
use Rattle.std.proofs.Common.{◌∷◌, ◌++◌, take, drop, ◌-◌, refl, sym, ap, ◌∙◌, arith, inl, inr}
use Rattle.std.specs.List.{count_by, list_any}
use Rattle.std.proofs.lemmas.Bool.{and_parts, or_parts, eqb-true}
use Rattle.std.proofs.lemmas.Bool.Decides.{nat_tests}
use Rattle.std.proofs.lemmas.List.Sums.{sum_by-cons}
use Rattle.aa_words.specs.Runs.{is_white, is_sign, begins_with, skip_start, skip_next, skip_len, ends_skip, mode_next, outside_next, is_outside, depth_next, name_len, skipped_len}
use Rattle.aa_language_laws.specs.Places.{is_quoted, EndsFirst}
use Rattle.aa_language_laws.specs.PassedOver.{begins_word, IsOutside, at_keyword, behind_byte, behind_quotes, behind_comment, IsOpen, IsBare, RuleEnds}
use Rattle.aa_language_laws.proofs.Firsts.{behind, first}
use Rattle.aa_language_laws.proofs.Quoting.{quoted_step, quoted_none}

-- what is being read at a place
data Stage : Type 0 where
  Word : Stage
  Fresh : Stage
  Dash : Stage
  Quote : Bool → Stage
  Comment : Stage

-- the stage behind a byte outside quotes and comments
outside : Bool → Bool → ℕ → Stage
outside fresh dash b =
    cond (b == 34) (Quote false) (cond (b == 35 && fresh) Comment (cond (is_white b || is_sign b || (b == 62 && dash)) Fresh (cond (b == 45) Dash Word)))

next : Stage → ℕ → Stage
next Word b = outside false false b
next Fresh b = outside true false b
next Dash b = outside false true b
next (Quote true) b = Quote false
next (Quote false) b = cond (b == 92) (Quote true) (cond (b == 34) Fresh (Quote false))
next Comment b = cond (b == 10) Fresh Comment

abbrev TypeOf : {S : Type 0} → S → Type 0
TypeOf {S} x = S

-- what the lexer calls a stage
abbrev mode_at : Stage → TypeOf skip_start.mode
mode_at Word = skip_start.mode
mode_at Fresh = outside_next false false 32
mode_at Dash = outside_next false false 45
mode_at (Quote false) = outside_next false false 34
mode_at (Quote true) = mode_next (outside_next false false 34) 92
mode_at Comment = outside_next true false 35

mode_either : (v : Bool) (x y : Stage) → mode_at (cond v x y) ≡ cond v (mode_at x) (mode_at y)
mode_either true x y = refl
mode_either false x y = refl

mode_steps : (stage : Stage) (b : ℕ) → mode_next (mode_at stage) b ≡ mode_at (next stage b)
unfolding next outside
mode_steps Word b = simp mode_either
mode_steps Fresh b = simp mode_either
mode_steps Dash b = simp mode_either
mode_steps (Quote true) b = refl
mode_steps (Quote false) b = simp mode_either
mode_steps Comment b = simp mode_either

-- whether a stage is outside quotes and comments
is_out : Stage → Bool
is_out (Quote kept) = false
is_out Comment = false
is_out _ = true

out_is : (stage : Stage) → is_outside (mode_at stage) ≡ is_out stage
unfolding is_out
out_is Word = refl
out_is Fresh = refl
out_is Dash = refl
out_is (Quote true) = refl
out_is (Quote false) = refl
out_is Comment = refl

-- what is left behind one more byte
keep : Bool → ℕ → List ℕ → List ℕ
keep fresh b plain = cond (b == 34 || (b == 35 && fresh)) plain (b ∷ plain)

left : Stage → ℕ → List ℕ → List ℕ
left (Quote true) b plain = plain
left (Quote false) b plain = cond (b == 34) (34 ∷ plain) plain
left Comment b plain = cond (b == 10) (10 ∷ plain) plain
left Fresh b plain = keep true b plain
left Word b plain = keep false b plain
left Dash b plain = keep false b plain

-- the stage behind bytes, and what is left of them
stage_of : List ℕ → Stage
stage_of [] = Word
stage_of (b ∷ back) = next (stage_of back) b

left_of : List ℕ → List ℕ
left_of [] = []
left_of (b ∷ back) = left (stage_of back) b (left_of back)

either : {S T : Type 0} (f : S → T) (v : Bool) (x y : S) → f (cond v x y) ≡ cond v (f x) (f y)
either f true x y = refl
either f false x y = refl

same_either : {S : Type 0} (v : Bool) (x : S) → cond v x x ≡ x
same_either true x = refl
same_either false x = refl

skip_mode : (p : _) (b : ℕ) → (skip_next p b).mode ≡ mode_next p.mode b
skip_mode p b = either {S = TypeOf p} (λ q. q.mode) (is_outside p.mode) _ _ ∙ same_either (is_outside p.mode) (mode_next p.mode b)

mode_is : (back : List ℕ) → (behind skip_start skip_next back).mode ≡ mode_at (stage_of back)
unfolding behind stage_of
mode_is [] = refl
mode_is (b ∷ back) = skip_mode (behind skip_start skip_next back) b ∙ ap (λ m. mode_next m b) (mode_is back) ∙ mode_steps (stage_of back) b

-- how many of a pair of signs are open behind what is left
depth : ℕ → ℕ → List ℕ → ℕ
depth opening closing plain = behind 0 (depth_next opening closing) plain

one_counted : (sign b : ℕ) (bs : List ℕ) → count_by (λ x. x == sign) (b ∷ bs) ≡ cond (b == sign) 1 0 + count_by (λ x. x == sign) bs
one_counted sign b bs = sum_by-cons (λ x. cond (x == sign) 1 0) b bs

module _ (opening closing : ℕ) (apart : opening == closing ≡ false)
    (quote : (n : ℕ) → depth_next opening closing n 34 ≡ n) (hash : (n : ℕ) → depth_next opening closing n 35 ≡ n) (line : (n : ℕ) → depth_next opening closing n 10 ≡ n) where
  not_kept : (b n : ℕ) (fresh : Bool) → (b == 34 || (b == 35 && fresh)) ≡ true → (b ≡ 34) ⊎ (b ≡ 35)
  not_kept b n fresh e = grind (arith, nat_tests)

  neither : (b n : ℕ) → (b ≡ 34) ⊎ (b ≡ 35) → n ≡ depth_next opening closing n b
  neither b n (inl e) = rw e (sym (quote n))
  neither b n (inr e) = rw e (sym (hash n))

  kept_by : (fresh : Bool) (b : ℕ) (plain : List ℕ) (v : Bool) → (b == 34 || (b == 35 && fresh)) ≡ v → depth opening closing (cond v plain (b ∷ plain)) ≡ depth_next opening closing (depth opening closing plain) b
  unfolding depth behind
  kept_by fresh b plain true e = neither b _ (not_kept b 0 fresh e)
  kept_by fresh b plain false e = refl

  kept_depth : (fresh : Bool) (b : ℕ) (plain : List ℕ) → depth opening closing (keep fresh b plain) ≡ depth_next opening closing (depth opening closing plain) b
  unfolding keep
  kept_depth fresh b plain = kept_by fresh b plain _ refl

  one_depth : (v : Bool) (sign : ℕ) (plain : List ℕ) → ((n : ℕ) → depth_next opening closing n sign ≡ n) → depth opening closing (cond v (sign ∷ plain) plain) ≡ depth opening closing plain
  unfolding depth behind
  one_depth true sign plain h = h _
  one_depth false sign plain h = refl

  left_depth : (stage : Stage) (b : ℕ) (plain : List ℕ) → depth opening closing (left stage b plain) ≡ cond (is_out stage) (depth_next opening closing (depth opening closing plain) b) (depth opening closing plain)
  unfolding left is_out
  left_depth (Quote true) b plain = refl
  left_depth (Quote false) b plain = one_depth (b == 34) 34 plain quote
  left_depth Comment b plain = one_depth (b == 10) 10 plain line
  left_depth Fresh b plain = kept_depth true b plain
  left_depth Word b plain = kept_depth false b plain
  left_depth Dash b plain = kept_depth false b plain

  few_step : (b l r d more less : ℕ) → more ≡ cond (b == opening) 1 0 + l → less ≡ cond (b == closing) 1 0 + r → l ≤ r + d → more ≤ less + depth_next opening closing d b
  few_step b l r d more less m k h = grind (arith, nat_tests)

  deep_step : (b l r d more less : ℕ) → more ≡ cond (b == opening) 1 0 + l → less ≡ cond (b == closing) 1 0 + r → r + d ≡ l → (less + depth_next opening closing d b ≡ more) ⊎ (depth_next opening closing d b ≡ 0)
  deep_step b l r d more less m k h = grind (arith, nat_tests)

  few : (n : ℕ) (plain : List ℕ) → count_by (λ b. b == opening) (take n plain) ≤ count_by (λ b. b == closing) (take n plain) + depth opening closing plain
  unfolding depth behind
  few zero plain = omega arith
  few (suc n) [] = omega arith
  few (suc n) (b ∷ plain) = few_step b _ _ _ _ _ (one_counted opening b (take n plain)) (one_counted closing b (take n plain)) (few n plain)

  IsDeep : List ℕ → ℕ → Type 0
  IsDeep plain d = (n : ℕ) × (count_by (λ b. b == closing) (take n plain) + d ≡ count_by (λ b. b == opening) (take n plain))

  deeper : (b : ℕ) (plain : List ℕ) (n d : ℕ) → (count_by (λ b. b == closing) (take (suc n) (b ∷ plain)) + d ≡ count_by (λ b. b == opening) (take (suc n) (b ∷ plain))) ⊎ (d ≡ 0) → IsDeep (b ∷ plain) d
  unfolding IsDeep
  deeper b plain n d (inl e) = (suc n, e)
  deeper b plain n d (inr e) = (zero, omega arith)

  deep : (plain : List ℕ) → IsDeep plain (depth opening closing plain)
  unfolding depth behind IsDeep
  deep [] = (zero, refl)
  deep (b ∷ plain) = let h = deep plain in deeper b plain h.0 _ (deep_step b _ _ _ _ _ (one_counted opening b (take h.0 plain)) (one_counted closing b (take h.0 plain)) h.1)

  none_open : (plain : List ℕ) → depth opening closing plain ≡ 0 → IsOpen opening closing plain → ⊥
  none_open plain e (n, h) = let f = few n plain in omega arith

  none_deep : (plain : List ℕ) → (IsOpen opening closing plain → ⊥) → depth opening closing plain ≡ 0
  unfolding IsDeep
  none_deep plain closed = none_by _ refl where
    none_by : (d : ℕ) → depth opening closing plain ≡ d → depth opening closing plain ≡ 0
    none_by zero e = e
    none_by (suc d) e = let h = deep plain in absurd (closed (h.0, omega (arith, h.1)))

true_and_false : (v : Bool) → v ≡ true → v ≡ false → ⊥
true_and_false v t f = absurd cc

-- what is known of bytes at each stage, and of what is left of them
record InQuotes (kept : Bool) (back plain : List ℕ) : Type 0 where
  inner : List ℕ
  earlier : List ℕ
  before : IsOutside earlier plain
  whole : back ≡ inner ++ (34 ∷ earlier)
  each_quoted : (later between : List ℕ) → inner ≡ later ++ (34 ∷ between) → is_quoted between ≡ true
  kept_is : is_quoted inner ≡ kept

record InComment (back plain : List ℕ) : Type 0 where
  inner : List ℕ
  earlier : List ℕ
  before : IsOutside earlier plain
  begins : begins_word plain ≡ true
  whole : back ≡ inner ++ (35 ∷ earlier)
  goes_on : list_any (λ b. b == 10) inner ≡ false

Holds : Stage → List ℕ → List ℕ → Type 0
Holds (Quote kept) back plain = InQuotes kept back plain
Holds Comment back plain = InComment back plain
Holds Word back plain = IsOutside back plain × (begins_word plain ≡ false) × (begins_with 45 plain ≡ false)
Holds Fresh back plain = IsOutside back plain × (begins_word plain ≡ true) × (begins_with 45 plain ≡ false)
Holds Dash back plain = IsOutside back plain × (begins_word plain ≡ false) × (begins_with 45 plain ≡ true)

nothing_stands : (later between : List ℕ) → [] ≡ later ++ (34 ∷ between) → is_quoted between ≡ true
nothing_stands [] between e = absurd cc
nothing_stands (l ∷ later) between e = absurd cc

-- where a byte is no quote, or is quoted
one_further : (b : ℕ) (inner : List ℕ) → (b ≡ 34 → is_quoted inner ≡ true) → ((later between : List ℕ) → inner ≡ later ++ (34 ∷ between) → is_quoted between ≡ true)
    → (later between : List ℕ) → b ∷ inner ≡ later ++ (34 ∷ between) → is_quoted between ≡ true
one_further b inner here h [] between e =
    let is : b ≡ 34 = cc in
    let rest : inner ≡ between = cc in
    ap is_quoted (sym rest) ∙ here is
one_further b inner here h (l ∷ later) between e = h later between (cc)

quote_on : (b : ℕ) (back plain : List ℕ) (kept then : Bool) → InQuotes kept back plain → (b ≡ 34 → kept ≡ true) → (b == 92 && not kept) ≡ then → InQuotes then (b ∷ back) plain
quote_on b back plain kept then q here t = record {
  inner = b ∷ q.inner;
  earlier = q.earlier;
  before = q.before;
  whole = ap (λ (x : List ℕ). b ∷ x) q.whole;
  each_quoted = one_further b q.inner (λ e. q.kept_is ∙ here e) q.each_quoted;
  kept_is = quoted_step b q.inner ∙ ap (λ (v : Bool). b == 92 && not v) q.kept_is ∙ t;
}

quote_closes : (back plain : List ℕ) → InQuotes false back plain → Holds Fresh (34 ∷ back) (34 ∷ plain)
unfolding Holds
quote_closes back plain q = (rw q.whole (behind_quotes q.inner q.earlier plain q.before (record { each_quoted = q.each_quoted; last = q.kept_is })), refl, refl)

comment_on : (b : ℕ) (back plain : List ℕ) → InComment back plain → (b == 10) ≡ false → InComment (b ∷ back) plain
comment_on b back plain c e = record {
  inner = b ∷ c.inner;
  earlier = c.earlier;
  before = c.before;
  begins = c.begins;
  whole = ap (λ (x : List ℕ). b ∷ x) c.whole;
  goes_on = ap (λ (v : Bool). v || list_any (λ b. b == 10) c.inner) e ∙ c.goes_on;
}

comment_ends : (back plain : List ℕ) → InComment back plain → Holds Fresh (10 ∷ back) (10 ∷ plain)
unfolding Holds
comment_ends back plain c = (rw c.whole (behind_comment c.inner c.earlier plain c.before c.begins c.goes_on), refl, refl)

-- a byte behind a stage outside quotes and comments
byte_behind : (b : ℕ) (back plain : List ℕ) (fresh dash : Bool) → IsOutside back plain → begins_word plain ≡ fresh → begins_with 45 plain ≡ dash
    → (b == 34) ≡ false → (b == 35 && fresh) ≡ false → Holds (cond (is_white b || is_sign b || (b == 62 && dash)) Fresh (cond (b == 45) Dash Word)) (b ∷ back) (b ∷ plain)
unfolding Holds
byte_behind b back plain fresh dash o f d q h = by_word (is_white b || is_sign b || (b == 62 && dash)) refl (b == 45) refl where
  out : IsOutside (b ∷ back) (b ∷ plain)
  out = behind_byte b back plain o (λ e. grind (arith, nat_tests)) (λ e. grind (arith, nat_tests))

  by_word : (v : Bool) → (is_white b || is_sign b || (b == 62 && dash)) ≡ v → (w : Bool) → (b == 45) ≡ w → Holds (cond v Fresh (cond w Dash Word)) (b ∷ back) (b ∷ plain)
  by_word true e w k = (out, grind (arith, nat_tests), grind (arith, nat_tests))
  by_word false e true k = (out, grind (arith, nat_tests), k)
  by_word false e false k = (out, grind (arith, nat_tests), k)

outside_on : (b : ℕ) (back plain : List ℕ) (fresh dash : Bool) → IsOutside back plain → begins_word plain ≡ fresh → begins_with 45 plain ≡ dash
    → (v : Bool) → (b == 34) ≡ v → (w : Bool) → (b == 35 && fresh) ≡ w
    → Holds (cond v (Quote false) (cond w Comment (cond (is_white b || is_sign b || (b == 62 && dash)) Fresh (cond (b == 45) Dash Word)))) (b ∷ back) (cond (v || w) plain (b ∷ plain))
unfolding Holds
outside_on b back plain fresh dash o f d true q w h = record { inner = []; earlier = back; before = o; whole = ap (λ (x : ℕ). x ∷ back) (eqb-true b 34 q); each_quoted = nothing_stands; kept_is = quoted_none }
outside_on b back plain fresh dash o f d false q true h =
    let p = and_parts (b == 35) fresh h in
    record { inner = []; earlier = back; before = o; begins = f ∙ p.1; whole = ap (λ (x : ℕ). x ∷ back) (eqb-true b 35 p.0); goes_on = refl }
outside_on b back plain fresh dash o f d false q false h = byte_behind b back plain fresh dash o f d q h

in_quotes_on : (b : ℕ) (back plain : List ℕ) → InQuotes false back plain → (v : Bool) → (b == 92) ≡ v → (w : Bool) → (b == 34) ≡ w
    → Holds (cond v (Quote true) (cond w Fresh (Quote false))) (b ∷ back) (cond w (34 ∷ plain) plain)
unfolding Holds
in_quotes_on b back plain q true e true h = absurd (grind (arith, nat_tests))
in_quotes_on b back plain q true e false h = quote_on b back plain false true q (λ is. grind (arith, nat_tests)) (ap (λ (v : Bool). v && true) e)
in_quotes_on b back plain q false e true h = rw (eqb-true b 34 h) (quote_closes back plain q)
in_quotes_on b back plain q false e false h = quote_on b back plain false false q (λ is. grind (arith, nat_tests)) (ap (λ (v : Bool). v && true) e)

in_comment_on : (b : ℕ) (back plain : List ℕ) → InComment back plain → (v : Bool) → (b == 10) ≡ v → Holds (cond v Fresh Comment) (b ∷ back) (cond v (10 ∷ plain) plain)
unfolding Holds
in_comment_on b back plain c true e = rw (eqb-true b 10 e) (comment_ends back plain c)
in_comment_on b back plain c false e = comment_on b back plain c e

no_more_kept : (b : ℕ) → (b == 92 && false) ≡ false
no_more_kept b = grind (arith, nat_tests)

holds_on : (stage : Stage) (b : ℕ) (back plain : List ℕ) → Holds stage back plain → Holds (next stage b) (b ∷ back) (left stage b plain)
unfolding Holds next left outside keep
holds_on (Quote true) b back plain h = quote_on b back plain true false h (λ e. refl) (no_more_kept b)
holds_on (Quote false) b back plain h = in_quotes_on b back plain h _ refl _ refl
holds_on Comment b back plain h = in_comment_on b back plain h _ refl
holds_on Word b back plain h = outside_on b back plain false false h.0 h.1 h.2 _ refl _ refl
holds_on Fresh b back plain h = outside_on b back plain true false h.0 h.1 h.2 _ refl _ refl
holds_on Dash b back plain h = outside_on b back plain false true h.0 h.1 h.2 _ refl _ refl

holds : (back : List ℕ) → Holds (stage_of back) back (left_of back)
unfolding stage_of left_of Holds
holds [] = (at_keyword, refl, refl)
holds (b ∷ back) = holds_on (stage_of back) b back (left_of back) (holds back)

-- a byte that stands outside stays, and the stage behind it is outside
stays_kept : (fresh : Bool) (b : ℕ) (plain : List ℕ) → (b ≡ 34 → ⊥) → (b ≡ 35 → begins_word plain ≡ false) → begins_word plain ≡ fresh → b ∷ plain ≡ keep fresh b plain
unfolding keep
stays_kept fresh b plain q h f = ap (λ (v : Bool). cond v plain (b ∷ plain)) (sym other) where
  other : (b == 34 || (b == 35 && fresh)) ≡ false
  other = let r : (b == 35) ≡ true → begins_word plain ≡ false = λ e. h (eqb-true b 35 e) in grind (arith, nat_tests)

stays_out : (fresh dash : Bool) (b : ℕ) (plain : List ℕ) → (b ≡ 34 → ⊥) → (b ≡ 35 → begins_word plain ≡ false) → begins_word plain ≡ fresh → is_out (outside fresh dash b) ≡ true
unfolding is_out outside
stays_out fresh dash b plain q h f = by_tests (b == 34) refl (b == 35 && fresh) refl (is_white b || is_sign b || (b == 62 && dash)) (b == 45) where
  by_tests : (u : Bool) → (b == 34) ≡ u → (v : Bool) → (b == 35 && fresh) ≡ v → (w x : Bool) → is_out (cond u (Quote false) (cond v Comment (cond w Fresh (cond x Dash Word)))) ≡ true
  by_tests true e v k w x = absurd (q (eqb-true b 34 e))
  by_tests false e true k w x = let p = and_parts (b == 35) fresh k in absurd (true_and_false _ (f ∙ p.1) (h (eqb-true b 35 p.0)))
  by_tests false e false k true x = refl
  by_tests false e false k false true = refl
  by_tests false e false k false false = refl

byte_stays : (stage : Stage) (b : ℕ) (back plain : List ℕ) → is_out stage ≡ true → Holds stage back plain → (b ≡ 34 → ⊥) → (b ≡ 35 → begins_word plain ≡ false)
    → (b ∷ plain ≡ left stage b plain) × (is_out (next stage b) ≡ true)
unfolding is_out Holds left next
byte_stays (Quote kept) b back plain o h q n = absurd cc
byte_stays Comment b back plain o h q n = absurd cc
byte_stays Word b back plain o h q n = (stays_kept false b plain q n h.1, stays_out false false b plain q n h.1)
byte_stays Fresh b back plain o h q n = (stays_kept true b plain q n h.1, stays_out true false b plain q n h.1)
byte_stays Dash b back plain o h q n = (stays_kept false b plain q n h.1, stays_out false true b plain q n h.1)

-- the quote that opens a text in quotes, and the sign that begins a comment
quote_opens : (stage : Stage) (plain : List ℕ) → is_out stage ≡ true → (next stage 34 ≡ Quote false) × (left stage 34 plain ≡ plain)
unfolding is_out left next outside keep
quote_opens (Quote kept) plain o = absurd cc
quote_opens Comment plain o = absurd cc
quote_opens Word plain o = (refl, refl)
quote_opens Fresh plain o = (refl, refl)
quote_opens Dash plain o = (refl, refl)

comment_opens : (stage : Stage) (back plain : List ℕ) → is_out stage ≡ true → Holds stage back plain → begins_word plain ≡ true → (next stage 35 ≡ Comment) × (left stage 35 plain ≡ plain)
unfolding is_out Holds left next outside keep
comment_opens (Quote kept) back plain o h b = absurd cc
comment_opens Comment back plain o h b = absurd cc
comment_opens Word back plain o h b = absurd (true_and_false _ b h.1)
comment_opens Fresh back plain o h b = (refl, refl)
comment_opens Dash back plain o h b = absurd (true_and_false _ b h.1)

quote_stage : (b : ℕ) (kept : Bool) (plain : List ℕ) → (b ≡ 34 → kept ≡ true) → (next (Quote kept) b ≡ Quote (b == 92 && not kept)) × (left (Quote kept) b plain ≡ plain)
unfolding left next
quote_stage b true plain h = (ap Quote (sym (no_more_kept b)), refl)
quote_stage b false plain h = (by_tests (b == 92) (b == 34) refl, ap (λ (v : Bool). cond v (34 ∷ plain) plain) (by_quote (b == 34) refl)) where
  by_quote : (v : Bool) → (b == 34) ≡ v → (b == 34) ≡ false
  by_quote true e = absurd (true_and_false true refl (sym (h (eqb-true b 34 e))))
  by_quote false e = e

  by_tests : (v w : Bool) → (b == 34) ≡ w → cond v (Quote true) (cond w Fresh (Quote false)) ≡ Quote (v && true)
  by_tests true w e = refl
  by_tests false true e = absurd (true_and_false true refl (sym (h (eqb-true b 34 e))))
  by_tests false false e = refl

in_quotes : (inner back : List ℕ) → is_out (stage_of back) ≡ true → ((later between : List ℕ) → inner ≡ later ++ (34 ∷ between) → is_quoted between ≡ true)
    → (stage_of (inner ++ (34 ∷ back)) ≡ Quote (is_quoted inner)) × (left_of (inner ++ (34 ∷ back)) ≡ left_of back)
unfolding stage_of left_of
in_quotes [] back o h = let q = quote_opens (stage_of back) (left_of back) o in (q.0 ∙ ap Quote (sym quoted_none), q.1)
in_quotes (b ∷ inner) back o h =
    let i = in_quotes inner back o (λ later between e. h (b ∷ later) between (ap (λ (x : List ℕ). b ∷ x) e)) in
    let s = quote_stage b (is_quoted inner) (left_of back) (λ e. h [] inner (ap (λ (x : ℕ). x ∷ inner) e)) in (
      ap (λ (x : Stage). next x b) i.0 ∙ s.0 ∙ ap Quote (sym (quoted_step b inner)),
      ap (λ (x : Stage). left x b (left_of (inner ++ (34 ∷ back)))) i.0 ∙ ap (left (Quote (is_quoted inner)) b) i.1 ∙ s.1,
    )

in_comment : (inner back : List ℕ) → is_out (stage_of back) ≡ true → begins_word (left_of back) ≡ true → list_any (λ b. b == 10) inner ≡ false
    → (stage_of (inner ++ (35 ∷ back)) ≡ Comment) × (left_of (inner ++ (35 ∷ back)) ≡ left_of back)
unfolding stage_of left_of next left
in_comment [] back o w h = comment_opens (stage_of back) back (left_of back) o (holds back) w
in_comment (b ∷ inner) back o w h =
    let p = or_parts (b == 10) (list_any (λ b. b == 10) inner) h in
    let i = in_comment inner back o w p.1 in (
      ap (λ (x : Stage). next x b) i.0 ∙ ap (λ (v : Bool). cond v Fresh Comment) p.0,
      ap (λ (x : Stage). left x b (left_of (inner ++ (35 ∷ back)))) i.0 ∙ ap (λ (v : Bool). cond v (10 ∷ left_of (inner ++ (35 ∷ back))) (left_of (inner ++ (35 ∷ back)))) p.0 ∙ i.1,
    )

-- where a place stands outside quotes and comments, the lexer knows it, and knows what is left
outside_known : (back plain : List ℕ) → IsOutside back plain → (plain ≡ left_of back) × (is_out (stage_of back) ≡ true)
unfolding stage_of left_of is_out next left
outside_known back plain at_keyword = (refl, refl)
outside_known back plain (behind_byte b before rest o q h) =
    let k = outside_known before rest o in
    let s = byte_stays (stage_of before) b before (left_of before) k.1 (holds before) q (λ e. ap begins_word (sym k.0) ∙ h e) in
    (ap (λ (x : List ℕ). b ∷ x) k.0 ∙ s.0, s.1)
outside_known back plain (behind_quotes inner before rest o q) =
    let k = outside_known before rest o in
    let i = in_quotes inner before k.1 q.each_quoted in
    let s = i.0 ∙ ap Quote q.last in
    (ap (λ (x : List ℕ). 34 ∷ x) (k.0 ∙ sym i.1) ∙ ap (λ (x : Stage). left x 34 (left_of (inner ++ (34 ∷ before)))) (sym s), ap (λ (x : Stage). is_out (next x 34)) s)
outside_known back plain (behind_comment inner before rest o w h) =
    let k = outside_known before rest o in
    let i = in_comment inner before k.1 (ap begins_word (sym k.0) ∙ w) h in
    (ap (λ (x : List ℕ). 10 ∷ x) (k.0 ∙ sym i.1) ∙ ap (λ (x : Stage). left x 10 (left_of (inner ++ (35 ∷ before)))) (sym i.0), ap (λ (x : Stage). is_out (next x 10)) i.0)

known_outside : (stage : Stage) (back plain : List ℕ) → Holds stage back plain → is_out stage ≡ true → IsOutside back plain
unfolding Holds is_out
known_outside (Quote kept) back plain h o = absurd cc
known_outside Comment back plain h o = absurd cc
known_outside Word back plain h o = h.0
known_outside Fresh back plain h o = h.0
known_outside Dash back plain h o = h.0

-- the depths that the lexer counts
stage_tells : (back : List ℕ) → is_outside (behind skip_start skip_next back).mode ≡ is_out (stage_of back)
stage_tells back = ap is_outside (mode_is back) ∙ out_is (stage_of back)

skip_round : (p : _) (b : ℕ) → (skip_next p b).round ≡ cond (is_outside p.mode) (depth_next 40 41 p.round b) p.round
skip_round p b = either {S = TypeOf p} (λ q. q.round) (is_outside p.mode) _ _

skip_curly : (p : _) (b : ℕ) → (skip_next p b).curly ≡ cond (is_outside p.mode) (depth_next 123 125 p.curly b) p.curly
skip_curly p b = either {S = TypeOf p} (λ q. q.curly) (is_outside p.mode) _ _

skip_square : (p : _) (b : ℕ) → (skip_next p b).square ≡ cond (is_outside p.mode) (depth_next 91 93 p.square b) p.square
skip_square p b = either {S = TypeOf p} (λ q. q.square) (is_outside p.mode) _ _

module _ (opening closing : ℕ) (apart : opening == closing ≡ false)
    (quote : (n : ℕ) → depth_next opening closing n 34 ≡ n) (hash : (n : ℕ) → depth_next opening closing n 35 ≡ n) (line : (n : ℕ) → depth_next opening closing n 10 ≡ n)
    (D : List ℕ → ℕ) (start : D [] ≡ 0)
    (step : (b : ℕ) (back : List ℕ) → D (b ∷ back) ≡ cond (is_outside (behind skip_start skip_next back).mode) (depth_next opening closing (D back) b) (D back)) where
  depth_is : (back : List ℕ) → D back ≡ depth opening closing (left_of back)
  unfolding left_of depth behind
  depth_is [] = start
  depth_is (b ∷ back) =
      step b back
      ∙ ap (λ (v : Bool). cond v (depth_next opening closing (D back) b) (D back)) (stage_tells back)
      ∙ ap (λ (n : ℕ). cond (is_out (stage_of back)) (depth_next opening closing n b) n) (depth_is back)
      ∙ sym (left_depth opening closing apart quote hash line (stage_of back) b (left_of back))

round_is : (back : List ℕ) → (behind skip_start skip_next back).round ≡ depth 40 41 (left_of back)
unfolding behind
round_is = depth_is 40 41 refl (λ n. refl) (λ n. refl) (λ n. refl) (λ back. (behind skip_start skip_next back).round) refl (λ b back. skip_round (behind skip_start skip_next back) b)

curly_is : (back : List ℕ) → (behind skip_start skip_next back).curly ≡ depth 123 125 (left_of back)
unfolding behind
curly_is = depth_is 123 125 refl (λ n. refl) (λ n. refl) (λ n. refl) (λ back. (behind skip_start skip_next back).curly) refl (λ b back. skip_curly (behind skip_start skip_next back) b)

square_is : (back : List ℕ) → (behind skip_start skip_next back).square ≡ depth 91 93 (left_of back)
unfolding behind
square_is = depth_is 91 93 refl (λ n. refl) (λ n. refl) (λ n. refl) (λ back. (behind skip_start skip_next back).square) refl (λ b back. skip_square (behind skip_start skip_next back) b)

-- what ends the rule, as it is counted
abbrev Counted : Bool → ℕ → ℕ → ℕ → ℕ → Type 0
Counted out round curly square b = (b ≡ 0) ⊎ ((b ≡ 44) × (out ≡ true) × (round ≡ 0) × (curly ≡ 0) × (square ≡ 0))

counted : (p : _) (b : ℕ) → ends_skip p b ≡ true → Counted (is_outside p.mode) p.round p.curly p.square b
counted p b e = grind (arith, nat_tests)

uncounted : (p : _) (b : ℕ) → ends_skip p b ≡ false → Counted (is_outside p.mode) p.round p.curly p.square b → ⊥
uncounted p b e h = grind (arith, nat_tests)

bare : (back : List ℕ) → is_out (stage_of back) ≡ true → depth 40 41 (left_of back) ≡ 0 → depth 123 125 (left_of back) ≡ 0 → depth 91 93 (left_of back) ≡ 0 → IsBare back
bare back o round curly square = record {
  plain = left_of back;
  outside = known_outside (stage_of back) back (left_of back) (holds back) o;
  round = none_open 40 41 refl (λ n. refl) (λ n. refl) (λ n. refl) (left_of back) round;
  curly = none_open 123 125 refl (λ n. refl) (λ n. refl) (λ n. refl) (left_of back) curly;
  square = none_open 91 93 refl (λ n. refl) (λ n. refl) (λ n. refl) (left_of back) square;
}

rule_ends : (back : List ℕ) (b : ℕ) (bs : List ℕ)
    → Counted (is_outside (behind skip_start skip_next back).mode) (behind skip_start skip_next back).round (behind skip_start skip_next back).curly
    (behind skip_start skip_next back).square b → RuleEnds back (b ∷ bs)
rule_ends back b bs (inl e) = inl e
rule_ends back b bs (inr (e, o, r, c, s)) = inr (e, bare back (sym (stage_tells back) ∙ o) (sym (round_is back) ∙ r) (sym (curly_is back) ∙ c) (sym (square_is back) ∙ s))

rule_counted : (back : List ℕ) (b : ℕ) (bs : List ℕ) → RuleEnds back (b ∷ bs)
    → Counted (is_outside (behind skip_start skip_next back).mode) (behind skip_start skip_next back).round (behind skip_start skip_next back).curly
    (behind skip_start skip_next back).square b
rule_counted back b bs (inl e) = inl e
rule_counted back b bs (inr (e, h)) =
    let k = outside_known back h.plain h.outside in
    inr (
      e,
      stage_tells back ∙ k.1,
      round_is back ∙ ap (depth 40 41) (sym k.0) ∙ none_deep 40 41 refl (λ n. refl) (λ n. refl) (λ n. refl) h.plain h.round,
      curly_is back ∙ ap (depth 123 125) (sym k.0) ∙ none_deep 123 125 refl (λ n. refl) (λ n. refl) (λ n. refl) h.plain h.curly,
      square_is back ∙ ap (depth 91 93) (sym k.0) ∙ none_deep 91 93 refl (λ n. refl) (λ n. refl) (λ n. refl) h.plain h.square,
    )

pub skips_first : (text : List ℕ) → EndsFirst RuleEnds text (skip_len skip_start text)
unfolding behind skip_len
skips_first = first (λ back text. skip_len (behind skip_start skip_next back) text) (λ back b bs. ends_skip (behind skip_start skip_next back) b) RuleEnds
    (λ back. refl) (λ back b bs. refl) (λ back. tt)
    (λ back b bs e. rule_ends back b bs (counted (behind skip_start skip_next back) b e))
    (λ back b bs e h. uncounted (behind skip_start skip_next back) b e (rule_counted back b bs h))

minus : (m n : ℕ) → m + n - m ≡ n
minus m n = omega arith

pub rules_first : (text : List ℕ) → EndsFirst RuleEnds (drop (name_len text) text) (skipped_len text - name_len text)
unfolding skipped_len
rules_first text = rw (minus (name_len text) (skip_len skip_start (drop (name_len text) text))) (skips_first (drop (name_len text) text))
