-- Runs and quoted texts.
use Rattle.std.proofs.Common.{◌≡◌, ℕ, suc, ◌<◌, ◌⊎◌, ◌↔◌, Bool, true, false, cond, List, [], ◌∷◌, drop, refl, sym, ap, ◌∙◌, arith, inl, inr, Some, None}
use Rattle.std.proofs.lemmas.Bool.{cases_order, false≢true}
use Rattle.std.proofs.lemmas.Bool.Decides.{nat_tests}
use Rattle.aa_words.specs.Runs.{begins_with, quote_len, quoted_len, quote_next, ends_quote, ends_name, name_len, ends_comment, comment_len, ends_value, value_len, ends_variable, variable_len}
use Rattle.aa_language_laws.specs.Places.{is_quoted, IsFirst, EndsFirst}
use Rattle.aa_language_laws.specs.Quotes.{QuoteEnds, ClosesQuote}
use Rattle.aa_language_laws.specs.RunEnds.{RunEnds}
use Rattle.aa_language_laws.proofs.Firsts.{behind, first}
use Rattle.aa_language_laws.proofs.Quoting.{quoted_step, quoted_none}

both_ways : (v : Bool) → v ≡ false → v ≡ true → ⊥
both_ways v f t = false≢true (sym f ∙ t)

module _ (ends : ℕ → List ℕ → Bool) (len : List ℕ → ℕ) (nil : len [] ≡ 0) (step : (b : ℕ) (bs : List ℕ) → len (b ∷ bs) ≡ cond (ends b bs) 0 (suc (len bs))) where
  run_first : (text : List ℕ) → EndsFirst (RunEnds ends) text (len text)
  run_first = first (λ back text. len text) (λ back b bs. ends b bs) (RunEnds ends) (λ back. nil) (λ back b bs. step b bs) (λ back. tt) (λ back b bs e. e) (λ back b bs f t. both_ways (ends b bs) f t)

pub names_first : (text : List ℕ) → EndsFirst (RunEnds ends_name) text (name_len text)
unfolding name_len
names_first = run_first ends_name name_len refl (λ b bs. refl)

pub comments_first : (text : List ℕ) → EndsFirst (RunEnds (λ b bs. ends_comment b)) text (comment_len text)
unfolding comment_len
comments_first = run_first (λ b bs. ends_comment b) comment_len refl (λ b bs. refl)

pub values_first : (text : List ℕ) → EndsFirst (RunEnds ends_value) text (value_len text)
unfolding value_len
values_first = run_first ends_value value_len refl (λ b bs. refl)

pub variables_first : (text : List ℕ) → EndsFirst (RunEnds (λ b bs. ends_variable b)) text (variable_len text)
unfolding variable_len
variables_first = run_first (λ b bs. ends_variable b) variable_len refl (λ b bs. refl)

kept_is : (back : List ℕ) → behind false quote_next back ≡ is_quoted back
unfolding behind
kept_is [] = sym quoted_none
kept_is (b ∷ back) = let h = kept_is back in let s = quoted_step b back in grind (arith, nat_tests)

quote_stops : (kept : Bool) (b : ℕ) (bs back : List ℕ) → kept ≡ is_quoted back → ends_quote kept b ≡ true → QuoteEnds back (b ∷ bs)
quote_stops kept b bs back k e = grind (arith, nat_tests)

quote_goes : (kept : Bool) (b : ℕ) (bs back : List ℕ) → kept ≡ is_quoted back → ends_quote kept b ≡ false → QuoteEnds back (b ∷ bs) → ⊥
quote_goes kept b bs back k e h = grind (arith, nat_tests)

quote_first : (text : List ℕ) → EndsFirst QuoteEnds text (quote_len false text)
unfolding quote_len behind
quote_first = first (λ back text. quote_len (behind false quote_next back) text) (λ back b bs. ends_quote (behind false quote_next back) b) QuoteEnds
    (λ back. refl) (λ back b bs. refl) (λ back. tt)
    (λ back b bs e. quote_stops (behind false quote_next back) b bs back (kept_is back) e)
    (λ back b bs e h. quote_goes (behind false quote_next back) b bs back (kept_is back) e h)

-- there is one first place
one_first : (P : ℕ → Type 0) (m n : ℕ) → IsFirst P m → IsFirst P n → m ≡ n
one_first P m n a b = one_of (cases_order m n) where
  one_of : (m ≡ n) ⊎ ((m < n) ⊎ (n < m)) → m ≡ n
  one_of (inl e) = e
  one_of (inr (inl lt)) = absurd (b.none_before m lt a.here)
  one_of (inr (inr lt)) = absurd (a.none_before n lt b.here)

closed : (text : List ℕ) (long : ℕ) (v : Bool) → begins_with 34 (drop (quote_len false text) text) ≡ v → cond v (Some (suc (quote_len false text))) None ≡ Some long → ClosesQuote text long
closed text long true e h = record { at = quote_len false text; first = quote_first text; quote = e; long_is = cc }
closed text long false e h = absurd cc

closing : (text : List ℕ) (long : ℕ) → ClosesQuote text long → quoted_len text ≡ Some long
unfolding quoted_len
closing text long c =
    let same = one_first _ _ _ c.first (quote_first text) in
    let quote : begins_with 34 (drop (quote_len false text) text) ≡ true = rw same at c.quote in
    let long_is : long ≡ suc (quote_len false text) = c.long_is ∙ ap suc same in
    ap (λ (v : Bool). cond v (Some (suc (quote_len false text))) None) quote ∙ ap Some (sym long_is)

pub closes : (text : List ℕ) (long : ℕ) → (quoted_len text ≡ Some long) ↔ ClosesQuote text long
unfolding quoted_len
closes text long = (closed text long _ refl, closing text long)
