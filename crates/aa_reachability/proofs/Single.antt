-- A pattern of bytes alone matches one text.
use Rattle.std.proofs.Common.{◌≡◌, ℕ, ◌<◌, List, [], ◌∷◌, ◌++◌, length, get_or, Bool, true, false, Option, Some, All, Contains, Fits, w8, refl, sym, ap, ◌∙◌, subst, arith}
use Rattle.std.specs.Prelude.{not, ◌&&◌, ◌==◌, nat_le}
use Rattle.std.specs.List.{list_any}
use Rattle.std.specs.Option.{option_map_or}
use Rattle.std.proofs.lemmas.Bool.{and_parts, not-true}
use Rattle.std.proofs.lemmas.List.Elements.{All-head, All-tail, All-weaker, All-from_get_or}
use Rattle.aa_auto.specs.Tables.{IsText}
use Rattle.aa_regions.specs.Wanted.{IsFrom}
use Rattle.aa_regions.proofs.Paths.{no_zero}
use Rattle.aa_compile.specs.Holding.{change_holds}
use Rattle.aa_model.specs.Requests.{is_wanted_name}
use Rattle.aa_model.specs.declared.rule.ChangeRule.{ChangeRule}
use Rattle.aa_model.specs.declared.request.Request.TheVariants.{File, Link, Exec, Cap, Net, Change, Reload}
use Rattle.aa_pattern.specs.declared.item.Item.{Item}
use Rattle.aa_pattern.specs.declared.pattern.Pattern.{Pattern}
use Rattle.aa_pattern.specs.Globs.{Matches, IsNonzeroByte}
use Rattle.aa_pattern.specs.Matching.{is_match}
use Rattle.aa_pattern.proofs.Decided.{decided}
use Rattle.aa_model.specs.declared.request.Request.{Request}
use Rattle.aa_representatives.specs.Askable.{IsExec, IsChange}
use Rattle.aa_representatives.specs.Names.{literal_of, items_of}
use Rattle.aa_representatives.specs.Representatives.{Adds, HasExecs, HasChange}
use Rattle.aa_representatives.proofs.Adding.{adds_keep}
use Rattle.aa_reachability.specs.Single.{HasExecsOf, IsChangeTo, IsChangeOf, HasChangesOfRule}

its_bytes : (n s : List ℕ) → Matches (literal_of n) s → s ≡ n
its_bytes [] s m = m
its_bytes (c ∷ n) s m = m.2 ∙ ap (λ (l : List ℕ). l ++ m.1) m.3.0 ∙ ap (λ (l : List ℕ). c ∷ l) (its_bytes n m.1 m.4)

pub its_text : (p : Pattern) (n s : List ℕ) → items_of p ≡ literal_of n → is_match p.items.items s ≡ true → s ≡ n
its_text p n s e m = its_bytes n s (subst (λ (l : List Item). Matches l s) e ((decided p.items.items s).0 m))

-- requests that are among some are among these and more
pub execs_keep : (before after : List Request) → Adds IsExec before after → (p : Pattern) → HasExecsOf before p → HasExecsOf after p
execs_keep before after adds p has s m asked owned = adds_keep IsExec before after adds _ (has s m asked owned)

nonzero_bytes : (n : List ℕ) → IsChange (Change n) → All IsNonzeroByte n
nonzero_bytes n is =
    let named = and_parts (not (length n == 0) && not (list_any (λ b. b == 0) n)) (nat_le (length n) 1024) is.1 in
    let free = not-true (list_any (λ b. b == 0) n) (and_parts (not (length n == 0)) (not (list_any (λ b. b == 0) n)) named.0).1 in
    All-weaker (IsFrom 1) IsNonzeroByte (λ b from. (omega (arith, from.0), from.1)) n (no_zero n free is.0)

its_own : (n : List ℕ) → All IsNonzeroByte n → Matches (literal_of n) n
its_own [] all = refl
its_own (c ∷ n) all = (c ∷ [], n, refl, (refl, All-head IsNonzeroByte c n all), its_own n (All-tail IsNonzeroByte c n all))

-- it matches its text, where that can be asked for as a name
pub own_name : (p : Pattern) (n : List ℕ) → items_of p ≡ literal_of n → IsChange (Change n) → is_match p.items.items n ≡ true
own_name p n e is = (decided p.items.items n).1 (subst (λ (l : List Item). Matches l n) (sym e) (its_own n (nonzero_bytes n is)))

-- what is added by a kind is added by a weaker one
pub adds_weaker : (P Q : Request → Type 0) (before after : List Request) → ((r : Request) → P r → Q r) → Adds P before after → Adds Q before after
adds_weaker P Q before after on adds = record { more = adds.more; are = adds.are; each = λ r c. on r (adds.each r c) }

pub bytes_in : (s : List ℕ) → ((i : ℕ) → Fits w8 (get_or s i 0)) → IsText s
bytes_in s fits = All-from_get_or (λ b. b < 256) s 0 (λ i lt. let f = fits i in omega (arith, f.fits))

-- the request for the one name for which a rule holds
module _ (rule : ChangeRule) (p : Pattern) (n : List ℕ) (is : rule.pattern ≡ Some p) (lit : items_of p ≡ literal_of n) where
  holds_so : (s : List ℕ) → is_match p.items.items s ≡ change_holds s rule
  holds_so s = sym (ap (λ (o : Option Pattern). option_map_or (λ (q : Pattern). is_match q.items.items s) o true) is)

  pub of_rule : rule.deny ≡ false → (r : Request) → IsChangeTo n r → IsChangeOf rule r
  of_rule allows (Change s) to =
      (to.1, allows, sym (holds_so s) ∙ own_name p s (lit ∙ ap literal_of (sym to.0)) to.1)
  of_rule allows (File f) to = absurd to
  of_rule allows (Link l) to = absurd to
  of_rule allows (Exec e) to = absurd to
  of_rule allows (Cap c) to = absurd to
  of_rule allows (Net f s) to = absurd to
  of_rule allows (Reload m) to = absurd to

  pub has_rule : (rs : List Request) → HasChange n rs → HasChangesOfRule rs rule
  has_rule rs has allows s holds wanted =
      let same : s ≡ n = its_text p n s lit (holds_so s ∙ holds) in
      subst (λ (x : List ℕ). Contains rs (Change x)) (sym same) (has (subst (λ (x : List ℕ). is_wanted_name x ≡ true) same wanted))

pub to_one : (n : List ℕ) (r : Request) → IsChangeTo n r → IsChange r
to_one n (Change s) to = to.1
to_one n (File f) to = absurd to
to_one n (Link l) to = absurd to
to_one n (Exec e) to = absurd to
to_one n (Cap c) to = absurd to
to_one n (Net f s) to = absurd to
to_one n (Reload m) to = absurd to
