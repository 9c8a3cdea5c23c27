-- What is matched is a text of bytes.
use Rattle.std.proofs.Common.{◌≡◌, ℕ, ◌<◌, List, [], ◌∷◌, ◌++◌, sym, subst, ⊎_elim}
use Rattle.std.specs.List.{All}
use Rattle.std.proofs.lemmas.List.Elements.{All-nil, All-cons, All-append, All-weaker}
use Rattle.aa_pattern.specs.declared.item.Item.{Item, Byte, One, Run, RunOne, Deep, DeepOne, Class, Choice', Row_of-Item, end_of-Item, more_of-Item, Row_of-Item-Choice-0-1, end_of-Item-Choice-0-1, more_of-Item-Choice-0-1}
use Rattle.aa_pattern.specs.Globs.{Allows, SomeAllows, AllAllow, Matches, IsNonzeroByte, IsNameByte}
use Rattle.aa_auto.specs.Tables.{IsText}

one_byte : (s : List ℕ) (b : ℕ) → s ≡ b ∷ [] → b < 256 → IsText s
one_byte s b e lt = subst IsText (sym e) (All-cons (λ n. n < 256) b [] lt (All-nil (λ n. n < 256)))

names : (s : List ℕ) → All IsNameByte s → IsText s
names s all = All-weaker IsNameByte (λ n. n < 256) (λ x h. h.0.1) s all

nonzeros : (s : List ℕ) → All IsNonzeroByte s → IsText s
nonzeros s all = All-weaker IsNonzeroByte (λ n. n < 256) (λ x h. h.1) s all

parts : (s a b : List ℕ) → s ≡ a ++ b → IsText a → IsText b → IsText s
parts s a b e p q = subst IsText (sym e) (All-append (λ n. n < 256) a b p q)

mutual
  allowed : (i : Item) (s : List ℕ) → Allows i s → IsText s
  allowed (Byte c) s h = one_byte s c h.0 h.1.1
  allowed One s h = one_byte s h.0 h.1 h.2.0.1
  allowed Run s h = names s h
  allowed RunOne s h = names s h.0
  allowed Deep s h = nonzeros s h
  allowed DeepOne s h = subst IsText (sym h.2) (All-cons (λ n. n < 256) h.0 h.1 h.3.0.1 (nonzeros h.1 h.4))
  allowed (Class set) s h = one_byte s h.0 h.1 h.2.0.1
  allowed (Choice' _ branches) s h = some_allowed branches s h

  some_allowed : {n : _} (branches : Row_of-Item-Choice-0-1 n) (s : List ℕ) → SomeAllows branches s → IsText s
  some_allowed end_of-Item-Choice-0-1 s h = absurd h
  some_allowed (more_of-Item-Choice-0-1 _ branch rest) s h = ⊎_elim (λ x. all_allowed branch s x) (λ x. some_allowed rest s x) h

  all_allowed : {n : _} (branch : Row_of-Item n) (s : List ℕ) → AllAllow branch s → IsText s
  all_allowed end_of-Item s h = subst IsText (sym h) (All-nil (λ n. n < 256))
  all_allowed (more_of-Item item rest) s h = parts s h.0 h.1 h.2 (allowed item h.0 h.3) (all_allowed rest h.1 h.4)

pub matched_text : (items : List Item) (s : List ℕ) → Matches items s → IsText s
matched_text [] s h = subst IsText (sym h) (All-nil (λ n. n < 256))
matched_text (item ∷ items) s h = parts s h.0 h.1 h.2 (allowed item h.0 h.3) (matched_text items h.1 h.4)
