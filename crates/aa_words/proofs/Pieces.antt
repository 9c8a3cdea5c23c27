-- What stands first in a text.
use Rattle.std.proofs.Common.{◌≡◌, ℕ, ◌<◌, ◌≤◌, List, [], ◌∷◌, ◌++◌, length, take, drop, Option, Some, None, refl, sym, ap, ◌∙◌, arith}
use Rattle.std.proofs.lemmas.List.{take_at, drop_at}
use Rattle.aa_words.specs.declared.word.WordKind.TheVariants.{Open, Close, Comma, Equals, PlusEquals, Arrow, LeftParen, RightParen, Path, Name, Quoted, Value, Skipped}
use Rattle.aa_words.specs.declared.piece.Piece.{Piece}
use Rattle.aa_words.specs.declared.piece.Piece.TheVariants.{Blank, JoinedLine, Comment, Include, Variable, QuotedValue, Token}
use Rattle.aa_words.specs.declared.piece.Place.{Place}
use Rattle.aa_words.specs.Splits.{run_after, extent, Part, IsPart, piece_at}
use Rattle.aa_words.specs.Runs.{path_start}
use Rattle.aa_words.proofs.Extents.{comment_le, assigned_le, quoted_le, path_le, value_le, skipped_le, name_le}
use Rattle.aa_words.proofs.Forms.{include_len_le}

-- nothing stands in an empty text
pub piece_short : (place : Place) (bytes : List ℕ) → length bytes < 1 → piece_at place bytes ≡ None
unfolding piece_at
piece_short place [] h = refl
piece_short place (b ∷ bs) h = absurd (omega arith)

one_le : (s : List ℕ) → length (take 1 s) ≤ length s
one_le [] = omega arith
one_le (b ∷ bs) = omega arith

pub run_le : (k : Piece) (s : List ℕ) → run_after k s ≤ length s
unfolding run_after
run_le Blank s = omega arith
run_le JoinedLine s = one_le s
run_le Comment s = comment_le s
run_le Include s = include_len_le s
run_le Variable s = assigned_le s
run_le QuotedValue s = quoted_le s
run_le (Token Open) s = omega arith
run_le (Token Close) s = omega arith
run_le (Token Comma) s = omega arith
run_le (Token Equals) s = omega arith
run_le (Token PlusEquals) s = one_le s
run_le (Token Arrow) s = one_le s
run_le (Token LeftParen) s = omega arith
run_le (Token RightParen) s = omega arith
run_le (Token Path) s = path_le path_start s
run_le (Token Quoted) s = quoted_le s
run_le (Token Value) s = value_le s
run_le (Token Skipped) s = skipped_le s
run_le (Token Name) s = name_le s

pub extent_le : (k : Piece) (bytes : List ℕ) → 0 < length bytes → extent k bytes ≤ length bytes
extent_le k [] h = absurd (omega arith)
extent_le k (b ∷ bs) h = omega (arith, run_le k bs)

abbrev pub some : {A : Type 0} → A → Option A
some x = Some x

pub none_some : {A : Type 0} (x : A) → None ≡ some x → ⊥
none_some x e = cc

some_is : {A : Type 0} (x y : A) → some x ≡ some y → x ≡ y
some_is x y e = cc

-- what stands there as it should isn't empty
pub part_long : (place : Place) (p : Part) (rest : List ℕ) → IsPart place p rest → 0 < length p.text
part_long place p rest h = omega (arith, h.long)

-- what stands first, where a part does
pub record IsFirst (place : Place) (p : Part) (rest bytes : List ℕ) : Type 0 where
  pub stands : piece_at place bytes ≡ Some p.kind
  pub text : p.text ≡ take (extent p.kind bytes) bytes
  pub behind : rest ≡ drop (extent p.kind bytes) bytes

pub first_part : (place : Place) (p : Part) (rest bytes : List ℕ) → IsPart place p rest → bytes ≡ p.text ++ rest → IsFirst place p rest bytes
first_part place p rest bytes part e =
    let long : length p.text ≡ extent p.kind bytes = part.long ∙ ap (extent p.kind) (sym e) in
    record {
      stands = ap (piece_at place) e ∙ part.stands;
      text = sym (take_at p.text rest (extent p.kind bytes) long) ∙ ap (take (extent p.kind bytes)) (sym e);
      behind = sym (drop_at p.text rest (extent p.kind bytes) long) ∙ ap (drop (extent p.kind bytes)) (sym e);
    }

-- one piece alone stands first
pub record AreSame (p q : Part) (rest others : List ℕ) : Type 0 where
  pub part : p ≡ q
  pub behind : rest ≡ others

same_fields : (p q : Part) → p.kind ≡ q.kind → p.text ≡ q.text → p ≡ q
same_fields p q k t = ap (λ (x : Piece). record { kind = x; text = p.text }) k ∙ ap (λ (x : List ℕ). record { kind = q.kind; text = x }) t

pub same_part : (place : Place) (p q : Part) (rest others : List ℕ) → IsPart place p rest → IsPart place q others → p.text ++ rest ≡ q.text ++ others → AreSame p q rest others
same_part place p q rest others first second e =
    let a : IsFirst place p rest (p.text ++ rest) = first_part place p rest (p.text ++ rest) first refl in
    let b : IsFirst place q others (p.text ++ rest) = first_part place q others (p.text ++ rest) second e in
    let kind : p.kind ≡ q.kind = some_is p.kind q.kind (sym a.stands ∙ b.stands) in
    record {
      part = same_fields p q kind (a.text ∙ ap (λ (k : Piece). take (extent k (p.text ++ rest)) (p.text ++ rest)) kind ∙ sym b.text);
      behind = a.behind ∙ ap (λ (k : Piece). drop (extent k (p.text ++ rest)) (p.text ++ rest)) kind ∙ sym b.behind;
    }
