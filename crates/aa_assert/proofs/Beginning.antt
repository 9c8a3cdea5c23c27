-- Words of claims that stand for a full name, and for what it begins with.
use Rattle.std.proofs.Common.{◌≡◌, ℕ, List, [], ◌∷◌, ◌++◌, map, codes, Bool, true, false, true≢false, cond, Option, Some, None, refl, sym, ap, subst, ◌∙◌}
use Rattle.std.specs.Prelude.{not, ◌&&◌, ◌||◌, ◌==◌}
use Rattle.std.specs.Bool.{nat_eq}
use Rattle.std.specs.List.{All, starts_with}
use Rattle.std.specs.Option.{option_map_or}
use Rattle.std.specs.Str.{bytes_eq}
use Rattle.std.proofs.lemmas.Bool.{eq-eqb, eqb-true}
use Rattle.std.proofs.lemmas.List.{append-nil}
use Rattle.std.proofs.lemmas.List.Elements.{All-nil, All-cons, All-head, All-tail}
use Rattle.std.proofs.lemmas.Slice.Eq.{bytes_eq-Decides}
use Rattle.aa_pattern.specs.declared.item.Item.{Byte, Deep}
use Rattle.aa_pattern.specs.Globs.{Allows, Matches, IsNonzeroByte}
use Rattle.aa_pattern.specs.Matching.{is_match}
use Rattle.aa_pattern.proofs.Decided.{decided}
use Rattle.aa_ask.specs.Asked.{name_in_digits}
use Rattle.aa_quantifiers.proofs.Growing.{left, right, both, any_grows}
use Rattle.aa_claims.specs.declared.words.ClaimWord.{ClaimWord}
use Rattle.aa_claims.specs.Forms.{names_behind, names_within}
use Rattle.aa_assert.specs.Names.{names, may_name, covers}
use Rattle.aa_assert.specs.Scope.{is_among, is_about, may_be_among, are_all_among, may_be_about_behind}
use Rattle.aa_ask.specs.Wildcards.{name_item, is_in_digits, may_begin, begins_in_digits}

begins : (s rest : List ℕ) → starts_with nat_eq (s ++ rest) s ≡ true
begins [] rest = refl
begins (c ∷ s) rest = ap (λ (b : Bool). b && starts_with nat_eq (s ++ rest) s) (eq-eqb c c refl) ∙ begins s rest

tails : (a b : ℕ) (t u : List ℕ) → a ∷ t ≡ b ∷ u → (a ≡ b) × (t ≡ u)
tails a b t u e = (cc, cc)

-- ---- a word that stands for a name may stand for one that begins so

or_true : (b : Bool) → (b || true) ≡ true
or_true true = refl
or_true false = refl

match_begins : (front text rest : List ℕ) → Matches (map name_item text) (front ++ rest) → may_begin front text ≡ true
match_begins [] text rest m = refl
match_begins (c ∷ front) [] rest m = cc
match_begins (c ∷ front) (b ∷ text) rest m = at (match_begins front text rest) (b == 42) refl m
  where
    at : (Matches (map name_item text) (front ++ rest) → may_begin front text ≡ true) → (is : Bool) → (b == 42) ≡ is
        → Matches (cond is Deep (Byte b) ∷ map name_item text) (c ∷ front ++ rest) → (is || (b == c && may_begin front text)) ≡ true
    at more true e n = refl
    at more false e n =
        let same = tails c b (front ++ rest) n.1 (n.2 ∙ ap (λ (x : List ℕ). x ++ n.1) n.3.0) in
        both (b == c) (may_begin front text) (eq-eqb b c (sym same.0)) (more (subst (Matches (map name_item text)) (sym same.1) n.4))

digits_begin : (o : Option (List ℕ)) (front rest : List ℕ) → option_map_or (λ (n : List ℕ). bytes_eq n (front ++ rest)) o false ≡ true
    → option_map_or (λ (n : List ℕ). starts_with nat_eq n front) o false ≡ true
digits_begin None front rest e = e
digits_begin (Some n) front rest e =
    subst (λ (x : List ℕ). starts_with nat_eq x front ≡ true) (sym ((bytes_eq-Decides n (front ++ rest)).0 e)) (begins front rest)

or_both : (a b c d : Bool) → (a ≡ true → c ≡ true) → (b ≡ true → d ≡ true) → (a || b) ≡ true → (c || d) ≡ true
or_both true b c d f g e = ap (λ (x : Bool). x || d) (f refl)
or_both false b c d f g e = ap (λ (x : Bool). c || x) (g e) ∙ or_true c

pub named_begins : (w : ClaimWord) (front rest : List ℕ) → names w (front ++ rest) ≡ true → may_name w front ≡ true
named_begins w front rest =
    or_both (is_match (map name_item w.text.items) (front ++ rest)) (not w.is_quoted && is_in_digits w.text.items (front ++ rest))
    (may_begin front w.text.items) (not w.is_quoted && begins_in_digits w.text.items front)
    (λ e. match_begins front w.text.items rest ((decided (map name_item w.text.items) (front ++ rest)).0 e))
    (λ e. both (not w.is_quoted) (begins_in_digits w.text.items front) (left (not w.is_quoted) (is_in_digits w.text.items (front ++ rest)) e)
    (digits_begin (name_in_digits w.text.items) front rest (right (not w.is_quoted) (is_in_digits w.text.items (front ++ rest)) e)))

-- ---- one that covers what a name begins with stands for the name

deep_last : (s : List ℕ) → All IsNonzeroByte s → Matches (Deep ∷ []) s
deep_last s all = (s, [], sym (append-nil s), all, refl)

item_at : (b d : ℕ) → b ≡ d → IsNonzeroByte d → Allows (name_item b) (d ∷ [])
item_at b d same n = at (b == 42)
  where
    at : (is : Bool) → Allows (cond is Deep (Byte b)) (d ∷ [])
    at true = All-cons IsNonzeroByte d [] n (All-nil IsNonzeroByte)
    at false = (ap (λ (x : ℕ). x ∷ []) (sym same), subst IsNonzeroByte (sym same) n)

last_covers : (b : ℕ) (front : List ℕ) → covers (b ∷ []) front ≡ true → (b == 42) ≡ true
last_covers b [] e = e
last_covers b (d ∷ front) e = e

cover_match : (text front rest : List ℕ) → All IsNonzeroByte (front ++ rest) → covers text front ≡ true → Matches (map name_item text) (front ++ rest)
cover_match [] front rest all e = absurd (true≢false (sym e))
cover_match (b ∷ []) front rest all e =
    subst (λ (is : Bool). Matches (cond is Deep (Byte b) ∷ []) (front ++ rest)) (sym (last_covers b front e)) (deep_last (front ++ rest) all)
cover_match (b ∷ c ∷ text) [] rest all e = absurd (true≢false (sym e))
cover_match (b ∷ c ∷ text) (d ∷ front) rest all e = (
  d ∷ [],
  front ++ rest,
  refl,
  item_at b d (eqb-true b d (left (b == d) (covers (c ∷ text) front) e)) (All-head IsNonzeroByte d (front ++ rest) all),
  cover_match (c ∷ text) front rest (All-tail IsNonzeroByte d (front ++ rest) all) (right (b == d) (covers (c ∷ text) front) e),
)

covered_named : (front rest : List ℕ) → All IsNonzeroByte (front ++ rest) → (w : ClaimWord) → covers w.text.items front ≡ true → names w (front ++ rest) ≡ true
covered_named front rest all w e =
    ap (λ (b : Bool). b || (not w.is_quoted && is_in_digits w.text.items (front ++ rest)))
    ((decided (map name_item w.text.items) (front ++ rest)).1 (cover_match w.text.items front rest all e))

-- ---- a claim that is about a name may be about one that begins so

among_begins : (without : Bool) (o : Option (List ClaimWord)) (front rest : List ℕ) → is_among without o (front ++ rest) ≡ true → may_be_among without o front ≡ true
among_begins without None front rest e = e
among_begins without (Some ws) front rest e =
    any_grows (λ (w : ClaimWord). may_name w front) (λ (w : ClaimWord). names w (front ++ rest)) (λ w f. named_begins w front rest f) ws e

all_named : (o : Option (List ClaimWord)) (front rest : List ℕ) → All IsNonzeroByte (front ++ rest) → are_all_among o front ≡ true → is_among false o (front ++ rest) ≡ true
all_named None front rest all e = e
all_named (Some ws) front rest all e =
    any_grows (λ (w : ClaimWord). names w (front ++ rest)) (λ (w : ClaimWord). covers w.text.items front) (covered_named front rest all) ws e

not_grows : (a b : Bool) → (b ≡ true → a ≡ true) → not a ≡ true → not b ≡ true
not_grows a true f e = absurd (true≢false (sym e ∙ ap not (f refl)))
not_grows a false f e = refl

pub about_begins : (ws : List ClaimWord) (front rest : List ℕ) → All IsNonzeroByte (front ++ rest) → is_about ws (front ++ rest) ≡ true → may_be_about_behind ws front ≡ true
about_begins ws front rest all e =
    let within = names_within ws in
    let excepted = names_behind (codes "except") ws in
    let some = is_among true within (front ++ rest) in
    let none = not (is_among false excepted (front ++ rest)) in
    both (may_be_among true within front) (not (are_all_among excepted front)) (among_begins true within front rest (left some none e))
    (not_grows (is_among false excepted (front ++ rest)) (are_all_among excepted front) (all_named excepted front rest all) (right some none e))
