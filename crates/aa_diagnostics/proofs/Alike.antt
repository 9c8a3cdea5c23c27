-- Policies that are the same have the same conflicts, and their patterns the same places.
use Rattle.std.proofs.Common.{◌≡◌, ℕ, zero, suc, ◌≤◌, Bool, List, [], ◌∷◌, ◌++◌, length, take, Some, Contains, refl, sym, ap, subst, ◌∙◌, arith}
use Rattle.std.specs.Prelude.{IsTrue, ◌&&◌, slice_get}
use Rattle.std.specs.List.{AllZip, list_all}
use Rattle.std.proofs.lemmas.Option.{slice_get_read, slice_get_within, get_or_from_slice_get, same_Some}
use Rattle.aa_pattern.specs.declared.item.Item.{Item, Choice', Row_of-Item, end_of-Item, more_of-Item, items-the_row-Item, Row_of-Item-Choice-0-1, end_of-Item-Choice-0-1, more_of-Item-Choice-0-1}
use Rattle.aa_pattern.specs.Globs.{is_byte, branches_of, sequences}
use Rattle.aa_pattern.specs.Sameness.{SameItem, SameBranches, SameBranch, SameItems}
use Rattle.aa_pattern.proofs.Sameness.{same_items_match}
use Rattle.aa_pattern.specs.declared.pattern.Pattern.{Pattern}
use Rattle.aa_pattern.specs.Matching.{is_match}
use Rattle.aa_pattern.specs.Places.{Position, IsHead, IsPlace}
use Rattle.aa_pattern.specs.Places.Position.{Gap, Within}
use Rattle.aa_pattern.proofs.Decided.{decided}
use Rattle.aa_auto.specs.Tables.{HasPlaces}
use Rattle.aa_model.specs.declared.rule.FileRule.{FileRule}
use Rattle.aa_compile.specs.FileRules.{Hit, IsConflict}
use Rattle.aa_compile.specs.Rows.{patterns_of}
use Rattle.aa_policy.specs.Sameness.{SameRule}

-- ---- lists whose elements are alike in their places

pub got_alike : {X Y : Type 0} (R : X → Y → Type 0) (xs : List X) (ys : List Y) (n : ℕ) (x : X) → AllZip R xs ys → slice_get xs n ≡ Some x → (y : Y) × (slice_get ys n ≡ Some y) × R x y
got_alike R [] [] n x h e = cc
got_alike R [] (y ∷ ys) n x h e = absurd h
got_alike R (x ∷ xs) [] n z h e = absurd h
got_alike {X} R (x ∷ xs) (y ∷ ys) zero z h e = (y, refl, subst (λ (w : X). R w y) (same_Some x z e) h.0)
got_alike R (x ∷ xs) (y ∷ ys) (suc n) z h e = got_alike R xs ys n z h.1 e

in_alike : {X Y : Type 0} (R : X → Y → Type 0) (xs : List X) (ys : List Y) (x : X) → AllZip R xs ys → Contains xs x → (y : Y) × Contains ys y × R x y
in_alike R xs ys x h c =
    let got = got_alike R xs ys c.0 x h (slice_get_read xs (length xs) c.0 x refl c.1 (sym c.2)) in
    (got.0, (c.0, slice_get_within ys c.0 got.0 got.1, get_or_from_slice_get ys c.0 got.0 got.0 got.1), got.2)

append_alike : {X Y : Type 0} (R : X → Y → Type 0) (xs : List X) (ys : List Y) (vs : List X) (ws : List Y) → AllZip R xs ys → AllZip R vs ws → AllZip R (xs ++ vs) (ys ++ ws)
append_alike R [] [] vs ws h g = g
append_alike R [] (y ∷ ys) vs ws h g = absurd h
append_alike R (x ∷ xs) [] vs ws h g = absurd h
append_alike R (x ∷ xs) (y ∷ ys) vs ws h g = (h.0, append_alike R xs ys vs ws h.1 g)

-- of the same items in their places
abbrev pub SamePattern : Pattern → Pattern → Type 0
SamePattern p q = SameItems p.items.items q.items.items

pub patterns_alike : (rs ss : List FileRule) → AllZip SameRule rs ss → AllZip SamePattern (patterns_of rs) (patterns_of ss)
patterns_alike [] [] h = tt
patterns_alike [] (s ∷ ss) h = absurd h
patterns_alike (r ∷ rs) [] h = absurd h
patterns_alike (r ∷ rs) (s ∷ ss) h = append_alike SamePattern r.patterns s.patterns (patterns_of rs) (patterns_of ss) h.0.patterns (patterns_alike rs ss h.1)

-- ---- conflicts

byte_alike : (a b : Item) → SameItem a b → is_byte a ≡ is_byte b
byte_alike (Choice' _ a) (Choice' _ b) h = refl
byte_alike a b h = ap is_byte h

all_bytes_alike : (items others : List Item) → SameItems items others → list_all is_byte items ≡ list_all is_byte others
all_bytes_alike [] [] h = refl
all_bytes_alike (a ∷ as') (b ∷ bs) h = ap (λ (x : Bool). x && list_all is_byte as') (byte_alike a b h.0) ∙ ap (λ (x : Bool). is_byte b && x) (all_bytes_alike as' bs h.1)
all_bytes_alike [] (b ∷ bs) h = absurd h
all_bytes_alike (a ∷ as') [] h = absurd h

match_alike : (p q : Pattern) (text : List ℕ) → SamePattern p q → IsTrue (is_match p.items.items text) → IsTrue (is_match q.items.items text)
match_alike p q text h m = (decided q.items.items text).1 ((same_items_match p.items.items q.items.items h text).0 ((decided p.items.items text).0 m))

pub conflict_alike : (rs ss : List FileRule) → AllZip SameRule rs ss → (a b : Hit) (text : List ℕ) → IsConflict rs a b text → (c : Hit) × (d : Hit) × IsConflict ss c d text
conflict_alike rs ss same a b text h =
    let r = in_alike SameRule rs ss a.rule same h.rules_are.0 in
    let s = in_alike SameRule rs ss b.rule same h.rules_are.1 in
    let p = in_alike SamePattern a.rule.patterns r.0.patterns a.pattern r.2.patterns h.patterns_are.0 in
    let q = in_alike SamePattern b.rule.patterns s.0.patterns b.pattern s.2.patterns h.patterns_are.1 in (
      record { rule = r.0; pattern = p.0 },
      record { rule = s.0; pattern = q.0 },
      record {
        rules_are = (r.1, s.1);
        patterns_are = (p.1, q.1);
        match = (match_alike a.pattern p.0 text p.2 h.match.0, match_alike b.pattern q.0 text q.2 h.match.1);
        sort = sym (all_bytes_alike a.pattern.items.items p.0.items.items p.2) ∙ h.sort ∙ all_bytes_alike b.pattern.items.items q.0.items.items q.2;
        say = record {
          allow = (sym r.2.deny ∙ h.say.allow.0, sym s.2.deny ∙ h.say.allow.1);
          one = h.say.one;
          other = h.say.other;
          say = (sym r.2.exec ∙ h.say.say.0, sym s.2.exec ∙ h.say.say.1);
          differ = h.say.differ;
        };
      },
    )

-- ---- places

length_alike : (as' bs : List Item) → SameItems as' bs → length as' ≡ length bs
length_alike [] [] h = refl
length_alike [] (b ∷ bs) h = absurd h
length_alike (a ∷ as') [] h = absurd h
length_alike (a ∷ as') (b ∷ bs) h = ap suc (length_alike as' bs h.1)

take_alike : (i : ℕ) (as' bs : List Item) → SameItems as' bs → SameItems (take i as') (take i bs)
take_alike zero as' bs h = tt
take_alike (suc i) [] [] h = tt
take_alike (suc i) [] (b ∷ bs) h = absurd h
take_alike (suc i) (a ∷ as') [] h = absurd h
take_alike (suc i) (a ∷ as') (b ∷ bs) h = (h.0, take_alike i as' bs h.1)

joined_alike : (as' bs cs ds : List Item) → SameItems as' bs → SameItems cs ds → SameItems (as' ++ cs) (bs ++ ds)
joined_alike [] [] cs ds h g = g
joined_alike [] (b ∷ bs) cs ds h g = absurd h
joined_alike (a ∷ as') [] cs ds h g = absurd h
joined_alike (a ∷ as') (b ∷ bs) cs ds h g = (h.0, joined_alike as' bs cs ds h.1 g)

item_alike : (as' bs : List Item) (i : ℕ) (a : Item) → SameItems as' bs → slice_get as' i ≡ Some a → (b : Item) × (slice_get bs i ≡ Some b) × SameItem a b
item_alike [] [] i a h e = cc
item_alike [] (b ∷ bs) i a h e = absurd h
item_alike (x ∷ xs) [] i a h e = absurd h
item_alike (x ∷ xs) (y ∷ ys) zero a h e = (y, refl, subst (λ (w : Item). SameItem w y) (same_Some x a e) h.0)
item_alike (x ∷ xs) (y ∷ ys) (suc i) a h e = item_alike xs ys i a h.1 e

row_alike : {n m : _} (a : Row_of-Item n) (b : Row_of-Item m) → SameBranch a b → SameItems (items-the_row-Item _ a) (items-the_row-Item _ b)
row_alike end_of-Item end_of-Item h = tt
row_alike (more_of-Item a as') (more_of-Item b bs) h = (h.0, row_alike as' bs h.1)
row_alike _ _ h = absurd h

sequences_alike : {n m : _} (a : Row_of-Item-Choice-0-1 n) (b : Row_of-Item-Choice-0-1 m) → SameBranches a b → AllZip SameItems (sequences a) (sequences b)
sequences_alike end_of-Item-Choice-0-1 end_of-Item-Choice-0-1 h = tt
sequences_alike (more_of-Item-Choice-0-1 _ a as') (more_of-Item-Choice-0-1 _ b bs) h = (row_alike a b h.0, sequences_alike as' bs h.1)
sequences_alike _ _ h = absurd h

branches_alike : (a b : Item) → SameItem a b → AllZip SameItems (branches_of a) (branches_of b)
branches_alike (Choice' _ a) (Choice' _ b) h = sequences_alike a b h
branches_alike (Choice' _ a) b h = cc
branches_alike a b h = subst (λ (x : Item). AllZip SameItems (branches_of a) (branches_of x)) h tt

head_alike : (q : Position) (as' bs h : List Item) → SameItems as' bs → IsHead as' q h → (k : List Item) × IsHead bs q k × SameItems h k
head_alike (Gap i) as' bs h same is =
    let within : i ≤ length bs = omega (arith, is.0, length_alike as' bs same) in
    (take i bs, (within, refl), subst (λ (x : List Item). SameItems x (take i bs)) (sym is.1) (take_alike i as' bs same))
head_alike (Within i j q) as' bs h same (item, branch, inner, got, among, stands, e) =
    let here = item_alike as' bs i item same got in
    let there = got_alike SameItems (branches_of item) (branches_of here.0) j branch (branches_alike item here.0 here.2) among in
    let deeper = head_alike q branch there.0 inner there.2 stands in (
      take i bs ++ deeper.0,
      (here.0, there.0, deeper.0, here.1, there.1, deeper.1, refl),
      subst (λ (x : List Item). SameItems x (take i bs ++ deeper.0)) (sym e) (joined_alike (take i as') (take i bs) inner deeper.0 (take_alike i as' bs same) deeper.2),
    )

place_alike : (ps qs : List Pattern) → AllZip SamePattern ps qs → (s : List ℕ) (n : ℕ) (q : Position) → IsPlace ps s n q → IsPlace qs s n q
place_alike ps qs same s n q (p, h, got, head, m) =
    let other = got_alike SamePattern ps qs n p same got in
    let k = head_alike q p.items.items other.0.items.items h other.2 head in
    (other.0, k.0, other.1, k.1, (same_items_match h k.0 k.2 s).0 m)

-- texts that may stand at the same places of the ones may do so of the others
pub many_alike : (ps qs : List Pattern) (n : ℕ) → AllZip SamePattern ps qs → AllZip SamePattern qs ps → HasPlaces ps n → HasPlaces qs n
many_alike ps qs n to back h = record {
  texts = h.texts;
  many = h.many;
  bytes = h.bytes;
  apart = λ i j li lj same.
      h.apart i j li lj (λ m q. (
        λ x. place_alike qs ps back _ m q ((same m q).0 (place_alike ps qs to _ m q x)),
        λ x. place_alike qs ps back _ m q ((same m q).1 (place_alike ps qs to _ m q x)),
      ));
}
