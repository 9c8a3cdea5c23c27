-- The words of a text stand in it and in its includes, one behind the other.
use Rattle.std.proofs.Common.{slice_index_or, ◌≡◌, ◌≢◌, ◌⊎◌, inl, inr, Bool, true, false, cond, Option, Some, None, Result, Ok, Err, drop}
use Rattle.std.proofs.Common.{ℕ, zero, suc, ◌+◌, ◌-◌, ◌<◌, ◌≤◌, ◌==◌, List, [], ◌∷◌, ◌++◌, length, take, if◌then◌else◌}
use Rattle.std.proofs.Common.{refl, sym, ap, subst, ◌∙◌, arith, append_assoc}
use Rattle.std.specs.List.{All}
use Rattle.std.specs.Str.{bytes_eq}
use Rattle.std.proofs.lemmas.List.{take_at, drop_at, length-append, length-take-le, take-append-drop}
use Rattle.std.proofs.lemmas.List.Elements.{All-nil, All-cons, All-append}
use Rattle.aa_base.specs.declared.fault.PolicyFault.{PolicyFault}
use Rattle.aa_base.specs.declared.fault.Spot.{Spot}
use Rattle.aa_words.specs.declared.word.WordKind.{WordKind}
use Rattle.aa_words.specs.declared.word.WordKind.TheVariants.{Quoted, Value}
use Rattle.aa_words.specs.declared.piece.Piece.{Piece}
use Rattle.aa_words.specs.declared.piece.Piece.TheVariants.{QuotedValue, Token}
use Rattle.aa_words.specs.declared.piece.Place.{Place}
use Rattle.aa_words.specs.declared.reading.Reading.{Reading}
use Rattle.aa_words.specs.declared.reading.Count.{Count}
use Rattle.aa_words.specs.Includes.{included_name, is_optional}
use Rattle.aa_words.specs.Splits.{WordData, Part, spelled, AreParts, reading_word, kind_of, is_in_quotes, unquoted, token_word, words_in, word_of, place_after}
use Rattle.aa_words.specs.Splits.{start, source_from, Opening, Setting, opened, opens, fits, include_opens, is_include, IncludeGives, PieceGives, Gives, Reads}
use Rattle.aa_words.specs.Splits.{main_reading, main_count}
use Rattle.aa_words.specs.WordLists.{text_of_file, StandsIn, IsBehind, Rise}
use Rattle.aa_words.proofs.Pieces.{some, part_long}

-- only these kinds of words stand in quotes
quotable : (k : Piece) (kind : WordKind) → kind_of k ≡ some kind → is_in_quotes k ≡ true → kind ≢ Quoted → kind ≢ Value → ⊥
quotable QuotedValue kind e h no_quoted no_value = no_value cc
quotable (Token Quoted) kind e h no_quoted no_value = no_quoted cc
quotable _ kind e h no_quoted no_value = absurd cc

slice_at : (front text more : List ℕ) → text ≡ take ((length front + length text) - length front) (drop (length front) (front ++ (text ++ more)))
slice_at front text more =
    let n : ℕ = (length front + length text) - length front in
    let long : length text ≡ n = omega arith in
    sym (ap (take n) (drop_at front (text ++ more) (length front) refl) ∙ take_at text more n long)

found_number : (number : ℕ) (text : List ℕ) (source : ℕ × List ℕ) → Some (number, text) ≡ Some source → source.0 ≡ number + 0
found_number number text source e = let same : (number, text) ≡ source = cc in let first : number ≡ source.0 = ap (λ (x : ℕ × List ℕ). x.0) same in omega arith

found_text : (number : ℕ) (text : List ℕ) (source : ℕ × List ℕ) → Some (number, text) ≡ Some source → text ≡ source.1
found_text number text source e = let same : (number, text) ≡ source = cc in ap (λ (x : ℕ × List ℕ). x.1) same

-- an include that opens a source opens one that is there
pub record IsOpened (n : Count) (found : Option (ℕ × List ℕ)) (o : Opening) : Type 0 where
  pub source : ℕ × List ℕ
  pub found_is : found ≡ Some source
  pub opened_is : o ≡ opened n source

opened_of : (deep fit : Bool) (n : Count) (source : ℕ × List ℕ) (o : Opening) (too_deep too_large : PolicyFault)
    → (if deep then Err too_deep else (if fit then Ok (Some (opened n source)) else Err too_large)) ≡ Ok (Some o) → IsOpened n (Some source) o
opened_of true fit n source o too_deep too_large e = absurd cc
opened_of false false n source o too_deep too_large e = absurd cc
opened_of false true n source o too_deep too_large e = record { source = source; found_is = refl; opened_is = cc }

opens_source : (depth : ℕ) (spot : Spot) (optional : Bool) (n : Count) (found : Option (ℕ × List ℕ)) (o : Opening) → opens depth spot optional n found ≡ Ok (Some o) → IsOpened n found o
opens_source depth spot true n None o e = absurd cc
opens_source depth spot false n None o e = absurd cc
opens_source depth spot optional n (Some source) o e = opened_of (depth == 0) (fits n source.1) n source o _ _ e

rise_append : (ws vs : List WordData) → Rise ws → Rise vs → All (λ w. All (IsBehind w) vs) ws → Rise (ws ++ vs)
rise_append [] vs first second between = second
rise_append (w ∷ ws) vs first second between = (All-append (IsBehind w) ws vs first.0 (between zero w (omega arith)), rise_append ws vs first.1 second (λ k d h. between (suc k) d (omega arith)))

module _ (sources : List (List ℕ × List ℕ)) (main : List ℕ) where
  word_stands : (r : Reading) (front text more : List ℕ) (kind : WordKind) → text_of_file sources main r.file ≡ some (front ++ (text ++ more))
      → (kind ≢ Quoted → kind ≢ Value → 0 < length text) → StandsIn sources main (reading_word r kind (length front) text)
  word_stands r front text more kind source h = record {
    text = front ++ (text ++ more);
    file = source;
    nonempty = λ no_quoted no_value. let long : 0 < length text = h no_quoted no_value in omega arith;
    ordered = omega arith;
    within = omega (arith, length-append front (text ++ more), length-append text more);
    slice = slice_at front text more;
  }

  -- what stands between quotes stands one byte behind
  inner_stands : (r : Reading) (front text more : List ℕ) (kind : WordKind) → text_of_file sources main r.file ≡ some (front ++ (text ++ more))
      → 0 < length text → (kind ≢ Quoted → kind ≢ Value → ⊥) → StandsIn sources main (reading_word r kind (length front + 1) (unquoted text))
  inner_stands r front [] more kind source long h = absurd (omega arith)
  inner_stands r front (b ∷ bs) more kind source long h =
      let inner : List ℕ = take (length bs - 1) bs in
      let behind : List ℕ = drop (length bs - 1) bs ++ more in
      let whole : (front ++ b ∷ []) ++ (inner ++ behind) ≡ front ++ (b ∷ bs ++ more) =
      append_assoc front (b ∷ []) (inner ++ behind) ∙ ap (λ (t : List ℕ). front ++ b ∷ t) (sym (append_assoc inner (drop (length bs - 1) bs) more) ∙ ap (λ (t : List ℕ). t ++ more) (take-append-drop (length bs - 1) bs)) in
      let stands : StandsIn sources main (reading_word r kind (length (front ++ b ∷ [])) inner) = word_stands r (front ++ b ∷ []) inner behind kind
      (source ∙ ap some (sym whole)) (λ no_quoted no_value. absurd (h no_quoted no_value)) in
      subst (λ (n : ℕ). StandsIn sources main (reading_word r kind n inner)) (length-append front (b ∷ [])) stands

  token_stands : (r : Reading) (front text more : List ℕ) (in_quotes : Bool) (kind : WordKind)
      → text_of_file sources main r.file ≡ some (front ++ (text ++ more)) → 0 < length text
      → (in_quotes ≡ true → kind ≢ Quoted → kind ≢ Value → ⊥) → StandsIn sources main (token_word r in_quotes (length front) text kind)
  token_stands r front text more true kind source long h = inner_stands r front text more kind source long (h refl)
  token_stands r front text more false kind source long h = word_stands r front text more kind source (λ no_quoted no_value. long)

  -- a word is one of the reading, and begins at or behind a byte, or one of a later reading
  abbrev IsFrom : Reading → ℕ → Count → Count → WordData → Type 0
  IsFrom r at n m w = ((w.span.reading ≡ r.number) × (at ≤ w.span.start)) ⊎ ((n.readings ≤ w.span.reading) × (w.span.reading < m.readings))

  -- the same for the words of one piece
  abbrev IsWithin : Reading → ℕ → ℕ → Count → Count → WordData → Type 0
  IsWithin r at end n m w = ((w.span.reading ≡ r.number) × (at ≤ w.span.start) × (w.span.end ≤ end)) ⊎ ((n.readings ≤ w.span.reading) × (w.span.reading < m.readings))

  -- the words stand in their sources, and rise
  pub record AreOrdered (P : WordData → Type 0) (n m : Count) (ws : List WordData) : Type 0 where
    pub stand : All (StandsIn sources main) ws
    pub placed : All P ws
    pub rise : Rise ws
    pub more : n.readings ≤ m.readings

  no_word_ordered : (P : WordData → Type 0) (n : Count) → AreOrdered P n n []
  no_word_ordered P n = record { stand = All-nil (StandsIn sources main); placed = All-nil P; rise = tt; more = omega arith }

  unquoted_short : (text : List ℕ) → 0 < length text → 1 + length (unquoted text) ≤ length text
  unquoted_short [] h = absurd (omega arith)
  unquoted_short (b ∷ bs) h = omega (arith, length-take-le (length bs - 1) bs (omega arith))

  token_within : (r : Reading) (at : ℕ) (text : List ℕ) (in_quotes : Bool) (kind : WordKind) (n : Count) → 0 < length text → IsWithin r at (at + length text) n n (token_word r in_quotes at text kind)
  token_within r at text true kind n long = inl (refl, omega arith, omega (arith, unquoted_short text long))
  token_within r at text false kind n long = inl (refl, omega arith, omega arith)

  words_ordered : (r : Reading) (front text more : List ℕ) (in_quotes : Bool) (kind : Option WordKind) (n : Count)
      → text_of_file sources main r.file ≡ some (front ++ (text ++ more)) → 0 < length text
      → ((k : WordKind) → kind ≡ some k → in_quotes ≡ true → k ≢ Quoted → k ≢ Value → ⊥)
      → AreOrdered (IsWithin r (length front) (length front + length text) n n) n n (words_in r in_quotes (length front) text kind)
  words_ordered r front text more in_quotes None n source long h = no_word_ordered (IsWithin r (length front) (length front + length text) n n) n
  words_ordered r front text more in_quotes (Some kind) n source long h =
      let w : WordData = token_word r in_quotes (length front) text kind in
      let P : WordData → Type 0 = IsWithin r (length front) (length front + length text) n n in
      record {
        stand = All-cons (StandsIn sources main) w [] (token_stands r front text more in_quotes kind source long (h kind refl)) (All-nil (StandsIn sources main));
        placed = All-cons P w [] (token_within r (length front) text in_quotes kind n long) (All-nil P);
        rise = (All-nil (IsBehind w), tt);
        more = omega arith;
      }

  -- the text of a source that is found
  pub record IsSource (number file : ℕ) (es : List (List ℕ × List ℕ)) (before text : List ℕ) : Type 0 where
    pub index : ℕ
    pub file_is : file ≡ number + index
    pub text_is : text_of_file es before (suc index) ≡ some text

  source_found : (number : ℕ) (name : List ℕ) (es : List (List ℕ × List ℕ)) (before : List ℕ) (source : ℕ × List ℕ) → source_from number name es ≡ Some source → IsSource number source.0 es before source.1
  unfolding source_from
  source_found number name [] before source e = absurd cc
  source_found number name (x ∷ es) before source e =
      elim (bytes_eq name x.0) as (λ v. cond v (Some (number, x.1)) (source_from (number + 1) name es) ≡ Some source → IsSource number source.0 (x ∷ es) before source.1) [
        | true ↦ λ here. record { index = 0; file_is = found_number number x.1 source here; text_is = ap some (found_text number x.1 source here) }
        | false ↦ λ later.
            let s : IsSource (number + 1) source.0 es x.1 source.1 = source_found (number + 1) name es x.1 source later in
            record { index = suc s.index; file_is = omega (arith, s.file_is); text_is = s.text_is }
      ] e

  -- what an include opens is there, and its reading comes next
  pub record IsThere (n : Count) (o : Opening) : Type 0 where
    pub source : text_of_file sources main o.reading.file ≡ some o.text
    pub number : o.reading.number ≡ n.readings
    pub count : o.count.readings ≡ n.readings + 1

  opened_there : (n : Count) (name : List ℕ) (o : Opening) → IsOpened n (source_from 1 name sources) o → IsThere n o
  opened_there n name o is =
      let found : IsSource 1 is.source.0 sources main is.source.1 = source_found 1 name sources main is.source is.found_is in
      let index : suc found.index ≡ is.source.0 = omega (arith, found.file_is) in
      let text : text_of_file sources main is.source.0 ≡ some is.source.1 = ap (text_of_file sources main) (sym index) ∙ found.text_is in
      subst (IsThere n) (sym is.opened_is) (record { source = text; number = refl; count = refl })

  abbrev AreOrderedBy : (Reading → List ℕ → Count → List WordData → Count → Type 0) → Type 0
  AreOrderedBy deeper = (r : Reading) (text : List ℕ) (n m : Count) (ws : List WordData) → text_of_file sources main r.file ≡ some text → r.number < n.readings → deeper r text n ws m → AreOrdered (IsFrom r 0 n m) n m ws

  -- the words of another reading lie between what was read before and behind it
  from_within : (r q : Reading) (at end : ℕ) (n c m : Count) (w : WordData) → q.number ≡ n.readings → c.readings ≡ n.readings + 1 → c.readings ≤ m.readings → IsFrom q 0 c m w → IsWithin r at end n m w
  from_within r q at end n c m w number count more (inl own) = inr (omega (arith, own.0), omega (arith, own.0))
  from_within r q at end n c m w number count more (inr later) = inr (omega (arith, later.0), later.1)

  module _ (deeper : Reading → List ℕ → Count → List WordData → Count → Type 0) (ordered : AreOrderedBy deeper) (s : Setting) (same : s.sources ≡ sources) where
    include_ordered : (at end : ℕ) (n m : Count) (o : Result (Option Opening) PolicyFault) (ws : List WordData)
        → ((x : Opening) → o ≡ Ok (Some x) → IsThere n x) → IncludeGives deeper n o ws m → AreOrdered (IsWithin s.reading at end n m) n m ws
    include_ordered at end n m (Ok None) ws there g =
        let none : AreOrdered (IsWithin s.reading at end n n) n n [] = no_word_ordered (IsWithin s.reading at end n n) n in
        let counted : AreOrdered (IsWithin s.reading at end n m) n m [] = subst (λ (c : Count). AreOrdered (IsWithin s.reading at end n c) n c []) (sym g.1) none in
        subst (AreOrdered (IsWithin s.reading at end n m) n m) (sym g.0) counted
    include_ordered at end n m (Ok (Some o)) ws there g =
        let here : IsThere n o = there o refl in
        let inner : AreOrdered (IsFrom o.reading 0 o.count m) o.count m ws = ordered o.reading o.text o.count m ws here.source (omega (arith, here.number, here.count)) g in
        record {
          stand = inner.stand;
          placed = λ k d h. from_within s.reading o.reading at end n o.count m (slice_index_or ws k d) here.number here.count inner.more (inner.placed k d h);
          rise = inner.rise;
          more = omega (arith, here.count, inner.more);
        }
    include_ordered at end n m (Err fault) ws there g = absurd g

    piece_ordered : (front text more : List ℕ) (kind : Piece) (n m : Count) (b : Bool) (ws : List WordData) → text_of_file sources main s.reading.file ≡ some (front ++ (text ++ more)) → 0 < length text
        → PieceGives deeper s (length front) kind text n b ws m → AreOrdered (IsWithin s.reading (length front) (length front + length text) n m) n m ws
    piece_ordered front text more kind n m true ws source long g =
        include_ordered (length front) (length front + length text) n m (include_opens s (length front) text n) ws
        (λ x e. opened_there n (included_name text) x
        (subst (λ (all : List (List ℕ × List ℕ)). IsOpened n (source_from 1 (included_name text) all) x) same
        (opens_source s.depth _ (is_optional text) n (source_from 1 (included_name text) s.sources) x e))) g
    piece_ordered front text more kind n m false ws source long g =
        let end : ℕ = length front + length text in
        let own : AreOrdered (IsWithin s.reading (length front) end n n) n n (word_of s.reading (length front) kind text) = words_ordered s.reading front text more (is_in_quotes kind) (kind_of kind) n source long (quotable kind) in
        let counted : AreOrdered (IsWithin s.reading (length front) end n m) n m (word_of s.reading (length front) kind text) = subst
        (λ (c : Count). AreOrdered (IsWithin s.reading (length front) end n c) n c (word_of s.reading (length front) kind text)) (sym g.1) own in
        subst (AreOrdered (IsWithin s.reading (length front) end n m) n m) (sym g.0) counted

    behind : (at end : ℕ) (n k m : Count) (v w : WordData) → s.reading.number < n.readings → IsWithin s.reading at end n k v → IsFrom s.reading end k m w → n.readings ≤ k.readings → IsBehind v w
    behind at end n k m v w first (inl a) (inl b) more e = omega (arith, a.2, b.1)
    behind at end n k m v w first (inl a) (inr b) more e = absurd (omega (arith, a.0, b.0, e))
    behind at end n k m v w first (inr a) (inl b) more e = absurd (omega (arith, a.0, b.0, e))
    behind at end n k m v w first (inr a) (inr b) more e = absurd (omega (arith, a.1, b.0, e))

    within_from : (at end : ℕ) (n k m : Count) (w : WordData) → k.readings ≤ m.readings → IsWithin s.reading at end n k w → IsFrom s.reading at n m w
    within_from at end n k m w more (inl a) = inl (a.0, a.1)
    within_from at end n k m w more (inr a) = inr (a.0, omega (arith, a.1))

    later_from : (at end : ℕ) (n k m : Count) (w : WordData) → at ≤ end → n.readings ≤ k.readings → IsFrom s.reading end k m w → IsFrom s.reading at n m w
    later_from at end n k m w le more (inl a) = inl (a.0, omega (arith, a.1))
    later_from at end n k m w le more (inr a) = inr (omega (arith, a.0), a.1)

    gives_ordered : (place : Place) (front : List ℕ) (ps : List Part) (n m : Count) (ws : List WordData) → text_of_file sources main s.reading.file ≡ some (front ++ spelled ps) → s.reading.number < n.readings → AreParts place ps
        → Gives deeper s (length front) ps n ws m → AreOrdered (IsFrom s.reading (length front) n m) n m ws
    gives_ordered place front [] n m ws source number parts g =
        let none : AreOrdered (IsFrom s.reading (length front) n n) n n [] = no_word_ordered (IsFrom s.reading (length front) n n) n in
        let counted : AreOrdered (IsFrom s.reading (length front) n m) n m [] = subst (λ (c : Count). AreOrdered (IsFrom s.reading (length front) n c) n c []) (sym g.1) none in
        subst (AreOrdered (IsFrom s.reading (length front) n m) n m) (sym g.0) counted
    gives_ordered place front (p ∷ ps) n m ws source number parts g =
        let at : ℕ = length front in
        let end : ℕ = at + length p.text in
        let long : 0 < length p.text = part_long place p (spelled ps) parts.0 in
        let first : AreOrdered (IsWithin s.reading at end n g.1) n g.1 g.0 = piece_ordered front p.text (spelled ps) p.kind n g.1 (is_include p.kind) g.0 source long g.3 in
        let next : Gives deeper s (length (front ++ p.text)) ps g.1 g.2 m = subst (λ (i : ℕ). Gives deeper s i ps g.1 g.2 m) (sym (length-append front p.text)) g.4 in
        let rest : AreOrdered (IsFrom s.reading (length (front ++ p.text)) g.1 m) g.1 m g.2 =
        gives_ordered (place_after place p.kind p.text) (front ++ p.text) ps g.1 m g.2 (source ∙ ap some (sym (append_assoc front p.text (spelled ps)))) (omega (arith, first.more)) parts.1 next in
        let others : AreOrdered (IsFrom s.reading end g.1 m) g.1 m g.2 = subst (λ (i : ℕ). AreOrdered (IsFrom s.reading i g.1 m) g.1 m g.2) (length-append front p.text) rest in
        let all : AreOrdered (IsFrom s.reading at n m) n m (g.0 ++ g.2) = record {
          stand = All-append (StandsIn sources main) g.0 g.2 first.stand others.stand;
          placed = All-append (IsFrom s.reading at n m) g.0 g.2
              (λ k d h. within_from at end n g.1 m (slice_index_or g.0 k d) others.more (first.placed k d h))
              (λ k d h. later_from at end n g.1 m (slice_index_or g.2 k d) (omega arith) first.more (others.placed k d h));
          rise = rise_append g.0 g.2 first.rise others.rise (λ k d h i e l. behind at end n g.1 m (slice_index_or g.0 k d) (slice_index_or g.2 i e) number (first.placed k d h) (others.placed i e l) first.more);
          more = omega (arith, first.more, others.more);
        } in
        subst (AreOrdered (IsFrom s.reading at n m) n m) (sym g.5) all

  reads_ordered : (d : ℕ) → AreOrderedBy (Reads d sources)
  unfolding Reads
  reads_ordered zero r text n m ws source number g = absurd g
  reads_ordered (suc d) r text n m ws source number g =
      let s : Setting = record { sources = sources; depth = d; reading = r } in
      gives_ordered (Reads d sources) (reads_ordered d) s refl start [] g.0 n m ws (source ∙ ap some g.1) number g.2 g.3

  -- the words of the main text
  pub words_ordered_in : (d : ℕ) (ws : List WordData) (m : Count) → Reads d sources main_reading main (main_count main) ws m → AreOrdered (IsFrom main_reading 0 (main_count main) m) (main_count main) m ws
  words_ordered_in d ws m g = reads_ordered d main_reading main (main_count main) m ws refl (omega arith) g
