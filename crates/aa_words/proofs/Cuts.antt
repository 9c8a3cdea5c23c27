-- How far a text is read.
use Rattle.std.proofs.Common.{◌≡◌, ℕ, ◌+◌, ◌<◌, ◌≤◌, List, [], ◌∷◌, ◌++◌, length, take, drop, Some, refl, sym, ap, subst, ◌∙◌, arith, append_assoc}
use Rattle.std.proofs.lemmas.List.{take-append-drop, length-take-le, append-nil, length-append}
use Rattle.aa_words.specs.declared.piece.Piece.{Piece}
use Rattle.aa_words.specs.declared.piece.Place.{Place}
use Rattle.aa_words.specs.declared.reading.Reading.{Reading}
use Rattle.aa_words.specs.declared.reading.Count.{Count}
use Rattle.aa_words.specs.Splits.{start, extent, WordData, Part, spelled, IsPart, AreParts, piece_at, place_after, Setting, PartGives, Gives, ReadsBy}
use Rattle.aa_words.specs.Stops.{LeadTo, ReadTo}
use Rattle.aa_words.proofs.Pieces.{extent_le}

-- one piece more
pub spelled_more : (ps : List Part) (p : Part) (rest : List ℕ) → spelled (ps ++ p ∷ []) ++ rest ≡ spelled ps ++ (p.text ++ rest)
spelled_more [] p rest = rw append-nil refl
spelled_more (q ∷ qs) p rest = append_assoc q.text (spelled (qs ++ p ∷ [])) rest ∙ ap (λ (t : List ℕ). q.text ++ t) (spelled_more qs p rest) ∙ sym (append_assoc q.text (spelled qs) (p.text ++ rest))

pub length_more : (ps : List Part) (p : Part) → length (spelled (ps ++ p ∷ [])) ≡ length (spelled ps) + length p.text
length_more ps p = let e : spelled (ps ++ p ∷ []) ++ [] ≡ spelled ps ++ (p.text ++ []) = spelled_more ps p [] in omega
    (arith, ap length e, length-append (spelled (ps ++ p ∷ [])) [], length-append (spelled ps) (p.text ++ []), length-append p.text [])

pub lead_more : (from place : Place) (ps : List Part) (p : Part) (rest : List ℕ) → LeadTo from ps (p.text ++ rest) place → IsPart place p rest → LeadTo from (ps ++ p ∷ []) rest (place_after place p.kind p.text)
lead_more from place [] p rest e part = (subst (λ (q : Place). IsPart q p rest) (sym e) part, ap (λ (q : Place). place_after q p.kind p.text) e)
lead_more from place (q ∷ qs) p rest leads part =
    (subst (λ (t : List ℕ). IsPart from q t) (sym (spelled_more qs p rest)) leads.0, lead_more (place_after from q.kind q.text) place qs p rest leads.1 part)

lead_parts : (from place : Place) (ps : List Part) → LeadTo from ps [] place → AreParts from ps
lead_parts from place [] leads = tt
lead_parts from place (p ∷ ps) leads = (subst (λ (t : List ℕ). IsPart from p t) (append-nil (spelled ps)) leads.0, lead_parts (place_after from p.kind p.text) place ps leads.1)

module _ (deeper : Reading → List ℕ → Count → List WordData → Count → Type 0) (s : Setting) where
  gives_more : (at : ℕ) (ps : List Part) (p : Part) (n k m : Count) (ws first : List WordData) → Gives deeper s at ps n ws k
      → PartGives deeper s (at + length (spelled ps)) p k first m → Gives deeper s at (ps ++ p ∷ []) n (ws ++ first) m
  gives_more at [] p n k m ws first g part =
      let here : at + length (spelled []) ≡ at = omega arith in
      let placed : PartGives deeper s at p k first m = subst (λ (i : ℕ). PartGives deeper s i p k first m) here part in
      let counted : PartGives deeper s at p n first m = subst (λ (c : Count). PartGives deeper s at p c first m) g.1 placed in
      (first, m, [], counted, (refl, refl), ap (λ (w : List WordData). w ++ first) g.0 ∙ sym (append-nil first))
  gives_more at (q ∷ qs) p n k m ws first g part =
      let behind : at + length (spelled (q ∷ qs)) ≡ at + length q.text + length (spelled qs) = omega (arith, length-append q.text (spelled qs)) in
      let placed : PartGives deeper s (at + length q.text + length (spelled qs)) p k first m = subst (λ (i : ℕ). PartGives deeper s i p k first m) behind part in
      (g.0, g.1, g.2 ++ first, g.3, gives_more (at + length q.text) qs p g.1 k m g.2 first g.4 placed, ap (λ (w : List WordData). w ++ first) g.5 ∙ append_assoc g.0 g.2 first)

  pub read_start : (text : List ℕ) (n : Count) → ReadTo deeper s text n start 0 text [] n
  read_start text n = record { parts = []; whole = refl; leads = refl; place_is = refl; gives = (refl, refl) }

  read_more : (text : List ℕ) (n : Count) (place : Place) (at : ℕ) (p : Part) (rest after : List ℕ) (found first : List WordData) (k m : Count)
      → rest ≡ p.text ++ after → IsPart place p after → PartGives deeper s at p k first m
      → ReadTo deeper s text n place at rest found k → ReadTo deeper s text n (place_after place p.kind p.text) (at + length p.text) after (found ++ first) m
  read_more text n place at p rest after found first k m e part gives read =
      let placed : PartGives deeper s (0 + length (spelled read.parts)) p k first m = subst (λ (i : ℕ). PartGives deeper s i p k first m) (omega (arith, read.place_is)) gives in
      record {
        parts = read.parts ++ p ∷ [];
        whole = read.whole ∙ ap (λ (t : List ℕ). spelled read.parts ++ t) e ∙ sym (spelled_more read.parts p after);
        leads = lead_more start place read.parts p after (subst (λ (t : List ℕ). LeadTo start read.parts t place) e read.leads) part;
        place_is = omega (arith, read.place_is, length_more read.parts p);
        gives = gives_more 0 read.parts p n k m found first read.gives placed;
      }

  -- the same, as the code names the parts
  pub read_step : (source : List ℕ) (n : Count) (place : Place) (at : ℕ) (rest : List ℕ) (kind : Piece) (len : ℕ) (text after : List ℕ) (found first found' : List WordData) (k m : Count) (place' : Place)
      → piece_at place rest ≡ Some kind → len ≡ extent kind rest → 0 < length rest → text ≡ take len rest → after ≡ drop len rest → found' ≡ found ++ first → place' ≡ place_after place kind text
      → PartGives deeper s at (record { kind = kind; text = text }) k first m
      → ReadTo deeper s source n place at rest found k → ReadTo deeper s source n place' (at + len) after found' m
  read_step source n place at rest kind len text after found first found' k m place' e len-is h text-is after-is found-is place-is gives read =
      let p : Part = record { kind = kind; text = text } in
      let whole : rest ≡ text ++ after = sym (take-append-drop len rest) ∙ ap (λ (t : List ℕ). t ++ drop len rest) (sym text-is) ∙ ap (λ (t : List ℕ). text ++ t) (sym after-is) in
      let le : len ≤ length rest = omega (arith, extent_le kind rest h) in
      let long : length text ≡ len = ap length text-is ∙ length-take-le len rest le in
      let part : IsPart place p after = record { stands = ap (piece_at place) (sym whole) ∙ e; long = long ∙ len-is ∙ ap (extent kind) whole } in
      let more : ReadTo deeper s source n (place_after place kind text) (at + length text) after (found ++ first) m = read_more source n place at p rest after found first k m whole part gives read in
      let placed : ReadTo deeper s source n place' (at + length text) after (found ++ first) m = subst (λ (q : Place). ReadTo deeper s source n q (at + length text) after (found ++ first) m) (sym place-is) more in
      let counted : ReadTo deeper s source n place' (at + len) after (found ++ first) m = subst (λ (i : ℕ). ReadTo deeper s source n place' (at + i) after (found ++ first) m) long placed in
      subst (λ (w : List WordData). ReadTo deeper s source n place' (at + len) after w m) (sym found-is) counted

  pub read_end : (text : List ℕ) (n : Count) (place : Place) (at : ℕ) (rest : List ℕ) (found : List WordData) (k : Count) → length rest < 1 → ReadTo deeper s text n place at rest found k → ReadsBy deeper s text n found k
  read_end text n place at [] found k h read = (read.parts, read.whole ∙ append-nil (spelled read.parts), lead_parts start place read.parts read.leads, read.gives)
  read_end text n place at (b ∷ bs) found k h read = absurd (omega arith)
