-- The includes of a text, piece by piece.
use Rattle.std.proofs.Common.{◌≡◌, ◌⊎◌, inl, inr, ℕ, ◌+◌, ◌<◌, ◌≤◌, List, [], ◌∷◌, ◌++◌, length, take, drop, Option, Some}
use Rattle.std.proofs.Common.{None, refl, sym, ap, subst, ◌∙◌, arith, append_assoc, length-append, cond}
use Rattle.std.proofs.lemmas.List.{append-nil, take-append-drop, length-take-le}
use Rattle.aa_words.specs.declared.piece.Piece.{Piece}
use Rattle.aa_words.specs.declared.piece.Place.{Place}
use Rattle.aa_words.specs.Splits.{start, extent, Part, spelled, IsPart, piece_at, place_after, is_include}
use Rattle.aa_words.specs.Stops.{LeadTo}
use Rattle.aa_words.specs.Found.{IncludeData, include_from, includes_from, HasIncludesTo, HasIncludes}
use Rattle.aa_words.proofs.Pieces.{extent_le}
use Rattle.aa_words.proofs.Cuts.{spelled_more, length_more, lead_more}

includes_more : (at : ℕ) (ps : List Part) (p : Part) → includes_from at (ps ++ p ∷ []) ≡ includes_from at ps ++ include_from (at + length (spelled ps)) p
includes_more at [] p = let here : at + length (spelled []) ≡ at = omega arith in rw here (append-nil (include_from at p))
includes_more at (q ∷ qs) p =
    let behind : at + length (spelled (q ∷ qs)) ≡ at + length q.text + length (spelled qs) = omega (arith, length-append q.text (spelled qs)) in
    rw behind
    (ap (λ (w : List IncludeData). include_from at q ++ w) (includes_more (at + length q.text) qs p)
    ∙ sym (append_assoc (include_from at q) (includes_from (at + length q.text) qs) (include_from (at + length q.text + length (spelled qs)) p)))

pub found_start : (text : List ℕ) → HasIncludesTo text start 0 text []
found_start text = record { parts = []; whole = refl; leads = refl; place_is = refl; includes = refl }

found_more : (text : List ℕ) (place : Place) (at : ℕ) (p : Part) (rest after : List ℕ) (found : List IncludeData) → rest ≡ p.text ++ after → IsPart place p after
    → HasIncludesTo text place at rest found → HasIncludesTo text (place_after place p.kind p.text) (at + length p.text) after (found ++ include_from at p)
found_more text place at p rest after found e part cut =
    let here : at ≡ 0 + length (spelled cut.parts) = omega (arith, cut.place_is) in
    record {
      parts = cut.parts ++ p ∷ [];
      whole = cut.whole ∙ ap (λ (t : List ℕ). spelled cut.parts ++ t) e ∙ sym (spelled_more cut.parts p after);
      leads = lead_more start place cut.parts p after (subst (λ (t : List ℕ). LeadTo start cut.parts t place) e cut.leads) part;
      place_is = omega (arith, cut.place_is, length_more cut.parts p);
      includes = ap (λ (w : List IncludeData). w ++ include_from at p) cut.includes ∙ ap (λ (i : ℕ). includes_from 0 cut.parts ++ include_from i p) here ∙ sym (includes_more 0 cut.parts p);
    }

-- the same, as the code names the parts
pub found_step : (source : List ℕ) (place : Place) (at : ℕ) (rest : List ℕ) (kind : Piece) (len : ℕ) (text after : List ℕ) (found found' : List IncludeData) (place' : Place)
    → piece_at place rest ≡ Some kind → len ≡ extent kind rest → 0 < length rest → text ≡ take len rest → after ≡ drop len rest
    → found' ≡ found ++ include_from at (record { kind = kind; text = text }) → place' ≡ place_after place kind text
    → HasIncludesTo source place at rest found → HasIncludesTo source place' (at + len) after found'
found_step source place at rest kind len text after found found' place' e len-is h text-is after-is found-is place-is cut =
    let p : Part = record { kind = kind; text = text } in
    let whole : rest ≡ text ++ after = sym (take-append-drop len rest) ∙ ap (λ (t : List ℕ). t ++ drop len rest) (sym text-is) ∙ ap (λ (t : List ℕ). text ++ t) (sym after-is) in
    let le : len ≤ length rest = omega (arith, extent_le kind rest h) in
    let long : length text ≡ len = ap length text-is ∙ length-take-le len rest le in
    let part : IsPart place p after = record { stands = ap (piece_at place) (sym whole) ∙ e; long = long ∙ len-is ∙ ap (extent kind) whole } in
    let more : HasIncludesTo source (place_after place kind text) (at + length text) after (found ++ include_from at p) = found_more source place at p rest after found whole part cut in
    let placed : HasIncludesTo source place' (at + length text) after (found ++ include_from at p) = subst (λ (q : Place). HasIncludesTo source q (at + length text) after (found ++ include_from at p)) (sym place-is) more in
    let counted : HasIncludesTo source place' (at + len) after (found ++ include_from at p) = subst (λ (i : ℕ). HasIncludesTo source place' (at + i) after (found ++ include_from at p)) long placed in
    subst (λ (w : List IncludeData). HasIncludesTo source place' (at + len) after w) (sym found-is) counted

pub found_breaks : (source : List ℕ) (place : Place) (at : ℕ) (rest : List ℕ) (found : List IncludeData) → piece_at place rest ≡ None → HasIncludesTo source place at rest found → HasIncludes source found
found_breaks source place at rest found none cut = record { place = place; at = at; rest = rest; cut = cut; breaks = inr none }

pub found_all : (source : List ℕ) (place : Place) (at : ℕ) (rest : List ℕ) (found : List IncludeData) → length rest < 1 → HasIncludesTo source place at rest found → HasIncludes source found
found_all source place at [] found h cut = record { place = place; at = at; rest = []; cut = cut; breaks = inl refl }
found_all source place at (b ∷ bs) found h cut = absurd (omega arith)
