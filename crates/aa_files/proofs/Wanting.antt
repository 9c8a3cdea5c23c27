-- What the includes of a text want, one by one.
use Rattle.std.proofs.Common.{◌≡◌, ℕ, zero, suc, ◌-◌, ◌<◌, ◌==◌, Bool, true, false, cond, List, [], ◌∷◌, length, take, get_or, map, All, Option, Some, None, refl, sym, ap, subst, ◌∙◌, arith}
use Rattle.std.specs.Prelude.{slice_get}
use Rattle.std.proofs.lemmas.Bool.Decides.{Decides-eqb}
use Rattle.std.proofs.lemmas.List.{take-map}
use Rattle.std.proofs.lemmas.List.Elements.{All-map}
use Rattle.aa_words.specs.Found.{IncludeData}
use Rattle.aa_files.specs.declared.unit.Source.{Source}
use Rattle.aa_files.specs.declared.unit.Unit as unit
use Rattle.aa_files.specs.declared.walk.Wanted.{Wanted}
use Rattle.aa_files.specs.Files.{Files}
use Rattle.aa_files.specs.Numbers.{text_or}
use Rattle.aa_files.specs.Nodes.{text_of_node}
use Rattle.aa_files.specs.Walks.{Entry, Asked, asked_by, Asks, IsLookedUp, walked_texts}
use Rattle.aa_files.specs.WalkData.{asked, wanted_data, wants, AreWanted}

module _ (folders : List (List ℕ)) where
  asked_alike : (ws : List Wanted) (is : List IncludeData) → map wanted_data ws ≡ map (wants folders) is → map asked ws ≡ map (asked_by folders) is
  asked_alike [] [] e = refl
  asked_alike [] (i ∷ is) e = cc
  asked_alike (w ∷ ws) [] e = cc
  asked_alike (w ∷ ws) (i ∷ is) e =
      let here : wanted_data w ≡ wants folders i = cc in
      let later : map wanted_data ws ≡ map (wants folders) is = cc in
      ap (λ (p : ℕ × Asked). p.1 ∷ map asked ws) here ∙ ap (λ (asks : List Asked). asked_by folders i ∷ asks) (asked_alike ws is later)

  pub asks_of : (text : List ℕ) (ws : List Wanted) → AreWanted folders text ws → Asks folders text (map asked ws)
  asks_of text ws h = record { includes = h.includes; of_text = h.of_text; each = asked_alike ws h.includes h.each }

  -- what is wanted at a place is wanted by the include there
  pub wanted_of : (ws : List Wanted) (is : List IncludeData) (n : ℕ) (w : Wanted) → map wanted_data ws ≡ map (wants folders) is → n < length ws
      → w ≡ get_or ws n w → (i : IncludeData) × (slice_get is n ≡ Some i) × (wanted_data w ≡ wants folders i)
  wanted_of [] is n w e lt at = absurd (omega (arith, lt))
  wanted_of (v ∷ ws) [] n w e lt at = cc
  wanted_of (v ∷ ws) (i ∷ is) zero w e lt at = let here : wanted_data v ≡ wants folders i = cc in (i, refl, ap wanted_data at ∙ here)
  wanted_of (v ∷ ws) (i ∷ is) (suc n) w e lt at =
      let later : map wanted_data ws ≡ map (wants folders) is = cc in
      let within : n < length ws = omega (arith, lt) in
      wanted_of ws is n w later within at

  -- and what is looked up before it are the includes before that
  pub looked_before : (files : Option Files) (sources : List Source) (entries : List Entry) (ws ys : List Wanted) (is : List IncludeData) (n : ℕ) → map wanted_data ws ≡ map (wants folders) is → ys ≡ take n ws
      → All (λ w. IsLookedUp files sources entries (asked w)) ys → All (IsLookedUp files sources entries) (map (asked_by folders) (take n is))
  looked_before files sources entries ws ys is n e y h =
      let same : map asked ys ≡ map (asked_by folders) (take n is) =
      ap (λ (vs : List Wanted). map asked vs) y ∙ sym (take-map asked n ws) ∙ ap (λ (asks : List Asked). take n asks) (asked_alike ws is e) ∙ take-map (asked_by folders) n is in
      subst (λ (asks : List Asked). All (IsLookedUp files sources entries) asks) same (All-map (IsLookedUp files sources entries) asked ys h)

source_text : (main : List ℕ) (ss : List Source) (k : ℕ) → text_or main (slice_get ss k) ≡ get_or (map (λ s. s.text.items) ss) k main
source_text main [] k = refl
source_text main (s ∷ ss) zero = refl
source_text main (s ∷ ss) (suc k) = source_text main ss k

-- a node's text is the one of that number
pub node_text : (u : unit.Unit) (n : ℕ) → text_of_node u n ≡ get_or (walked_texts u.text.items u.sources.items) n u.text.items
node_text u zero = refl
node_text u (suc k) = by (suc k == 0) (λ e. (Decides-eqb (suc k) 0).0 e)
  where
    by : (b : Bool) → (b ≡ true → suc k ≡ 0) → text_or u.text.items (cond b None (slice_get u.sources.items (suc k - 1))) ≡ get_or (map (λ s. s.text.items) u.sources.items) k u.text.items
    by true h = absurd (omega (arith, h refl))
    by false h =
        let less : suc k - 1 ≡ k = omega arith in
        ap (λ (m : ℕ). text_or u.text.items (slice_get u.sources.items m)) less ∙ source_text u.text.items u.sources.items k
