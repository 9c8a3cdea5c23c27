-- From an arrival back to where the task begins, as it is told.
use Rattle.std.proofs.Common.{◌≡◌, ℕ, ◌+◌, ◌<◌, ◌≤◌, List, [], ◌∷◌, ◌++◌, Bool, Option, Some, length, map, reverse, get_or}
use Rattle.std.proofs.Common.{refl, sym, ap, ◌∙◌, subst, arith, ⊎_elim, append_assoc}
use Rattle.std.specs.List.{slice_get}
use Rattle.std.proofs.lemmas.Bool.{cases_lt}
use Rattle.std.proofs.lemmas.Option.{slice_get_within, slice_get-get_or, get_or_from_slice_get, same_Some}
use Rattle.std.proofs.lemmas.List.{map-append, reverse-append, length_push, get_or_append_left, get_or_push}
use Rattle.aa_model.specs.declared.policy.Policy.{Policy}
use Rattle.aa_model.specs.declared.label.Label.{Label}
use Rattle.aa_model.specs.declared.request.Request.{Request}
use Rattle.aa_reachability.specs.declared.trail.Arrival.{Arrival}
use Rattle.aa_reachability.specs.Moves.{label_going}
use Rattle.aa_reachability.specs.Reach.{led_by}
use Rattle.aa_reach.specs.declared.routes.Turn.{Turn}
use Rattle.aa_reach.specs.Routes.{Turned, turned, plain, turn_by, turns_by, IsLast}

map_back : (turns : List Turn) → map turned (reverse turns) ≡ reverse (map turned turns)
map_back [] = refl
map_back (t ∷ turns) =
    ap (λ (ts : List Turn). map turned ts) (reverse-append (t ∷ []) turns) ∙ map-append turned (reverse turns) (t ∷ [])
    ∙ ap (λ (ts : List Turned). ts ++ turned t ∷ []) (map_back turns) ∙ sym (reverse-append (turned t ∷ []) (map turned turns))

-- the last requests of the first n arrivals
pub record AreFirstLasts (ps : List Policy) (arrivals : List Arrival) (n : ℕ) (lasts : List Turn) : Type 0 where
  pub many : length lasts ≡ n
  pub each : (i : ℕ) (a : Arrival) (t : Turn) → slice_get arrivals i ≡ Some a → slice_get lasts i ≡ Some t → IsLast ps arrivals a.step t

-- one more
pub lasts_more : (ps : List Policy) (arrivals : List Arrival) (n : ℕ) (lasts now : List Turn) (a : Arrival) (t : Turn) → AreFirstLasts ps arrivals n lasts
    → slice_get arrivals n ≡ Some a → IsLast ps arrivals a.step t → now ≡ lasts ++ t ∷ [] → AreFirstLasts ps arrivals (n + 1) now
lasts_more ps arrivals n lasts now a t are there is more =
    subst (AreFirstLasts ps arrivals (n + 1)) (sym more)
    (record {
      many = length_push lasts t ∙ ap (λ m. m + 1) are.many;
      each = λ i b u at has.
          let lt : i < length (lasts ++ t ∷ []) = slice_get_within (lasts ++ t ∷ []) i u has in
          ⊎_elim
          (λ (old : i < length lasts).
          are.each i b u at
          (slice_get-get_or lasts i u old
          ∙ ap Some (sym (get_or_append_left lasts (t ∷ []) u i old) ∙ get_or_from_slice_get (lasts ++ t ∷ []) i u u has)))
          (λ (late : length lasts ≤ i).
          let e : i ≡ n = omega (arith, late, lt, length_push lasts t, are.many) in
          let one : a ≡ b = same_Some a b (sym there ∙ ap (slice_get arrivals) (sym e) ∙ at) in
          let two : t ≡ u =
          sym (get_or_push lasts t u (length lasts) refl) ∙ ap (λ m. get_or (lasts ++ t ∷ []) m u) (omega (arith, are.many, e))
          ∙ get_or_from_slice_get (lasts ++ t ∷ []) i u u has in
          subst (λ (x : Turn). IsLast ps arrivals b.step x) two (subst (λ (x : Arrival). IsLast ps arrivals x.step t) one is))
          (cases_lt i (length lasts));
    })

module _ (enforced : Bool) (ps : List Policy) where
  -- one request more is told where those before it lead
  turns_more : (from : Label) (way : List Request) (r : Request)
      → turns_by enforced ps from (way ++ r ∷ [])
      ≡ turns_by enforced ps from way
      ++ turn_by ps (led_by (label_going enforced ps) from way) (plain ps (led_by (label_going enforced ps) from way) r) ∷ []
  unfolding turns_by
  turns_more from [] r = refl
  turns_more from (q ∷ way) r = ap (λ (ts : List Turned). turn_by ps from (plain ps from q) ∷ ts) (turns_more (label_going enforced ps from q) way r)

  -- a turn is put behind the later ones, which stand last first
  pub turn_back : (from l : Label) (way before : List Request) (r : Request) → way ≡ before ++ r ∷ []
      → led_by (label_going enforced ps) from before ≡ l
      → (whole : List Turned) (later now : List Turn) (t : Turn) → turned t ≡ turn_by ps l (plain ps l r) → now ≡ later ++ t ∷ []
      → whole ≡ turns_by enforced ps from way ++ reverse (map turned later)
      → whole ≡ turns_by enforced ps from before ++ reverse (map turned now)
  turn_back from l way before r is leads whole later now t told more rest =
      let last : Turned = turn_by ps l (plain ps l r) in
      let turns : turns_by enforced ps from way ≡ turns_by enforced ps from before ++ last ∷ [] =
      ap (λ (w : List Request). turns_by enforced ps from w) is ∙ turns_more from before r
      ∙ ap (λ (m : Label). turns_by enforced ps from before ++ turn_by ps m (plain ps m r) ∷ []) leads in
      let back : reverse (map turned now) ≡ last ∷ reverse (map turned later) =
      ap (λ (ts : List Turn). reverse (map turned ts)) more
      ∙ ap (λ (ts : List Turned). reverse ts) (map-append turned later (t ∷ []))
      ∙ reverse-append (map turned later) (turned t ∷ [])
      ∙ ap (λ (x : Turned). x ∷ reverse (map turned later)) told in
      rest ∙ ap (λ (ts : List Turned). ts ++ reverse (map turned later)) turns
      ∙ append_assoc (turns_by enforced ps from before) (last ∷ []) (reverse (map turned later))
      ∙ ap (λ (ts : List Turned). turns_by enforced ps from before ++ ts) (sym back)

  pub turns_whole : (from : Label) (way : List Request) → way ≡ [] → (whole : List Turned) (later : List Turn)
      → whole ≡ turns_by enforced ps from way ++ reverse (map turned later) → map turned (reverse later) ≡ whole
  unfolding turns_by
  turns_whole from way none whole later rest =
      map_back later ∙ sym (rest ∙ ap (λ (w : List Request). turns_by enforced ps from w ++ reverse (map turned later)) none)
