-- Who shut a lane stays known at each step.
use Rattle.std.proofs.Common.{◌≡◌, ℕ, ◌||◌, inl, inr, is_some, Bool, true, false, List, set, sym, ◌∙◌, slice_set}
use mathlib.Core.Option.{Option, some}
use lib.ListN.{get_elem?}
use Rattle.aa_lane.specs.WorldState.{WorldState}
use Rattle.aa_lane.specs.declared.cells.Who.{Who}
use Rattle.aa_lane.specs.declared.cells.Who.TheVariants.{ByOwner, ByServer, ByShutter}
use Rattle.aa_lane.specs.Shows.{ShutBy, Seats, role}
use Rattle.aa_lane.specs.declared.cells.Cell.{Cell}
use Rattle.aa_lane.specs.declared.cells.View.{View}
use Rattle.aa_lane.proofs.Rows.{each_set, or_cases, or_left, or_right}

module _ {M S Q A : Type 0} where
  -- what an owner's seat noted of its leaving is what some seat had noted before, or more
  abbrev pub OwnerFrom : List (View M S Q A) → View M S Q A → Type 0
  OwnerFrom views o = o.owns ≡ true → (i : ℕ) × (x : View M S Q A) × (get_elem? views i ≡ some x) × (x.owns ≡ true) × (x.owner.left ≡ true → o.owner.left ≡ true) × (o.owner.closed ≡ true → x.owner.closed ≡ true)

  -- the same of a shutter's count
  abbrev pub ShutterFrom : List (View M S Q A) → View M S Q A → Type 0
  ShutterFrom views u = u.shuts ≡ true → (i : ℕ) × (x : View M S Q A) × (get_elem? views i ≡ some x) × (x.shuts ≡ true) × (is_some x.shutter.count ≡ true → is_some u.shutter.count ≡ true)

  pub keep_shut_by : (views views' : List (View M S Q A)) (b : Bool)
      → ((j : ℕ) (o : View M S Q A) → get_elem? views' j ≡ some o → OwnerFrom views o)
      → ((k : ℕ) (u : View M S Q A) → get_elem? views' k ≡ some u → ShutterFrom views u)
      → ShutBy views b → ShutBy views' b
  keep_shut_by views views' b owner shutter old = record {
    either = λ is j k o u at_o owns at_u shuts.
        let p = owner j o at_o owns in
        let q = shutter k u at_u shuts in
        let was : (p.1.owner.left || is_some q.1.shutter.count) ≡ true = old.either is p.0 q.0 p.1 q.1 p.2 p.3 q.2 q.3 in
        elim (or_cases p.1.owner.left (is_some q.1.shutter.count) was) [
          | inl e ↦ or_left o.owner.left (is_some u.shutter.count) (p.4 e)
          | inr e ↦ or_right o.owner.left (is_some u.shutter.count) (q.4 e)
        ];
    closed = λ j k o u at_o owns at_u shuts told.
        let p = owner j o at_o owns in
        let q = shutter k u at_u shuts in
        q.4 (old.closed p.0 q.0 p.1 q.1 p.2 p.3 q.2 q.3 (p.5 told));
  }

  -- a seat steps, and knows no less of who shut the lane
  pub step_shut_by : (views : List (View M S Q A)) (id : ℕ) (v v' : View M S Q A) (b : Bool) → get_elem? views id ≡ some v
      → (v'.owns ≡ true → v.owns ≡ true) → (v'.shuts ≡ true → v.shuts ≡ true)
      → (v.owner.left ≡ true → v'.owner.left ≡ true) → (is_some v.shutter.count ≡ true → is_some v'.shutter.count ≡ true)
      → (v'.owner.closed ≡ true → v.owner.closed ≡ true)
      → ShutBy views b → ShutBy (slice_set views id v') b
  step_shut_by views id v v' b at owns shuts left count closed =
      keep_shut_by views (set views id v') b
      (each_set (λ _ o. OwnerFrom views o) views id v' (λ o. (id, v, at, owns o, left, closed)) (λ j x ne there o. (j, x, there, o, λ e. e, λ e. e)))
      (each_set (λ _ u. ShutterFrom views u) views id v' (λ o. (id, v, at, shuts o, count)) (λ j x ne there o. (j, x, there, o, λ e. e)))

  -- the seat noted that it shut the lane
  abbrev pub NotedBy : Who → View M S Q A → Type 0
  NotedBy ByOwner v = v.owner.left ≡ true
  NotedBy ByServer v = ⊥
  NotedBy ByShutter v = is_some v.shutter.count ≡ true

  -- the seat that steps shuts the lane
  pub self_shut_by : (views : List (View M S Q A)) (seat : Who → ℕ) (hs : List (Option (Cell M S Q A))) (w : WorldState M S Q A) (who : Who) (id : ℕ) (v v' : View M S Q A)
      → Seats views seat hs w → get_elem? views id ≡ some v → role who v ≡ true → NotedBy who v' → (b : Bool) → ShutBy (slice_set views id v') b → ShutBy (slice_set views id v') true
  self_shut_by views seat hs w ByOwner id v v' seats at is noted b old = record {
    either = λ _ j k o u at_o owns at_u shuts.
        let all : (i : ℕ) (x : View M S Q A) → get_elem? (set views id v') i ≡ some x → x.owns ≡ true → x.owner.left ≡ true =
        each_set (λ _ x. x.owns ≡ true → x.owner.left ≡ true) views id v' (λ _. noted) (λ i x ne there o. absurd (ne ((seats ByOwner i x there o).0 ∙ sym (seats ByOwner id v at is).0))) in
        or_left o.owner.left (is_some u.shutter.count) (all j o at_o owns);
    closed = old.closed;
  }
  self_shut_by views seat hs w ByServer id v v' seats at is noted b old = absurd noted
  self_shut_by views seat hs w ByShutter id v v' seats at is noted b old = record {
    either = λ _ j k o u at_o owns at_u shuts.
        let all : (i : ℕ) (x : View M S Q A) → get_elem? (set views id v') i ≡ some x → x.shuts ≡ true → is_some x.shutter.count ≡ true =
        each_set (λ _ x. x.shuts ≡ true → is_some x.shutter.count ≡ true) views id v' (λ _. noted) (λ i x ne there o. absurd (ne ((seats ByShutter i x there o).0 ∙ sym (seats ByShutter id v at is).0))) in
        or_right o.owner.left (is_some u.shutter.count) (all k u at_u shuts);
    closed = old.closed;
  }

  -- an owner that is still there is told that the lane is shut: its shutter has a count
  pub told_shut_by : (views : List (View M S Q A)) (seat : Who → ℕ) (hs : List (Option (Cell M S Q A))) (w : WorldState M S Q A) (id : ℕ) (v v' : View M S Q A)
      → Seats views seat hs w → get_elem? views id ≡ some v → v.owns ≡ true → w.shut ≡ true
      → (v'.shuts ≡ true → v.shuts ≡ true) → (is_some v.shutter.count ≡ true → is_some v'.shutter.count ≡ true)
      → v.owner.left ≡ false → ShutBy views w.shut → ShutBy (slice_set views id v') w.shut
  told_shut_by views seat hs w id v v' seats at is shut shuts count stayed old =
      let has : (k : ℕ) (u : View M S Q A) → get_elem? (set views id v') k ≡ some u → u.shuts ≡ true → is_some u.shutter.count ≡ true =
      let before : (k : ℕ) (u : View M S Q A) → get_elem? views k ≡ some u → u.shuts ≡ true → is_some u.shutter.count ≡ true = λ k u there s.
      elim (or_cases v.owner.left (is_some u.shutter.count) (old.either shut id k v u at is there s)) [ inl e ↦ let z : false ≡ true = sym stayed ∙ e in cc | inr e ↦ e ] in
      each_set (λ _ u. u.shuts ≡ true → is_some u.shutter.count ≡ true) views id v' (λ s. count (before id v at (shuts s))) (λ k u ne there s. before k u there s) in
      record {
        either = λ _ j k o u at_o owns at_u s. or_right o.owner.left (is_some u.shutter.count) (has k u at_u s);
        closed = λ j k o u at_o owns at_u s told. has k u at_u s;
      }
