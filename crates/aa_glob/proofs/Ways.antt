-- The steps on the way of a walk.
use Rattle.std.proofs.Common.{◌≡◌, ℕ, zero, suc, ◌+◌, ◌-◌, ◌≤◌, ⊎_elim, max, Bool, false, List, [], ◌∷◌, Bor, Vec, Global, refl, sym, ap, ◌∙◌, subst, inl, inr, arith}
use Rattle.aa_base.specs.declared.fault.PolicyKind.{PolicyKind}
use Rattle.aa_glob.specs.declared.walk.Step.{Step}
use Rattle.aa_glob.specs.Variables.{Variable}
use Rattle.aa_glob.specs.Pieces.{Piece, Use, pieces, pieces_from}
use Rattle.aa_glob.specs.Expansions.{Outcome, Texts, Stops, Deeper, followed, and_then, alone, joined, in_turn, outcome, outcome_of, counted}
use Rattle.aa_glob.specs.Known.{Table, IsKnown, AreKnown, AreTextsKnown}
use Rattle.aa_glob.specs.Ways.{Faults, Passes, items_of, pieces_left, rest_of, IsPart, Calls, OnWay, IsAmong}
use Rattle.aa_glob.proofs.PieceSteps.{part_none}
use Rattle.aa_glob.proofs.Depths.{Below, texts_above, texts_near, piece_up, outcome_below}
use Rattle.aa_glob.proofs.Summaries.{variable_is}

abbrev IsBad : Outcome → Type 0
IsBad (Texts m ts) = ⊥
IsBad (Stops fault) = Unit {0}
IsBad Deeper = Unit {0}

stops_bad : (x : Outcome) (e : PolicyKind) → x ≡ Stops e → IsBad x
stops_bad x e h = subst IsBad (sym h) tt

deeper_bad : (x : Outcome) → x ≡ Deeper → IsBad x
deeper_bad x h = subst IsBad (sym h) tt

-- what stops or goes deeper behind texts does so as a whole
bad_behind : (J K : Outcome) (m : ℕ) (ts : List (List ℕ)) → IsBad (and_then J K) → and_then (followed (Texts m ts) J) K ≡ and_then J K
bad_behind J K m ts b = grind arith

bad_after : (m : ℕ) (ts : List (List ℕ)) (X : Outcome) → IsBad X → and_then (Texts m ts) X ≡ X
bad_after m ts X b = grind arith

bad_within : (m : ℕ) (ts : List (List ℕ)) (X : Outcome) → IsBad (and_then (Texts m ts) X) → and_then (Texts m ts) X ≡ X
bad_within m ts X b = grind arith

-- where the one is bad, so is the other
passes_same : (a b whole : ℕ → Outcome) → ((d : ℕ) → IsBad (a d) → b d ≡ a d) → Passes b whole → Passes a whole
passes_same a b whole same p = grind (arith, stops_bad, deeper_bad)

pub no_pieces : (of : List ℕ → Outcome) (all : List Piece) → all ≡ [] → joined of all ≡ Texts 0 ([] ∷ [])
unfolding joined
no_pieces of all e = ap (joined of) e

pub one_piece : (of : List ℕ → Outcome) (p : Piece) (ps all : List Piece) → all ≡ p ∷ ps → joined of all ≡ followed (alone of p) (joined of ps)
unfolding joined
one_piece of p ps all e = ap (joined of) e

one_value : (of : List ℕ → Outcome) (v : List ℕ) (vs : List (List ℕ)) → in_turn of (v ∷ vs) ≡ and_then (joined of (pieces v)) (in_turn of vs)
unfolding in_turn
one_value of v vs = refl

module _ (vars : List Variable) where
  abbrev values_at : List (Vec ℕ Global) → ℕ → Outcome
  values_at vs d = in_turn (outcome d vars) (items_of vs)

  -- what comes next decides
  next_is : (f : Step) (p : Piece) (behind : List Piece) (d : ℕ) → pieces_left f ≡ p ∷ behind →
      rest_of vars f d ≡ and_then (followed (alone (outcome d vars) p) (joined (outcome d vars) behind)) (values_at f.later.now d)
  next_is f p behind d e = ap (λ x. and_then x (values_at f.later.now d)) (one_piece (outcome d vars) p behind (pieces_left f) e)

  end_is : (f : Step) (d : ℕ) → pieces_left f ≡ [] → rest_of vars f d ≡ and_then (Texts 0 ([] ∷ [])) (values_at f.later.now d)
  end_is f d e = ap (λ x. and_then x (values_at f.later.now d)) (no_pieces (outcome d vars) (pieces_left f) e)

  -- one part on, that comes to texts at some depth
  pub part_on : (done : Table) (texts : List (List ℕ)) (f : Step) (behind : Bor (List ℕ)) (keep : Bool) (p : Piece) (n m : ℕ) (ts : List (List ℕ)) → pieces_left f ≡ p ∷ pieces_from keep 0 behind.now →
      alone (outcome n vars) p ≡ Texts m ts → IsKnown done p → IsPart vars done texts f → IsPart vars done texts (record f { rest = behind; kept = keep })
  part_on done texts f behind keep p n m ts e comes known part = record {
    passes = record {
      stops = λ fault g. part.passes.stops fault
          (record {
            from = max n g.from;
            stops = λ d h. at d (texts_above P (piece_up vars p) n d m ts (omega arith) comes) (stops_bad (next d) fault (g.stops d (omega arith)))
                ∙ g.stops d (omega arith);
          });
      deeper = λ d h. part.passes.deeper d (deep d h (texts_near P (piece_up vars p) n d m ts comes));
    };
    reads = λ k l. part.reads (subst (AreKnown done) (sym e) (known, k)) l;
  }
    where
      next : ℕ → Outcome
      next = rest_of vars (record f { rest = behind; kept = keep })

      P : ℕ → Outcome
      P d = alone (outcome d vars) p

      at : (d : ℕ) → P d ≡ Texts m ts → IsBad (next d) → rest_of vars f d ≡ next d
      at d h b = grind (arith, bad_behind, next_is f p (pieces_from keep 0 behind.now) d e)

      deep : (d : ℕ) → next d ≡ Deeper → Below (P d) (Texts m ts) → rest_of vars f d ≡ Deeper
      deep d h b = grind (arith, bad_behind, next_is f p (pieces_from keep 0 behind.now) d e)

  -- the next value
  pub part_value : (done : Table) (texts : List (List ℕ)) (f : Step) (text : Bor (List ℕ)) (others : Bor (List (Vec ℕ Global))) (v : Vec ℕ Global) → pieces_left f ≡ [] → f.later.now ≡ v ∷ others.now →
      text.now ≡ v.items → IsPart vars done texts f → IsPart vars done texts (record f { rest = text; kept = false; later = others })
  part_value done texts f text others v none later is part = grind (arith, bad_after, passes_same, one_value, end_is)

  -- a variable before its first value
  pub part_variable : (done : Table) (g : Step) → g.rest.now ≡ [] → g.later.now ≡ g.all.now → IsPart vars done (items_of g.all.now) g
  part_variable done g none all = grind (arith, bad_within, passes_same, part_none, end_is)

  -- the raw text
  pub part_raw : (done : Table) (f : Step) (raw : List ℕ) → f.kept ≡ false → f.rest.now ≡ raw → f.later.now ≡ [] → IsPart vars done (raw ∷ []) f
  part_raw done f raw kept text none = grind (arith, passes_same, one_value)

  pub part_end : (done : Table) (texts : List (List ℕ)) (f : Step) → pieces_left f ≡ [] → f.later.now ≡ [] → IsPart vars done texts f → AreTextsKnown done texts
  part_end done texts f none last part = part.reads (subst (AreKnown done) (sym none) tt) (subst (λ (x : List (Vec ℕ Global)). AreTextsKnown done (items_of x)) (sym last) tt)

  -- a fault at the top is the walk's
  pub next_stops : (f : Step) (p : Piece) (behind : List Piece) (e : PolicyKind) (from : ℕ) → pieces_left f ≡ p ∷ behind → ((d : ℕ) → from ≤ d → alone (outcome d vars) p ≡ Stops e) → Faults (rest_of vars f) e
  next_stops f p behind e from is stops = record { from = from; stops = λ d h. next_is f p behind d is ∙ ap (λ x. and_then (followed x (joined (outcome d vars) behind)) (values_at f.later.now d)) (stops d h) }

  raw_bad : (raw : List ℕ) (d : ℕ) (x : Outcome) → IsBad x → in_turn (outcome d vars) (raw ∷ []) ≡ x → outcome_of d vars raw ≡ x
  unfolding in_turn
  raw_bad raw d x b h = grind arith

  pub way_stops : (done : Table) (raw : List ℕ) (e : PolicyKind) (g : Step) (fs : List Step) → OnWay vars done raw g fs → Faults (rest_of vars g) e → Faults (λ d. outcome_of d vars raw) e
  way_stops done raw e g [] w fault = grind (arith, raw_bad)
  way_stops done raw e g (f ∷ fs) w fault =
      let whole = w.0.passes.stops e fault in
      let own = λ (d : ℕ) (le : whole.from ≤ d). variable_is d vars g.name.now (items_of g.all.now) w.1.plain w.1.defined ∙ ap counted (whole.stops d le) in
      way_stops done raw e f fs w.2 (next_stops f (Use g.name.now) w.1.behind e (whole.from + 1) w.1.next (λ d h. subst (λ n. outcome n vars g.name.now ≡ Stops e) (omega arith) (own (d - 1) (omega arith))))

  -- the variable that comes next at the top is on the way already: it goes deeper than any depth
  called_deeper : (f g : Step) (done : Table) (d : ℕ) → IsPart vars done (items_of g.all.now) g → Calls vars f g.name.now (items_of g.all.now) → rest_of vars g d ≡ Deeper → outcome (suc d) vars g.name.now ≡ Deeper
  called_deeper f g done d part c h = variable_is d vars g.name.now (items_of g.all.now) c.plain c.defined ∙ ap counted (part.passes.deeper d h)

  next_deeper : (f : Step) (name : List ℕ) (behind : List Piece) (d : ℕ) → pieces_left f ≡ Use name ∷ behind → outcome d vars name ≡ Deeper → rest_of vars f d ≡ Deeper
  next_deeper f name behind d next h = next_is f (Use name) behind d next ∙ ap (λ x. and_then (followed x (joined (outcome d vars) behind)) (values_at f.later.now d)) h

  caller_deeper : (f g : Step) (done : Table) (d : ℕ) → IsPart vars done (items_of g.all.now) g → Calls vars f g.name.now (items_of g.all.now) → rest_of vars g d ≡ Deeper → rest_of vars f d ≡ Deeper
  caller_deeper f g done d part c h =
      next_deeper f g.name.now c.behind d c.next (⊎_elim (λ e. e) (λ same. same ∙ called_deeper f g done d part c h) (outcome_below vars d (suc d) (omega arith) g.name.now))

  way_deeper : (done : Table) (raw : List ℕ) (d : ℕ) (g : Step) (fs : List Step) → OnWay vars done raw g fs → rest_of vars g d ≡ Deeper → outcome_of d vars raw ≡ Deeper
  way_deeper done raw d g [] w h = raw_bad raw d Deeper tt (w.passes.deeper d h)
  way_deeper done raw d g (f ∷ fs) w h = way_deeper done raw d f fs w.2 (caller_deeper f g done d w.0 w.1 h)

  among_deeper : (done : Table) (raw name : List ℕ) (d : ℕ) (g : Step) (fs : List Step) → OnWay vars done raw g fs → IsAmong name g.name.now fs → rest_of vars g d ≡ Deeper → outcome (suc d) vars name ≡ Deeper
  among_deeper done raw name d g [] w a h = absurd a
  among_deeper done raw name d g (f ∷ fs) w (inl e) h = ap (outcome (suc d) vars) (sym e) ∙ called_deeper f g done d w.0 w.1 h
  among_deeper done raw name d g (f ∷ fs) w (inr a) h = among_deeper done raw name d f fs w.2 a (caller_deeper f g done d w.0 w.1 h)

  pub way_circle : (done : Table) (raw name : List ℕ) (top : Step) (stack : List Step) (behind : List Piece) → OnWay vars done raw top stack
      → IsAmong name top.name.now stack → pieces_left top ≡ Use name ∷ behind → (d : ℕ) → outcome_of d vars raw ≡ Deeper
  unfolding outcome
  way_circle done raw name top stack behind w among next d = way_deeper done raw d top stack w (next_deeper top name behind d next (deep d))
    where
      deep : (d : ℕ) → outcome d vars name ≡ Deeper
      deep zero = refl
      deep (suc d) = among_deeper done raw name d top stack w among (next_deeper top name behind d next (deep d))

-- another step at the top
pub way_on : (vars : List Variable) (done : Table) (raw : List ℕ) (f : Step) (rest : Bor (List ℕ)) (kept : Bool) (later : Bor (List (Vec ℕ Global))) (fs : List Step) →
    ((texts : List (List ℕ)) → IsPart vars done texts f → IsPart vars done texts (record f { rest = rest; kept = kept; later = later })) →
    OnWay vars done raw f fs → OnWay vars done raw (record f { rest = rest; kept = kept; later = later }) fs
way_on vars done raw f rest kept later [] on w = on (raw ∷ []) w
way_on vars done raw f rest kept later (g ∷ fs) on w = (on (items_of f.all.now) w.0, w.1, w.2)
