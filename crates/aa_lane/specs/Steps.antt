-- What a seat has to be for each step.
use Rattle.std.specs.Prelude.{◌≡◌, ℕ, ◌+◌, ◌%◌, ◌<◌, ◌≤◌, ◌^◌, true, false, [], ◌∷◌, length, take, slice_get, Some}
use Rattle.aa_machine.specs.Run.{state_after}
use Rattle.aa_lane.specs.WorldState.{most_accepted}
use Rattle.atomic_table.specs.Table.{Me, rest}
use Rattle.atomic_table.specs.Seated.{TableId}
use Rattle.aa_lane.specs.declared.cells.Cell.{Cell}
use Rattle.aa_lane.specs.declared.cells.Cell.TheVariants.{Vacant}
use Rattle.aa_lane.specs.declared.cells.View.{View}

module _ {M S Q A : Type 0} where
  -- the owner has room for request n, whose slot it took last
  pub record CanSend (z : TableId) (m : Me (Cell M S Q A) (View M S Q A)) (n slot : ℕ) : Type 0 where
    pub owns : m.0.owns ≡ true
    pub stays : m.0.owner.left ≡ false
    pub ready : m.0.owner.ready ≡ true
    pub words : z.words ≡ 17
    pub count : n ≡ length m.0.owner.sent
    pub spent : n < most_accepted
    pub gotten : m.0.owner.got ≤ n
    pub room : n < m.0.owner.got + z.slots
    pub slot_is : slot ≡ n % z.slots
    pub held : m.1 ≡ (slot, Vacant) ∷ rest m.1

  -- the first seat, before it took the slots
  pub record CanReady (z : TableId) (m : Me (Cell M S Q A) (View M S Q A)) : Type 0 where
    pub owns : m.0.owns ≡ true
    pub before : m.0.owner.ready ≡ false
    pub words : z.words ≡ 17
    pub held : m.1 ≡ []

  -- the server has nothing in hand, and answered n requests
  pub record CanTake (z : TableId) (m : Me (Cell M S Q A) (View M S Q A)) (n slot : ℕ) : Type 0 where
    pub serves : m.0.serves ≡ true
    pub words : z.words ≡ 17
    pub done : m.0.server.done ≡ n
    pub idle : length m.0.server.taken ≡ n
    pub slot_is : slot ≡ n % z.slots
    pub held : m.1 ≡ []

  -- the owner has the first n answers
  pub record CanCollect (z : TableId) (m : Me (Cell M S Q A) (View M S Q A)) (n slot : ℕ) : Type 0 where
    pub owns : m.0.owns ≡ true
    pub ready : m.0.owner.ready ≡ true
    pub words : z.words ≡ 17
    pub got : m.0.owner.got ≡ n
    pub slot_is : slot ≡ n % z.slots

module _ {M S Q A : Type 0} (next : M → S → Q → S) (reply : M → S → Q → A) where
  -- the server has request n in hand, and this is its answer
  pub record CanFinish (z : TableId) (m : Me (Cell M S Q A) (View M S Q A)) (n slot : ℕ) (q : Q) (a : A) : Type 0 where
    pub serves : m.0.serves ≡ true
    pub words : z.words ≡ 17
    pub done : m.0.server.done ≡ n
    pub small : n < 2 ^ 63
    pub busy : length m.0.server.taken ≡ n + 1
    pub job : slice_get m.0.server.taken n ≡ Some q
    pub decided : (w : M) (t : S) → m.0.terms ≡ Some (w, t) → a ≡ reply w (state_after (next w) (reply w) t (take n m.0.server.taken)) q
    pub slot_is : slot ≡ n % z.slots
    pub held : m.1 ≡ (slot, Vacant) ∷ []
