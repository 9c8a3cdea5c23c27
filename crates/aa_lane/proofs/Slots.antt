-- How many slots an end's table has.
use Rattle.std.proofs.Common.{◌≡◌, ℕ, sym, ap, ◌∙◌}
use Rattle.atomic_table.specs.Seated.{TableId}
use Rattle.aa_lane.specs.Ends.{LaneId, LaneSeen, known}

-- as many as the lane that the end is of says
pub slots_of : {M S : Type 0} (z y : TableId) (i : LaneId M S) (l : LaneSeen M S) (c : ℕ) → z ≡ i.table → i ≡ known l → y ≡ l.table → y.slots ≡ c → c ≡ z.slots
slots_of {M} {S} z y i l c own of its slots = sym slots ∙ ap (λ (t : TableId). t.slots) (its ∙ sym (ap (λ (x : LaneId M S). x.table) of) ∙ sym own)
