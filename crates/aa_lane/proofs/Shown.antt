-- Why a table shows one world at most.
use Rattle.std.proofs.Common.{◌≡◌, ℕ, ◌≤◌, Bool, true, false, List, length, take, refl, sym, ap, ◌∙◌, arith, length-take}
use Rattle.atomic_table.specs.Table.{State}
use Rattle.aa_lane.specs.WorldState.{WorldState}
use Rattle.aa_lane.specs.declared.cells.Who.TheVariants.{ByOwner, ByServer}
use Rattle.aa_lane.specs.Shows.{Shows, OwnerFits, ServerFits, bit}
use Rattle.aa_lane.specs.declared.cells.Cell.{Cell}
use Rattle.aa_lane.specs.declared.cells.View.{View}
use Rattle.aa_lane.proofs.Rows.{same_terms}

bit_same : (b c : Bool) → bit b ≡ bit c → b ≡ c
bit_same true true e = refl
bit_same true false e = absurd (omega arith)
bit_same false true e = absurd (omega arith)
bit_same false false e = refl

module _ {M S Q A : Type 0} where
  abbrev world_of : M → S → ℕ → List Q → List A → ℕ → ℕ → S → Bool → WorldState M S Q A
  world_of m t c r a k g x b = record { machine = m; start = t; capacity = c; accepted = r; answers = a; taken = k; collected = g; state = x; shut = b }

  same_world : (m m' : M) (t t' : S) (c c' : ℕ) (r r' : List Q) (a a' : List A) (k k' g g' : ℕ) (x x' : S) (b b' : Bool) → m ≡ m' → t ≡ t'
      → c ≡ c' → r ≡ r' → a ≡ a' → k ≡ k' → g ≡ g' → x ≡ x' → b ≡ b'
      → world_of m t c r a k g x b ≡ world_of m' t' c' r' a' k' g' x' b'
  same_world m m' t t' c c' r r' a a' k k' g g' x x' b b' em et ec er ea ek eg ex eb = rw (em, et, ec, er, ea, ek, eg, ex, eb) refl

  taken_count : (w : WorldState M S Q A) (l : List Q) → l ≡ take w.taken w.accepted → w.taken ≤ length w.accepted → length l ≡ w.taken
  taken_count w l e le = let n : length l ≡ length (take w.taken w.accepted) = ap length e in omega (arith, length-take w.taken w.accepted)

module _ {M S Q A : Type 0} (next : M → S → Q → S) (reply : M → S → Q → A) where
  pub shows_one : (s : State (Cell M S Q A) (View M S Q A)) (w w' : WorldState M S Q A) → Shows next reply s w → Shows next reply s w' → w ≡ w'
  shows_one s w w' h h' =
      let owner = h.filled ByOwner in
      let server = h.filled ByServer in
      let o = h.seats ByOwner (h.seat ByOwner) owner.0 owner.1 owner.2 in
      let o' = h'.seats ByOwner (h.seat ByOwner) owner.0 owner.1 owner.2 in
      let v = h.seats ByServer (h.seat ByServer) server.0 server.1 server.2 in
      let v' = h'.seats ByServer (h.seat ByServer) server.0 server.1 server.2 in
      let terms = same_terms owner.0.terms w.machine w'.machine w.start w'.start o.1 o'.1 in
      let machine : w.machine ≡ w'.machine = terms.0 in
      let start : w.start ≡ w'.start = terms.1 in
      let of : OwnerFits s.homes w owner.0.owner = o.2 in
      let of' : OwnerFits s.homes w' owner.0.owner = o'.2 in
      let vf : ServerFits w server.0.server = v.2 in
      let vf' : ServerFits w' server.0.server = v'.2 in
      let accepted : w.accepted ≡ w'.accepted = sym of.sent ∙ of'.sent in
      let collected : w.collected ≡ w'.collected = sym of.got ∙ of'.got in
      let taken : w.taken ≡ w'.taken = sym (taken_count w server.0.server.taken vf.taken h.lawful.sent) ∙ taken_count w' server.0.server.taken vf'.taken h'.lawful.sent in
      let count : length w.answers ≡ length w'.answers = sym h.done ∙ h'.done in
      let answers : w.answers ≡ w'.answers = h.lawful.answered ∙ rw (machine, start, count, accepted) (sym h'.lawful.answered) in
      let state : w.state ≡ w'.state = h.lawful.reached ∙ rw (machine, start, count, accepted) (sym h'.lawful.reached) in
      let long : length w.accepted ≡ length w'.accepted = ap length accepted in
      let gate = h.gate in let gate' = h'.gate in
      let shut : w.shut ≡ w'.shut = bit_same w.shut w'.shut (omega arith) in
      same_world w.machine w'.machine w.start w'.start w.capacity w'.capacity w.accepted w'.accepted w.answers w'.answers w.taken w'.taken w.collected w'.collected w.state w'.state w.shut w'.shut
      machine start (h.capacity ∙ sym h'.capacity) accepted answers taken collected state shut
