-- What an owner may do, and what it is afterwards.
use Rattle.std.proofs.Common.{◌≡◌, ◌≢◌, ℕ, suc, ◌+◌, ◌-◌, ◌%◌, ◌<◌, ◌≤◌, false, List, [], ◌∷◌, ◌++◌, refl, sym, ap, ◌∙◌, arith, length-append, add-one, slice_get, Some}
use Rattle.std.proofs.lemmas.Option.{slice_get_within}
use Rattle.std.proofs.Math.Nat.{add-mod_right}
use Rattle.atomic_table.specs.Table.{rest}
use Rattle.atomic_table.specs.Seated.{TableId}
use Rattle.aa_lane.specs.Ends.{vacant, OwnerOk}
use Rattle.aa_lane.specs.Steps.{CanSend}
use Rattle.aa_lane.specs.Plays.{sent_view, unsent_view, collected_view}
use Rattle.aa_lane.specs.declared.cells.Cell.{Cell}
use Rattle.aa_lane.specs.declared.cells.Cell.TheVariants.{Vacant}
use Rattle.aa_lane.specs.declared.cells.Entry.{Entry}
use Rattle.aa_lane.specs.declared.cells.View.{View}
use Rattle.aa_lane.proofs.Vacant.{vacant-first, vacant-last}

has_room : (c sent got : ℕ) → sent ≤ got + c → got ≤ sent → (sent - got) ≢ c → sent < got + c
has_room c sent got room gotten full = omega arith

module _ {M S Q A : Type 0} where
  -- the slot of the next request is the first that the owner holds
  first_held : (held : List (ℕ × Cell M S Q A)) (c sent got : ℕ) → held ≡ vacant c sent ((got + c) - sent) → sent < got + c → held ≡ (sent % c, Vacant) ∷ vacant c (suc sent) ((got + c) - suc sent)
  first_held held c sent got is room = is ∙ vacant-first M S Q A c sent ((got + c) - sent) ((got + c) - suc sent) (omega arith)

  pub owner_can_send : (z : TableId) (v : View M S Q A) (held : List (ℕ × Cell M S Q A)) (sent got : ℕ) → OwnerOk z v held sent got
      → v.owner.left ≡ false → sent ≢ 4611686018427387903 → (sent - got) ≢ z.slots → CanSend z (v, held) sent (sent % z.slots)
  owner_can_send z v held sent got ok stays spent full =
      let room = has_room z.slots sent got ok.room ok.gotten full in
      let g = ok.got_is in let l = ok.gotten in let s = ok.spent in
      let first = first_held held z.slots sent got ok.held_is room in
      record {
        owns = ok.owns;
        stays = stays;
        ready = ok.ready;
        words = ok.words;
        count = ok.sent_is;
        spent = omega arith;
        gotten = omega arith;
        room = omega arith;
        slot_is = refl;
        held = first ∙ ap (λ l. (sent % z.slots, Vacant) ∷ rest l) (sym first);
      }

  pub owner_sent : (z : TableId) (v : View M S Q A) (held : List (ℕ × Cell M S Q A)) (sent got : ℕ) (q : Q) (log : List (Entry M S Q A)) → OwnerOk z v held sent got → sent ≢ 4611686018427387903 → (sent - got) ≢ z.slots
      → OwnerOk z (sent_view v q log) (rest held) (sent + 1) got
  owner_sent z v held sent got q log ok spent full =
      let room = has_room z.slots sent got ok.room ok.gotten full in
      let l = ok.gotten in let s = ok.spent in let i = ok.sent_is in
      let first = first_held held z.slots sent got ok.held_is room in
      record {
        owns = ok.owns;
        ready = ok.ready;
        words = ok.words;
        roomy = ok.roomy;
        small = ok.small;
        sent_is = omega (arith, length-append v.owner.sent (q ∷ []));
        got_is = ok.got_is;
        gotten = omega arith;
        room = omega arith;
        spent = omega arith;
        held_is = ap rest first ∙ rw add-one refl;
      }

  pub owner_closed : (z : TableId) (v : View M S Q A) (held : List (ℕ × Cell M S Q A)) (sent got : ℕ) (log : List (Entry M S Q A)) → OwnerOk z v held sent got → OwnerOk z (unsent_view v log) held sent got
  owner_closed z v held sent got log ok = record {
    owns = ok.owns;
    ready = ok.ready;
    words = ok.words;
    roomy = ok.roomy;
    small = ok.small;
    sent_is = ok.sent_is;
    got_is = ok.got_is;
    gotten = ok.gotten;
    room = ok.room;
    spent = ok.spent;
    held_is = ok.held_is;
  }

  pub owner_collected : (z : TableId) (v : View M S Q A) (held : List (ℕ × Cell M S Q A)) (sent got n : ℕ) (q : Q) (log : List (Entry M S Q A)) → OwnerOk z v held sent got → slice_get v.owner.sent got ≡ Some q
      → OwnerOk z (collected_view v n log) (held ++ (got % z.slots, Vacant) ∷ []) sent (got + 1)
  owner_collected z v held sent got n q log ok there =
      let i = ok.sent_is in let lt = slice_get_within v.owner.sent got q there in
      let g = ok.gotten in let r = ok.room in
      let m : ℕ = (got + z.slots) - sent in
      let next_count : suc m ≡ ((got + 1) + z.slots) - sent = omega arith in
      let whole : got + z.slots ≡ sent + m = omega arith in
      let turn : got % z.slots ≡ (sent + m) % z.slots = sym (add-mod_right got z.slots) ∙ ap (λ k. k % z.slots) whole in
      record {
        owns = ok.owns;
        ready = ok.ready;
        words = ok.words;
        roomy = ok.roomy;
        small = ok.small;
        sent_is = ok.sent_is;
        got_is = ap (λ i. i + 1) ok.got_is;
        gotten = omega arith;
        room = omega arith;
        spent = ok.spent;
        held_is = ap (λ h. h ++ (got % z.slots, Vacant) ∷ []) ok.held_is ∙ ap (λ k. vacant z.slots sent m ++ (k, Vacant) ∷ []) turn ∙ vacant-last M S Q A z.slots sent m ∙ ap (vacant z.slots sent) next_count;
      }
