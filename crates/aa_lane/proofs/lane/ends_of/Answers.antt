use Rattle.std.proofs.Common.{◌≡◌, ◌∙◌, arith, refl, true}
use Rattle.aa_lane.proofs.Opens.{splits_server, splits_shutter}
use Rattle.aa_lane.proofs.lane.ends_of.Goals as goal

pub split_seat-second-requires : goal.split_seat-second-requires
split_seat-second-requires g c =
    let r = c.ready.ensures in
    let serves : c.ready.new.seat.me.0.serves ≡ true = rw r.ready (rw c.requires.seat.1 refl) in
    (r.table.0 ∙ c.requires.seat.0, rw c.requires.words (omega arith), splits_server g.M.Machine.next g.M.Machine.reply _ c.ready.new.seat.id c.ready.new.seat.me.0 serves)

pub split_seat-third-requires : goal.split_seat-third-requires
split_seat-third-requires g c =
    let r = c.ready.ensures in
    let one = c.split_seat-second.ensures in
    let shuts : c.split_seat-second.new.seat.me.0.shuts ≡ true = rw (one.2, r.ready) (rw c.requires.seat.1 refl) in
    (one.0 ∙ r.table.0 ∙ c.requires.seat.0, rw c.requires.words (omega arith), splits_shutter g.M.Machine.next g.M.Machine.reply _ c.split_seat-second.new.seat.id c.split_seat-second.new.seat.me.0 shuts)
