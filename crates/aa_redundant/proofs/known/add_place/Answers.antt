use Rattle.std.proofs.Common.{sym, ◌∙◌, subst}
use Rattle.aa_redundant.specs.Known.{AreKeys}
use Rattle.aa_redundant.proofs.Knowing.{known_stays, known_goes_on}
use Rattle.aa_redundant.proofs.known.add_place.Goals as goal

pub returns-then-not-is_new-clause-keys : goal.returns-then-not-is_new-clause-keys
returns-then-not-is_new-clause-keys c =
    (known_stays c.args.units.now c.args.keys.now.keys c.insert_full.new.self.keys c.args.places.now.items c.key_of-key.result c.args.one c.in_ok-is_new.is_new c.requires
    (record { path = c.key_of-key.ensures.path; byte = c.key_of-key.ensures.byte }) c.in_ok-is_new.ensures.added c.if-not-is_new.true c.in_ok-is_new.ensures.keys).0

pub returns-then-not-is_new-clause-places : goal.returns-then-not-is_new-clause-places
returns-then-not-is_new-clause-places c =
    (known_stays c.args.units.now c.args.keys.now.keys c.insert_full.new.self.keys c.args.places.now.items c.key_of-key.result c.args.one c.in_ok-is_new.is_new c.requires
    (record { path = c.key_of-key.ensures.path; byte = c.key_of-key.ensures.byte }) c.in_ok-is_new.ensures.added c.if-not-is_new.true c.in_ok-is_new.ensures.keys).1

pub returns-clause-keys : goal.returns-clause-keys
returns-clause-keys c =
    subst (AreKeys c.args.units.now c.insert_full.new.self.keys) (sym c.in_ok-push.ensures.items)
    (known_goes_on c.args.units.now c.args.keys.now.keys c.insert_full.new.self.keys c.args.places.now.items c.key_of-key.result c.args.one c.in_ok-is_new.is_new c.requires
    (record { path = c.key_of-key.ensures.path; byte = c.key_of-key.ensures.byte }) c.in_ok-is_new.ensures.added c.if-not-is_new.false c.in_ok-is_new.ensures.keys).0

pub returns-clause-places : goal.returns-clause-places
returns-clause-places c =
    c.in_ok-push.ensures.items
    ∙ (known_goes_on c.args.units.now c.args.keys.now.keys c.insert_full.new.self.keys c.args.places.now.items c.key_of-key.result c.args.one c.in_ok-is_new.is_new c.requires
    (record { path = c.key_of-key.ensures.path; byte = c.key_of-key.ensures.byte }) c.in_ok-is_new.ensures.added c.if-not-is_new.false c.in_ok-is_new.ensures.keys).1
