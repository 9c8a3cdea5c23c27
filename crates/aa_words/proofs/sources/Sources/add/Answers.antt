use Rattle.std.proofs.Common.{◌≡◌, false, true, arith, ap, Err}
use Rattle.aa_words.specs.Sources.{has_name}
use Rattle.aa_words.proofs.Named.{named, room, not_taken, other_cause}
use Rattle.aa_words.proofs.sources.Sources.add.Goals as goal

pub returns-then-contains_key-clause-twice : goal.returns-then-contains_key-clause-twice
returns-then-contains_key-clause-twice c =
    let taken : has_name c.args.name.now c.args.self.now ≡ true = named c.args.name.now _ c.args.self.now _ true c.contains_key.ensures c.self.view_is c.if-contains_key.true in
    (λ e. (omega arith, room _ c.args.self.now _ c.len.ensures.len c.self.view_is c.if-len-ge-MAX_NAMES.false, taken), λ h. ap Err c.at_start-then-contains_key.ensures)

pub put-requires-clause-new : goal.put-requires-clause-new
put-requires-clause-new c = named c.args.name.now _ c.args.self.now _ false c.contains_key.ensures c.self.view_is c.if-contains_key.false

pub put-requires-clause-room : goal.put-requires-clause-room
put-requires-clause-room c = room _ c.args.self.now _ c.len.ensures.len c.self.view_is c.if-len-ge-MAX_NAMES.false

pub returns-in_err-put-clause-twice : goal.returns-in_err-put-clause-twice
returns-in_err-put-clause-twice c =
    let absent : has_name c.args.name.now c.args.self.now ≡ false = named c.args.name.now _ c.args.self.now _ false c.contains_key.ensures c.self.view_is c.if-contains_key.false in
    (λ e. absurd (other_cause c.from_residual.result c.from_residual.ensures.1 e), λ h. absurd (not_taken _ absent h.2))

pub returns-clause-twice : goal.returns-clause-twice
returns-clause-twice c =
    let absent : has_name c.args.name.now c.args.self.now ≡ false = named c.args.name.now _ c.args.self.now _ false c.contains_key.ensures c.self.view_is c.if-contains_key.false in
    (λ e. cc, λ h. absurd (not_taken _ absent h.2))
