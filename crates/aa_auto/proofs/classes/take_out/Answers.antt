use Rattle.std.proofs.Common.{◌≡◌, length, set, sym, subst, arith}
use Rattle.aa_auto.specs.Division.{TakesOut}
use Rattle.aa_auto.proofs.DivisionLemmas.{taken_out}
use Rattle.aa_auto.proofs.classes.take_out.Goals as goal

pub returns : goal.returns
returns c =
    let long : length c.args.classes.bytes.items ≡ c.len.result = omega (arith, c.len.ensures, c.args.classes.bytes.ok) in
    subst (λ z. TakesOut c.args.classes.of.items (set c.args.classes.of.items c.args.byte z) c.push.new.self.items c.args.byte) long
    (subst (λ z. TakesOut c.args.classes.of.items (set c.args.classes.of.items c.args.byte (length c.args.classes.bytes.items)) z c.args.byte) (sym c.in_ok-push.ensures.items)
    (taken_out c.args.classes.of.items c.args.classes.bytes.items c.args.byte c.requires.division c.ranges.byte.fits c.requires.leaves))
