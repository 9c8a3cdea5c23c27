use Rattle.std.proofs.Common.{◌≡◌, ◌+◌, length, sym, subst, arith}
use Rattle.aa_auto.specs.Pairs.{AreListPairs}
use Rattle.aa_auto.proofs.JoinLemmas.{one_listed}
use Rattle.aa_auto.proofs.joining.list_pairs.Goals as goal

pub loop-key-preserved : goal.loop-key-preserved
loop-key-preserved c =
    let keys = c.args.keys.now in
    let i = c.loop-key.key-index in
    subst (λ z. AreListPairs c.args.one.now c.args.other.now keys (i + 1) c.add.new.self z) (sym c.in_ok-push.ensures)
    (one_listed c.args.one.now c.args.other.now keys i c.loop-key.numbers c.loop-key.listed c.add.new.self c.list_pair.result c.in_ok-number.number c.loop-key.invariant
    c.list_pair.ensures c.in_ok-number.ensures)

pub returns : goal.returns
returns c =
    let keys = c.args.keys.now in
    let all : c.loop-key.key-index ≡ length keys = omega (arith, c.loop-key-test.false, c.loop-key.auto.key-index-end) in
    subst (AreListPairs c.args.one.now c.args.other.now keys (length keys) c.loop-key.numbers) (sym c.shrink_to_fit.ensures)
    (subst (λ n. AreListPairs c.args.one.now c.args.other.now keys n c.loop-key.numbers c.loop-key.listed) all c.loop-key.invariant)
