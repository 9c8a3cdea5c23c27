use Rattle.std.proofs.Common.{◌≡◌, ◌+◌, length, arith, rules, tests}
use Rattle.aa_logs.proofs.ByKeys.{pushed}
use Rattle.aa_logs.proofs.keyed.KeyedWords.push.Goals as goal

pub invariant_of-self-2 : goal.invariant_of-self-2
invariant_of-self-2 c =
    let many : length c.self.inside.places ≡ 18 = search (rules, tests) in
    let last : c.len-place.result + 1 ≡ length c.self.inside.words.items + 1 = omega (arith, c.self.inside.words.ok) in
    pushed c.self.inside.places c.put_place.new.places c.self.inside.words.items c.push.new.self.items c.args.word (c.len-place.result + 1) c.key_of.result
    many last c.key_of.ensures c.put_place.ensures c.in_ok-push.ensures.items c.self.invariant
