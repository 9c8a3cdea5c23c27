use Rattle.std.proofs.Common.{◌≡◌, [], Contains, get_or, ap, ◌∙◌, subst}
use Rattle.std.proofs.lemmas.List.{get_or_default}
use Rattle.aa_auto.specs.Pairs.{second}
use Rattle.aa_auto.proofs.joining.joined_lists.Goals as goal

pub joined-requires : goal.joined-requires
joined-requires c = λ k d lt.
    let i = second (get_or c.args.numbers.now c.loop-key.key-index 0) in
    let xs = c.list-in-loop-key.result.now in
    let is : xs ≡ get_or c.args.other.now.lists i [] = c.list-in-loop-key.ensures ∙ ap (λ n. get_or c.args.other.now.lists n []) c.second.ensures in
    c.requires.moved i (get_or xs k d) (c.requires.pairs c.loop-key.key-index c.loop-key-test.true).1
    (subst (λ l. Contains l (get_or xs k d)) is (k, lt, get_or_default xs k (get_or xs k d) d lt))
