use Rattle.std.proofs.Common.{◌≡◌, ◌≤◌, length, map, get_or, sym, ap, ◌∙◌, subst, arith}
use Rattle.aa_pattern.specs.Limits.{most_states}
use Rattle.aa_auto.specs.Pairs.{list_of_pair, ArePairs, ArePairsIn, AreListPairs, AreListsIn, IsProduct}
use Rattle.aa_auto.proofs.JumpLemmas.{lists as list_items}
use Rattle.aa_auto.proofs.PairLemmas.{key_in}
use Rattle.aa_auto.proofs.JoinLemmas.{lists_in}
use Rattle.aa_auto.proofs.ProductLemmas.{made_product}
use Rattle.aa_auto.proofs.beside.product.Goals as goal

pub list_pairs-requires-clause-pairs : goal.list_pairs-requires-clause-pairs
list_pairs-requires-clause-pairs c =
    subst (ArePairsIn c.args.one.now c.args.other.now) (sym c.as_slice-3.ensures)
    (key_in c.args.dead c.args.one.now c.args.other.now (record { first_is = c.law.ensures; second_is = c.law-2.ensures; dead_is = c.requires.dead }) c.in_ok-pairs.pairs
    c.in_ok-pairs.ensures.pairs.met)

pub joined_lists-requires-clause-pairs : goal.joined_lists-requires-clause-pairs
joined_lists-requires-clause-pairs c =
    let one = c.args.one.now in
    let other = c.args.other.now in
    let keys = c.in_ok-pairs.pairs in
    subst (AreListsIn one other) (sym c.as_slice-4.ensures)
    (lists_in one other keys (length keys) c.in_ok-numbers.numbers c.in_ok-numbers.listed c.law.ensures c.law-2.ensures (omega arith)
    (key_in c.args.dead one other (record { first_is = c.law.ensures; second_is = c.law-2.ensures; dead_is = c.requires.dead }) keys c.in_ok-pairs.ensures.pairs.met)
    (subst (λ ks. AreListPairs one other ks (length ks) c.in_ok-numbers.numbers c.in_ok-numbers.listed) c.as_slice-3.ensures c.in_ok-numbers.ensures))

pub of_tables-requires : goal.of_tables-requires
of_tables-requires c =
    let one = c.args.one.now in
    let other = c.args.other.now in
    let keys = c.in_ok-pairs.pairs in
    let of = c.in_ok-of.field-0.of.items in
    let bytes = c.in_ok-of.field-0.bytes.items in
    let lists = list_items c.in_ok-lists.lists.items in
    let width : c.len.result ≡ length bytes = omega (arith, c.len.ensures, c.in_ok-of.field-0.bytes.ok) in
    let few : length keys ≤ most_states = omega (arith, c.in_ok-pairs.ensures.few, c.requires.limit) in
    (made_product c.args.dead one other (record { first_is = c.law.ensures; second_is = c.law-2.ensures; dead_is = c.requires.dead }) c.as_slice.result.now of bytes keys
    c.in_ok-pairs.cells (λ b lt. ap (λ l. get_or l b 0) c.as_slice.ensures.value ∙ c.in_ok-keys.ensures.each b lt) c.in_ok-of.ensures
    (subst (λ bs. ArePairs c.args.dead one other keys bs c.in_ok-pairs.cells) c.as_slice-2.ensures.value c.in_ok-pairs.ensures.pairs)
    c.args.moved c.in_ok-numbers.numbers c.in_ok-numbers.listed lists
    (subst (λ ks. AreListPairs one other ks (length ks) c.in_ok-numbers.numbers c.in_ok-numbers.listed) c.as_slice-3.ensures c.in_ok-numbers.ensures)
    (c.in_ok-lists.ensures ∙ ap (map (list_of_pair c.args.moved one other)) c.as_slice-4.ensures) few c.len.result c.shrink_to_fit.new.self width c.shrink_to_fit.ensures).0

pub returns-clause-product : goal.returns-clause-product
returns-clause-product c =
    let one = c.args.one.now in
    let other = c.args.other.now in
    let keys = c.in_ok-pairs.pairs in
    let of = c.in_ok-of.field-0.of.items in
    let bytes = c.in_ok-of.field-0.bytes.items in
    let lists = list_items c.in_ok-lists.lists.items in
    let width : c.len.result ≡ length bytes = omega (arith, c.len.ensures, c.in_ok-of.field-0.bytes.ok) in
    let few : length keys ≤ most_states = omega (arith, c.in_ok-pairs.ensures.few, c.requires.limit) in
    subst (IsProduct c.args.dead c.args.moved one other) (sym c.of_tables.ensures)
    (made_product c.args.dead one other (record { first_is = c.law.ensures; second_is = c.law-2.ensures; dead_is = c.requires.dead }) c.as_slice.result.now of bytes keys
    c.in_ok-pairs.cells (λ b lt. ap (λ l. get_or l b 0) c.as_slice.ensures.value ∙ c.in_ok-keys.ensures.each b lt) c.in_ok-of.ensures
    (subst (λ bs. ArePairs c.args.dead one other keys bs c.in_ok-pairs.cells) c.as_slice-2.ensures.value c.in_ok-pairs.ensures.pairs)
    c.args.moved c.in_ok-numbers.numbers c.in_ok-numbers.listed lists
    (subst (λ ks. AreListPairs one other ks (length ks) c.in_ok-numbers.numbers c.in_ok-numbers.listed) c.as_slice-3.ensures c.in_ok-numbers.ensures)
    (c.in_ok-lists.ensures ∙ ap (map (list_of_pair c.args.moved one other)) c.as_slice-4.ensures) few c.len.result c.shrink_to_fit.new.self width c.shrink_to_fit.ensures).1
