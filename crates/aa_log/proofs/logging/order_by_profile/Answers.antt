use Rattle.std.proofs.Common.{◌≡◌, map, length, rules}
use Rattle.std.proofs.lemmas.List.{length-map}
use Rattle.aa_log.specs.Orders.{profile_of, up_to}
use Rattle.aa_log.proofs.Sorting.{sorted_by}
use Rattle.aa_log.proofs.logging.order_by_profile.Goals as goal

pub returns : goal.returns
returns c =
    let whole : c.in_ok-numbers.numbers.items ≡ up_to (length (map profile_of c.args.entries.now)) = cc (c.in_ok-numbers.ensures, length-map c.args.entries.now profile_of) in
    sorted_by (map profile_of c.args.entries.now) c.in_ok-numbers.numbers.items c.sort_by.new.self.items whole c.in_ok-sort_by.ensures.permutation c.in_ok-sort_by.ensures.sorted c.in_ok-sort_by.ensures.stable (λ a r f' k. search rules)
