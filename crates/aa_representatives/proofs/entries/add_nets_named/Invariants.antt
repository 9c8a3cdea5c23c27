use Rattle.std.proofs.Common.{◌≡◌, ℕ, List, map, take, Some, Contains}
use Rattle.aa_base.specs.Tables.{number_in, sock_type_names}
use Rattle.aa_model.specs.declared.request.Request.TheVariants.{Net}
use Rattle.aa_representatives.specs.Askable.{IsNet}
use Rattle.aa_representatives.specs.Representatives.{Adds}
use Rattle.aa_representatives.proofs.entries.add_nets_named.Given as goal

abbrev pub invariant-loop-name : goal.invariant-loop-name
invariant-loop-name l = record {
  adds : Adds IsNet l.fn.requests.items l.requests.items;
  has : (name : List ℕ) (n : ℕ) → Contains (map (λ entry. entry.now) (take l.name-index l.names)) name → number_in sock_type_names name ≡ Some n → Contains l.requests.items (Net l.family n);
}
