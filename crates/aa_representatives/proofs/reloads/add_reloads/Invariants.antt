use Rattle.std.proofs.Common.{ℕ, ◌<◌, Contains}
use Rattle.aa_model.specs.declared.request.Request.TheVariants.{Reload}
use Rattle.aa_representatives.specs.Askable.{IsReload}
use Rattle.aa_representatives.specs.Representatives.{Adds}
use Rattle.aa_representatives.proofs.reloads.add_reloads.Given as goal

abbrev pub invariant-loop-number : goal.invariant-loop-number
invariant-loop-number l = record {
  adds : Adds IsReload l.fn.requests.items l.requests.items;
  has : (m : ℕ) → m < l.number → Contains l.requests.items (Reload m);
}
