use Rattle.std.proofs.Common.{◌≡◌, ℕ, ◌<◌, List, length, Some, Contains}
use Rattle.aa_base.specs.Tables.{number_in, family_names, sock_type_names}
use Rattle.aa_model.specs.declared.request.Request.TheVariants.{Net}
use Rattle.aa_representatives.specs.Askable.{IsNet}
use Rattle.aa_representatives.proofs.Adding.{adds_both, adds_keep}
use Rattle.aa_representatives.proofs.Entering.{names_more, names_all}
use Rattle.aa_representatives.proofs.entries.add_nets_in_named.Goals as goal

pub loop-name-preserved : goal.loop-name-preserved
loop-name-preserved c =
    let was = c.loop-name.requests.items in
    let now = c.add_nets_in.new.requests.items in
    let made = c.in_ok-add_nets_in.ensures in
    record {
      adds = adds_both IsNet c.args.requests.now.items was now c.loop-name.invariant.adds made.adds;
      has = λ name f t d e lt.
          names_more (λ entry. entry.now) c.args.names.now c.loop-name.name-index _ (λ (s : List ℕ). (g u : ℕ) → number_in family_names s ≡ Some g → u < length sock_type_names → Contains now (Net g u))
          c.loop-name-test.true (λ s d g u e lt. adds_keep IsNet was now made.adds (Net g u) (c.loop-name.invariant.has s g u d e lt)) made.has name d f t e lt;
    }

pub returns-clause-has : goal.returns-clause-has
returns-clause-has c = λ name f t d e lt. c.loop-name.invariant.has name f t (names_all (λ entry. entry.now) c.args.names.now c.loop-name.name-index c.loop-name-test.false name d) e lt
