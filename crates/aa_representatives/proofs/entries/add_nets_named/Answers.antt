use Rattle.std.proofs.Common.{◌≡◌, ℕ, List, Some, Contains}
use Rattle.aa_base.specs.Tables.{number_in, sock_type_names}
use Rattle.aa_model.specs.declared.request.Request.TheVariants.{Net}
use Rattle.aa_representatives.specs.Askable.{IsNet}
use Rattle.aa_representatives.proofs.Adding.{adds_both, adds_keep}
use Rattle.aa_representatives.proofs.Entering.{names_more, names_all}
use Rattle.aa_representatives.proofs.entries.add_nets_named.Goals as goal

pub loop-name-preserved : goal.loop-name-preserved
loop-name-preserved c =
    let f = c.args.family in
    let was = c.loop-name.requests.items in
    let now = c.add_net.new.requests.items in
    let made = c.in_ok-add_net.ensures in
    record {
      adds = adds_both IsNet c.args.requests.now.items was now c.loop-name.invariant.adds made.adds;
      has = λ name n d e.
          names_more (λ entry. entry.now) c.args.names.now c.loop-name.name-index _ (λ (s : List ℕ). (m : ℕ) → number_in sock_type_names s ≡ Some m → Contains now (Net f m))
          c.loop-name-test.true (λ s d m e. adds_keep IsNet was now made.adds (Net f m) (c.loop-name.invariant.has s m d e)) made.has name d n e;
    }

pub returns-clause-has : goal.returns-clause-has
returns-clause-has c = λ name n d e. c.loop-name.invariant.has name n (names_all (λ entry. entry.now) c.args.names.now c.loop-name.name-index c.loop-name-test.false name d) e
