use Rattle.aa_auto.proofs.MoveLemmas.{on_ok}
use Rattle.aa_auto.proofs.MergeLemmas.{same_found}
use Rattle.aa_auto.proofs.merging.Merged.same.Goals as goal

pub returns : goal.returns
returns c = on_ok c.count.result (λ k. same_found c.args.self.now c.count.new.self c.args.source c.requires.whole k) c.count.ensures
