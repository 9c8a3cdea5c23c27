use Rattle.std.proofs.Common.{◌≡◌, Bool, true, false, Contains}
use Rattle.aa_model.specs.declared.request.Request.TheVariants.{Exec}
use Rattle.aa_representatives.proofs.Adding.{adds_both, adds_keep}
use Rattle.aa_quantifiers.specs.declared.word.Word.TheVariants.{Execs}
use Rattle.aa_quantifiers.specs.Words.{asks_for, IsOf}
use Rattle.aa_quantifiers.proofs.requests.add_execs_at.Goals as goal

pub returns-clause-adds : goal.returns-clause-adds
returns-clause-adds c =
    adds_both (IsOf (Execs c.args.word.now)) c.args.requests.now.items c.add_exec_if_asked.new.requests.items c.add_exec_if_asked-2.new.requests.items c.in_ok-add_exec_if_asked.ensures.adds c.in_ok-add_exec_if_asked-2.ensures.adds

pub returns-clause-has : goal.returns-clause-has
returns-clause-has c = λ owned. at owned
  where
    at : (owned : Bool) → asks_for c.args.word.now.whose owned ≡ true → Contains c.add_exec_if_asked-2.new.requests.items (Exec (record { path = c.args.path.now; owned = owned }))
    at false asks =
        adds_keep (IsOf (Execs c.args.word.now)) c.add_exec_if_asked.new.requests.items c.add_exec_if_asked-2.new.requests.items c.in_ok-add_exec_if_asked-2.ensures.adds
        (Exec (record { path = c.args.path.now; owned = false })) (c.in_ok-add_exec_if_asked.ensures.has asks)
    at true asks = c.in_ok-add_exec_if_asked-2.ensures.has asks
