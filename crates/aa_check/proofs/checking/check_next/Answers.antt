use Rattle.std.proofs.Common.{ap, sym, subst, ◌∙◌, ◌++◌, ◌∷◌, []}
use Rattle.aa_check.specs.Names.{IsFirst}
use Rattle.aa_command.specs.Setting.{setting_of}
use Rattle.aa_check.proofs.Found.{found_behind}
use Rattle.aa_check.proofs.checking.check_next.Goals as goal

pub returns-clause-found : goal.returns-clause-found
returns-clause-found g c = λ paths so_far.
    let s = setting_of (g.T.Tree.files c.args.tree.now) (g.T.Tree.taken c.args.tree.now) (g.T.Tree.input c.args.tree.now) c.args.settings.now in
    found_behind s paths c.args.path.now c.args.files.now.items c.as_slice.result.now c.push.new.self.items c.in_ok-found.found c.in_ok-file.file
    c.as_slice.ensures.value c.in_ok-push.ensures.items c.in_ok-found.ensures.path c.in_ok-found.ensures.found c.in_ok-file.ensures.warned so_far

pub returns-clause-first : goal.returns-clause-first
returns-clause-first g c = subst (λ l. IsFirst c.warned.new.first l) (ap (λ l. l ++ c.in_ok-file.file ∷ []) c.as_slice.ensures.value ∙ sym c.in_ok-push.ensures.items) c.in_ok-file.ensures.known
