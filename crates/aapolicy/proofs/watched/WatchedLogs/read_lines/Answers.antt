use Rattle.std.proofs.Common.{rules, refl, Result, Ok, Err}
use Rattle.std.specs.Result.{OnOk}
use Rattle.std.proofs.lemmas.Result.{on_ok_weaker}
use Rattle.aapolicy.proofs.watched.WatchedLogs.read_lines.Goals as goal

both : {T E P Q R : Type 0} (r : Result T E) → (P → Q → R) → OnOk r P → OnOk r Q → OnOk r R
both (Ok x) f p q = f p q
both (Err e) f p q = tt

pub returns-clause-taken : goal.returns-clause-taken
returns-clause-taken g c =
    both c.read_lines-done.result (λ k t.
    let kept = k (record { lines = record c.args.lines { ghost_name = c.watched-1.given }; watch = c.args.self.now.watch }) (refl, λ l x. x) in
    let name = kept.0 in search rules) c.read_lines-done.ensures.keeps c.read_lines-done.ensures.taken

pub returns-clause-keeps : goal.returns-clause-keeps
returns-clause-keeps g c =
    on_ok_weaker c.read_lines-done.result (λ k.
    let kept = k (record { lines = record c.args.lines { ghost_name = c.watched-1.given }; watch = c.args.self.now.watch }) (refl, λ l x. x) in
    let name = kept.0 in let all = kept.1 in
    search rules) c.read_lines-done.ensures.keeps
