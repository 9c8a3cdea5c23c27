use Rattle.std.proofs.Common.{◌≡◌, ◌++◌, ◌∷◌, [], sym, subst, rules}
use Rattle.serde_json.specs.Data.{put}
use Rattle.aa_jobs.specs.Items.{Looked, item_object}
use Rattle.aa_jobs.proofs.Looks.{looked_more, looked_strange, named}
use Rattle.aa_jobs.proofs.keyed.keep.Goals as goal

pub returns-in_ok-push-in-Some : goal.returns-in_ok-push-in-Some
returns-in_ok-push-in-Some c = λ ms d so_far is.
    let pushed : c.push.new.self.items ≡ c.args.members.now.items ++ (c.in-Some.key, c.args.value) ∷ [] = search rules in
    subst (λ xs. Looked c.args.known (item_object xs) (put c.args.name.now d ms)) (sym pushed)
    (looked_more c.args.known c.args.members.now.items (c.in-Some.key, c.args.value) c.args.name.now d ms so_far is (named c.args.name.now c.in-Some.key (sym c.in-Some.ensures)))

pub returns-in-None : goal.returns-in-None
returns-in-None c = λ ms d so_far is. looked_strange c.args.name.now d ms (sym c.in-None.ensures)
