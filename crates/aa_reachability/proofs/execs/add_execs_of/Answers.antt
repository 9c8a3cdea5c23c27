use Rattle.std.proofs.Common.{rules, ◌≡◌, ℕ, List, true, sym, ◌∙◌, subst}
use Rattle.aa_model.specs.Requests.{is_path}
use Rattle.aa_representatives.specs.Names.{literal_of, items_of}
use Rattle.aa_representatives.specs.Representatives.{HasExecs}
use Rattle.aa_reachability.proofs.Single.{its_text}
use Rattle.aa_reachability.proofs.execs.add_execs_of.Goals as goal

pub returns-in_ok-add_execs_at-in-Some-clause-has : goal.returns-in_ok-add_execs_at-in-Some-clause-has
returns-in_ok-add_execs_at-in-Some-clause-has c = λ yes s m asked.
    let now = c.add_execs_at.new.requests.items in
    let lit : items_of c.args.pattern.now ≡ literal_of c.in-Some.text.items = search rules in
    let same : s ≡ c.as_slice.result.now = its_text c.args.pattern.now c.in-Some.text.items s lit m ∙ sym c.as_slice.ensures.value in
    let has = c.in_ok-add_execs_at-in-Some.ensures.has (subst (λ (x : List ℕ). is_path x ≡ true) same asked.1) in
    subst (λ (x : List ℕ). HasExecs x now) (sym same) has
