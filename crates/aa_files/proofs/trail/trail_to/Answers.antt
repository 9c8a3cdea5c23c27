use Rattle.std.proofs.Common.{◌≡◌, ◌⊎◌, ℕ, List, [], reverse, Vec, Result, Ok, Err, IfOk, sym, subst}
use Rattle.std.specs.declared.alloc.Global.{Global}
use Rattle.aa_files.specs.declared.unit.Unit as unit
use Rattle.aa_files.specs.declared.trail.Step.{Step}
use Rattle.aa_files.specs.Trails.{way_back, IsWay}
use Rattle.aa_files.proofs.Ways.{back_is_way}
use Rattle.aa_files.proofs.trail.trail_to.Goals as goal

way_too : {E : Type 0} (u : unit.Unit) (node : ℕ) (r : Result (Vec Step Global) E) (steps : List Step) → (steps ≡ []) ⊎ IsWay u node steps
    → IfOk r (λ w. w.items ≡ steps) → IfOk r (λ w. (w.items ≡ []) ⊎ IsWay u node w.items)
way_too u node (Ok w) steps h e = subst (λ (ss : List Step). (ss ≡ []) ⊎ IsWay u node ss) (sym e) h
way_too u node (Err x) steps h e = e

pub returns-clause-way : goal.returns-clause-way
returns-clause-way c =
    let met = reverse c.in_ok-reading_of.field-0.items in
    way_too c.args.unit.now c.args.node c.way_back.result (way_back met c.args.node) (back_is_way c.args.unit.now c.args.node met c.in_ok-reading_of.ensures) c.way_back.ensures
