use Rattle.std.proofs.Common.{◌<◌, IfSome, inl, subst}
use Rattle.aa_compile.specs.FileRules.{Conflicts}
use Rattle.aa_explain.specs.Clashes.{Conflict}
use Rattle.aa_explain.proofs.Searching.{none_then}
use Rattle.aa_diagnostics.proofs.conflict.clash_in.Goals as goal

pub returns-in-Ok-clause-found : goal.returns-in-Ok-clause-found
returns-in-Ok-clause-found c =
    subst (λ rules. IfSome c.in-Ok.found (λ x. (x.first < x.second) × Conflict rules x.first x.second x.text.items)) c.as_slice.ensures c.in-Ok.ensures.found

pub returns-in-Ok-clause-none : goal.returns-in-Ok-clause-none
returns-in-Ok-clause-none c = none_then c.in-Ok.found c.in-Ok.ensures.none (λ h. inl (subst (λ rules. Conflicts rules → ⊥) c.as_slice.ensures h))
