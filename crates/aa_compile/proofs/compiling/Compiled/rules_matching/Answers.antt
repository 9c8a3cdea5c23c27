use Rattle.std.proofs.Common.{◌≡◌, ◌<◌, length, ap, ◌∙◌, arith}
use Rattle.std.proofs.lemmas.Result.{IfOk-weaker}
use Rattle.aa_model.specs.declared.policy.Policy.{Policy}
use Rattle.aa_compile.proofs.Bytes.{text_of}
use Rattle.aa_compile.proofs.Owned.{met}
use Rattle.aa_compile.proofs.compiling.Compiled.rules_matching.Goals as goal

pub returns : goal.returns
returns c =
    let policy = c.args.self.now in
    let many : length c.as_slice.result.now ≡ length policy.profiles = ap length (c.as_slice.ensures ∙ ap (λ (q : Policy). q.profiles) c.self.view_is) in
    let there : c.args.number < length policy.profiles = omega (arith, many) in
    IfOk-weaker c.rules_of.result _ _
    (λ rules e. e ∙ met policy.profiles c.args.number c.args.path.now c.rows_at-rows.result.now _ _ there c.rows_at-rows.ensures (text_of c.args.path.now c.type_inv.path) c.as_slice-2.ensures.value c.matching.ensures)
    c.rules_of.ensures
