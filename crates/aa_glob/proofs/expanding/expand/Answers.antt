use Rattle.std.specs.Prelude.{ℕ, ◌≡◌, ◌==◌, false}
use Rattle.std.specs.List.{list_any}
use Rattle.std.proofs.lemmas.Grind.{common_steps}
use Rattle.std.proofs.Common.{arith, inl, inr, length, ◌∷◌, []}
use Rattle.aa_glob.specs.Expansions.{Expands, expansions}
use Rattle.aa_glob.proofs.ExpandSteps.{plain_expands, fault_expands, many_expands, texts_expand, gives, few_most}
use Rattle.aa_glob.proofs.expanding.expand.Goals as goal

pub returns-then-not-may_use : goal.returns-then-not-may_use
returns-then-not-may_use c =
    let none : list_any (λ (b : ℕ). b == 64) c.args.raw.now ≡ false = grind (arith, common_steps) in
    let g = gives _ (Expands c.args.vars.now c.args.raw.now) c.read_alone.result (expansions (c.args.raw.now ∷ [])) c.read_alone.ensures (λ x e. plain_expands c.args.vars.now c.args.raw.now x none e) in
    record { expanded = g.0; refused = g.1 }

pub text_summary-summary-requires : goal.text_summary-summary-requires
text_summary-summary-requires c = grind (arith, common_steps)

pub read_all-requires : goal.read_all-requires
read_all-requires c =
    let k = c.text_summary-summary.ensures (length c.in-Ok.done.entries) c.args.vars.now c.in-Ok.ensures.ok.right in
    record { walked = c.in-Ok.ensures.ok; texts = (k.most, k.ts, k.is, few_most k.most c.text_summary-summary.result.many k.sums.many c.if-summary.false, omega (arith, k.sums.count, c.if-summary-gt-MAX_TEXTS.false)) }

pub returns-in-Err-clause-refused : goal.returns-in-Err-clause-refused
returns-in-Err-clause-refused c = grind (arith, common_steps, fault_expands)

pub returns-then-summary-clause-refused : goal.returns-then-summary-clause-refused
returns-then-summary-clause-refused c = λ other.
    many_expands c.args.vars.now c.args.raw.now _ c.text_summary-summary.result (c.text_summary-summary.ensures (length c.in-Ok.done.entries) c.args.vars.now c.in-Ok.ensures.ok.right) (inl c.if-summary.true)

pub returns-then-summary-gt-MAX_TEXTS-clause-refused : goal.returns-then-summary-gt-MAX_TEXTS-clause-refused
returns-then-summary-gt-MAX_TEXTS-clause-refused c = λ other.
    many_expands c.args.vars.now c.args.raw.now _ c.text_summary-summary.result (c.text_summary-summary.ensures (length c.in-Ok.done.entries) c.args.vars.now c.in-Ok.ensures.ok.right) (inr c.if-summary-gt-MAX_TEXTS.true)

pub returns : goal.returns
returns c =
    let k = c.text_summary-summary.ensures (length c.in-Ok.done.entries) c.args.vars.now c.in-Ok.ensures.ok.right in
    let read = c.read_all.ensures k.most k.ts k.is (few_most k.most c.text_summary-summary.result.many k.sums.many c.if-summary.false) (omega (arith, k.sums.count, c.if-summary-gt-MAX_TEXTS.false)) in
    let g = gives _ (Expands c.args.vars.now c.args.raw.now) c.read_all.result (expansions k.ts) read
    (λ x e. texts_expand c.args.vars.now c.args.raw.now _ c.text_summary-summary.result x k c.if-summary.false c.if-summary-gt-MAX_TEXTS.false e) in
    record { expanded = g.0; refused = g.1 }
