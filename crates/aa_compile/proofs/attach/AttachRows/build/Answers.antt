use Rattle.std.proofs.Common.{◌≡◌, Bor, length, map, subst, ap, ◌∙◌, arith}
use Rattle.std.proofs.lemmas.List.{length-map}
use Rattle.aa_auto.specs.Pairs.{TellsBytes}
use Rattle.aa_auto.specs.Tables.{IsAutomaton}
use Rattle.aa_auto.specs.Nodes.{pointed}
use Rattle.aa_pattern.specs.declared.pattern.Pattern.{Pattern}
use Rattle.aa_compile.specs.Attached.{attachments_by, pattern_of}
use Rattle.aa_compile.proofs.AttachedLemmas.{answers_are}
use Rattle.aa_compile.proofs.attach.AttachRows.build.Goals as goal

pub returns-clause-ok : goal.returns-clause-ok
returns-clause-ok c =
    answers_are c.args.profiles.now c.args.numbers.now (pointed c.as_slice.result.now) c.as_slice-2.result.now
    (record { table = c.in_ok-automaton.automaton; answers = c.in_ok-answers.answers.items; count = c.len.result })
    (ap pointed c.as_slice.ensures.value ∙ c.in_ok-pointers.ensures.patterns)
    (c.as_slice-2.ensures.value ∙ c.in_ok-pointers.ensures.attachments)
    c.in_ok-automaton.ensures.automaton c.in_ok-answers.ensures

pub returns-clause-fits : goal.returns-clause-fits
returns-clause-fits c =
    let flat : pointed c.as_slice.result.now ≡ map pattern_of (attachments_by c.args.profiles.now c.args.numbers.now) = ap pointed c.as_slice.ensures.value ∙ c.in_ok-pointers.ensures.patterns in
    (c.in_ok-automaton.automaton, subst (λ ps. IsAutomaton ps c.in_ok-automaton.automaton) flat c.in_ok-automaton.ensures.automaton, c.in_ok-automaton.ensures.within)

pub returns-clause-attached : goal.returns-clause-attached
returns-clause-attached c =
    let ps = map pattern_of (attachments_by c.args.profiles.now c.args.numbers.now) in
    let flat : pointed c.as_slice.result.now ≡ ps = ap pointed c.as_slice.ensures.value ∙ c.in_ok-pointers.ensures.patterns in
    let many : c.len.result ≡ length ps = omega (arith, c.len.ensures, c.in_ok-pointers.pointers.ok, length-map c.in_ok-pointers.pointers.items (λ (q : Bor Pattern). q.now), ap length c.in_ok-pointers.ensures.patterns) in
    record {
      built = record {
        automaton = subst (λ qs. IsAutomaton qs c.in_ok-automaton.automaton) flat c.in_ok-automaton.ensures.automaton;
        bytes = subst (λ qs. TellsBytes qs c.in_ok-automaton.automaton) flat c.in_ok-automaton.ensures.bytes;
      };
      counted = many;
      few = omega (arith, many, c.requires.few, length-map (attachments_by c.args.profiles.now c.args.numbers.now) pattern_of);
    }
