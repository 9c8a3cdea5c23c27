use Rattle.std.proofs.lemmas.Grind.{common_steps}
use Rattle.std.proofs.Common.{◌≡◌, ◌∙◌, ◌∷◌, [], map, get_or, sym, ap, arith}
use Rattle.std.proofs.lemmas.List.{map-append}
use Rattle.aa_pattern.specs.declared.pattern.Pattern.{Pattern}
use Rattle.aa_glob.specs.Built.{text_of}
use Rattle.aa_glob.specs.Reading.{spelled}
use Rattle.aa_glob.specs.Expansions.{expansion}
use Rattle.aa_glob.proofs.ExpandSteps.{behind_read, built_same, read_more, read_refused, read_end}
use Rattle.aa_glob.proofs.expanding.read_all.Goals as goal

pub loop-number-init : goal.loop-number-init
loop-number-init c = grind (arith, common_steps, behind_read)

pub build-requires-clause-stands : goal.build-requires-clause-stands
build-requires-clause-stands c = grind (arith, common_steps)

pub returns-in-Err : goal.returns-in-Err
returns-in-Err c = λ most ts e few count other.
    let is : expansion (get_or ts c.loop-number.number []) ≡ expansion c.in_ok-text.text.items = sym (built_same c.in_ok-text.text.items _ c.in_ok-text.ensures.built ∙ ap (λ x. expansion (text_of x c.loop-number.number)) e) in
    read_refused ts c.loop-number.number _ c.in-Err.fault (omega (arith, count, c.loop-number-test.true)) (is ∙ ap expansion (sym c.as_slice.ensures.value) ∙ c.in-Err.ensures other) (c.loop-number.invariant most ts e few count)

pub loop-number-preserved : goal.loop-number-preserved
loop-number-preserved c = λ most ts e few count.
    let is : expansion (get_or ts c.loop-number.number []) ≡ expansion c.in_ok-text.text.items = sym (built_same c.in_ok-text.text.items _ c.in_ok-text.ensures.built ∙ ap (λ x. expansion (text_of x c.loop-number.number)) e) in
    read_more ts c.loop-number.number _ _ _ (omega (arith, count, c.loop-number-test.true)) (is ∙ ap expansion (sym c.as_slice.ensures.value) ∙ c.in-Ok.ensures)
    (ap (map (λ (p : Pattern). spelled p.items.items)) c.in_ok-push.ensures.items ∙ map-append (λ (p : Pattern). spelled p.items.items) c.loop-number.patterns.items (c.in-Ok.pattern ∷ [])) (c.loop-number.invariant most ts e few count)

pub returns : goal.returns
returns c = λ most ts e few count. read_end ts c.loop-number.number _ (omega (arith, count, c.loop-number-test.false)) (c.loop-number.invariant most ts e few count)
