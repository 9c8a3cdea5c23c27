use Rattle.std.proofs.Common.{◌++◌, map, get_or, take, sym, ap, ◌∙◌}
use Rattle.std.proofs.lemmas.List.{map-append}
use Rattle.aa_compile.specs.Attached.{at_number, attachment_by, attachment_of, attachments_by, attachments_at, pattern_of}
use Rattle.aa_compile.proofs.AttachedLemmas.{attachments_more, pattern_parts, attachment_parts}
use Rattle.aa_compile.proofs.attach.attachments_of.Goals as goal

pub loop-number-preserved : goal.loop-number-preserved
loop-number-preserved c =
    let profiles = c.args.profiles.now in
    let i = c.loop-number.number-index in
    let n = get_or c.args.numbers.now i 0 in
    let ps = attachments_at profiles n in
    let so_far = attachments_by profiles (take i c.args.numbers.now) in
    let more = attachments_more profiles c.args.numbers.now i c.loop-number-test.true in
    record {
      patterns =
          c.in_ok-add_attachments.ensures.patterns
          ∙ ap (λ l. l ++ c.patterns_at-patterns.result.now) c.loop-number.invariant.patterns
          ∙ ap (λ l. map pattern_of so_far ++ l) (c.patterns_at-patterns.ensures ∙ sym (pattern_parts n ps))
          ∙ sym (ap (map pattern_of) more ∙ map-append pattern_of so_far (map (at_number n) ps));
      attachments =
          c.in_ok-add_attachments.ensures.attachments
          ∙ ap (λ l. l ++ map (attachment_by n) c.patterns_at-patterns.result.now) c.loop-number.invariant.attachments
          ∙ ap (λ l. map attachment_of so_far ++ l) (ap (map (attachment_by n)) c.patterns_at-patterns.ensures ∙ sym (attachment_parts n ps))
          ∙ sym (ap (map attachment_of) more ∙ map-append attachment_of so_far (map (at_number n) ps));
    }
