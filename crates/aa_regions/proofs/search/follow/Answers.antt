use Rattle.std.proofs.Common.{◌+◌, ◌∷◌, [], get_or, sym, subst, arith, below_more}
use Rattle.std.specs.Prelude.{slice_index}
use Rattle.aa_auto.specs.Tables.{row_after}
use Rattle.aa_regions.specs.declared.steps.Step.{Step}
use Rattle.aa_regions.specs.Steps.{step_at, IsWithin}
use Rattle.aa_regions.proofs.Reaching.{extends_on, extends_at, within_on, class_leads}
use Rattle.aa_regions.proofs.search.follow.Goals as goal

pub loop-byte-preserved : goal.loop-byte-preserved
loop-byte-preserved c =
    let t = c.args.automaton.now in
    let first = c.args.trail.now.steps.items in
    let was = c.loop-byte.trail.steps.items in
    let now = c.follow_byte.new.self.steps.items in
    let k = c.args.number in
    let inv = c.loop-byte.invariant in
    let made = c.in_ok-follow_byte.ensures in
    let byte = get_or c.args.bytes.now c.loop-byte.byte-index 0 in
    let same = extends_at first was inv.extends k c.requires.within in
    record {
      trail = made.trail;
      level = made.level;
      extends = extends_on first was now inv.extends made.extends;
      behind = below_more _ _
          (λ i l. within_on was now made.extends (row_after t (step_at first k).row (get_or c.args.bytes.now i 0 ∷ []))
          ((step_at first k).length + 1) (inv.behind i l))
          (subst (λ (x : Step). IsWithin now (row_after t x.row (byte ∷ [])) (x.length + 1)) same made.reached);
    }

pub returns-clause-followed : goal.returns-clause-followed
returns-clause-followed c = λ short b from.
    let t = c.args.automaton.now in
    let first = c.args.trail.now.steps.items in
    let now = c.loop-byte.trail.steps.items in
    let k = c.args.number in
    let inv = c.loop-byte.invariant in
    let h = c.requires.all b from in
    let row = (step_at first k).row in
    let w = inv.behind h.0 (omega (arith, h.1, c.loop-byte-test.false)) in
    let same = extends_at first now inv.extends k c.requires.within in
    subst (λ (x : Step). IsWithin now (row_after t x.row (b ∷ [])) (x.length + 1)) (sym same)
    (subst (λ r. IsWithin now r ((step_at first k).length + 1)) (class_leads t row (slice_index c.args.bytes.now h.0) b h.2) w)
