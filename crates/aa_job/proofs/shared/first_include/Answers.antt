use Rattle.std.proofs.Common.{ℕ, ◌+◌, ◌<◌, None, Some, inl, inr, refl, arith, below_more}
use Rattle.aa_files.specs.Numbers.{text_in}
use Rattle.aa_job.specs.Shared.{IsFirstByte}
use Rattle.aa_job.proofs.Placing.{stands_in}
use Rattle.aa_job.proofs.shared.first_include.Goals as goal

pub returns-in-Some : goal.returns-in-Some
returns-in-Some c = inl (record {
  byte = c.in-Some.byte;
  here = stands_in c.args.unit.now c.loop-file.file c.text_at.result.1.now c.args.name.now c.in_ok-byte.field-0 (Some c.in-Some.byte) c.text_at.ensures.text c.in-Some.is c.in_ok-byte.ensures;
  byte_is = c.spot_byte.ensures;
  before = c.loop-file.invariant;
})

pub loop-file-preserved : goal.loop-file-preserved
loop-file-preserved c = below_more _ _ c.loop-file.invariant (stands_in c.args.unit.now c.loop-file.file c.text_at.result.1.now c.args.name.now c.in_ok-byte.field-0 None c.text_at.ensures.text c.in_default.is c.in_ok-byte.ensures)

pub returns-in_default : goal.returns-in_default
returns-in_default c =
    let here : IsFirstByte
    (text_in c.args.unit.now c.loop-file.file) c.args.name.now None = stands_in c.args.unit.now c.loop-file.file c.text_at.result.1.now c.args.name.now c.in_ok-byte.field-0 None c.text_at.ensures.text c.in_default.is c.in_ok-byte.ensures in
    let below : (k : ℕ) → k < c.loop-file.file + 1 → IsFirstByte (text_in c.args.unit.now k) c.args.name.now None = below_more _ _ c.loop-file.invariant here in
    inr (record { at_start = refl; nowhere = λ k le. below k (omega arith) })
