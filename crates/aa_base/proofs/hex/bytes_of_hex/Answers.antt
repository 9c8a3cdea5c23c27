use Rattle.std.proofs.Common.{arith}
use Rattle.aa_base.proofs.Digits.{digits_left, byte_made, all_made}
use Rattle.aa_base.proofs.hex.bytes_of_hex.Goals as goal

pub loop-rest-preserved : goal.loop-rest-preserved
loop-rest-preserved c = record {
  digits = digits_left c.loop-rest.rest.now (omega arith) c.loop-rest.invariant.digits;
  made = byte_made c.loop-rest.rest.now c.loop-rest.bytes.items c.push.new.self.items _ c.digit_of.result c.digit_of-in-len2-up.result
      (omega arith) c.digit_of.ensures.value c.digit_of-in-len2-up.ensures.value c.in_ok-push.ensures.items c.loop-rest.invariant.made;
}

pub returns : goal.returns
returns c = all_made c.loop-rest.rest.now c.loop-rest.bytes.items _ c.in_default.len_below c.loop-rest.invariant.made
