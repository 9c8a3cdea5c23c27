use Rattle.aa_base.proofs.Digits.{hex_digits}
use Rattle.aa_base.proofs.hex.from_hex.Goals as goal

pub bytes_of_hex-requires : goal.bytes_of_hex-requires
bytes_of_hex-requires c = hex_digits c.is_hex.result c.args.text.now c.is_hex.ensures c.if-not-is_hex.false
