use Rattle.std.proofs.Common.{◌≡◌, ◌++◌, true, length}
use Rattle.std.specs.List.{list_all}
use Rattle.aa_base.specs.Hex.{is_hex_digit, bytes_of_hex}
use Rattle.aa_base.proofs.hex.bytes_of_hex.Given as goal

abbrev pub invariant-loop-rest : goal.invariant-loop-rest
invariant-loop-rest l = record {
  digits : list_all is_hex_digit l.rest ≡ true;
  made : l.bytes.items ++ bytes_of_hex l.rest ≡ bytes_of_hex l.text;
}

abbrev pub decreases-loop-rest : goal.decreases-loop-rest
decreases-loop-rest l = length l.rest
