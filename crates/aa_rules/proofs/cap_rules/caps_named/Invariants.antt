use Rattle.std.proofs.Common.{◌≡◌, ℕ, List, ◌≤◌, length, ◌-◌}
use Rattle.aa_rules.specs.CapRules.{NamesEnd, IsCapName, numbers_bits}
use Rattle.aa_rules.specs.Phrases.{Many, Here}
use Rattle.aa_rules.specs.Reading.{rest_of}
use Rattle.aa_rules.proofs.Repetition.{Reaches}
use Rattle.aa_rules.proofs.cap_rules.caps_named.Given as goal

abbrev pub invariant-names : goal.invariant-names
invariant-names l = record {
  reach : (numbers : List ℕ) × Reaches IsCapName NamesEnd (rest_of l.words l.start) numbers (rest_of l.words l.at) × (l.caps.0 ≡ numbers_bits 0 numbers)
      × Many IsCapName Here (rest_of l.words l.start) numbers (rest_of l.words l.at);
  behind : l.start ≤ l.at;
  within : l.at ≤ length l.words;
}

abbrev pub decreases-names : goal.decreases-names
decreases-names l = length l.words - l.at
