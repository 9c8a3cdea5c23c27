use Rattle.std.proofs.Common.{◌≡◌, ◌≤◌, List, length, ◌-◌, false}
use Rattle.std.specs.Prelude.{◌&&◌}
use Rattle.aa_words.specs.declared.word.WordKind.TheVariants.{RightParen}
use Rattle.aa_words.specs.Splits.{WordData}
use Rattle.aa_policy.specs.Heads.{Stands, Fits, is_flag, said_by}
use Rattle.aa_rules.specs.Grammar.{Many, Here}
use Rattle.aa_policy.specs.HeadFaults.{ends_in_flag}
use Rattle.aa_rules.specs.Reading.{rest_of}
use Rattle.aa_rules.proofs.Repetition.{Reaches}
use Rattle.aa_policy.proofs.heads.flag_list_of.Given as goal

abbrev pub invariant-flags : goal.invariant-flags
invariant-flags l = record {
  reach : (found : List WordData) × Reaches (Fits is_flag) (Stands RightParen) (rest_of l.words l.start) found (rest_of l.words l.at) × (l.flags ≡ said_by found)
      × Many (Fits is_flag) Here (rest_of l.words l.start) found (rest_of l.words l.at) × (l.behind_flag ≡ ends_in_flag found);
  agree : (l.flags.complain && l.flags.enforce) ≡ false;
  behind : l.start ≤ l.at;
}

abbrev pub decreases-flags : goal.decreases-flags
decreases-flags l = length l.words - l.at
