-- What a policy has.
use Rattle.std.specs.Prelude.{List, [], refl}
use Rattle.std.specs.Coded.{Coded, code_by, coded×, coded_list}
use Rattle.aa_model.specs.contracts.policy.Profile as profile_contract
use Rattle.aa_model.specs.contracts.policy.PassedOver as passed_over_contract
use Rattle.aa_model.specs.declared.policy.Profile.{Profile}
use Rattle.aa_model.specs.declared.policy.PassedOver.{PassedOver}

-- profiles, and the rules of theirs that never decide
pub record Rows : Type 0 where
  pub profiles : List Profile
  pub passed_over : List PassedOver

-- they are stored as the pair of the two
abbrev pub rows_code : Coded Rows
rows_code =
    code_by (List Profile × List PassedOver) (coded× (coded_list profile_contract.the_row.coded) (coded_list passed_over_contract.the_row.coded))
    (λ r. (r.profiles, r.passed_over)) (λ p. record { profiles = p.0; passed_over = p.1 }) (λ _. refl)

-- no profile and no rule
abbrev pub no_rows : Rows
no_rows = record { profiles = []; passed_over = [] }
