use Rattle.std.proofs.Common.{◌≡◌, List, Vec, Global, map, true, ap, ◌∙◌, ℕ, rules}
use Rattle.std.proofs.lemmas.Result.{IfOk-weaker}
use Rattle.aa_diagnostics.specs.declared.names.ProfileName.{ProfileName}
use Rattle.aa_diagnostics.specs.Named.{named_data}
use Rattle.aa_diagnostics.specs.Limits.{limit_of_profiles, limit_of_texts, IsLimitOf, OfTexts, OfProfiles}
use Rattle.aa_diagnostics.proofs.limits.limit_of.Goals as goal

pub returns-in-Ok : goal.returns-in-Ok
returns-in-Ok c =
    let u = c.args.unit.now in
    let ps = c.in-Ok.profiles.items in
    IfOk-weaker c.from_slice.result (λ (v : Vec ℕ Global). v.items ≡ c.as_bytes.result.now) (λ (v : Vec ℕ Global). IsLimitOf u v.items) (λ v e.
    OfProfiles (map named_data ps) c.in-Ok.ensures.found (e ∙ c.as_bytes.ensures.value ∙ c.limit_of_profiles.ensures
    ∙ ap (λ (l : List ProfileName). limit_of_profiles (map named_data l)) c.as_slice.ensures.value)) c.from_slice.ensures.items

pub returns-in-Err-2 : goal.returns-in-Err-2
returns-in-Err-2 c =
    let u = c.args.unit.now in
    IfOk-weaker c.from_slice-in-Err-2.result (λ (v : Vec ℕ Global). v.items ≡ c.as_bytes-in-Err-2.result.now) (λ (v : Vec ℕ Global). IsLimitOf u v.items) (λ v e.
    OfTexts (c.in-Err-2.ensures.refused (search rules)) (e ∙ c.as_bytes-in-Err-2.ensures.value ∙ c.limit_of_texts.ensures)) c.from_slice-in-Err-2.ensures.items
