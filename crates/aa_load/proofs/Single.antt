-- Units that are refused each by itself.
use Rattle.std.proofs.Common.{◌≡◌, ℕ, ◌+◌, ◌<◌, ◌≤◌, List, [], ◌∷◌, ◌++◌, length, take, drop, get_or, ap, sym, subst, ◌∙◌}
use Rattle.std.proofs.lemmas.List.{take_more, take_all}
use Rattle.aa_base.specs.declared.fault.PolicyFault.{PolicyFault}
use Rattle.aa_load.specs.declared.texts.Texts.{Texts}
use Rattle.aa_load.specs.declared.fault.LoadingFault.{LoadingFault}
use Rattle.aa_load.specs.declared.fault.LoadingFault.TheVariants.{OfTexts}
use Rattle.aa_load.specs.Spelled.{IsGood, AreGood, IsRefusedAlone}
use Rattle.aa_load.specs.Refused.{IsFirstAlone}
use Rattle.aa_load.proofs.Cuts.{cut_at, as_many}

good_more : (limit : ℕ) (us : List Texts) (u : Texts) → AreGood limit us → IsGood limit u → AreGood limit (us ++ u ∷ [])
good_more limit [] u are is = (is, are)
good_more limit (v ∷ vs) u are is = (are.0, good_more limit vs u are.1 is)

pub good_next : (limit : ℕ) (units : List Texts) (i : ℕ) (u : Texts) → i < length units → u ≡ get_or units i u
    → IsGood limit u → AreGood limit (take i units) → AreGood limit (take (i + 1) units)
good_next limit units i u lt item is are = rw (take_more units i u lt, ← item) (good_more limit (take i units) u are is)

pub all_good : (limit : ℕ) (units : List Texts) (i : ℕ) → length units ≤ i → AreGood limit (take i units) → AreGood limit units
all_good limit units i le are = subst (λ (us : List Texts). AreGood limit us) (take_all i units le) are

pub alone_there : (limit : ℕ) (units : List Texts) (i : ℕ) (u : Texts) (e : PolicyFault) (f : LoadingFault) → i < length units → u ≡ get_or units i u
    → f ≡ OfTexts i e → IsRefusedAlone limit u e → AreGood limit (take i units) → IsFirstAlone limit units f
alone_there limit units i u e f lt item is refused are = record {
  before = take i units;
  one = u;
  behind = drop (i + 1) units;
  are = cut_at units i u lt item;
  good = are;
  cause = e;
  fault_is = is ∙ ap (λ (n : ℕ). OfTexts n e) (sym (as_many units i lt));
  refused = refused;
}
