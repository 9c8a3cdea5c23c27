-- Texts that are lent one after another.
use Rattle.std.proofs.Common.{◌≡◌, ℕ, zero, suc, arith, ◌+◌, ◌<◌, ◌≤◌, List, [], ◌∷◌, ◌++◌, length, take, get_or, Result, Ok, Err, IfOk, IfErr, subst}
use Rattle.std.proofs.lemmas.List.{take_more, take_all}
use Rattle.std.proofs.lemmas.Slice.Zip.{all_zipped_more}
use Rattle.std.specs.List.{AllZip}
use Rattle.aa_base.specs.declared.fault.PolicyFault.{PolicyFault}
use Rattle.std.specs.Prelude.{◌≢◌}
use Rattle.aa_base.specs.declared.fault.PolicyKind.TheVariants.{NoMemory}
use Rattle.aa_policies.specs.Policies.{Source, IsFaultOfSources}
use Rattle.aa_files.specs.declared.unit.Unit as unit
use Rattle.aa_load.specs.UnitPolicy.{texts_of}
use Rattle.aa_command.specs.Policies.{AreSourcesOf}

pub sources_told : (u : unit.Unit) (r : Result (List Source) PolicyFault) → IfOk r (λ (sources : List Source). sources ≡ texts_of u)
    → IfErr r (λ (e : PolicyFault). e.kind ≢ NoMemory → IsFaultOfSources (texts_of u) e) → AreSourcesOf u r
sources_told u (Ok sources) is cause = is
sources_told u (Err e) is cause = cause

-- one unit more, and one item more for it
pub zipped_next : {B : Type 0} (R : unit.Unit → B → Type 0) (units : List unit.Unit) (i : ℕ) (u : unit.Unit) (ys more : List B) (y : B) → i < length units → u ≡ get_or units i u → more ≡ ys ++ y ∷ []
    → R u y → AllZip R (take i units) ys → AllZip R (take (i + 1) units) more
zipped_next R units i u ys more y lt item is_more is are = rw (take_more units i u lt, ← item, is_more) (all_zipped_more R (take i units) ys u y are is)

pub zipped_all : {B : Type 0} (R : unit.Unit → B → Type 0) (units : List unit.Unit) (i : ℕ) (ys : List B) → length units ≤ i → AllZip R (take i units) ys → AllZip R units ys
zipped_all R units i ys le are = subst (λ (us : List unit.Unit). AllZip R us ys) (take_all i units le) are

-- what stands at one place of both
pub zipped_at : {A B : Type 0} (R : A → B → Type 0) (xs : List A) (ys : List B) (i : ℕ) (x : A) (y : B) → AllZip R xs ys → i < length xs → x ≡ get_or xs i x → y ≡ get_or ys i y → R x y
zipped_at R [] ys i x y are lt p q = absurd (omega (arith, lt))
zipped_at R (a ∷ zs) [] i x y are lt p q = absurd are
zipped_at R (a ∷ zs) (b ∷ bs) zero x y are lt p q = rw (p, q) are.0
zipped_at R (a ∷ zs) (b ∷ bs) (suc i) x y are lt p q = zipped_at R zs bs i x y are.1 (omega (arith, lt)) p q
