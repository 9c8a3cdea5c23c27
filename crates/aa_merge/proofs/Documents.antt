-- Reports, by the JSON that their bytes are.
use Rattle.std.proofs.Common.{◌≡◌, ℕ, List, true, false, cond, Some, None, Err, refl, sym, subst}
use Rattle.std.specs.Str.{IsUtf8, is_utf8}
use Rattle.std.proofs.lemmas.Str.{IsUtf8-from_is_utf8, is_utf8-from_IsUtf8}
use Rattle.json.specs.Json.{Json, document}
use Rattle.json.specs.declared.error.Error.{Error}
use Rattle.json.specs.declared.error.Error.TheVariants as why
use Rattle.aa_merge.specs.declared.fault.PartFault.{PartFault}
use Rattle.aa_merge.specs.declared.fault.PartFault.TheVariants.{NotJson}
use Rattle.aa_merge.specs.Steps.{◌>>=◌, needed, Refuses, IsFaultOf}
use Rattle.aa_merge.specs.Reading.{report_in, report_of}

pub read_so : (bytes : List ℕ) (v : Json) → IsUtf8 bytes → document bytes ≡ Some v → report_of bytes ≡ report_in v
unfolding report_of
read_so bytes v utf8 is = rw (is_utf8-from_IsUtf8 bytes utf8, is) refl

not_json : (bytes : List ℕ) → (IsUtf8 bytes → document bytes ≡ None) → report_of bytes ≡ Err NotJson
unfolding report_of
not_json bytes none =
    (elim (is_utf8 bytes) as (λ b. is_utf8 bytes ≡ b → (needed NotJson (cond b (document bytes) None) >>= report_in) ≡ Err NotJson) [
      | true ↦ λ is. rw (none (IsUtf8-from_is_utf8 bytes is)) refl
      | false ↦ λ is. refl
    ]) refl

pub refused_so : (bytes : List ℕ) (error : Error) (fault : PartFault) → (error ≡ why.Invalid → IsUtf8 bytes → document bytes ≡ None)
    → IsFaultOf error fault → Refuses fault (report_of bytes)
refused_so bytes why.Invalid fault none is = subst (λ (f : PartFault). Refuses f (report_of bytes)) (sym is) (not_json bytes (none refl))
refused_so bytes why.OutOfMemory fault none is = subst (λ (f : PartFault). Refuses f (report_of bytes)) (sym is) tt
refused_so bytes why.TooLong fault none is = subst (λ (f : PartFault). Refuses f (report_of bytes)) (sym is) tt
refused_so bytes why.DuplicateKey fault none is = subst (λ (f : PartFault). Refuses f (report_of bytes)) (sym is) tt
