-- What holds of a result, from what its call promises.
use Rattle.std.specs.Prelude.{Result, Ok, Err, OnOk, IfErr}
use Rattle.std.proofs.lemmas.Result.{IfErr-weaker}
use Rattle.aa_base.specs.declared.unread.Unread.{Unread}
use Rattle.aa_base.specs.declared.unread.Unread.TheVariants.{NoMemory, NotFound, NotAllowed, NotAFile, Failed, TooLarge}
use Rattle.aa_log.specs.Found.{IsRefused}

module _ {A E : Type 0} where
  pub on_ok : (r : Result A E) (P : Type 0) → P → OnOk r P
  on_ok (Ok a) P h = h
  on_ok (Err e) P h = tt

  pub on_ok_both : (r : Result A E) (P Q S : Type 0) → (P → Q → S) → OnOk r P → OnOk r Q → OnOk r S
  on_ok_both (Ok a) P Q S f p q = f p q
  on_ok_both (Err e) P Q S f p q = tt

  pub on_ok_three : (r : Result A E) (P Q R S : Type 0) → (P → Q → R → S) → OnOk r P → OnOk r Q → OnOk r R → OnOk r S
  on_ok_three (Ok a) P Q R S f p q r = f p q r
  on_ok_three (Err e) P Q R S f p q r = tt

refused : (P Q : Type 0) → (P → Q) → (why : Unread) → IsRefused why P → IsRefused why Q
refused P Q f NoMemory h = tt
refused P Q f TooLarge h = f h
refused P Q f NotFound h = absurd h
refused P Q f NotAllowed h = absurd h
refused P Q f NotAFile h = absurd h
refused P Q f Failed h = absurd h

pub if_refused : {A : Type 0} (r : Result A Unread) (P Q : Type 0) → (P → Q) → IfErr r (λ why. IsRefused why P) → IfErr r (λ why. IsRefused why Q)
if_refused r P Q f h = IfErr-weaker r (λ why. IsRefused why P) (λ why. IsRefused why Q) (refused P Q f) h
