-- Rules that can go, gone.
use Rattle.std.proofs.Common.{◌≡◌, ℕ, suc, List, [], ◌∷◌, length, Bool, sym, subst, arith, All}
use Rattle.std.specs.List.{AllZip}
use Rattle.aa_model.specs.declared.policy.Policy.{Policy}
use Rattle.aa_model.specs.declared.policy.Profile.{Profile}
use Rattle.aa_model.specs.declared.rule.FileRule.{FileRule}
use Rattle.aa_model.specs.declared.rule.CapRule.{CapRule}
use Rattle.aa_model.specs.declared.rule.NetRule.{NetRule}
use Rattle.aa_model.specs.declared.rule.ChangeRule.{ChangeRule}
use Rattle.aa_model.specs.declared.label.Label.{Label}
use Rattle.aa_model.specs.declared.request.Request.{Request}
use Rattle.aa_representatives.specs.Askable.{IsAskable}
use Rattle.aa_redundancy.specs.declared.going.Going.{Going}
use Rattle.aa_redundancy.specs.declared.fault.UntoldProfile.{UntoldProfile}
use Rattle.aa_redundancy.specs.declared.places.PlaceNumbers.{PlaceNumbers}
use Rattle.aa_redundancy.specs.Going.{AreGoing}
use Rattle.aa_redundancy.specs.Places.{SameProfile, SameProfiles}
use Rattle.aa_redundancy.specs.Kept.{SameBut}
use Rattle.aa_redundancy.specs.Sameness.{SameFiles, SameCaps, SameNets, SameChanges, SaySame, answers_to}
use Rattle.aa_redundancy.specs.Spared.{CanGo, OnePlace, AllPlaces, IsWithout, AreWithout}
use Rattle.aa_redundancy.proofs.Replies.{answers_same}
use Rattle.aa_redundancy.proofs.Untold.{kept_say_same}

-- what can go changes nothing
gone_same : (Same : (ℕ → Bool) → Type 0) (count : ℕ) (held : List Bool) (g : Going) → AreGoing Same count held g → (gone : ℕ → Bool) → CanGo count g gone → Same gone
gone_same Same count held g are gone (OnePlace i lt is e) = subst Same (sym e) ((are.alone i lt).0 is)
gone_same Same count held g are gone (AllPlaces e) = subst Same (sym e) are.all

-- so a profile says the same without it
says_same : (gone : ℕ → Bool) (n : PlaceNumbers) (p q : Profile) → SameProfile p n gone → IsWithout gone n p q → SaySame p q
says_same gone n p q same left = record {
  name = left.name;
  parent = left.parent;
  attachments = left.attachments;
  complain = left.complain;
  audit = left.audit;
  files = subst (λ (rs : List FileRule). SameFiles p.files rs) (sym left.files) same.files;
  caps = subst (λ (rs : List CapRule). SameCaps p.caps rs) (sym left.caps) same.caps;
  nets = subst (λ (rs : List NetRule). SameNets p.nets rs) (sym left.nets) same.nets;
  changes = subst (λ (rs : List ChangeRule). SameChanges p.changes rs) (sym left.changes) same.changes;
}

-- and so do all
all_say_same : (gone : ℕ → Bool) (ns : List PlaceNumbers) (ps qs : List Profile) → SameProfiles ps ns (length ps) gone → AreWithout gone ns ps qs → AllZip SaySame ps qs
all_say_same gone [] [] [] same left = tt
all_say_same gone (n ∷ ns) (p ∷ ps) (q ∷ qs) same left =
    (says_same gone n p q (same 0 (omega arith)) left.0, all_say_same gone ns ps qs (λ k lt. same (suc k) (omega (arith, lt))) left.1)
all_say_same gone [] [] (q ∷ qs) same left = absurd left
all_say_same gone [] (p ∷ ps) qs same left = absurd left
all_say_same gone (n ∷ ns) [] qs same left = absurd left
all_say_same gone (n ∷ ns) (p ∷ ps) [] same left = absurd left

pub spared_same : (p q : Policy) (ns : List PlaceNumbers) (us : List UntoldProfile) (count : ℕ) (held : List Bool) (g : Going)
    → AreGoing (SameBut us p.profiles ns (length p.profiles)) count held g → (gone : ℕ → Bool) → CanGo count g gone
    → AreWithout gone ns p.profiles q.profiles → (l : Label) (rs : List Request) → All IsAskable rs → answers_to p l rs ≡ answers_to q l rs
spared_same p q ns us count held g are gone can left l rs asked =
    let but = gone_same (SameBut us p.profiles ns (length p.profiles)) count held g are gone can in
    let same : SameProfiles p.profiles ns (length p.profiles) gone = kept_say_same us p.profiles ns (length p.profiles) gone but in
    answers_same p q (all_say_same gone ns p.profiles q.profiles same left) l rs asked
