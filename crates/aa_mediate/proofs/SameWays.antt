-- Two ways are the same where the rules say the same.
use Rattle.std.proofs.Common.{◌≡◌, ◌↔◌, ℕ, List, Bool, true, false, true≢false, Option, Some, None, refl, sym, ap, ◌∙◌}
use Rattle.std.specs.Prelude.{◌&&◌, IsTrue}
use Rattle.std.specs.Option.{option_eq, option_map}
use Rattle.std.specs.Str.{bytes_eq}
use Rattle.std.proofs.lemmas.Bool.Decides.{same_from_decides}
use Rattle.std.proofs.lemmas.Option.{same_Some}
use Rattle.std.proofs.lemmas.Slice.Eq.{bytes_eq-Decides}
use Rattle.aa_model.specs.declared.rule.ExecKind.{ExecKind}
use Rattle.aa_model.specs.declared.rule.ExecKind.TheVariants.{Inherit, Unconfined, Profile as Named, Child}
use Rattle.aa_model.specs.declared.rule.Fallback.{Fallback}
use Rattle.aa_model.specs.declared.rule.Fallback.TheVariants.{Refuse, Inherit as Stay, Unconfined as Leave}
use Rattle.aa_model.specs.declared.rule.Exec.{Exec}
use Rattle.aa_model.specs.declared.rule.FileRule.{FileRule}
use Rattle.aa_compile.specs.declared.side.Verdict.{Verdict}
use Rattle.aa_compile.specs.FileRules.{chosen, way_of}
use Rattle.aa_compile.specs.Rows.{IsVerdictOf}
use Rattle.aa_compile.specs.Ways.{way_by}
use Rattle.aa_compile.proofs.WayLemmas.{tells_apart}
use Rattle.aa_compile.proofs.Transitions.{Says, chosen_says}
use Rattle.aa_mediate.specs.Links.{same_kind, same_fallback, same_scrub, same_exec}

pub both_true : (a b : Bool) → (a && b) ≡ true → (a ≡ true) × (b ≡ true)
both_true true b e = (refl, e)
both_true false b e = absurd (true≢false (sym e))

pub and_true : (a b : Bool) → a ≡ true → b ≡ true → (a && b) ≡ true
and_true a b p q = ap (λ x. x && b) p ∙ q

kinds_same : (a b : ExecKind) → same_kind a b ≡ true → a ≡ b
kinds_same Inherit Inherit e = refl
kinds_same Inherit Unconfined e = absurd (true≢false (sym e))
kinds_same Inherit Named e = absurd (true≢false (sym e))
kinds_same Inherit Child e = absurd (true≢false (sym e))
kinds_same Unconfined Inherit e = absurd (true≢false (sym e))
kinds_same Unconfined Unconfined e = refl
kinds_same Unconfined Named e = absurd (true≢false (sym e))
kinds_same Unconfined Child e = absurd (true≢false (sym e))
kinds_same Named Inherit e = absurd (true≢false (sym e))
kinds_same Named Unconfined e = absurd (true≢false (sym e))
kinds_same Named Named e = refl
kinds_same Named Child e = absurd (true≢false (sym e))
kinds_same Child Inherit e = absurd (true≢false (sym e))
kinds_same Child Unconfined e = absurd (true≢false (sym e))
kinds_same Child Named e = absurd (true≢false (sym e))
kinds_same Child Child e = refl

kind_refl : (a : ExecKind) → same_kind a a ≡ true
kind_refl Inherit = refl
kind_refl Unconfined = refl
kind_refl Named = refl
kind_refl Child = refl

fallbacks_same : (a b : Fallback) → same_fallback a b ≡ true → a ≡ b
fallbacks_same Refuse Refuse e = refl
fallbacks_same Refuse Stay e = absurd (true≢false (sym e))
fallbacks_same Refuse Leave e = absurd (true≢false (sym e))
fallbacks_same Stay Refuse e = absurd (true≢false (sym e))
fallbacks_same Stay Stay e = refl
fallbacks_same Stay Leave e = absurd (true≢false (sym e))
fallbacks_same Leave Refuse e = absurd (true≢false (sym e))
fallbacks_same Leave Stay e = absurd (true≢false (sym e))
fallbacks_same Leave Leave e = refl

fallback_refl : (a : Fallback) → same_fallback a a ≡ true
fallback_refl Refuse = refl
fallback_refl Stay = refl
fallback_refl Leave = refl

scrubs_same : (a b : Bool) → same_scrub a b ≡ true → a ≡ b
scrubs_same true b e = sym e
scrubs_same false true e = absurd (true≢false (sym e))
scrubs_same false false e = refl

scrub_refl : (a : Bool) → same_scrub a a ≡ true
scrub_refl true = refl
scrub_refl false = refl

names_same : (s t : Option (List ℕ)) → option_eq bytes_eq s t ≡ true → s ≡ t
names_same None None e = refl
names_same None (Some t) e = absurd (true≢false (sym e))
names_same (Some s) None e = absurd (true≢false (sym e))
names_same (Some s) (Some t) e = ap Some ((bytes_eq-Decides s t).0 e)

name_refl : (t : Option (List ℕ)) → option_eq bytes_eq t t ≡ true
name_refl None = refl
name_refl (Some t) = (bytes_eq-Decides t t).1 refl

abbrev mk : ExecKind → Bool → Fallback → Option (List ℕ) → Exec
mk k s f t = record { kind = k; scrub = s; fallback = f; target = t }

execs_same : (a b : Exec) → same_exec a b ≡ true → a ≡ b
execs_same a b e =
    let p = both_true _ _ e in
    let q = both_true _ _ p.0 in
    let r = both_true _ _ q.0 in
    ap (λ k. mk k a.scrub a.fallback a.target) (kinds_same a.kind b.kind r.0)
    ∙ ap (λ s. mk b.kind s a.fallback a.target) (scrubs_same a.scrub b.scrub r.1)
    ∙ ap (λ f. mk b.kind b.scrub f a.target) (fallbacks_same a.fallback b.fallback q.1)
    ∙ ap (λ t. mk b.kind b.scrub b.fallback t) (names_same a.target b.target p.1)

exec_refl : (a : Exec) → same_exec a a ≡ true
exec_refl a = and_true _ _ (and_true _ _ (and_true _ _ (kind_refl a.kind) (scrub_refl a.scrub)) (fallback_refl a.fallback)) (name_refl a.target)

pub options_same : (s t : Option Exec) → option_eq same_exec s t ≡ true → s ≡ t
options_same None None e = refl
options_same None (Some t) e = absurd (true≢false (sym e))
options_same (Some s) None e = absurd (true≢false (sym e))
options_same (Some s) (Some t) e = ap Some (execs_same s t e)

option_refl : (t : Option Exec) → option_eq same_exec t t ≡ true
option_refl None = refl
option_refl (Some t) = exec_refl t

pub same_decides : (s t : Option Exec) → IsTrue (option_eq same_exec s t) ↔ (s ≡ t)
same_decides s t = (options_same s t, λ e. ap (option_eq same_exec s) (sym e) ∙ option_refl s)

module _ (rules : List FileRule) where
  numbers_same : (s t : Option Exec) → ((e : Exec) → s ≡ Some e → Says rules e) → ((e : Exec) → t ≡ Some e → Says rules e) → option_map (way_by rules) s ≡ option_map (way_by rules) t → s ≡ t
  numbers_same None None f g e = refl
  numbers_same None (Some t) f g e = absurd (let h = e in cc)
  numbers_same (Some s) None f g e = absurd (let h = e in cc)
  numbers_same (Some s) (Some t) f g e =
      let x = f s refl in
      let y = g t refl in
      ap Some (tells_apart rules x.rule y.rule s t x.in_rules y.in_rules x.says y.says (same_Some (way_by rules s) (way_by rules t) e))

  pub same_ways : (path other : List ℕ) (owned : Bool) (one two : Verdict) (b : Bool) → IsVerdictOf (way_by rules) rules path owned one
      → IsVerdictOf (way_by rules) rules other owned two → IsTrue b ↔ (one.chosen.way ≡ two.chosen.way)
      → b ≡ option_eq same_exec (way_of (chosen rules path owned)) (way_of (chosen rules other owned))
  same_ways path other owned one two b x y is =
      let s = way_of (chosen rules path owned) in
      let t = way_of (chosen rules other owned) in
      let d : IsTrue b ↔ (s ≡ t) = (
        λ h. numbers_same s t (λ e. chosen_says rules path owned e) (λ e. chosen_says rules other owned e) (sym x.way ∙ is.0 h ∙ y.way),
        λ e. is.1 (x.way ∙ ap (option_map (way_by rules)) e ∙ sym y.way),
      ) in
      same_from_decides {P = s ≡ t} _ _ d (same_decides s t)
