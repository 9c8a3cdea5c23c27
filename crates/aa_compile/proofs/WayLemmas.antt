-- Different ways have different numbers.
use Rattle.std.proofs.Common.{◌≡◌, ℕ, ◌<◌, List, Bool, true, false, true≢false, Option, Some, None, refl, sym, ap, ◌∙◌, Contains, get_or, length, arith, ◌≤◌, ⊎_elim}
use Rattle.std.specs.Prelude.{position, nat_lt}
use Rattle.std.specs.List.{position_or_len}
use Rattle.std.specs.Option.{option_map_or, option_and_then}
use Rattle.std.specs.Str.{bytes_eq}
use Rattle.std.proofs.lemmas.Bool.{cases_lt, cond-true, lt-ltb}
use Rattle.std.proofs.lemmas.List.Sums.{fails_before_first}
use Rattle.std.proofs.lemmas.Option.{none-some}
use Rattle.std.proofs.lemmas.List.Quantifiers.{position-Some}
use Rattle.std.proofs.lemmas.Slice.Eq.{bytes_eq-Decides}
use Rattle.aa_model.specs.declared.rule.ExecKind.{ExecKind}
use Rattle.aa_model.specs.declared.rule.Fallback.{Fallback}
use Rattle.aa_model.specs.declared.rule.Exec.{Exec}
use Rattle.aa_model.specs.declared.rule.FileRule.{FileRule}
use Rattle.aa_compile.specs.declared.mark.Way.{Way}
use Rattle.aa_compile.specs.Ways.{names, way_by}
use Rattle.aa_compile.specs.Rows.{TellsApart}

-- the first place that passes, in a list where one does
pub found : {X : Type 0} (p : X → Bool) (xs : List X) (x : X) → Contains xs x → p x ≡ true → (n : ℕ) × (position p xs ≡ Some n)
found p xs x c e =
    ⊎_elim
    (λ (l : position_or_len p xs < length xs). (position_or_len p xs, cond-true (nat_lt (position_or_len p xs) (length xs)) (Some (position_or_len p xs)) None (lt-ltb (position_or_len p xs) (length xs) l)))
    (λ (g : length xs ≤ position_or_len p xs). absurd (true≢false (sym (ap p c.2 ∙ e) ∙ fails_before_first p xs c.0 x (omega (arith, c.1, g)))))
    (cases_lt (position_or_len p xs) (length xs))

same_text : (a b : List ℕ) → bytes_eq a b ≡ true → a ≡ b
same_text a b e = (bytes_eq-Decides a b).0 e

-- a rule names at most one profile
one_name : (t : Option (List ℕ)) (a b : List ℕ) → option_map_or (λ (x : List ℕ). bytes_eq x a) t false ≡ true → option_map_or (λ (x : List ℕ). bytes_eq x b) t false ≡ true → a ≡ b
one_name None a b e f = absurd (true≢false (sym e))
one_name (Some t) a b e f = sym (same_text t a e) ∙ same_text t b f

module _ (rules : List FileRule) where
  pub named : (r : FileRule) (e : Exec) (t : List ℕ) → r.exec ≡ Some e → e.target ≡ Some t → names t r ≡ true
  named r e t says is =
      ap (λ o. option_map_or (λ (x : List ℕ). bytes_eq x t) (option_and_then (λ (e : Exec). e.target) o) false) says
      ∙ ap (λ o. option_map_or (λ (x : List ℕ). bytes_eq x t) o false) is
      ∙ (bytes_eq-Decides t t).1 refl

  abbrev place : Option (List ℕ) → Option ℕ
  place o = option_and_then (λ (t : List ℕ). position (names t) rules) o

  same_target : (r q : FileRule) (a b : Exec) → Contains rules r → Contains rules q → r.exec ≡ Some a → q.exec ≡ Some b → (s t : Option (List ℕ)) → a.target ≡ s → b.target ≡ t → place s ≡ place t → s ≡ t
  same_target r q a b c d f g None None h k e = refl
  same_target r q a b c d f g (Some s) None h k e = let n = found (names s) rules r c (named r a s f h) in absurd (none-some n.0 (sym e ∙ n.1))
  same_target r q a b c d f g None (Some t) h k e = let n = found (names t) rules q d (named q b t g k) in absurd (none-some n.0 (e ∙ n.1))
  same_target r q a b c d f g (Some s) (Some t) h k e =
      let n = found (names s) rules r c (named r a s f h) in
      let x = position-Some (names s) rules n.0 r n.1 in
      let y = position-Some (names t) rules n.0 r (sym e ∙ n.1) in
      ap Some (one_name (option_and_then (λ (e : Exec). e.target) (get_or rules n.0 r).exec) s t x.1 y.1)

  abbrev mk : ExecKind → Bool → Fallback → Option (List ℕ) → Exec
  mk k s f t = record { kind = k; scrub = s; fallback = f; target = t }

  pub tells_apart : TellsApart (way_by rules) rules
  tells_apart r q a b c d f g e =
      ap (λ k. mk k a.scrub a.fallback a.target) (ap (λ (w : Way). w.kind) e)
      ∙ ap (λ s. mk b.kind s a.fallback a.target) (ap (λ (w : Way). w.scrub) e)
      ∙ ap (λ x. mk b.kind b.scrub x a.target) (ap (λ (w : Way). w.fallback) e)
      ∙ ap (λ t. mk b.kind b.scrub b.fallback t) (same_target r q a b c d f g a.target b.target refl refl (ap (λ (w : Way). w.target) e))
