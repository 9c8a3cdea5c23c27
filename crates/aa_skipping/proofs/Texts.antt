-- Full names and what they begin with.
use Rattle.std.proofs.Common.{◌≡◌, ℕ, List, [], ◌∷◌, ◌++◌, length, drop, Bool, true, false, cond, Some, None, refl, sym, ap, ◌∙◌, append_assoc}
use Rattle.std.specs.Prelude.{◌&&◌}
use Rattle.std.specs.Bool.{nat_eq}
use Rattle.std.specs.List.{starts_with}
use Rattle.std.specs.Option.{option_map_or}
use Rattle.std.proofs.lemmas.Bool.{eq-eqb}
use Rattle.std.proofs.lemmas.List.{append-nil}
use Rattle.aa_compile.specs.Transitions.{child_name}
use Rattle.aa_skipping.specs.Names.{is_end, is_of}

begins : (s rest : List ℕ) → starts_with nat_eq (s ++ rest) s ≡ true
begins [] rest = refl
begins (c ∷ s) rest = ap (λ (b : Bool). b && starts_with nat_eq (s ++ rest) s) (eq-eqb c c refl) ∙ begins s rest

dropped : (s rest : List ℕ) → drop (length s) (s ++ rest) ≡ rest
dropped [] rest = refl
dropped (c ∷ s) rest = dropped s rest

begun : (s rest : List ℕ) → is_of s (s ++ rest) ≡ is_end rest
begun s rest =
    ap (λ (b : Bool). option_map_or is_end (cond b (Some (drop (length s) (s ++ rest))) None) false) (begins s rest)
    ∙ ap is_end (dropped s rest)

pub of_itself : (s name : List ℕ) → name ≡ s → is_of s name ≡ true
of_itself s name e = ap (is_of s) (e ∙ sym (append-nil s)) ∙ begun s []

pub of_parent : (s name own : List ℕ) → name ≡ child_name s own → is_of s name ≡ true
of_parent s name own e = ap (is_of s) (e ∙ append_assoc s (47 ∷ 47 ∷ []) own) ∙ begun s (47 ∷ 47 ∷ own)
