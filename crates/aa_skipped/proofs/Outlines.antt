-- Units whose words have no outline that spells a policy.
use Rattle.std.proofs.Common.{◌≡◌, inl, inr, ℕ, List, [], ◌∷◌, ◌++◌, subst, append_assoc, true≢false, sym, ◌∙◌, arith}
use Rattle.std.proofs.lemmas.List.{append-nil}
use Rattle.aa_base.specs.declared.fault.PolicyFault.{PolicyFault}
use Rattle.aa_words.specs.Splits.{WordData, Splits}
use Rattle.aa_policies.specs.Policies.{Source, CanFollow, IsRefusedBehind, IsFaultOfSources}
use Rattle.aa_files.specs.declared.unit.Unit as unit
use Rattle.aa_load.specs.UnitPolicy.{texts_of}

behind : (earlier before rest : List Source) → CanFollow earlier (before ++ rest) → CanFollow (earlier ++ before) rest
behind earlier [] rest can = subst (λ (l : List Source). CanFollow l rest) (sym (append-nil earlier)) can
behind earlier (x ∷ xs) rest can = subst (λ (l : List Source). CanFollow l rest) (append_assoc earlier (x ∷ []) xs) (behind (earlier ++ x ∷ []) xs rest can.3)

none_refused : (earlier : List Source) (source : Source) (rest : List Source) (f : PolicyFault) → CanFollow earlier (source ∷ rest) → IsRefusedBehind earlier source f → ⊥
none_refused earlier source rest f can why =
    elim why [
      | inl large ↦ elim large.1 [ inl long ↦ let short = can.0 in omega (arith, long) | inr many ↦ let room = can.1 in omega (arith, many) ]
      | inr twice ↦ true≢false (sym twice.3 ∙ can.2)
    ]

-- no source is refused where all can be handed in
pub handed_in : (sources : List Source) (f : PolicyFault) → CanFollow [] sources → IsFaultOfSources sources f → ⊥
handed_in sources f can why =
    none_refused why.before why.source why.behind f (behind [] why.before (why.source ∷ why.behind) (subst (λ (l : List Source). CanFollow [] l) why.are can)) why.fault

-- the words of the texts that were handed in
pub own_words : (u : unit.Unit) (sources : List Source) (text : List ℕ) (ws : List WordData) → sources ≡ texts_of u → text ≡ u.text.items → Splits sources text ws → Splits (texts_of u) u.text.items ws
own_words u sources text ws s t h = subst (λ (l : List Source). Splits l u.text.items ws) s (subst (λ (x : List ℕ). Splits sources x ws) t h)

pub lent_words : (u : unit.Unit) (sources : List Source) (text : List ℕ) (ws : List WordData) → sources ≡ texts_of u → text ≡ u.text.items → Splits (texts_of u) u.text.items ws → Splits sources text ws
lent_words u sources text ws s t h = subst (λ (l : List Source). Splits l text ws) (sym s) (subst (λ (x : List ℕ). Splits (texts_of u) x ws) (sym t) h)
