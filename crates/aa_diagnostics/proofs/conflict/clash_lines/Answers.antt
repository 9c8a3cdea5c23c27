use Rattle.std.proofs.Common.{◌≡◌, ◌⊎◌, ℕ, ◌+◌, List, [], inl, inr, ap, sym, subst, ◌∙◌, ◌++◌, Vec}
use Rattle.std.specs.declared.alloc.Global.{Global}
use Rattle.aa_base.specs.declared.fault.Spot.{Spot}
use Rattle.aa_model.specs.declared.policy.Profile.{Profile}
use Rattle.aa_explain.specs.Places.{PlacesData}
use Rattle.aa_files.specs.declared.unit.Unit as unit
use Rattle.aa_files.specs.Texts.{texts}
use Rattle.aa_diagnostics.specs.Conflicts.{ShowsOne, NoneHas}
use Rattle.aa_diagnostics.proofs.OfUnit.{Lines}
use Rattle.aa_diagnostics.proofs.conflict.clash_lines.Goals as goal

-- what was pushed behind no line is all that is there
behind_none : (u : unit.Unit) (profiles : List Profile) (places : List PlacesData) (at : Spot) (limit : ℕ) (old new : Lines) → old.items ≡ []
    → ((new ≡ old) × NoneHas profiles at (limit + 1)) ⊎ ((lines : List (List ℕ)) × ShowsOne u profiles places at lines × (texts new.items ≡ texts old.items ++ lines))
    → (NoneHas profiles at (limit + 1) × (texts new.items ≡ [])) ⊎ ShowsOne u profiles places at (texts new.items)
behind_none u profiles places at limit old new empty h =
    elim h [
      | inl none ↦ inl (none.1, ap (λ (v : Lines). texts v.items) none.0 ∙ ap texts empty)
      | inr one ↦
          let lines : texts new.items ≡ one.0 = one.2 ∙ ap (λ (vs : List (Vec ℕ Global)). texts vs ++ one.0) empty in
          inr (subst (λ (ls : List (List ℕ)). ShowsOne u profiles places at ls) (sym lines) one.1)
    ]

pub returns : goal.returns
returns c = behind_none c.args.unit.now c.args.profiles.now _ c.args.at c.args.limit _ _ c.new-further.ensures.items c.in_ok-push_first_clash.ensures
