-- Rules by the names behind their arrows.
use Rattle.std.specs.Prelude.{ℕ, ◌≡◌, List, Some, None, if◌then◌else◌, position}
use Rattle.std.specs.Option.{option_or}
use Rattle.std.specs.HashMap.{HashMap, get_by}
use Rattle.std.specs.Str.{bytes_eq}
use Rattle.std.specs.declared.vec.Vec.{Vec}
use Rattle.aa_model.specs.declared.rule.FileRule.{FileRule}
use Rattle.aa_compile.specs.Ways.{names}

-- for each name the map has the number of the first rule that names it, and else nothing
abbrev pub AreFirstNamings : {Y S : Type 0} → HashMap (Vec ℕ Y) ℕ S → List FileRule → Type 0
AreFirstNamings firsts rules = (name : List ℕ) → get_by (λ k. bytes_eq name k.items) firsts ≡ position (names name) rules

-- so for the name behind a rule's arrow
abbrev pub AddsRule : {Y S : Type 0} → HashMap (Vec ℕ Y) ℕ S → FileRule → ℕ → HashMap (Vec ℕ Y) ℕ S → Type 0
AddsRule before rule number after = (name : List ℕ) → get_by (λ k. bytes_eq name k.items) after ≡ option_or (get_by (λ k. bytes_eq name k.items) before) (if names name rule then Some number else None)
