-- The rules of a profile of which another has none that says the same.
-- Source: own.
use Rattle.std.specs.Prelude.{ℕ, ◌≡◌, ◌↔◌, ◌<◌, List, [], ◌∷◌, ◌++◌, map, length, take, filter, Bool, not, Some, Contains}
use Rattle.std.specs.Prelude.{slice_index_or, if◌then◌else◌}
use Rattle.std.specs.Borrow.{Bor}
use Rattle.std.specs.List.{list_any, slice_get, range_with_len}
use Rattle.std.specs.List.Sorted.{IsStrictlyIncreasing}
use Rattle.std.specs.Str.{bytes_eq}
use Rattle.aa_model.specs.declared.policy.Profile.{Profile}
use Rattle.aa_changed_rules.specs.declared.changed.ChangedRules.{ChangedRules}
use Rattle.aa_changed_rules.specs.Forms.{file_form, cap_form, net_form, change_form}
use Rattle.aa_changed_rules.specs.Sameness.{SameFileRule, SameCapRule, SameNetRule, SameChangeRule}

-- rule n has a form that none of the others has, nor an earlier one of its own
abbrev pub is_new : List (List ℕ) → List (List ℕ) → ℕ → Bool
is_new others forms n = not (list_any (bytes_eq (slice_index_or forms n [])) (others ++ take n forms))

-- the numbers of the rules with such a form, in their order
abbrev pub alone : List (List ℕ) → List (List ℕ) → List ℕ
alone others forms = filter (is_new others forms) (range_with_len 0 (length forms))

-- the numbers of rules in each list of a profile
pub record Changed : Type 0 where
  pub files : List ℕ
  pub caps : List ℕ
  pub nets : List ℕ
  pub changes : List ℕ

-- the same without where they lie in memory
abbrev pub changed_data : ChangedRules → Changed
changed_data r = record { files = r.files.items; caps = r.caps.items; nets = r.nets.items; changes = r.changes.items }

-- the rules of a profile that another one hasn't
abbrev pub changed : Profile → Profile → Changed
changed p q = record {
  files = alone (map file_form q.files) (map file_form p.files);
  caps = alone (map cap_form q.caps) (map cap_form p.caps);
  nets = alone (map net_form q.nets) (map net_form p.nets);
  changes = alone (map change_form q.changes) (map change_form p.changes);
}

-- ---- by what rules say, and not by their forms

-- rule n says what none of the others says, nor an earlier one of its own
pub record IsNew {R : Type 0} (Same : R → R → Type 0) (others rules : List R) (n : ℕ) : Type 0 where
  pub rule : R
  pub there : slice_get rules n ≡ Some rule
  pub lacking : (other : R) → Contains others other → Same rule other → ⊥
  pub first : (k : ℕ) (earlier : R) → k < n → slice_get rules k ≡ Some earlier → Same rule earlier → ⊥

-- the numbers of just these rules, each once, in their order
pub record ListsNew {R : Type 0} (Same : R → R → Type 0) (others rules : List R) (numbers : List ℕ) : Type 0 where
  pub rising : IsStrictlyIncreasing numbers
  pub each : (n : ℕ) → Contains numbers n ↔ IsNew Same others rules n

-- each list has the rules of the one profile that say what none of the other's says
pub record AreChanged (p q : Profile) (c : Changed) : Type 0 where
  pub files : ListsNew SameFileRule q.files p.files c.files
  pub caps : ListsNew SameCapRule q.caps p.caps c.caps
  pub nets : ListsNew SameNetRule q.nets p.nets c.nets
  pub changes : ListsNew SameChangeRule q.changes p.changes c.changes

-- ---- while rules are gone through

-- the set has just these
abbrev pub AreKnown : List (Bor (List ℕ)) → List (List ℕ) → Type 0
AreKnown keys known = (q : List ℕ) → list_any (λ k. bytes_eq q k.now) keys ≡ list_any (bytes_eq q) known

-- a form is known now, whatever was; the number is added just where it wasn't
pub record AddsNew (old new : List (Bor (List ℕ))) (before after : List ℕ) (n : ℕ) (form : List ℕ) : Type 0 where
  pub known : (forms : List (List ℕ)) → AreKnown old forms → AreKnown new (forms ++ form ∷ [])
  pub numbers : (forms : List (List ℕ)) → AreKnown old forms → after ≡ before ++ (if list_any (bytes_eq form) forms then [] else n ∷ [])
