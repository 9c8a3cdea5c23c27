-- Marks of rules that aren't gone.
use Rattle.std.proofs.Common.{◌≡◌, ℕ, List, [], ◌∷◌, Bool, true, false, not, cond, Option, Some, None, refl, sym, ap, ◌∙◌}
use Rattle.std.specs.Prelude.{◌&&◌, ◌||◌, is_some}
use Rattle.std.specs.List.{slice_get, cons_option}
use Rattle.aa_model.specs.Lawful.{has_exec}
use Rattle.aa_compile.specs.declared.sets.RuleSets.{RuleSets}
use Rattle.aa_compile.specs.declared.side.Chosen.{Chosen}
use Rattle.aa_compile.specs.Gathered.{gather, picked}
use Rattle.aa_compile.specs.Said.{both, nothing}
use Rattle.aa_compile.specs.Sides.{no_choice, earlier, mark_says}
use Rattle.aa_redundancy.specs.declared.marks.RuleMark.{RuleMark}
use Rattle.aa_redundancy.specs.declared.saying.Saying.{Saying}
use Rattle.aa_redundancy.specs.declared.tables.Table.{Table}
use Rattle.aa_redundancy.specs.Rights.{rights}
use Rattle.aa_redundancy.specs.Marks.{is_sort, sets_of, choice_of, sets_by, choice_by, choose, chosen_by, led, said_by}
use Rattle.aa_redundancy.specs.Tables.{SameRow, SameTable, SameTables}

-- two ways to say which rules are gone, that agree on the rules of a row
module _ (gone others : ℕ → Bool) (marks : List RuleMark) where
  abbrev pub AgreeAt : Option RuleMark → Type 0
  AgreeAt None = Unit {0}
  AgreeAt (Some m) = gone m.rule ≡ others m.rule

  abbrev pub Agree : List ℕ → Type 0
  Agree [] = Unit {0}
  Agree (n ∷ ns) = AgreeAt (slice_get marks n) × Agree ns

  gathered : {M : Type 0} (join : M → M → M) (none : M) (f g : RuleMark → M) → ((m : RuleMark) → gone m.rule ≡ others m.rule → f m ≡ g m) → (row : List ℕ) → Agree row
      → gather join none f (picked marks row) ≡ gather join none g (picked marks row)
  gathered join none f g same [] agree = refl
  gathered {M} join none f g same (n ∷ ns) agree = at (slice_get marks n) (gathered join none f g same ns agree.1) agree.0
    where
      at : (o : Option RuleMark) → gather join none f (picked marks ns) ≡ gather join none g (picked marks ns) → AgreeAt o
          → gather join none f (cons_option o (picked marks ns)) ≡ gather join none g (cons_option o (picked marks ns))
      at None rest h = rest
      at (Some m) rest h = ap (λ (x : M). join x (gather join none f (picked marks ns))) (same m h) ∙ ap (join (g m)) rest

  sets_same : (owned : Bool) (m : RuleMark) → gone m.rule ≡ others m.rule → sets_of gone owned m ≡ sets_of others owned m
  sets_same owned m e = ap (λ (b : Bool). cond (owned || not m.mark.owner) (cond (not b) (mark_says m.mark) nothing) nothing) e

  choice_same : (literal owned : Bool) (m : RuleMark) → gone m.rule ≡ others m.rule → choice_of gone literal owned m ≡ choice_of others literal owned m
  choice_same literal owned m e =
      ap (λ (b : Bool). let c : Chosen =
      cond (is_sort literal m) (cond (owned || not m.mark.owner) (cond (not m.mark.deny && is_some m.mark.way) (cond (not b) (record { way = m.mark.way; audited = m.mark.audit }) no_choice) no_choice) no_choice) no_choice in c) e

  -- what sets of rules say, and the rule that is chosen
  abbrev saying : RuleSets → Chosen → Saying
  saying v c = record { rights = rights v; chosen = led (has_exec v.deny) c }

  -- say the same of it
  pub said_same : (row : List ℕ) → Agree row → (owned : Bool) → said_by gone owned (picked marks row) ≡ said_by others owned (picked marks row)
  said_same row agree owned =
      let sets = gathered both nothing (sets_of gone owned) (sets_of others owned) (sets_same owned) row agree in
      let literal = gathered earlier no_choice (choice_of gone true owned) (choice_of others true owned) (choice_same true owned) row agree in
      let any = gathered earlier no_choice (choice_of gone false owned) (choice_of others false owned) (choice_same false owned) row agree in
      let ms = picked marks row in
      ap (λ (v : RuleSets). saying v (chosen_by gone owned ms)) sets
      ∙ ap (λ (l : Chosen). saying (sets_by others owned ms) (choose l (choice_by gone false owned ms))) literal
      ∙ ap (λ (a : Chosen). saying (sets_by others owned ms) (choose (choice_by others true owned ms) a)) any

  pub agree_all : ((n : ℕ) → gone n ≡ others n) → (row : List ℕ) → Agree row
  agree_all same [] = tt
  agree_all same (n ∷ ns) = (at (slice_get marks n), agree_all same ns)
    where
      at : (o : Option RuleMark) → AgreeAt o
      at None = tt
      at (Some m) = same m.rule

  pub row_same : ((n : ℕ) → gone n ≡ others n) → (row : List ℕ) → SameRow marks gone row → SameRow marks others row
  row_same same row h owned = sym (said_same row (agree_all same row) owned) ∙ h owned

-- rules that are gone alike
pub table_same : (t : Table) (gone others : ℕ → Bool) → ((n : ℕ) → gone n ≡ others n) → SameTable t gone → SameTable t others
table_same t gone others same h = λ row c. row_same gone others t.marks.items same row (h row c)

pub tables_same : (ts : List Table) (gone others : ℕ → Bool) → ((n : ℕ) → gone n ≡ others n) → SameTables ts gone → SameTables ts others
tables_same ts gone others same h = λ t c. table_same t gone others same (h t c)
