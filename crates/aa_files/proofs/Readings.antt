-- A reading goes on.
use Rattle.std.proofs.Common.{◌≡◌, ◌⊎◌, inl, inr, ℕ, zero, suc, ◌+◌, ◌==◌, ◌&&◌, ◌||◌, not, Bool, true, false, List, []}
use Rattle.std.proofs.Common.{◌∷◌, ◌++◌, reverse, Option, Some, None, is_some, Vec, refl, sym, ap, subst, ◌∙◌, arith, true≢false}
use Rattle.std.specs.Prelude.{slice_get, slice_set}
use Rattle.std.specs.List.{list_any}
use Rattle.std.specs.Option.{option_and_then}
use Rattle.std.specs.declared.alloc.Global.{Global}
use Rattle.std.proofs.lemmas.Bool.{cases_eq}
use Rattle.std.proofs.lemmas.Bool.Decides.{Decides-eqb}
use Rattle.aa_files.specs.declared.unit.Unit as unit
use Rattle.aa_files.specs.Nodes.{source_of_node}
use Rattle.aa_files.specs.declared.trail.Step.{Step}
use Rattle.aa_files.specs.Trails.{AreSteps, is_new, Reads, IsReading}
use Rattle.aa_files.specs.Trails.Reads.{End, Again, New}
use Rattle.aa_files.specs.Unread.{Slot, Says, IsUnread, slot_size, steps_left}

-- what is read of two lists of steps is read of the first, and then of the second
reads_split : (u : unit.Unit) (ss ts met last : List Step) → Reads u (ss ++ ts) met last → (mid : List Step) × Reads u ss met mid × Reads u ts mid last
reads_split u [] ts met last r = (met, End met, r)
reads_split u (s ∷ ss) ts met last (Again _ _ _ _ old r) = let m = reads_split u ss ts met last r in (m.0, Again s ss met m.0 old m.1, m.2)
reads_split u (s ∷ ss) ts met last (New _ _ inner _ between _ new are r q) = let m = reads_split u ss ts between last q in (m.0, New s ss inner met between m.0 new are r m.1, m.2)

-- with these steps ahead and those met, what is met in the end is a reading of the main text
pub record GoesOn (u : unit.Unit) (ahead met : List Step) : Type 0 where
  pub on : (last : List Step) → Reads u ahead met last → IsReading u last

pub goes_begin : (u : unit.Unit) (steps : List Step) → AreSteps u 0 steps → GoesOn u steps []
goes_begin u steps are = record { on = λ last r. record { steps = steps; of_main = are; reads = r } }

pub goes_end : (u : unit.Unit) (met : List Step) → GoesOn u [] met → IsReading u met
goes_end u met g = g.on met (End met)

pub goes_again : (u : unit.Unit) (s : Step) (ahead met : List Step) → is_new u met s.to ≡ false → GoesOn u (s ∷ ahead) met → GoesOn u ahead met
goes_again u s ahead met old g = record { on = λ last r. g.on last (Again s ahead met last old r) }

pub goes_new : (u : unit.Unit) (s : Step) (inner ahead met : List Step) → is_new u met s.to ≡ true → AreSteps u s.to inner → GoesOn u (s ∷ ahead) met → GoesOn u (inner ++ ahead) (s ∷ met)
goes_new u s inner ahead met new are g =
    record { on = λ last r. let m = reads_split u inner ahead (s ∷ met) last r in g.on last (New s ahead inner met m.0 last new are m.1 m.2) }

-- what a slot says
pub says_none : (u : unit.Unit) (met : List Step) (node : ℕ) (o : Option Slot) → option_and_then (λ (slot : Slot). slot) o ≡ None → Says u met node o → is_new u met node ≡ false
says_none u met node None e h = h
says_none u met node (Some None) e h = h
says_none u met node (Some (Some v)) e h = cc

pub says_some : (u : unit.Unit) (met : List Step) (node : ℕ) (o : Option Slot) (v : Vec Step Global)
    → option_and_then (λ (slot : Slot). slot) o ≡ Some v → Says u met node o → (is_new u met node ≡ true) × AreSteps u node (reverse v.items)
says_some u met node None v e h = cc
says_some u met node (Some None) v e h = cc
says_some u met node (Some (Some w)) v e h = let f : w ≡ v = cc in (h.0, subst (λ (x : Vec Step Global). AreSteps u node (reverse x.items)) f h.1)

-- a slot that is emptied
emptied : (u : unit.Unit) (met : List Step) (node : ℕ) (slots : List Slot) (n : ℕ) → is_new u met node ≡ false → Says u met node (slice_get (slice_set slots n None) n)
emptied u met node [] n e = e
emptied u met node (x ∷ xs) zero e = e
emptied u met node (x ∷ xs) (suc n) e = emptied u met node xs n e

other : (slots : List Slot) (n k : ℕ) → (k ≡ n → ⊥) → slice_get (slice_set slots n None) k ≡ slice_get slots k
other [] n k h = refl
other (x ∷ xs) zero zero h = absurd (h refl)
other (x ∷ xs) zero (suc k) h = refl
other (x ∷ xs) (suc n) zero h = refl
other (x ∷ xs) (suc n) (suc k) h = other xs n k (λ e. h (ap suc e))

says_like : (u : unit.Unit) (met met' : List Step) (node : ℕ) (o : Option Slot) → is_new u met' node ≡ is_new u met node → Says u met node o → Says u met' node o
says_like u met met' node None e h = e ∙ h
says_like u met met' node (Some None) e h = e ∙ h
says_like u met met' node (Some (Some v)) e h = (e ∙ h.0, h.1)

pub unread_emptied : (u : unit.Unit) (met met' : List Step) (slots : List Slot) (n : ℕ)
    → ((k : ℕ) → (k ≡ n → ⊥) → is_new u met' k ≡ is_new u met k) → is_new u met' n ≡ false → IsUnread u met slots
    → IsUnread u met' (slice_set slots n None)
unread_emptied u met met' slots n like old h = record { each = λ k. by k (cases_eq k n) }
  where
    by : (k : ℕ) → (k ≡ n) ⊎ (k ≡ n → ⊥) → Says u met' k (slice_get (slice_set slots n None) k)
    by k (inl e) = subst (λ (i : ℕ). Says u met' i (slice_get (slice_set slots n None) i)) (sym e) (emptied u met' n slots n old)
    by k (inr ne) = subst (λ (o : Option Slot). Says u met' k o) (sym (other slots n k ne)) (says_like u met met' k (slice_get slots k) (like k ne) (h.each k))

pub unread_again : (u : unit.Unit) (met : List Step) (slots : List Slot) (n : ℕ) → is_new u met n ≡ false → IsUnread u met slots → IsUnread u met (slice_set slots n None)
unread_again u met slots n old h = unread_emptied u met met slots n (λ k ne. refl) old h

met_now : (u : unit.Unit) (s : Step) (met : List Step) → is_new u (s ∷ met) s.to ≡ false
met_now u s met = by (is_some (source_of_node u s.to)) (s.to == s.to) ((Decides-eqb s.to s.to).1 refl)
  where
    by : (a b : Bool) → b ≡ true → (a && not (b || list_any (λ (t : Step). t.to == s.to) met)) ≡ false
    by true true e = refl
    by false true e = refl
    by true false e = absurd (true≢false (sym e))
    by false false e = refl

not_now : (u : unit.Unit) (s : Step) (met : List Step) (k : ℕ) → (k ≡ s.to → ⊥) → is_new u (s ∷ met) k ≡ is_new u met k
not_now u s met k ne = by (s.to == k) (λ e. ne (sym ((Decides-eqb s.to k).0 e)))
  where
    by : (b : Bool) → (b ≡ true → ⊥) → (is_some (source_of_node u k) && not (b || list_any (λ (t : Step). t.to == k) met)) ≡ is_new u met k
    by true h = absurd (h refl)
    by false h = refl

pub unread_new : (u : unit.Unit) (s : Step) (met : List Step) (slots : List Slot) → IsUnread u met slots → IsUnread u (s ∷ met) (slice_set slots s.to None)
unread_new u s met slots h = unread_emptied u met (s ∷ met) slots s.to (not_now u s met) (met_now u s met) h

-- what is taken out of the slots
pub left_taken : (slots : List Slot) (n : ℕ) → steps_left (slice_set slots n None) + slot_size (option_and_then (λ (slot : Slot). slot) (slice_get slots n)) ≡ steps_left slots
left_taken [] n = refl
left_taken (x ∷ xs) zero = omega (arith, by x)
  where
    by : (x : Slot) → slot_size (option_and_then (λ (slot : Slot). slot) (Some x)) ≡ slot_size x
    by None = refl
    by (Some v) = refl
left_taken (x ∷ xs) (suc n) = omega (arith, left_taken xs n)
