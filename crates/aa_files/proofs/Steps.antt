-- A step is taken from the stack.
use Rattle.std.proofs.Common.{◌≡◌, ℕ, ◌+◌, ◌<◌, ◌==◌, Bool, true, false, cond, List, [], ◌∷◌, ◌++◌, length, reverse, Option, Some, None, Vec, refl, sym, ap, subst, ◌∙◌, arith, length-append}
use Rattle.std.specs.Prelude.{slice_get, slice_set}
use Rattle.std.specs.Option.{option_and_then}
use Rattle.std.specs.declared.alloc.Global.{Global}
use Rattle.std.proofs.lemmas.Bool.Decides.{Decides-eqb}
use Rattle.std.proofs.lemmas.List.{reverse-append}
use Rattle.aa_files.specs.declared.unit.Unit as unit
use Rattle.aa_files.specs.declared.trail.Step.{Step}
use Rattle.aa_files.specs.Trails.{is_new, way_back}
use Rattle.aa_files.specs.Unread.{Slot, IsUnread, slot_size, steps_left}
use Rattle.aa_files.proofs.Readings.{GoesOn, goes_again, goes_new, says_none, says_some, unread_again, unread_new, left_taken}
use Rattle.aa_text.proofs.Utf8.{is_false}

pub last_first : (xs ys : List Step) (s : Step) → xs ≡ ys ++ s ∷ [] → reverse xs ≡ s ∷ reverse ys
last_first xs ys s e = ap (λ (zs : List Step). reverse zs) e ∙ reverse-append ys (s ∷ [])

abbrev pub taken : List Slot → ℕ → Option (Vec Step Global)
taken slots node = option_and_then (λ (slot : Slot). slot) (slice_get slots node)

-- a step into a text that isn't new
pub record IsKept (u : unit.Unit) (slots : List Slot) (stack met : List Step) : Type 0 where
  pub unread : IsUnread u (reverse met) slots
  pub on : GoesOn u (reverse stack) (reverse met)

pub kept_again : (u : unit.Unit) (s : Step) (slots slots' : List Slot) (stack rest met : List Step) → IsKept u slots stack met → stack ≡ rest ++ s ∷ []
    → taken slots s.to ≡ None → slots' ≡ slice_set slots s.to None → IsKept u slots' rest met
kept_again u s slots slots' stack rest met k popped none left =
    let old : is_new u (reverse met) s.to ≡ false = says_none u (reverse met) s.to (slice_get slots s.to) none (k.unread.each s.to) in
    record {
      unread = subst (λ (ss : List Slot). IsUnread u (reverse met) ss) (sym left) (unread_again u (reverse met) slots s.to old k.unread);
      on = goes_again u s (reverse rest) (reverse met) old (subst (λ (ss : List Step). GoesOn u ss (reverse met)) (last_first stack rest s popped) k.on);
    }

pub kept_new : (u : unit.Unit) (s : Step) (v : Vec Step Global) (slots slots' : List Slot) (stack rest stack' met met' : List Step)
    → IsKept u slots stack met → stack ≡ rest ++ s ∷ [] → taken slots s.to ≡ Some v → slots' ≡ slice_set slots s.to None
    → stack' ≡ rest ++ v.items → met' ≡ met ++ s ∷ [] → IsKept u slots' stack' met'
kept_new u s v slots slots' stack rest stack' met met' k popped some left pushed added =
    let says = says_some u (reverse met) s.to (slice_get slots s.to) v some (k.unread.each s.to) in
    let now : reverse met' ≡ s ∷ reverse met = last_first met' met s added in
    let ahead : reverse stack' ≡ reverse v.items ++ reverse rest = ap (λ (ss : List Step). reverse ss) pushed ∙ reverse-append rest v.items in
    let unread : IsUnread u (s ∷ reverse met) slots' = subst (λ (ss : List Slot). IsUnread u (s ∷ reverse met) ss) (sym left) (unread_new u s (reverse met) slots k.unread) in
    let on : GoesOn u (reverse v.items ++ reverse rest) (s ∷ reverse met) = goes_new u s (reverse v.items) (reverse rest) (reverse met) says.0 says.1
    (subst (λ (ss : List Step). GoesOn u ss (reverse met)) (last_first stack rest s popped) k.on) in
    record {
      unread = subst (λ (ss : List Step). IsUnread u ss slots') (sym now) unread;
      on = subst (λ (ss : List Step). GoesOn u ss (reverse met')) (sym ahead) (subst (λ (ss : List Step). GoesOn u (reverse v.items ++ reverse rest) ss) (sym now) on);
    }

pub fewer_again : (s : Step) (slots slots' : List Slot) (stack rest : List Step) → stack ≡ rest ++ s ∷ [] → taken slots s.to ≡ None
    → slots' ≡ slice_set slots s.to None → steps_left slots' + length rest < steps_left slots + length stack
fewer_again s slots slots' stack rest popped none left =
    let all = left_taken slots s.to in
    let size : slot_size (taken slots s.to) ≡ 0 = ap (λ (o : Option (Vec Step Global)). slot_size o) none in
    let longer : length stack ≡ length rest + 1 = ap (λ (ss : List Step). length ss) popped ∙ length-append rest (s ∷ []) in
    let same : steps_left slots' ≡ steps_left (slice_set slots s.to None) = ap (λ (ss : List Slot). steps_left ss) left in
    omega (arith, all, size, longer, same)

pub fewer_new : (s : Step) (v : Vec Step Global) (slots slots' : List Slot) (stack rest stack' : List Step) → stack ≡ rest ++ s ∷ []
    → taken slots s.to ≡ Some v → slots' ≡ slice_set slots s.to None → stack' ≡ rest ++ v.items
    → steps_left slots' + length stack' < steps_left slots + length stack
fewer_new s v slots slots' stack rest stack' popped some left pushed =
    let all = left_taken slots s.to in
    let size : slot_size (taken slots s.to) ≡ length v.items = ap (λ (o : Option (Vec Step Global)). slot_size o) some in
    let longer : length stack ≡ length rest + 1 = ap (λ (ss : List Step). length ss) popped ∙ length-append rest (s ∷ []) in
    let ahead : length stack' ≡ length rest + length v.items = ap (λ (ss : List Step). length ss) pushed ∙ length-append rest v.items in
    let same : steps_left slots' ≡ steps_left (slice_set slots s.to None) = ap (λ (ss : List Slot). steps_left ss) left in
    omega (arith, all, size, longer, ahead, same)

-- the way back, step by step
pub back_taken : (s : Step) (met : List Step) (at : ℕ) → s.to ≡ at → way_back (s ∷ met) at ≡ s ∷ way_back met s.from
back_taken s met at e = ap (λ (b : Bool). cond b (s ∷ way_back met s.from) (way_back met at)) ((Decides-eqb s.to at).1 e)

pub back_passed : (s : Step) (met : List Step) (at : ℕ) → (s.to ≡ at → ⊥) → way_back (s ∷ met) at ≡ way_back met at
back_passed s met at ne = ap (λ (b : Bool). cond b (s ∷ way_back met s.from) (way_back met at)) (is_false (s.to == at) (λ e. ne ((Decides-eqb s.to at).0 e)))
