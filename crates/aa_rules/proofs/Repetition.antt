-- Repetition, over any element that reads in one way alone.
use Rattle.std.proofs.Common.{◌≡◌, List, [], ◌∷◌, ◌++◌, refl, sym, ap, subst, ◌∙◌, append_assoc}
use Rattle.std.proofs.lemmas.List.{append-nil}
use Rattle.aa_words.specs.Splits.{WordData}
use Rattle.aa_rules.specs.Grammar.{Production, Ending, Many, Here}

-- no words begin with two elements or have two ends, and none begin with an element and end
pub record Reads {X : Type 0} (Is : Production X) (Ends : Ending) : Type 0 where
  pub once : (ws : List WordData) (x y : X) (r s : List WordData) → Is ws x r → Is ws y s → (x ≡ y) × (r ≡ s)
  pub ends_once : (ws r s : List WordData) → Ends ws r → Ends ws s → r ≡ s
  pub apart : (ws : List WordData) (x : X) (r s : List WordData) → Is ws x r → Ends ws s → ⊥

-- the elements so far, and then those of the rest, are those of the whole, and there are no others
pub record Reaches {X : Type 0} (Is : Production X) (Ends : Ending) (ws : List WordData) (found : List X) (rest : List WordData) : Type 0 where
  pub goes_on : (xs : List X) (end : List WordData) → Many Is Ends rest xs end → Many Is Ends ws (found ++ xs) end
  pub only : (xs : List X) (end : List WordData) → Many Is Ends ws xs end → (others : List X) × (xs ≡ found ++ others) × Many Is Ends rest others end

pub reaches_start : {X : Type 0} (Is : Production X) (Ends : Ending) (ws : List WordData) → Reaches Is Ends ws [] ws
reaches_start Is Ends ws = record { goes_on = λ xs end b. b; only = λ xs end b. (xs, refl, b) }

-- an element that is read is the first of all readings
pub step : {X : Type 0} (Is : Production X) (Ends : Ending) → Reads Is Ends → (rest : List WordData) (xs : List X) (end : List WordData) (x : X) (after : List WordData) → Is rest x after → Many Is Ends rest xs end
    → (others : List X) × (xs ≡ x ∷ others) × Many Is Ends after others end
step Is Ends reads rest [] end x after h b = absurd (reads.apart rest x after end h b)
step {X} Is Ends reads rest (y ∷ ys) end x after h b =
    let p = reads.once rest y x b.0 after b.1 h in
    (ys, ap (λ (z : X). z ∷ ys) p.0, subst (λ (z : List WordData). Many Is Ends z ys end) p.1 b.2)

-- one more element is read
pub reaches_next : {X : Type 0} (Is : Production X) (Ends : Ending) → Reads Is Ends → (ws : List WordData) (found : List X) (rest : List WordData) (x : X) (after : List WordData)
    → Is rest x after → Reaches Is Ends ws found rest → Reaches Is Ends ws (found ++ x ∷ []) after
reaches_next {X} Is Ends reads ws found rest x after h reach = record {
  goes_on = λ xs end b. rw append_assoc (reach.goes_on (x ∷ xs) end (after, h, b));
  only = λ xs end b.
      let o = reach.only xs end b in
      let s = step Is Ends reads rest o.0 end x after h o.2 in
      (s.0, o.1 ∙ ap (λ (z : List X). found ++ z) s.1 ∙ sym (append_assoc found (x ∷ []) s.0), s.2);
}

-- the end is read
pub reaches_end : {X : Type 0} (Is : Production X) (Ends : Ending) (ws : List WordData) (found : List X) (rest after : List WordData)
    → Ends rest after → Reaches Is Ends ws found rest → Many Is Ends ws found after
reaches_end Is Ends ws found rest after h reach = rw (← append-nil found) (reach.goes_on [] after h)

none_here : {X : Type 0} (Is : Production X) (Ends : Ending) (rest : List WordData) (xs : List X) (end : List WordData)
    → ((x : X) (after : List WordData) → Is rest x after → ⊥) → ((after : List WordData) → Ends rest after → ⊥) → Many Is Ends rest xs end → ⊥
none_here Is Ends rest [] end h g b = g end b
none_here Is Ends rest (x ∷ xs) end h g b = h x b.0 b.1

-- neither an element nor the end stands there
pub reaches_none : {X : Type 0} (Is : Production X) (Ends : Ending) (ws : List WordData) (found : List X) (rest : List WordData) (xs : List X) (end : List WordData)
    → ((x : X) (after : List WordData) → Is rest x after → ⊥) → ((after : List WordData) → Ends rest after → ⊥) → Reaches Is Ends ws found rest → Many Is Ends ws xs end → ⊥
reaches_none Is Ends ws found rest xs end h g reach b = let o = reach.only xs end b in none_here Is Ends rest o.0 end h g o.2

-- one reading alone: the same elements, and the same rest
pub many_once : {X : Type 0} (Is : Production X) (Ends : Ending) → Reads Is Ends → (ws : List WordData) (xs ys : List X) (e f : List WordData)
    → Many Is Ends ws xs e → Many Is Ends ws ys f → (xs ≡ ys) × (e ≡ f)
many_once Is Ends reads ws [] [] e f a b = (refl, reads.ends_once ws e f a b)
many_once Is Ends reads ws [] (y ∷ ys) e f a b = absurd (reads.apart ws y b.0 e b.1 a)
many_once Is Ends reads ws (x ∷ xs) [] e f a b = absurd (reads.apart ws x a.0 f a.1 b)
many_once {X} Is Ends reads ws (x ∷ xs) (y ∷ ys) e f a b =
    let p = reads.once ws x y a.0 b.0 a.1 b.1 in
    let i = many_once Is Ends reads b.0 xs ys e f (subst (λ (z : List WordData). Many Is Ends z xs e) p.1 a.2) b.2 in
    (ap (λ (z : X). z ∷ xs) p.0 ∙ ap (λ (zs : List X). y ∷ zs) i.0, i.1)

-- one more element stands first
pub here_next : {X : Type 0} (Is : Production X) (ws : List WordData) (found : List X) (rest : List WordData) (x : X) (after : List WordData) → Is rest x after → Many Is Here ws found rest
    → Many Is Here ws (found ++ x ∷ []) after
here_next Is ws [] rest x after h m = (after, subst (λ (z : List WordData). Is z x after) m h, refl)
here_next Is ws (y ∷ ys) rest x after h m = (m.0, m.1, here_next Is m.0 ys rest x after h m.2)
