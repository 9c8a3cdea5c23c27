-- What a reading meets is reached by ways.
use Rattle.std.proofs.Common.{◌≡◌, ◌≢◌, ◌⊎◌, inl, inr, ℕ, ◌==◌, ◌&&◌, ◌||◌, not, Bool, true, false, List, [], ◌∷◌}
use Rattle.std.proofs.Common.{flat_map, Option, Some, None, is_some, option_map, option_to_list, All, cond, refl, sym, subst, true≢false}
use Rattle.std.specs.List.{list_any}
use Rattle.std.proofs.lemmas.Bool.Decides.{Decides-eqb}
use Rattle.std.proofs.lemmas.List.Elements.{All-nil, All-cons, All-head, All-tail, All-append, All-weaker, All-contains_itself}
use Rattle.aa_words.specs.Includes.{included_name}
use Rattle.aa_words.specs.Found.{IncludeData}
use Rattle.aa_files.specs.declared.unit.Unit as unit
use Rattle.aa_files.specs.Nodes.{source_of_node, node_named}
use Rattle.aa_files.specs.declared.trail.Step.{Step}
use Rattle.aa_files.specs.Trails.{step_to, step_of, AreSteps, is_new, Reads, IsReading, way_back, IsStep, IsWay}
use Rattle.aa_files.specs.Trails.Reads.{End, Again, New}

-- a step leads to the node
abbrev leads : List Step → ℕ → Bool
leads met node = list_any (λ (t : Step). t.to == node) met

-- the main text, or a node to which one of these steps leads
abbrev Known : List Step → ℕ → Type 0
Known met node = (node ≡ 0) ⊎ (leads met node ≡ true)

abbrev Good : unit.Unit → List Step → Type 0
Good u [] = Unit {0}
Good u (s ∷ met) = IsStep u s × Known met s.from × (is_new u met s.to ≡ true) × Good u met

or_true : (a b : Bool) → b ≡ true → (a || b) ≡ true
or_true true b e = refl
or_true false b e = e

known_more : (s : Step) (met : List Step) (node : ℕ) → Known met node → Known (s ∷ met) node
known_more s met node (inl e) = inl e
known_more s met node (inr e) = inr (or_true (s.to == node) (leads met node) e)

or_here : (a b : Bool) → a ≡ true → (a || b) ≡ true
or_here true b e = refl
or_here false b e = absurd (true≢false (sym e))

known_here : (s : Step) (met : List Step) → Known (s ∷ met) s.to
known_here s met = inr (or_here (s.to == s.to) (leads met s.to) ((Decides-eqb s.to s.to).1 refl))

not_met : (a b : Bool) → (a && not b) ≡ true → b ≡ false
not_met true true e = absurd (true≢false (sym e))
not_met true false e = refl
not_met false true e = absurd (true≢false (sym e))
not_met false false e = refl

-- the steps of a text are taken from it
one_from : (u : unit.Unit) (node byte : ℕ) (o : Option ℕ) → All (λ (t : Step). t.from ≡ node) (option_to_list (option_map (step_to node byte) o))
one_from u node byte None = All-nil (λ (t : Step). t.from ≡ node)
one_from u node byte (Some to) = All-cons (λ (t : Step). t.from ≡ node) (step_to node byte to) [] refl (All-nil (λ (t : Step). t.from ≡ node))

all_from : (u : unit.Unit) (node : ℕ) (includes : List IncludeData) → All (λ (t : Step). t.from ≡ node) (flat_map (λ i. option_to_list (step_of u node i)) includes)
all_from u node [] = All-nil (λ (t : Step). t.from ≡ node)
all_from u node (i ∷ is) = All-append (λ (t : Step). t.from ≡ node) (option_to_list (step_of u node i))
    (flat_map (λ j. option_to_list (step_of u node j)) is) (one_from u node i.byte (node_named u (included_name i.text))) (all_from u node is)

steps_from : (u : unit.Unit) (node : ℕ) (steps : List Step) → AreSteps u node steps → All (λ (t : Step). t.from ≡ node) steps
steps_from u node steps are = subst (λ (ts : List Step). All (λ (t : Step). t.from ≡ node) ts) (sym are.each) (all_from u node are.includes)

-- a step of a text whose node is known
abbrev IsOpen : unit.Unit → List Step → Step → Type 0
IsOpen u met t = IsStep u t × Known met t.from

steps_open : (u : unit.Unit) (node : ℕ) (steps met : List Step) → AreSteps u node steps → Known met node → All (IsOpen u met) steps
steps_open u node steps met are known k d lt =
    let from = steps_from u node steps are k d lt in
    let has = All-contains_itself steps k d lt in
    (record { steps = steps; are = subst (λ (n : ℕ). AreSteps u n steps) (sym from) are; has = has }, subst (λ (n : ℕ). Known met n) (sym from) known)

open_more : (u : unit.Unit) (met last : List Step) → ((n : ℕ) → Known met n → Known last n) → (ss : List Step) → All (IsOpen u met) ss → All (IsOpen u last) ss
open_more u met last more ss all = All-weaker (IsOpen u met) (IsOpen u last) (λ t h. (h.0, more t.from h.1)) ss all

reads_good : (u : unit.Unit) (ss met last : List Step) → Reads u ss met last → All (IsOpen u met) ss → Good u met → Good u last × ((n : ℕ) → Known met n → Known last n)
reads_good u [] met last (End _) all good = (good, λ n k. k)
reads_good u (s ∷ ss) met last (Again _ _ _ _ old r) all good = reads_good u ss met last r (All-tail (IsOpen u met) s ss all) good
reads_good u (s ∷ ss) met last (New _ _ inner _ between _ new are r q) all good =
    let here = All-head (IsOpen u met) s ss all in
    let good-now : Good u (s ∷ met) = (here.0, here.1, new, good) in
    let within = reads_good u inner (s ∷ met) between r (steps_open u s.to inner (s ∷ met) are (known_here s met)) good-now in
    let kept : (n : ℕ) → Known met n → Known between n = λ n k. within.1 n (known_more s met n k) in
    let rest = reads_good u ss between last q (open_more u met between kept ss (All-tail (IsOpen u met) s ss all)) within.0 in
    (rest.0, λ n k. rest.1 n (kept n k))

-- a way back takes steps that were met
back_met : (u : unit.Unit) (met : List Step) (node n : ℕ) → leads met n ≡ false → All (λ (t : Step). t.to ≢ n) (way_back met node)
back_met u [] node n e = All-nil (λ (t : Step). t.to ≢ n)
back_met u (s ∷ met) node n e = by (s.to == node) (s.to == n) (λ f. (Decides-eqb s.to n).1 f) e (λ m f. back_met u met m n f)
  where
    by : (here there : Bool) → (s.to ≡ n → there ≡ true) → (there || leads met n) ≡ false
        → ((m : ℕ) → leads met n ≡ false → All (λ (t : Step). t.to ≢ n) (way_back met m))
        → All (λ (t : Step). t.to ≢ n) (cond here (s ∷ way_back met s.from) (way_back met node))
    by here true h f later = absurd (true≢false f)
    by true false h f later = All-cons (λ (t : Step). t.to ≢ n) s (way_back met s.from) (λ g. true≢false (sym (h g))) (later s.from f)
    by false false h f later = later node f

back_way : (u : unit.Unit) (met : List Step) (node : ℕ) → Good u met → Known met node → IsWay u node (way_back met node)
back_way u [] node good (inl e) = e
back_way u [] node good (inr e) = absurd (true≢false (sym e))
back_way u (s ∷ met) node good known = by (s.to == node) (λ e. (Decides-eqb s.to node).0 e) known (λ m k. back_way u met m good.3 k)
  where
    by : (b : Bool) → (b ≡ true → s.to ≡ node) → (node ≡ 0) ⊎ ((b || leads met node) ≡ true)
        → ((m : ℕ) → Known met m → IsWay u m (way_back met m)) → IsWay u node (cond b (s ∷ way_back met s.from) (way_back met node))
    by true h k later =
        let fresh : leads met s.to ≡ false = not_met (is_some (source_of_node u s.to)) (leads met s.to) good.2 in
        (h refl, good.0, later s.from good.1, back_met u met s.from s.to fresh)
    by false h k later = later node k

-- no step, no way back
none_back : (met : List Step) (node : ℕ) → leads met node ≡ false → way_back met node ≡ []
none_back [] node e = refl
none_back (s ∷ met) node e = by (s.to == node) e (λ f. none_back met node f)
  where
    by : (b : Bool) → (b || leads met node) ≡ false → (leads met node ≡ false → way_back met node ≡ []) → cond b (s ∷ way_back met s.from) (way_back met node) ≡ []
    by true f later = absurd (true≢false f)
    by false f later = later f

reading_good : (u : unit.Unit) (met : List Step) → IsReading u met → Good u met
reading_good u met r = (reads_good u r.steps [] met r.reads (steps_open u 0 r.steps [] r.of_main (inl refl)) tt).0

pub back_is_way : (u : unit.Unit) (node : ℕ) (met : List Step) → IsReading u met → (way_back met node ≡ []) ⊎ IsWay u node (way_back met node)
back_is_way u node met r = by (leads met node) refl
  where
    by : (b : Bool) → leads met node ≡ b → (way_back met node ≡ []) ⊎ IsWay u node (way_back met node)
    by true e = inr (back_way u met node (reading_good u met r) (inr e))
    by false e = inl (none_back met node e)
