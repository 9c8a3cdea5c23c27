use Rattle.std.proofs.Common.{◌≡◌, ◌==◌, ◌++◌, ◌⊎◌, inl, inr, Result, Ok, Err, ◌<◌, ◌≤◌, ◌+◌, Vec, take, arith, ℕ, Option, Some, None, List, length, get_or, map, flat_map, rules, tests, ap, ◌∙◌}
use Rattle.std.specs.Iterator.{Yields}
use Rattle.std.specs.List.{slice_split}
use Rattle.std.specs.declared.alloc.Global.{Global}
use Rattle.std.proofs.lemmas.List.{length-map, length-append}
use Rattle.std.proofs.lemmas.List.Folds.{length-flat_map-take}
use Rattle.std.proofs.lemmas.Iterator.{YieldsList}
use Rattle.std.proofs.lemmas.Iterator.Splits.{YieldsList-from_slice_split}
use Rattle.std.proofs.lemmas.Iterator.Consumers.{YieldsList-at, YieldsList-so_far, YieldsList-turn, YieldsList-end}
use Rattle.std.specs.Result.{IfErr, IsErrAnd}
use Rattle.aa_base.specs.declared.unread.Unread.{Unread}
use Rattle.aa_base.specs.declared.unread.Unread.TheVariants.{NoMemory, TooLarge}
use Rattle.aa_ask.specs.Words.{texts, word_of}
use Rattle.aa_ask.proofs.words.push_words.Goals as goal

ended : {S A B : Type 0} {steps : S → Option A → S → Type 0} {v : A → B} {s : S} {all : List B} (xs : List A) (t : S) (y : Yields steps s xs t)
    → (r : Option A) (u : S) → r ≡ None → steps t r u → (e : YieldsList steps v s all) → map v xs ≡ all
ended xs t y r u none last e = (YieldsList-end e xs t y r u none last).0

turned : {S A B : Type 0} {steps : S → Option A → S → Type 0} {v : A → B} {s : S} {all : List B} (xs : List A) (t : S) (y : Yields steps s xs t)
    → (r : Option A) (u : S) (x : A) → r ≡ Some x → steps t r u → (e : YieldsList steps v s all)
    → (map v xs ≡ take (length xs) all) × ((length xs < length all) × (v x ≡ get_or all (length xs) (v x)))
turned xs t y r u x some last e = (YieldsList-so_far e xs t y, YieldsList-turn e xs t y r u x some last)

counted : (before now : List (Vec ℕ Global)) (all : List (List ℕ)) (n : ℕ) (line : List ℕ)
    → texts now ≡ texts before ++ flat_map word_of (take n all) → n < length all → line ≡ get_or all n line
    → length now + length (word_of line) ≤ length before + length (flat_map word_of all)
counted before now all n line e h at =
    let a : length (texts now) ≡ length (texts before) + length (flat_map word_of (take n all)) = ap length e ∙ length-append (texts before) (flat_map word_of (take n all)) in
    let b : length (texts now) ≡ length now = length-map now (λ (w : Vec ℕ Global). w.items) in
    let d : length (texts before) ≡ length before = length-map before (λ (w : Vec ℕ Global). w.items) in
    let m : length (flat_map word_of (take n all)) + length (word_of (get_or all n line)) ≤ length (flat_map word_of all) = length-flat_map-take word_of all n line h in
    let k : length (word_of line) ≡ length (word_of (get_or all n line)) = ap (λ (l : List ℕ). length (word_of l)) at in
    omega arith

abbrev Overflows : Unread → ℕ → Type 0
Overflows why n = (why ≡ NoMemory) ⊎ ((why ≡ TooLarge) × (65536 < n))

more : (why : Unread) (m n : ℕ) → m ≤ n → Overflows why m → Overflows why n
more why m n h (inl none) = inl none
more why m n h (inr over) = inr (over.0, omega (arith, over.1))

handed_on : {T : Type 0} (r : Result T Unread) (P : Unread → Type 0) (n : ℕ) → IsErrAnd r P → ((y : Unread) → P y → Overflows y n) → IfErr r (λ why. Overflows why n)
handed_on (Ok t) P n a h = tt
handed_on (Err e) P n a h = h e a

pub returns-in_err-push_line-clause-refused : goal.returns-in_err-push_line-clause-refused
returns-in_err-push_line-clause-refused c =
    let chain = turned c.loop-line.yielded _ c.loop-line.yielded_by _ _ c.in-Some.line c.in-Some.is c.next.ensures.steps
    (YieldsList-at c.into_iter-line-iterator.ensures.into_iter_gives
    (YieldsList-from_slice_split _
    (λ b. b == 10) c.args.text.now c.split-line-items.ensures.rest c.split-line-items.ensures.done c.split-line-items.ensures.closure
    (λ x r q k. search (rules, tests)))) in
    let so_far = c.loop-line.invariant.added ∙ ap (λ (lines : List (List ℕ)). texts c.args.words.now.items ++ flat_map word_of lines) chain.0 in
    let most = counted c.args.words.now.items c.loop-line.words.items (slice_split (λ b. b == 10) c.args.text.now) (length c.loop-line.yielded) c.in-Some.line.now so_far chain.1.0 chain.1.1 in
    handed_on c.from_residual.result _ _ c.from_residual.ensures.1 (λ y p. rw p (more c.in_err-push_line.field-0.0 _ _ (omega (arith, most, c.loop-line.words.ok.0, c.args.words.now.ok.0)) c.in_err-push_line.ensures.refused))

pub returns-clause-added : goal.returns-clause-added
returns-clause-added c =
    let all : map (λ line. line.now) c.loop-line.yielded ≡ slice_split
    (λ b. b == 10) c.args.text.now = ended c.loop-line.yielded _ c.loop-line.yielded_by _ _ c.in-None.is c.next.ensures.steps
    (YieldsList-at c.into_iter-line-iterator.ensures.into_iter_gives
    (YieldsList-from_slice_split _ _ c.args.text.now c.split-line-items.ensures.rest c.split-line-items.ensures.done c.split-line-items.ensures.closure
    (λ x r q k. search (rules, tests)))) in
    c.loop-line.invariant.added ∙ ap (λ (lines : List (List ℕ)). texts c.args.words.now.items ++ flat_map word_of lines) all
