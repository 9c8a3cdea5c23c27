-- Flags, one item, one byte and one sequence on.
use Rattle.std.proofs.lemmas.Grind.{common_steps}
use Rattle.std.proofs.Common.{◌≡◌, ◌≢◌, ℕ, zero, suc, ◌+◌, ◌-◌, min, max, ◌<◌, ◌≤◌, ◌↔◌, ◌⊎◌, ◌||◌, Bool, true}
use Rattle.std.proofs.Common.{false, List, [], ◌∷◌, ◌++◌, length, length-append, length-set, take, drop, set, get_or, replicate, IsTrue, Vec, Global}
use Rattle.std.proofs.Common.{refl, sym, ap, ◌∙◌, subst, inl, inr, ⊎_elim, arith, append_assoc, get_or-set_other, get_or-set_same, true≢false}
use Rattle.std.proofs.lemmas.Bool.{cases_lt, or_from}
use Rattle.std.proofs.lemmas.List.{take-take, take_more, take_all, take_at, append-nil, length-take-le, take-append-drop}
use Rattle.aa_pattern.specs.declared.item.Item.{Item, Byte, One, Class, Choice, Choice'}
use Rattle.aa_pattern.specs.Globs.{Matches, Allows}
use Rattle.aa_pattern.specs.Steps.{IsSimple, IsOneByte, IsSkippable, Begins, Continues}
use Rattle.aa_pattern.specs.Flags.{Shows, AreUnset, AreWithin, Changes, Follows, FollowsSome, Grows}
use Rattle.aa_pattern.specs.Weights.{weight, weight_of_items, weight_of_lists}
use Rattle.aa_pattern.proofs.Equivalences.{↔_trans, ↔_sym}
use Rattle.aa_pattern.proofs.Texts.{Matches-append, Matches-push, Matches-grow, allows_part}
use Rattle.aa_pattern.proofs.Choices.{Matches-choice, SomeEnds-more}

pub weight_at : (items : List Item) (k : ℕ) (d : Item) → k < length items → weight (get_or items k d) ≤ weight_of_items items
weight_at [] k d h = absurd (omega arith)
weight_at (i ∷ items) zero d h = omega arith
weight_at (i ∷ items) (suc k) d h = omega (arith, weight_at items k d (omega arith))

pub weight_of_at : (branches : List (Vec Item Global)) (k : ℕ) (d : Vec Item Global) → k < length branches →
    weight_of_items (get_or branches k d).items < weight_of_lists branches
weight_of_at [] k d h = absurd (omega arith)
weight_of_at (b ∷ branches) zero d h = omega arith
weight_of_at (b ∷ branches) (suc k) d h = omega (arith, weight_of_at branches k d (omega arith))

-- a text before a place is cut only where a flag is set
cut_set : (h : List Item) (a b text : List ℕ) (old : List Bool) (j : ℕ) → Shows old h text → j ≤ length text → take j text ≡ a ++ b → Matches h a →
    (length a + length b ≡ j) × IsTrue (get_or old (length a) false)
cut_set h a b text old j shows le e m =
    let long : length a + length b ≡ j = sym (length-append a b) ∙ sym (ap length e) ∙ length-take-le j text le in
    let short : length a ≤ j = omega arith in
    let same : take (length a) text ≡ a = sym (take-take (length a) j text short) ∙ ap (take (length a)) e ∙ take_at a b (length a) refl in
    (long, (shows.at (length a) (omega arith)).1 (subst (Matches h) (sym same) m))

-- where no flag is set, nothing behind is reached
none_yet : (h items : List Item) (text : List ℕ) (old : List Bool) (j : ℕ) → Shows old h text → j ≤ length text →
    ((k : ℕ) → k ≤ j → get_or old k false ≡ false) → Matches (h ++ items) (take j text) → ⊥
none_yet h items text old j shows le none m =
    let p = (Matches-append h items (take j text)).0 m in
    let s = cut_set h p.0 p.1 text old j shows le p.2 p.3 in
    let short : length p.0 ≤ j = omega (arith, s.0) in
    true≢false (sym s.1 ∙ none (length p.0) short)

-- at the first flag the item's part is empty
skips_at : (h : List Item) (item : Item) (text : List ℕ) (old : List Bool) (first : ℕ) → IsSimple item → Shows old h text → first ≤ length text →
    ((k : ℕ) → k < first → get_or old k false ≡ false) → Matches (h ++ item ∷ []) (take first text) ↔ (IsSkippable item × Matches h (take first text))
skips_at h item text old first simple shows le none = (
  λ m. let p = (Matches-push h item (take first text)).0 m in at_end p.0 p.1 p.2 p.3 p.4,
  λ q. (Matches-push h item (take first text)).1 (take first text, [], sym (append-nil (take first text)), q.1, (allows_part item [] simple).1 q.0),
)
  where
    at_end : (a b : List ℕ) → take first text ≡ a ++ b → Matches h a → Allows item b → IsSkippable item × Matches h (take first text)
    at_end a [] e m part = ((allows_part item [] simple).0 part, subst (Matches h) (sym (e ∙ append-nil a)) m)
    at_end a (x ∷ b) e m part = let s = cut_set h a (x ∷ b) text old first shows le e m in absurd (true≢false (sym s.1 ∙ none (length a) (omega (arith, s.0))))

-- what holds of each flag before i, and of the one that is put there
pub up_to : (P : ℕ → Bool → Type 0) (flags : List Bool) (i : ℕ) (v : Bool) → i < length flags →
    ((k : ℕ) → k < i → P k (get_or flags k false)) → P i v → (k : ℕ) → k ≤ i → P k (get_or (set flags i v) k false)
up_to P flags i v long below here k le = grind (arith, get_or-set_other, get_or-set_same, cases_lt)

-- the flags up to i are those behind the item, the later ones still those before it
pub record IsAt (item : Item) (text : List ℕ) (old new : List Bool) (before : Bool) (i : ℕ) : Type 0 where
  pub before_is : before ≡ get_or old i false
  pub later : (j : ℕ) → i < j → get_or new j false ≡ get_or old j false
  pub done : (h : List Item) → Shows old h text → (j : ℕ) → j ≤ i → IsTrue (get_or new j false) ↔ Matches (h ++ item ∷ []) (take j text)

pub begins_at : (item : Item) (text : List ℕ) (old : List Bool) (before v : Bool) (first : ℕ) → IsSimple item → first ≤ length text → length text < length old →
    ((k : ℕ) → k < first → get_or old k false ≡ false) → before ≡ get_or old first false → (IsTrue v ↔ (IsTrue before × IsSkippable item)) →
    IsAt item text old (set old first v) before first
begins_at item text old before v first simple le long none e same = record {
  before_is = e;
  later = λ j lt. get_or-set_other old first j v false (omega arith);
  done = λ h shows.
      let skips = skips_at h item text old first simple shows le none in
      let here : IsTrue before ↔ Matches h (take first text) = subst (λ b. IsTrue b ↔ Matches h (take first text)) (sym e) (shows.at first le) in
      up_to (λ j b. IsTrue b ↔ Matches (h ++ item ∷ []) (take j text)) old first v (omega arith)
      (λ j less. (
        λ t. absurd (true≢false (sym t ∙ none j less)),
        λ m. absurd (none_yet h (item ∷ []) text old j shows (omega arith) (λ k lk. none k (omega arith)) m),
      ))
      (λ t. let p = same.0 t in skips.1 (p.1, here.0 p.0), λ m. let p = skips.0 m in same.1 (here.1 p.1, p.0));
}

pub grows_same : (i : Item) (b : ℕ) {P Q R P' Q' R' : Type 0} → (P ↔ P') → (Q ↔ Q') → (R ↔ R') → Grows i b P Q R ↔ Grows i b P' Q' R'
grows_same i b p q r = grind (arith)

pub goes_at : (item : Item) (text : List ℕ) (old new : List Bool) (before here v : Bool) (i : ℕ) → IsSimple item → i < length text → length text < length new →
    here ≡ get_or new (i + 1) false → (IsTrue v ↔ Grows item (get_or text i 0) (IsTrue here) (IsTrue before) (IsTrue (get_or new i false))) →
    IsAt item text old new before i → IsAt item text old (set new (i + 1) v) here (i + 1)
goes_at item text old new before here v i simple lt long e same at = grind (arith, common_steps, get_or-set_other, take_more, ↔_trans, ↔_sym, Matches-grow, up_to, grows_same)

pub follows_at : (item : Item) (text : List ℕ) (old new : List Bool) (before : Bool) (i : ℕ) → length text ≤ i → IsAt item text old new before i → Follows (item ∷ []) text old new
follows_at item text old new before i le at = record { follow = λ h shows. record { at = λ k lk. at.done h shows k (omega arith) } }

module _ (item : Item) (text : List ℕ) (old new : List Bool) (before : Bool) (i : ℕ) (simple : IsSimple item) (none : (k : ℕ) → i ≤ k → get_or old k false ≡ false)
    (ends : IsTrue (get_or new i false) → (b : ℕ) → Continues item b → ⊥) (at : IsAt item text old new before i) where
  module _ (h : List Item) (shows : Shows old h text) where
    none_next : (j : ℕ) → i ≤ j → j < length text → (Matches (h ++ item ∷ []) (take j text) → Continues item (get_or text j 0) → ⊥) →
        Matches (h ++ item ∷ []) (take (j + 1) text) → ⊥
    none_next j le lt goes m = grind (arith, common_steps, take_more, Matches-grow)

    none_later : (n j : ℕ) → j ≡ i + n → j < length text → Matches (h ++ item ∷ []) (take (j + 1) text) → ⊥
    none_later zero j e lt =
        let j_is : j ≡ i = omega arith in
        none_next j (omega arith) lt (λ m c. ends (subst (λ k. IsTrue (get_or new k false)) j_is ((at.done h shows j (omega arith)).1 m)) (get_or text j 0) c)
    none_later (suc n) j e lt =
        let j_is : j ≡ (j - 1) + 1 = omega arith in
        none_next j (omega arith) lt (λ m c. none_later n (j - 1) (omega arith) (omega arith) (subst (λ k. Matches (h ++ item ∷ []) (take k text)) j_is m))

    at_place : (k : ℕ) → k ≤ length text → IsTrue (get_or new k false) ↔ Matches (h ++ item ∷ []) (take k text)
    at_place k le = ⊎_elim
        (λ (less : k < i + 1). at.done h shows k (omega arith))
        (λ (more : i + 1 ≤ k).
        let k_is : k ≡ (k - 1) + 1 = omega arith in (
          λ t. absurd (true≢false (sym t ∙ at.later k (omega arith) ∙ none k (omega arith))),
          λ m. absurd (none_later ((k - 1) - i) (k - 1) (omega arith) (omega arith) (subst (λ n. Matches (h ++ item ∷ []) (take n text)) k_is m)),
        ))
        (cases_lt k (i + 1))

  -- where no flag is set before the item any more, and it can't go on, no later place is reached
  pub follows_before : Follows (item ∷ []) text old new
  follows_before = record { follow = λ h shows. record { at = at_place h shows } }

-- an item of one byte, where one flag may be set
never_empty : (item : Item) → IsOneByte item → IsSkippable item → ⊥
never_empty (Byte c) o s = s
never_empty One o s = s
never_empty (Class set) o s = s
never_empty _ o s = o

never_on : (item : Item) (b : ℕ) → IsOneByte item → Continues item b → ⊥
never_on (Byte c) b o s = s
never_on One b o s = s
never_on (Class set) b o s = s
never_on _ b o s = o

one_simple : (item : Item) → IsOneByte item → IsSimple item
one_simple (Choice' _ _) o = o
one_simple _ o = tt

module _ (item : Item) (text : List ℕ) (old : List Bool) (place : ℕ) (one : IsOneByte item) (long : length text < length old) (within : AreWithin old text place (place + 1)) where
  byte_at : IsAt item text old (set old place false) (get_or old place false) place
  byte_at =
      begins_at item text old (get_or old place false) false place (one_simple item one) (omega (arith, within.fits)) long within.before refl
      (λ t. absurd (true≢false (sym t)), λ p. absurd (never_empty item one p.1))

  pub byte_last : place ≡ length text → Follows (item ∷ []) text old (set old place false)
  byte_last e = follows_at item text old (set old place false) (get_or old place false) place (omega arith) byte_at

  pub byte_next : (v : Bool) → place ≢ length text → (IsTrue v ↔ (IsTrue (get_or old place false) × Begins item (get_or text place 0))) →
      Follows (item ∷ []) text old (set (set old place false) (place + 1) v)
  byte_next v ne same =
      follows_before item text old (set (set old place false) (place + 1) v) (get_or (set old place false) (place + 1) false) (place + 1) (one_simple item one) within.behind (λ _ b c. never_on item b one c)
      (goes_at item text old (set old place false) (get_or old place false) (get_or (set old place false) (place + 1) false) v place (one_simple item one) (omega (arith, within.fits))
      (omega (arith, length-set {A = Bool})) refl
      (λ t. inr (inl (same.0 t)), λ g. ⊎_elim (λ x. absurd (never_empty item one x.0)) (λ y. ⊎_elim (λ x. same.1 x) (λ x. absurd (never_on item (get_or text place 0) one x.1)) y) g)
      byte_at)

-- no item, and one more
pub follows_more : (items : List Item) (k : ℕ) (d : Item) (text : List ℕ) (a b c : List Bool) → k < length items →
    Follows (take k items) text a b → Follows (get_or items k d ∷ []) text b c → Follows (take (k + 1) items) text a c
follows_more items k d text a b c lt f g = grind (arith, append_assoc, take_more)

-- no flag is set any more
pub follows_nothing : (items : List Item) (k : ℕ) (text : List ℕ) (old new : List Bool) → ((j : ℕ) → get_or new j false ≡ false) →
    Follows (take k items) text old new → Follows items text old new
follows_nothing items k text old new none f = record {
  follow = λ h shows. record {
    at = λ j le. (
      λ t. absurd (true≢false (sym t ∙ none j)),
      λ m.
          let cut : h ++ items ≡ (h ++ take k items) ++ drop k items = ap (λ xs. h ++ xs) (sym (take-append-drop k items)) ∙ sym (append_assoc h (take k items) (drop k items)) in
          absurd (none_yet (h ++ take k items) (drop k items) text new j (f.follow h shows) le (λ n _. none n) (subst (λ xs. Matches xs (take j text)) cut m)),
    );
  };
}

pub follows_same : (items : List Item) (text : List ℕ) (a b c : List Bool) → ((k : ℕ) → get_or b k false ≡ get_or a k false) → Follows items text b c → Follows items text a c
follows_same items text a b c same f = record { follow = λ h shows. f.follow h (record { at = λ k le. subst (λ x. IsTrue x ↔ Matches h (take k text)) (sym (same k)) (shows.at k le) }) }

pub follows_choice : (item : Item) (v : Vec (Vec Item Global) Global) (bs : List (Vec Item Global)) (text : List ℕ) (a b : List Bool) → item ≡ Choice v → bs ≡ v.items →
    FollowsSome bs text a b → Follows (item ∷ []) text a b
follows_choice item v bs text a b e same f = grind (arith, ↔_trans, ↔_sym, Matches-choice)

-- no sequence, and one more
or_both : (a b : Bool) {P Q : Type 0} → (IsTrue a ↔ P) → (IsTrue b ↔ Q) → IsTrue (a || b) ↔ (P ⊎ Q)
or_both true b p q = (λ t. inl (p.0 t), λ s. refl)
or_both false b p q = (λ t. inr (q.0 t), λ s. ⊎_elim (λ x. absurd (true≢false (sym (p.1 x)))) (λ y. q.1 y) s)

pub some_more : (bs : List (Vec Item Global)) (k : ℕ) (d : Vec Item Global) (text : List ℕ) (old a b c : List Bool) → k < length bs →
    ((j : ℕ) → get_or c j false ≡ (get_or a j false || get_or b j false)) →
    FollowsSome (take k bs) text old a → Follows (get_or bs k d).items text old b → FollowsSome (take (k + 1) bs) text old c
some_more bs k d text old a b c lt each f g = grind (arith, ↔_trans, ↔_sym, SomeEnds-more, or_both)

pub none_at : (n k : ℕ) → get_or (replicate n false) k false ≡ false
none_at zero k = refl
none_at (suc n) zero = refl
none_at (suc n) (suc k) = none_at n k

-- changes of rows
or_none : (x y : Bool) → y ≡ false → x ≡ (x || y)
or_none true y e = refl
or_none false y e = sym e

changed : (old new : List Bool) (first end : ℕ) (flag : ℕ → Bool) → Changes old new first end flag → ((k : ℕ) → k < first → get_or old k false ≡ flag k) →
    ((k : ℕ) → end ≤ k → get_or old k false ≡ flag k) → (k : ℕ) → get_or new k false ≡ flag k
changed old new first end flag ch before behind k = grind (arith, cases_lt)

module _ (old new from : List Bool) (text : List ℕ) (first end : ℕ) (within : AreWithin from text first end) where
  pub copied : Changes old new first end (λ k. get_or from k false) → AreUnset old → (k : ℕ) → get_or new k false ≡ get_or from k false
  copied ch none = changed old new first end (λ k. get_or from k false) ch (λ k lt. none k ∙ sym (within.before k lt)) (λ k le. none k ∙ sym (within.behind k le))

  pub added : Changes old new first end (λ k. get_or old k false || get_or from k false) → (k : ℕ) → get_or new k false ≡ (get_or old k false || get_or from k false)
  added ch = grind (arith, or_none, changed)

pub cleared : (old new : List Bool) (text : List ℕ) (first end : ℕ) → AreWithin old text first end → Changes old new first end (λ k. false) → AreUnset new
cleared old new text first end within ch = changed old new first end (λ k. false) ch within.before within.behind

pub within_same : (a b : List Bool) (text : List ℕ) (first end : ℕ) → ((k : ℕ) → get_or b k false ≡ get_or a k false) → AreWithin a text first end → AreWithin b text first end
within_same a b text first end same w = record { before = λ k lt. same k ∙ w.before k lt; behind = λ k le. same k ∙ w.behind k le; fits = w.fits }

pub within_none : (flags : List Bool) (text : List ℕ) (first end : ℕ) → end ≤ first → AreWithin flags text first end → AreUnset flags
within_none flags text first end le w k = ⊎_elim (λ lt. w.before k lt) (λ ge. w.behind k (omega arith)) (cases_lt k first)

pub within_both : (text : List ℕ) (a b c : List Bool) (first end first' end' first'' end'' : ℕ) → ((j : ℕ) → get_or c j false ≡ (get_or a j false || get_or b j false)) →
    AreWithin a text first end → AreWithin b text first' end' → (end' ≤ first' → (first'' ≡ first) × (end'' ≡ end)) → (first' < end' → (first'' ≡ min first first') × (end'' ≡ max end end')) →
    AreWithin c text first'' end''
within_both text a b c first end first' end' first'' end'' each p q none some = grind (arith, cases_lt, or_from, within_none)

pub within_start : (text : List ℕ) (flags : List Bool) → ((k : ℕ) → 0 < k → get_or flags k false ≡ false) → AreWithin flags text 0 1
within_start text flags others = record { before = λ k h. absurd (omega arith); behind = λ k h. others k (omega arith); fits = omega arith }

-- the empty text, and the whole
pub shows_start : (text : List ℕ) (flags : List Bool) → IsTrue (get_or flags 0 false) → ((k : ℕ) → 0 < k → get_or flags k false ≡ false) → Shows flags [] text
shows_start text flags first others = grind (arith)

pub shows_whole : (items : List Item) (text : List ℕ) (start end : List Bool) → Shows start [] text → Follows items text start end →
    IsTrue (get_or end (length text) false) ↔ Matches items text
shows_whole items text start end s f = grind (arith, take_all)
