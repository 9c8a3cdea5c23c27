-- The strongest of some attachments are those that no other beats.
use Rattle.std.proofs.Common.{◌≡◌, ◌⊎◌, ℕ, ◌≤◌, List, [], ◌∷◌, map, Bool, true, false, true≢false, cond, Some, None, refl, sym, ap, ◌∙◌, subst, Contains, arith, ◌≢◌, ⊎_elim}
use Rattle.std.specs.Prelude.{◌||◌, ◌&&◌, ◌==◌, not, nat_lt}
use Rattle.std.specs.List.{list_any, list_all}
use Rattle.std.specs.Option.{option_map}
use Rattle.std.proofs.lemmas.Bool.{eq-eqb, eqb-true, ltb-true, lt-ltb, ltb-false, le-ltb}
use Rattle.aa_compile.specs.declared.attach.Attachment.{Attachment}
use Rattle.aa_compile.specs.Attached.{longest, is_strong, strongest, common, attached_by}
use Rattle.aa_skipping.proofs.Elements.{in_filter, filter_in, in_any, none_in, in_map, map_in}
use Rattle.aa_compile.proofs.ConflictLemmas.{in_head, in_tail, in_cases, not_in}

-- the attachment of the profile at its new number
abbrev pub moved_to : (ℕ → ℕ) → Attachment → Attachment
moved_to place a = record a { profile = place a.profile }

-- an attachment beats another
abbrev pub over : Attachment → Attachment → Bool
over a b = not b.literal && (a.literal || nat_lt b.front a.front)

pub longest_above : (as' : List Attachment) (a : Attachment) → Contains as' a → a.front ≤ longest as'
longest_above [] a c = absurd (not_in a c)
longest_above (b ∷ bs) a c =
    ⊎_elim
    (λ (e : b ≡ a). let same : b.front ≡ a.front = ap (λ (x : Attachment). x.front) e in omega (arith, same))
    (λ (d : Contains bs a). let rest = longest_above bs a d in omega (arith, rest))
    (in_cases b a bs c)

pub longest_least : (as' : List Attachment) (m : ℕ) → ((a : Attachment) → Contains as' a → a.front ≤ m) → longest as' ≤ m
longest_least [] m h = omega arith
longest_least (b ∷ bs) m h =
    let here : b.front ≤ m = h b (in_head b bs) in
    let rest : longest bs ≤ m = longest_least bs m (λ a c. h a (in_tail b a bs c)) in
    omega (arith, here, rest)

-- what beats neither is literal nor has a longer front
not_over : (a x : Attachment) → over a x ≡ false → x.literal ≡ false → (a.literal ≡ false) × (a.front ≤ x.front)
not_over a x e l = at a.literal refl (nat_lt x.front a.front) refl (sym (ap (λ (b : Bool). not b && (a.literal || nat_lt x.front a.front)) l) ∙ e)
  where
    at : (p : Bool) → a.literal ≡ p → (q : Bool) → nat_lt x.front a.front ≡ q → (a.literal || nat_lt x.front a.front) ≡ false → (a.literal ≡ false) × (a.front ≤ x.front)
    at true ep q eq f = absurd (true≢false (sym (ap (λ (b : Bool). b || nat_lt x.front a.front) ep) ∙ f))
    at false ep true eq f = absurd (true≢false (sym (ap (λ (b : Bool). b || nat_lt x.front a.front) ep ∙ eq) ∙ f))
    at false ep false eq f = (ep, ltb-false x.front a.front eq)

literal_stands : (a x : Attachment) → x.literal ≡ true → over a x ≡ false
literal_stands a x e = ap (λ (b : Bool). not b && (a.literal || nat_lt x.front a.front)) e

-- strong among others where one has to be literal, or else have so long a front
module _ (as' : List Attachment) (x : Attachment) where
  abbrev some_literal : Bool
  some_literal = list_any (λ (a : Attachment). a.literal) as'

  strong_stands : (l : Bool) → some_literal ≡ l → cond l x.literal (x.front == longest as') ≡ true → (a : Attachment) → Contains as' a → over a x ≡ false
  strong_stands true e s a c = literal_stands a x s
  strong_stands false e s a c =
      let plain : a.literal ≡ false = none_in (λ (b : Attachment). b.literal) as' e a c in
      let same : x.front ≡ longest as' = eqb-true x.front (longest as') s in
      let below : a.front ≤ longest as' = longest_above as' a c in
      let less : nat_lt x.front a.front ≡ false = le-ltb x.front a.front (omega (arith, same, below)) in
      let neither : (a.literal || nat_lt x.front a.front) ≡ false = ap (λ (b : Bool). b || nat_lt x.front a.front) plain ∙ less in
      ap (λ (b : Bool). not x.literal && b) neither ∙ and_false (not x.literal)
    where
      and_false : (b : Bool) → (b && false) ≡ false
      and_false true = refl
      and_false false = refl

  stands_strong : (l : Bool) → some_literal ≡ l → Contains as' x → ((a : Attachment) → Contains as' a → over a x ≡ false) → cond l x.literal (x.front == longest as') ≡ true
  stands_strong true e c h =
      let t = in_any (λ (a : Attachment). a.literal) as' e in
      by_literal x.literal refl (sym (ap (λ (b : Bool). not x.literal && (b || nat_lt x.front t.0.front)) t.2) ∙ h t.0 t.1)
    where
      by_literal : (b : Bool) → x.literal ≡ b → (not x.literal && true) ≡ false → x.literal ≡ true
      by_literal true p f = p
      by_literal false p f = absurd (true≢false (sym (ap (λ (b : Bool). not b && true) p) ∙ f))
  stands_strong false e c h =
      let plain : x.literal ≡ false = none_in (λ (b : Attachment). b.literal) as' e x c in
      let above : longest as' ≤ x.front = longest_least as' x.front (λ a d. (not_over a x (h a d) plain).1) in
      let below : x.front ≤ longest as' = longest_above as' x c in
      eq-eqb x.front (longest as') (omega (arith, above, below))

pub strong_in : (as' : List Attachment) (x : Attachment) → Contains (strongest as') x → Contains as' x × ((a : Attachment) → Contains as' a → over a x ≡ false)
strong_in as' x c =
    let t = in_filter (is_strong (list_any (λ a. a.literal) as') (longest as')) as' x c in
    (t.0, strong_stands as' x (list_any (λ a. a.literal) as') refl t.1)

pub in_strong : (as' : List Attachment) (x : Attachment) → Contains as' x → ((a : Attachment) → Contains as' a → over a x ≡ false) → Contains (strongest as') x
in_strong as' x c h = filter_in (is_strong (list_any (λ a. a.literal) as') (longest as')) as' x c (stands_strong as' x (list_any (λ a. a.literal) as') refl c h)

-- what beats one that beats another beats that too
over_on : (a b c : Attachment) → over a b ≡ true → over b c ≡ true → over a c ≡ true
over_on a b c = by a.literal b.literal c.literal a.front b.front c.front
  where
    by : (la lb lc : Bool) (fa fb fc : ℕ) → (not lb && (la || nat_lt fb fa)) ≡ true → (not lc && (lb || nat_lt fc fb)) ≡ true → (not lc && (la || nat_lt fc fa)) ≡ true
    by la true lc fa fb fc e f = absurd (true≢false (sym e))
    by la false true fa fb fc e f = absurd (true≢false (sym f))
    by true false false fa fb fc e f = refl
    by false false false fa fb fc e f = let x = ltb-true fb fa e in let y = ltb-true fc fb f in lt-ltb fc fa (omega (arith, x, y))

-- ---- the number that they all are

all_equal : (n : ℕ) (ns : List ℕ) → ((k : ℕ) → Contains ns k → k ≡ n) → list_all (λ k. k == n) ns ≡ true
all_equal n [] h = refl
all_equal n (k ∷ ns) h = ap (λ (b : Bool). b && list_all (λ k. k == n) ns) (eq-eqb k n (h k (in_head k ns))) ∙ all_equal n ns (λ m c. h m (in_tail k m ns c))

equal_all : (n : ℕ) (ns : List ℕ) → list_all (λ k. k == n) ns ≡ true → (k : ℕ) → Contains ns k → k ≡ n
equal_all n [] e k c = absurd (not_in k c)
equal_all n (m ∷ ns) e k c = at (equal_all n ns) (m == n) refl e
  where
    at : (list_all (λ k. k == n) ns ≡ true → (k : ℕ) → Contains ns k → k ≡ n) → (b : Bool) → (m == n) ≡ b → (b && list_all (λ k. k == n) ns) ≡ true → k ≡ n
    at rest true p f = ⊎_elim (λ (same : m ≡ k). sym same ∙ eqb-true m n p) (λ (d : Contains ns k). rest f k d) (in_cases m k ns c)
    at rest false p f = absurd (true≢false (sym f))

common_is : (n : ℕ) (ns : List ℕ) → Contains ns n → ((k : ℕ) → Contains ns k → k ≡ n) → common ns ≡ Some n
common_is n [] c h = absurd (not_in n c)
common_is n (m ∷ ns) c h =
    let same : m ≡ n = h m (in_head m ns) in
    ap (λ (b : Bool). cond b (Some m) None) (all_equal m ns (λ k d. h k (in_tail m k ns d) ∙ sym same)) ∙ ap Some same

not_all : (n : ℕ) (ns : List ℕ) → list_all (λ k. k == n) ns ≡ false → (j : ℕ) × Contains ns j × (j ≢ n)
not_all n [] e = absurd (true≢false e)
not_all n (m ∷ ns) e = at (not_all n ns) (m == n) refl e
  where
    at : (list_all (λ k. k == n) ns ≡ false → (j : ℕ) × Contains ns j × (j ≢ n)) → (b : Bool) → (m == n) ≡ b → (b && list_all (λ k. k == n) ns) ≡ false → (j : ℕ) × Contains (m ∷ ns) j × (j ≢ n)
    at rest true p f = let t = rest f in (t.0, in_tail m t.0 ns t.1, t.2)
    at rest false p f = (m, in_head m ns, λ same. true≢false (sym (eq-eqb m n same) ∙ p))

not_common : (ms : List ℕ) (k j : ℕ) → Contains ms k → Contains ms j → k ≢ j → common ms ≡ None
not_common [] k j c d ne = absurd (not_in k c)
not_common (m ∷ ms) k j c d ne = at (list_all (λ n. n == m) ms) refl
  where
    every : list_all (λ n. n == m) ms ≡ true → (n : ℕ) → Contains (m ∷ ms) n → n ≡ m
    every e n h = ⊎_elim (λ (same : m ≡ n). sym same) (λ (r : Contains ms n). equal_all m ms e n r) (in_cases m n ms h)

    at : (b : Bool) → list_all (λ n. n == m) ms ≡ b → common (m ∷ ms) ≡ None
    at true e = absurd (ne (every e k c ∙ sym (every e j d)))
    at false e = ap (λ (b : Bool). cond b (Some m) None) e

module _ (place : ℕ → ℕ) (ms : List ℕ) where
  pub common_moved : (ns : List ℕ) → ((k j : ℕ) → Contains ns k → Contains ns j → place k ≡ place j → k ≡ j) → ((k : ℕ) → Contains ns k → Contains ms (place k))
      → ((m : ℕ) → Contains ms m → (k : ℕ) × Contains ns k × (place k ≡ m)) → common ms ≡ option_map place (common ns)
  common_moved [] once kept added = none ms added
    where
      none : (ms : List ℕ) → ((m : ℕ) → Contains ms m → (k : ℕ) × Contains [] k × (place k ≡ m)) → common ms ≡ None
      none [] h = refl
      none (m ∷ rest) h = let t = h m (in_head m rest) in absurd (not_in t.0 t.1)
  common_moved (n ∷ ns) once kept added = at (list_all (λ k. k == n) ns) refl
    where
      one : list_all (λ k. k == n) ns ≡ true → (k : ℕ) → Contains (n ∷ ns) k → k ≡ n
      one e k h = ⊎_elim (λ (same : n ≡ k). sym same) (λ (r : Contains ns k). equal_all n ns e k r) (in_cases n k ns h)

      at : (b : Bool) → list_all (λ k. k == n) ns ≡ b → common ms ≡ option_map place (common (n ∷ ns))
      at true e =
          common_is (place n) ms (kept n (in_head n ns)) (λ m c. let t = added m c in sym t.2 ∙ ap place (one e t.0 t.1))
          ∙ sym (ap (λ (b : Bool). option_map place (cond b (Some n) None)) e)
      at false e =
          let t = not_all n ns e in
          let there = in_tail n t.0 ns t.1 in
          not_common ms (place t.0) (place n) (kept t.0 there) (kept n (in_head n ns)) (λ same. t.2 (once t.0 n there (in_head n ns) same))
          ∙ sym (ap (λ (b : Bool). option_map place (cond b (Some n) None)) e)

-- ---- where each attachment that was added is beaten by another

pub attached_moved : (place : ℕ → ℕ) (as' bs : List Attachment)
    → ((a b : Attachment) → Contains as' a → Contains as' b → place a.profile ≡ place b.profile → a.profile ≡ b.profile)
    → ((a : Attachment) → Contains as' a → Contains bs (moved_to place a))
    → ((b : Attachment) → Contains bs b → ((a : Attachment) × Contains as' a × (moved_to place a ≡ b)) ⊎ ((a : Attachment) × Contains as' a × (over a b ≡ true)))
    → attached_by bs ≡ option_map place (attached_by as')
attached_moved place as' bs once kept added =
    common_moved place (map (λ a. a.profile) (strongest bs)) (map (λ a. a.profile) (strongest as'))
    (λ k j c d same.
    let s = in_map (λ (a : Attachment). a.profile) (strongest as') k c in
    let t = in_map (λ (a : Attachment). a.profile) (strongest as') j d in
    sym s.2 ∙ once s.0 t.0 (strong_in as' s.0 s.1).0 (strong_in as' t.0 t.1).0 (ap place s.2 ∙ same ∙ sym (ap place t.2)) ∙ t.2)
    (λ k c.
    let s = in_map (λ (a : Attachment). a.profile) (strongest as') k c in
    subst (λ (n : ℕ). Contains (map (λ a. a.profile) (strongest bs)) (place n)) s.2 (map_in (λ (a : Attachment). a.profile) (strongest bs) (moved_to place s.0) (stays s.0 s.1)))
    (λ m c.
    let s = in_map (λ (a : Attachment). a.profile) (strongest bs) m c in
    let t = was s.0 s.1 in
    (t.0.profile, map_in (λ (a : Attachment). a.profile) (strongest as') t.0 t.1, ap (λ (a : Attachment). a.profile) t.2 ∙ s.2))
  where
    stays : (a : Attachment) → Contains (strongest as') a → Contains (strongest bs) (moved_to place a)
    stays a c =
        let t = strong_in as' a c in
        in_strong bs (moved_to place a) (kept a t.0) (λ b d.
        ⊎_elim
        (λ (h : (x : Attachment) × Contains as' x × (moved_to place x ≡ b)). ap (λ (y : Attachment). over y a) (sym h.2) ∙ t.1 h.0 h.1)
        (λ (h : (x : Attachment) × Contains as' x × (over x b ≡ true)). not_above b h.0 h.2 (t.1 h.0 h.1) (over b a) refl)
        (added b d))
      where
        not_above : (b x : Attachment) → over x b ≡ true → over x a ≡ false → (o : Bool) → over b a ≡ o → over b a ≡ false
        not_above b x e f true p = absurd (true≢false (sym (over_on x b a e p) ∙ f))
        not_above b x e f false p = p

    was : (b : Attachment) → Contains (strongest bs) b → (a : Attachment) × Contains (strongest as') a × (moved_to place a ≡ b)
    was b c =
        let t = strong_in bs b c in
        ⊎_elim
        (λ (h : (x : Attachment) × Contains as' x × (moved_to place x ≡ b)).
        (h.0, in_strong as' h.0 h.1 (λ a d. ap (λ (y : Attachment). over a y) h.2 ∙ t.1 (moved_to place a) (kept a d)), h.2))
        (λ (h : (x : Attachment) × Contains as' x × (over x b ≡ true)). absurd (true≢false (sym h.2 ∙ t.1 (moved_to place h.0) (kept h.0 h.1))))
        (added b t.0)
