-- Positions with the same head, one after the other.
use Rattle.std.proofs.Common.{Contains, Vec, Global, ◌≡◌, ℕ, ◌+◌, ◌-◌, ◌≤◌, ◌<◌, ◌↔◌, List, [], ◌∷◌, ◌++◌, length}
use Rattle.std.proofs.Common.{get_or, suc, zero, All}
use Rattle.std.proofs.Common.{refl, sym, ap, ◌∙◌, subst, ⊎_elim, arith, append_assoc, length-append}
use Rattle.std.specs.Borrow.{Bor}
use Rattle.std.proofs.lemmas.List.{get_or_append_left, get_or_push, length_push, append-nil}
use Rattle.std.proofs.lemmas.List.Elements.{All-push}
use Rattle.std.proofs.lemmas.Bool.{cases_lt}
use Rattle.aa_pattern.specs.declared.item.Item.{Item, Byte, One, Run, RunOne, Deep, DeepOne, Class, Choice'}
use Rattle.aa_pattern.specs.Globs.{Matches, Allows}
use Rattle.aa_pattern.specs.Steps.{Begins, Continues, IsSimple}
use Rattle.aa_auto.specs.declared.nodes.Node.{Node}
use Rattle.aa_auto.specs.declared.nodes.Node.TheVariants.{Start, After, Same, Join}
use Rattle.aa_auto.specs.declared.merging.Merged.{Merged}
use Rattle.aa_auto.specs.Classes.{IsSameFor}
use Rattle.aa_auto.specs.Nodes.{head_at, SomeOf, IsSameNode, AreSameNodes}
use Rattle.aa_auto.specs.Merged.{SameTexts, kept, IsAlike, IsAt, IsAfterLike, IsBehind, HasEnds, IsJoin, HasStart, Tells, IsMerging, IsMerged, IsWhole, AreMet}
use Rattle.aa_auto.specs.Merged.{AreEnds, Names}
use Rattle.aa_auto.specs.Merged.{Counts, Pushes, Goes, Longer, IsAnyPair, AddsStart, AddsSimple, AddsSame, AddsJoin, AddsEnd}
use Rattle.aa_auto.proofs.SameLemmas.{AreSameNodes-append, same_simple}
use Rattle.aa_pattern.proofs.Texts.{Matches-push, IsPart, allows_part}

begins_few : (i : Item) (c : ℕ) → Begins i c → c < 256
begins_few (Byte x) c h = h.1.1
begins_few One c h = h.0.1
begins_few Run c h = h.0.1
begins_few RunOne c h = h.0.1
begins_few Deep c h = h.1
begins_few DeepOne c h = h.0.1
begins_few (Class set) c h = h.0.1
begins_few (Choice' _ _) c h = absurd h

continues_few : (i : Item) (c : ℕ) → Continues i c → c < 256
continues_few (Byte x) c h = absurd h
continues_few One c h = absurd h
continues_few Run c h = h.0.1
continues_few RunOne c h = h.0.1
continues_few Deep c h = h.1
continues_few DeepOne c h = h.1
continues_few (Class set) c h = absurd h
continues_few (Choice' _ _) c h = absurd h

pub alike_back : (a b : Item) → IsAlike a b → IsAlike b a
alike_back a b h = ((h.0.1, h.0.0), λ c lt. (((h.1 c lt).0.1, (h.1 c lt).0.0), ((h.1 c lt).1.1, (h.1 c lt).1.0)))

alike_part : (a b : Item) → IsAlike a b → (t : List ℕ) → IsPart a t → IsPart b t
alike_part a b h [] p = h.0.0 p
alike_part a b h (x ∷ s) p =
    ((h.1 x (begins_few a x p.0)).0.0 p.0, λ k d lt. (h.1 (get_or s k d) (continues_few a (get_or s k d) (p.1 k d lt))).1.0 (p.1 k d lt))

-- items that are alike allow the same
alike_allows : (a b : Item) → IsSimple a → IsSimple b → IsAlike a b → (t : List ℕ) → Allows a t ↔ Allows b t
alike_allows a b sa sb h t = (
  λ m. (allows_part b t sb).1 (alike_part a b h t ((allows_part a t sa).0 m)),
  λ m. (allows_part a t sa).1 (alike_part b a (alike_back a b h) t ((allows_part b t sb).0 m)),
)

pub texts_back : (g h : List Item) → SameTexts g h → SameTexts h g
texts_back g h s t = ((s t).1, (s t).0)

pub texts_on : (g h i : List Item) → SameTexts g h → SameTexts h i → SameTexts g i
texts_on g h i s r t = (λ m. (r t).0 ((s t).0 m), λ m. (s t).1 ((r t).1 m))

pub texts_same : (g h : List Item) → g ≡ h → SameTexts g h
texts_same g h e t = (subst (λ z. Matches z t) e, subst (λ z. Matches z t) (sym e))

texts_from : {g' h' : List Item} (g h : List Item) → g' ≡ g → h' ≡ h → SameTexts g h → SameTexts g' h'
texts_from {g'} {h'} g h p q s = subst (λ z. SameTexts z h') (sym p) (subst (λ z. SameTexts g z) (sym q) s)

texts_push : (g h : List Item) (a b : Item) → SameTexts g h → ((t : List ℕ) → Allows a t ↔ Allows b t) → SameTexts (g ++ a ∷ []) (h ++ b ∷ [])
texts_push g h a b s al t = (
  λ m. let p = (Matches-push g a t).0 m in (Matches-push h b t).1 (p.0, p.1, p.2, (s p.0).0 p.3, (al p.1).0 p.4),
  λ m. let p = (Matches-push h b t).0 m in (Matches-push g a t).1 (p.0, p.1, p.2, (s p.0).1 p.3, (al p.1).1 p.4),
)

-- one more kept head
grown : (hs : List (List Item)) (firsts : List ℕ) (f m : ℕ) → m < length firsts →
    head_at (kept hs (firsts ++ f ∷ [])) m ≡ head_at (kept hs firsts) m
grown hs [] f m lt = absurd (omega arith)
grown hs (x ∷ xs) f zero lt = refl
grown hs (x ∷ xs) f (suc m) lt = grown hs xs f m (omega arith)

newest : (hs : List (List Item)) (firsts : List ℕ) (f n : ℕ) → n ≡ length firsts → head_at (kept hs (firsts ++ f ∷ [])) n ≡ head_at hs f
newest hs [] f zero e = refl
newest hs [] f (suc n) e = absurd (omega (arith, e))
newest hs (x ∷ xs) f zero e = absurd (omega (arith, e))
newest hs (x ∷ xs) f (suc n) e = newest hs xs f n (omega (arith, e))

pub kept_at : (hs : List (List Item)) (firsts : List ℕ) (m : ℕ) → m < length firsts → head_at (kept hs firsts) m ≡ head_at hs (get_or firsts m 0)
kept_at hs [] m lt = absurd (omega arith)
kept_at hs (x ∷ xs) zero lt = refl
kept_at hs (x ∷ xs) (suc m) lt = kept_at hs xs m (omega arith)

pub kept_longer : (hs : List (List Item)) (firsts more : List ℕ) (m : ℕ) → m < length firsts →
    head_at (kept hs (firsts ++ more)) m ≡ head_at (kept hs firsts) m
kept_longer hs [] more m lt = absurd (omega arith)
kept_longer hs (x ∷ xs) more zero lt = refl
kept_longer hs (x ∷ xs) more (suc m) lt = kept_longer hs xs more m (omega arith)

tells_grown : (hs : List (List Item)) (firsts : List ℕ) (f m : ℕ) (node : Node) → m < length firsts → Tells (kept hs firsts) m node →
    Tells (kept hs (firsts ++ f ∷ [])) m node
tells_grown hs firsts f m Start lt r = texts_from (head_at (kept hs firsts) m) [] (grown hs firsts f m lt) refl r
tells_grown hs firsts f m (After i) lt r =
    let less : m - 1 < length firsts = omega (arith, lt) in (
      r.0,
      r.1,
      texts_from (head_at (kept hs firsts) m) (head_at (kept hs firsts) (m - 1) ++ i.now ∷ []) (grown hs firsts f m lt)
          (ap (λ (z : List Item). z ++ i.now ∷ []) (grown hs firsts f (m - 1) less)) r.2,
    )
tells_grown hs firsts f m (Same p) lt r =
    (r.0, texts_from (head_at (kept hs firsts) m) (head_at (kept hs firsts) p) (grown hs firsts f m lt) (grown hs firsts f p (omega (arith, r.0, lt))) r.1)
tells_grown hs firsts f m (Join ends) lt r = (r.0, λ t. (to t, from t))
  where
    below : (p : ℕ) → Contains ends.items p → p < length firsts
    below p c = let q : p < m = subst (λ z. z < m) c.2 (r.0 c.0 p c.1) in omega (arith, q, lt)

    to : (t : List ℕ) → Matches (head_at (kept hs (firsts ++ f ∷ [])) m) t → SomeOf (kept hs (firsts ++ f ∷ [])) ends.items t
    to t mm =
        let x = (r.1 t).0 (subst (λ h. Matches h t) (grown hs firsts f m lt) mm) in
        (x.0, x.1, subst (λ h. Matches h t) (sym (grown hs firsts f x.0 (below x.0 x.1))) x.2)

    from : (t : List ℕ) → SomeOf (kept hs (firsts ++ f ∷ [])) ends.items t → Matches (head_at (kept hs (firsts ++ f ∷ [])) m) t
    from t x =
        subst (λ h. Matches h t) (sym (grown hs firsts f m lt)) ((r.1 t).1 (x.0, x.1, subst (λ h. Matches h t) (grown hs firsts f x.0 (below x.0 x.1)) x.2))

-- more heads, and more that are kept
pub kept_wide : (hs more : List (List Item)) (firsts : List ℕ) → All (λ f. f < length hs) firsts → kept (hs ++ more) firsts ≡ kept hs firsts
kept_wide hs more [] all = refl
kept_wide hs more (x ∷ xs) all =
    ap (λ z. z ∷ kept (hs ++ more) xs) (get_or_append_left hs more [] x (all zero 0 (omega arith)))
    ∙ ap (λ z. head_at hs x ∷ z) (kept_wide hs more xs (λ k d lt. all (suc k) d (omega (arith, lt))))

pub kept_further : (hs more : List (List Item)) (firsts rest : List ℕ) (n : ℕ) → All (λ f. f < length hs) firsts → n < length firsts →
    head_at (kept (hs ++ more) (firsts ++ rest)) n ≡ head_at (kept hs firsts) n
kept_further hs more firsts rest n all lt = kept_longer (hs ++ more) firsts rest n lt ∙ ap (λ ks. head_at ks n) (kept_wide hs more firsts all)

pub kept_many : (hs : List (List Item)) (firsts : List ℕ) → length (kept hs firsts) ≡ length firsts
kept_many hs [] = refl
kept_many hs (x ∷ xs) = ap suc (kept_many hs xs)

kept_append : (hs : List (List Item)) (xs ys : List ℕ) → kept hs (xs ++ ys) ≡ kept hs xs ++ kept hs ys
kept_append hs [] ys = refl
kept_append hs (x ∷ xs) ys = ap (λ z. head_at hs x ∷ z) (kept_append hs xs ys)

met_push : (hs ks : List (List Item)) (x : List Item) (m : ℕ) → AreMet hs ks → m < length ks → SameTexts x (head_at ks m) → AreMet (hs ++ x ∷ []) ks
met_push hs ks x m met lt same n l =
    ⊎_elim
    (λ (k : n < length hs).
    let r = met n k in
    (r.0, r.1, subst (λ z. SameTexts z (head_at ks r.0)) (sym (get_or_append_left hs (x ∷ []) [] n k)) r.2))
    (λ (g : length hs ≤ n).
    let e : length hs ≡ n = omega (arith, g, l, length_push hs x) in
    (m, lt, subst (λ z. SameTexts z (head_at ks m)) (sym (get_or_push hs x [] n e)) same))
    (cases_lt n (length hs))

met_longer : (hs ks more : List (List Item)) → AreMet hs ks → AreMet hs (ks ++ more)
met_longer hs ks more met n l =
    let r = met n l in
    (r.0, omega (arith, r.1, length-append ks more), subst (λ z. SameTexts (head_at hs n) z) (sym (get_or_append_left ks more [] r.0 r.1)) r.2)

pub longer_on : (a b c : List ℕ) → Longer a b → Longer b c → Longer a c
longer_on a b c p q = (p.0 ++ q.0, q.1 ∙ ap (λ z. z ++ q.0) p.1 ∙ append_assoc a p.0 q.0)

pub longer_many : (a b : List ℕ) → Longer a b → length a ≤ length b
longer_many a b p = omega (arith, ap length p.1, length-append a p.0)

longer_none : {a b : List ℕ} → b ≡ a → Longer a b
longer_none {a} {b} e = ([], e ∙ sym (append-nil a))

-- two bytes that no node tells apart
node_same : (a b : ℕ) (nodes : List Node) (n : ℕ) → n < length nodes → AreSameNodes nodes a b → IsSameNode (get_or nodes n Start) a b
node_same a b [] n lt s = absurd (omega arith)
node_same a b (x ∷ nodes) zero lt s = s.0
node_same a b (x ∷ nodes) (suc n) lt s = node_same a b nodes n (omega arith) s.1

alike_same : (i j : Item) (a b : ℕ) → IsAlike i j → (Begins i a ↔ Begins i b) × (Continues i a ↔ Continues i b) →
    (Begins j a ↔ Begins j b) × (Continues j a ↔ Continues j b)
alike_same i j a b h s = ((begins a b s.0.0, begins b a s.0.1), (continues a b s.1.0, continues b a s.1.1))
  where
    begins : (x y : ℕ) → (Begins i x → Begins i y) → Begins j x → Begins j y
    begins x y f p =
        let q = f ((h.1 x (begins_few j x p)).0.1 p) in
        (h.1 y (begins_few i y q)).0.0 q

    continues : (x y : ℕ) → (Continues i x → Continues i y) → Continues j x → Continues j y
    continues x y f p =
        let q = f ((h.1 x (continues_few j x p)).1.1 p) in
        (h.1 y (continues_few i y q)).1.0 q

behind_same : (nodes : List Node) (n source : ℕ) (i : Item) → IsSimple i → IsBehind nodes n source i → (a b : ℕ) → AreSameNodes nodes a b →
    IsSameFor i a b
behind_same nodes n source i simple is a b s = (same_simple a b i simple).0 (by_node (get_or nodes n Start) (node_same a b nodes n is.0 s) is.3)
  where
    by_node : (x : Node) → IsSameNode x a b → IsAfterLike x i → (Begins i a ↔ Begins i b) × (Continues i a ↔ Continues i b)
    by_node Start s z = absurd z
    by_node (Same p) s z = absurd z
    by_node (Join es) s z = absurd z
    by_node (After j) s z = alike_same j.now i a b z s

same_push : (a b : ℕ) (nodes : List Node) (node : Node) → AreSameNodes (nodes ++ node ∷ []) a b ↔ (AreSameNodes nodes a b × IsSameNode node a b)
same_push a b nodes node =
    let r = AreSameNodes-append a b nodes (node ∷ []) in
    (λ s. ((r.0 s).0, (r.0 s).1.0), λ s. r.1 (s.0, (s.1, tt)))

module _ (hs : List (List Item)) (nodes : List Node) (firsts : List ℕ) (is : IsMerging hs nodes firsts) where
  -- more heads of the patterns
  widened : (more : List (List Item)) → IsMerging (hs ++ more) nodes firsts
  widened more = record {
    count = is.count;
    inside = λ k d lt. omega (arith, is.inside k d lt, length-append hs more);
    tells = λ m lt. subst (λ ks. Tells ks m (get_or nodes m Start)) (sym (kept_wide hs more firsts is.inside)) (is.tells m lt);
  }

  -- one more node
  pushed : (node : Node) (f : ℕ) → f < length hs → Tells (kept hs (firsts ++ f ∷ [])) (length nodes) node →
      IsMerging hs (nodes ++ node ∷ []) (firsts ++ f ∷ [])
  pushed node f few right = record {
    count = omega (arith, is.count, length_push nodes node, length_push firsts f);
    inside = All-push (λ z. z < length hs) firsts f is.inside few;
    tells = tells;
  }
    where
      tells : (m : ℕ) → m < length (nodes ++ node ∷ []) → Tells (kept hs (firsts ++ f ∷ [])) m (get_or (nodes ++ node ∷ []) m Start)
      tells m lt =
          ⊎_elim
          (λ (l : m < length nodes).
          subst (λ z. Tells (kept hs (firsts ++ f ∷ [])) m z) (sym (get_or_append_left nodes (node ∷ []) Start m l))
          (tells_grown hs firsts f m (get_or nodes m Start) (omega (arith, l, is.count)) (is.tells m l)))
          (λ (g : length nodes ≤ m).
          let e : length nodes ≡ m = omega (arith, g, lt, length_push nodes node) in
          subst (λ z. Tells (kept hs (firsts ++ f ∷ [])) m z) (sym (get_or_push nodes node Start m e))
          (subst (λ z. Tells (kept hs (firsts ++ f ∷ [])) z node) e right))
          (cases_lt m (length nodes))

  -- a position that is named as the same
  module _ (source : ℕ) (lt : source < length nodes) where
    copy_tells : Tells (kept hs (firsts ++ get_or firsts source 0 ∷ [])) (length nodes) (Same source)
    copy_tells =
        let f = get_or firsts source 0 in
        let l : source < length firsts = omega (arith, lt, is.count) in
        (lt, texts_same _ _ (newest hs firsts f (length nodes) (sym is.count) ∙ sym (kept_at hs firsts source l) ∙ sym (grown hs firsts f source l)))

    copied : IsMerging hs (nodes ++ Same source ∷ []) (firsts ++ get_or firsts source 0 ∷ [])
    copied = pushed (Same source) (get_or firsts source 0) (is.inside source 0 (omega (arith, lt, is.count))) copy_tells

  -- a position at the source has its texts
  at_source : (n source : ℕ) → n < length nodes → IsAt nodes n source → SameTexts (head_at (kept hs firsts) n) (head_at (kept hs firsts) source)
  at_source n source lt at =
      ⊎_elim
      (λ (e : n ≡ source). texts_same _ _ (ap (λ z. head_at (kept hs firsts) z) e))
      (λ (e : get_or nodes n Start ≡ Same source). (subst (λ z. Tells (kept hs firsts) n z) e (is.tells n lt)).1)
      at

  behind_texts : (old source : ℕ) (i : Item) (h : List Item) → IsSimple i → IsBehind nodes old source i →
      SameTexts h (head_at (kept hs firsts) source) →
      SameTexts (h ++ i ∷ []) (head_at (kept hs firsts) old)
  behind_texts old source i h simple b named = texts_back _ _ (by_node (get_or nodes old Start) (is.tells old b.0) b.3)
    where
      by_node : (x : Node) → Tells (kept hs firsts) old x → IsAfterLike x i → SameTexts (head_at (kept hs firsts) old) (h ++ i ∷ [])
      by_node Start t z = absurd z
      by_node (Same p) t z = absurd z
      by_node (Join es) t z = absurd z
      by_node (After j) t z =
          texts_on _ (head_at (kept hs firsts) (old - 1) ++ j.now ∷ []) _ t.2
          (texts_push (head_at (kept hs firsts) (old - 1)) h j.now i
          (texts_on _ (head_at (kept hs firsts) source) _ (at_source (old - 1) source (omega (arith, b.0)) b.2) (texts_back _ _ named))
          (alike_allows j.now i t.0 simple z))

  join_texts : (old : ℕ) (ends : List ℕ) (h : List Item) → IsJoin nodes old ends →
      ((t : List ℕ) → Matches h t ↔ SomeOf (kept hs firsts) ends t) → SameTexts h (head_at (kept hs firsts) old)
  join_texts old ends h j told t =
      let r = by_node (get_or nodes old Start) (is.tells old j.0) j.1 in
      (λ m. r.1 ((told t).0 m), λ m. (told t).1 (r.0 m))
    where
      by_node : (x : Node) → Tells (kept hs firsts) old x → HasEnds x ends → Matches (head_at (kept hs firsts) old) t ↔ SomeOf (kept hs firsts) ends t
      by_node Start r z = absurd z
      by_node (Same p) r z = absurd z
      by_node (After j) r z = absurd z
      by_node (Join es) r z = subst (λ (z : List ℕ). Matches (head_at (kept hs firsts) old) t ↔ SomeOf (kept hs firsts) z t) z (r.1 t)

-- what is kept of positions where others were added
module _ (hs more : List (List Item)) (old new : Merged) (is : IsMerged hs old) (whole : IsWhole new) (longer : Longer old.firsts.items new.firsts.items) where
  pub head_kept : (n : ℕ) → n < length old.nodes.items → head_at (kept (hs ++ more) new.firsts.items) n ≡ head_at (kept hs old.firsts.items) n
  head_kept n lt =
      ap (λ fs. head_at (kept (hs ++ more) fs) n) longer.1
      ∙ kept_further hs more old.firsts.items longer.0 n is.merging.inside (omega (arith, lt, is.merging.count))

  pub still_within : (n : ℕ) → n < length old.nodes.items → n < length new.nodes.items
  still_within n lt = omega (arith, lt, is.merging.count, whole, longer_many old.firsts.items new.firsts.items longer)

  pub names_kept : (n : ℕ) (h : List Item) → Names hs old n h → Names (hs ++ more) new n h
  names_kept n h names = (still_within n names.0, subst (λ z. SameTexts h z) (sym (head_kept n names.0)) names.1)

  pub ends_kept : (ends : List ℕ) (Told : List ℕ → Type 0) → AreEnds hs old ends Told → AreEnds (hs ++ more) new ends Told
  ends_kept ends Told are = record {
    within = λ k d lt. still_within (get_or ends k d) (are.within k d lt);
    told = λ t. (
      λ m. let x = (are.told t).0 m in (x.0, x.1, subst (λ z. Matches z t) (sym (head_kept x.0 (below x.0 x.1))) x.2),
      λ x. (are.told t).1 (x.0, x.1, subst (λ z. Matches z t) (head_kept x.0 (below x.0 x.1)) x.2),
    );
  }
    where
      below : (p : ℕ) → Contains ends p → p < length old.nodes.items
      below p c = subst (λ z. z < length old.nodes.items) c.2 (are.within c.0 p c.1)

-- how one more head comes to be
module _ (old new : Merged) (hs : List (List Item)) (x : List Item) (is : IsMerged hs old) (many : new.many ≡ old.many + 1) where
  counted : new.many ≡ length (hs ++ x ∷ [])
  counted = omega (arith, many, is.many, length_push hs x)

  -- it is that of a position
  found : (n : ℕ) → new.nodes ≡ old.nodes → new.firsts ≡ old.firsts → Names hs old n x →
      IsMerged (hs ++ x ∷ []) new × Names (hs ++ x ∷ []) new n x
  found n nodes firsts names = (
    record {
      merging = subst (λ (v : Vec Node Global). IsMerging (hs ++ x ∷ []) v.items new.firsts.items) (sym nodes)
          (subst (λ (v : Vec ℕ Global). IsMerging (hs ++ x ∷ []) old.nodes.items v.items) (sym firsts)
          (widened hs old.nodes.items old.firsts.items is.merging (x ∷ [])));
      met = subst (λ (v : Vec ℕ Global). AreMet (hs ++ x ∷ []) (kept (hs ++ x ∷ []) v.items)) (sym firsts)
          (subst (λ ks. AreMet (hs ++ x ∷ []) ks) (sym same)
          (met_push hs (kept hs old.firsts.items) x n is.met (omega (arith, names.0, is.merging.count, kept_many hs old.firsts.items)) names.1));
      many = counted;
    },
    (
      subst (λ (v : Vec Node Global). n < length v.items) (sym nodes) names.0,
      subst (λ (v : Vec ℕ Global). SameTexts x (head_at (kept (hs ++ x ∷ []) v.items) n)) (sym firsts)
          (subst (λ ks. SameTexts x (head_at ks n)) (sym same) names.1),
    ),
  )
    where
      same : kept (hs ++ x ∷ []) old.firsts.items ≡ kept hs old.firsts.items
      same = kept_wide hs (x ∷ []) old.firsts.items is.merging.inside

  -- it is that of a new position behind these
  made : (nodes : List Node) (firsts : List ℕ) (node : Node) → Longer old.firsts.items firsts → IsMerging (hs ++ x ∷ []) nodes firsts →
      (head_at (kept (hs ++ x ∷ []) (firsts ++ old.many ∷ [])) (length nodes) ≡ x →
      Tells (kept (hs ++ x ∷ []) (firsts ++ old.many ∷ [])) (length nodes) node) →
      new.nodes.items ≡ nodes ++ node ∷ [] → new.firsts.items ≡ firsts ++ old.many ∷ [] →
      IsMerged (hs ++ x ∷ []) new × Names (hs ++ x ∷ []) new (length nodes) x
  made nodes firsts node longer merging right nodes_are firsts_are = (
    record {
      merging = subst (λ z. IsMerging (hs ++ x ∷ []) z new.firsts.items) (sym nodes_are)
          (subst (λ z. IsMerging (hs ++ x ∷ []) (nodes ++ node ∷ []) z) (sym firsts_are)
          (pushed (hs ++ x ∷ []) nodes firsts merging node old.many (omega (arith, is.many, length_push hs x)) (right here)));
      met = subst (λ z. AreMet (hs ++ x ∷ []) (kept (hs ++ x ∷ []) z)) (sym firsts_are) met;
      many = counted;
    },
    (
      omega (arith, ap length nodes_are, length_push nodes node),
      subst (λ z. SameTexts x (head_at (kept (hs ++ x ∷ []) z) (length nodes))) (sym firsts_are) (texts_same _ _ (sym here)),
    ),
  )
    where
      here : head_at (kept (hs ++ x ∷ []) (firsts ++ old.many ∷ [])) (length nodes) ≡ x
      here = newest (hs ++ x ∷ []) firsts old.many (length nodes) (sym merging.count) ∙ get_or_push hs x [] old.many (sym is.many)

      all : firsts ++ old.many ∷ [] ≡ old.firsts.items ++ (longer.0 ++ old.many ∷ [])
      all = ap (λ z. z ++ old.many ∷ []) longer.1 ∙ append_assoc old.firsts.items longer.0 (old.many ∷ [])

      whole : kept (hs ++ x ∷ []) (firsts ++ old.many ∷ []) ≡ kept hs old.firsts.items ++ kept (hs ++ x ∷ []) (longer.0 ++ old.many ∷ [])
      whole =
          ap (λ z. kept (hs ++ x ∷ []) z) all ∙ kept_append (hs ++ x ∷ []) old.firsts.items (longer.0 ++ old.many ∷ [])
          ∙ ap (λ z. z ++ kept (hs ++ x ∷ []) (longer.0 ++ old.many ∷ [])) (kept_wide hs (x ∷ []) old.firsts.items is.merging.inside)

      met : AreMet (hs ++ x ∷ []) (kept (hs ++ x ∷ []) (firsts ++ old.many ∷ []))
      met =
          met_push hs (kept (hs ++ x ∷ []) (firsts ++ old.many ∷ [])) x (length nodes)
          (subst (λ ks. AreMet hs ks) (sym whole) (met_longer hs (kept hs old.firsts.items) (kept (hs ++ x ∷ []) (longer.0 ++ old.many ∷ [])) is.met))
          (omega (arith, kept_many (hs ++ x ∷ []) (firsts ++ old.many ∷ []), length_push firsts old.many, merging.count))
          (texts_same _ _ (sym here))

-- The steps of merging, as the functions take them.

same_nodes : (old new : Merged) (a b : ℕ) (Told : Type 0) → new.nodes ≡ old.nodes → (AreSameNodes old.nodes.items a b → Told) →
    AreSameNodes new.nodes.items a b ↔ (AreSameNodes old.nodes.items a b × Told)
same_nodes old new a b Told nodes known = (
  λ s. let t = subst (λ (v : Vec Node Global). AreSameNodes v.items a b) nodes s in (t, known t),
  λ s. subst (λ (v : Vec Node Global). AreSameNodes v.items a b) (sym nodes) s.0,
)

more_nodes : (new : Merged) (nodes : List Node) (node : Node) (a b : ℕ) → new.nodes.items ≡ nodes ++ node ∷ [] →
    AreSameNodes new.nodes.items a b ↔ (AreSameNodes nodes a b × IsSameNode node a b)
more_nodes new nodes node a b are = subst (λ z. AreSameNodes z a b ↔ (AreSameNodes nodes a b × IsSameNode node a b)) (sym are) (same_push a b nodes node)

pub whole_from : (old new : Merged) → IsWhole old → new.nodes ≡ old.nodes → new.firsts ≡ old.firsts → IsWhole new
whole_from old new whole nodes firsts = omega (
  arith,
  whole,
  ap (λ (v : Vec Node Global). length v.items) nodes,
  ap (λ (v : Vec ℕ Global). length v.items) firsts,
)

whole_pushed : (new : Merged) (nodes : List Node) (firsts : List ℕ) (node : Node) (f : ℕ) → length firsts ≡ length nodes →
    new.nodes.items ≡ nodes ++ node ∷ [] → new.firsts.items ≡ firsts ++ f ∷ [] → IsWhole new
whole_pushed new nodes firsts node f whole nodes_are firsts_are =
    omega (arith, whole, ap length nodes_are, ap length firsts_are, length_push nodes node, length_push firsts f)

longer_pushed : (old firsts new : List ℕ) (f : ℕ) → Longer old firsts → new ≡ firsts ++ f ∷ [] → Longer old new
longer_pushed old firsts new f longer are = longer_on old firsts new longer (f ∷ [], are)

pub start_found : (old new : Merged) → IsWhole old → Counts old new → 0 < length old.nodes.items → get_or old.nodes.items 0 Start ≡ Start →
    AddsStart old new 0
start_found old new whole k some first = (
  subst (λ (v : Vec Node Global). 0 < length v.items) (sym k.nodes) some,
  record {
    whole = whole_from old new whole k.nodes k.firsts;
    longer = longer_none (ap (λ (v : Vec ℕ Global). v.items) k.firsts);
    merged = λ hs h is e.
        found old new hs h is k.many 0 k.nodes k.firsts (
          some,
          subst (λ z. SameTexts z (head_at (kept hs old.firsts.items) 0)) (sym e)
              (texts_back (head_at (kept hs old.firsts.items) 0) [] (subst (λ z. Tells (kept hs old.firsts.items) 0 z) first (is.merging.tells 0 some))),
        );
    same = λ a b. same_nodes old new a b (IsAnyPair a b) k.nodes (λ _. tt);
  },
)

pub start_made : (old new : Merged) → IsWhole old → new.nodes.items ≡ old.nodes.items ++ Start ∷ [] →
    new.firsts.items ≡ old.firsts.items ++ old.many ∷ [] → new.many ≡ old.many + 1 →
    AddsStart old new (length old.nodes.items)
start_made old new whole nodes firsts many = (
  omega (arith, ap length nodes, length_push old.nodes.items Start),
  record {
    whole = whole_pushed new old.nodes.items old.firsts.items Start old.many whole nodes firsts;
    longer = (old.many ∷ [], firsts);
    merged = λ hs h is e.
        made old new hs h is many old.nodes.items old.firsts.items Start (longer_none refl) (widened hs old.nodes.items old.firsts.items is.merging (h ∷ []))
        (λ here. texts_same _ _ (here ∙ e)) nodes firsts;
    same = λ a b. more_nodes new old.nodes.items Start a b nodes;
  },
)

pub behind_found : (old new : Merged) (source n : ℕ) (i : Item) → IsWhole old → IsSimple i → Counts old new →
    IsBehind old.nodes.items n source i → AddsSimple old new source i n
behind_found old new source n i whole simple k b = (
  subst (λ (v : Vec Node Global). n < length v.items) (sym k.nodes) b.0,
  record {
    whole = whole_from old new whole k.nodes k.firsts;
    longer = longer_none (ap (λ (v : Vec ℕ Global). v.items) k.firsts);
    merged = λ hs h is names.
        found old new hs (h ++ i ∷ []) is k.many n k.nodes k.firsts
        (b.0, behind_texts hs old.nodes.items old.firsts.items is.merging n source i h simple b names.1);
    same = λ a b'. same_nodes old new a b' (IsSameFor i a b') k.nodes (behind_same old.nodes.items n source i simple b a b');
  },
)

-- the last position has the texts of the source
record Stands (hs : List (List Item)) (nodes : List Node) (firsts : List ℕ) (source : List Item) : Type 0 where
  merging : IsMerging hs nodes firsts
  some : 0 < length nodes
  last : SameTexts (head_at (kept hs firsts) (length nodes - 1)) source

module _ (old mid : Merged) (source : ℕ) (whole : IsWhole old) (lt : source < length old.nodes.items) (goes : Goes old mid source) where
  went_whole : length mid.firsts.items ≡ length mid.nodes.items
  went_whole =
      ⊎_elim
      (λ (e : (mid ≡ old) × (source + 1 ≡ length old.nodes.items)). subst IsWhole (sym e.0) whole)
      (λ (p : Pushes old mid (Same source) (get_or old.firsts.items source 0)). whole_pushed mid old.nodes.items old.firsts.items (Same source)
      (get_or old.firsts.items source 0) whole p.nodes p.firsts)
      goes

  went_longer : Longer old.firsts.items mid.firsts.items
  went_longer =
      ⊎_elim
      (λ (e : (mid ≡ old) × (source + 1 ≡ length old.nodes.items)). longer_none (ap (λ (m : Merged). m.firsts.items) e.0))
      (λ (p : Pushes old mid (Same source) (get_or old.firsts.items source 0)). (get_or old.firsts.items source 0 ∷ [], p.firsts))
      goes

  went_same : (a b : ℕ) → AreSameNodes mid.nodes.items a b ↔ AreSameNodes old.nodes.items a b
  went_same a b =
      ⊎_elim
      (λ (e : (mid ≡ old) × (source + 1 ≡ length old.nodes.items)).
      subst (λ (m : Merged). AreSameNodes m.nodes.items a b ↔ AreSameNodes old.nodes.items a b) (sym e.0) (λ s. s, λ s. s))
      (λ (p : Pushes old mid (Same source) (get_or old.firsts.items source 0)).
      let r = more_nodes mid old.nodes.items (Same source) a b p.nodes in (λ s. (r.0 s).0, λ s. r.1 (s, tt)))
      goes

  went_many : mid.many ≡ old.many
  went_many =
      ⊎_elim
      (λ (e : (mid ≡ old) × (source + 1 ≡ length old.nodes.items)). ap (λ (m : Merged). m.many) e.0)
      (λ (p : Pushes old mid (Same source) (get_or old.firsts.items source 0)). p.many)
      goes

  went : (hs : List (List Item)) → IsMerging hs old.nodes.items old.firsts.items →
      Stands hs mid.nodes.items mid.firsts.items (head_at (kept hs old.firsts.items) source)
  went hs is = ⊎_elim there copied_there goes
    where
      there : (mid ≡ old) × (source + 1 ≡ length old.nodes.items) →
          Stands hs mid.nodes.items mid.firsts.items (head_at (kept hs old.firsts.items) source)
      there e = subst (λ (m : Merged). Stands hs m.nodes.items m.firsts.items (head_at (kept hs old.firsts.items) source)) (sym e.0) (record {
        merging = is;
        some = omega (arith, e.1);
        last = let at : length old.nodes.items - 1 ≡ source = omega (arith, e.1) in texts_same _ _ (ap (λ z. head_at (kept hs old.firsts.items) z) at);
      })

      copied_there : Pushes old mid (Same source) (get_or old.firsts.items source 0) →
          Stands hs mid.nodes.items mid.firsts.items (head_at (kept hs old.firsts.items) source)
      copied_there p =
          let f = get_or old.firsts.items source 0 in
          let l : source < length old.firsts.items = omega (arith, lt, whole) in
          let at : length old.nodes.items ≡ length (old.nodes.items ++ Same source ∷ []) - 1 = omega (arith, length_push old.nodes.items (Same source)) in
          subst (λ z. Stands hs z mid.firsts.items (head_at (kept hs old.firsts.items) source)) (sym p.nodes)
          (subst (λ z. Stands hs (old.nodes.items ++ Same source ∷ []) z (head_at (kept hs old.firsts.items) source)) (sym p.firsts) (record {
            merging = copied hs old.nodes.items old.firsts.items is source lt;
            some = omega (arith, length_push old.nodes.items (Same source));
            last = subst (λ n. SameTexts (head_at (kept hs (old.firsts.items ++ f ∷ [])) n) (head_at (kept hs old.firsts.items) source)) at
                (texts_same _ _ (newest hs old.firsts.items f (length old.nodes.items) (sym whole) ∙ sym (kept_at hs old.firsts.items source l)));
          }))

pub behind_made : (old counted mid new : Merged) (source : ℕ) (i : Bor Item) → IsWhole old → IsSimple i.now → source < length old.nodes.items →
    Counts old counted → Goes counted mid source →
    new.nodes.items ≡ mid.nodes.items ++ After i ∷ [] → new.firsts.items ≡ mid.firsts.items ++ old.many ∷ [] → new.many ≡ mid.many →
    AddsSimple old new source i.now (length mid.nodes.items)
behind_made old counted mid new source i whole simple lt k goes nodes firsts many = (
  omega (arith, ap length nodes, length_push mid.nodes.items (After i)),
  record {
    whole = whole_pushed new mid.nodes.items mid.firsts.items (After i) old.many (went_whole counted mid source whole' lt' goes) nodes firsts;
    longer = longer_pushed old.firsts.items mid.firsts.items new.firsts.items old.many longer firsts;
    merged = merged;
    same = same;
  },
)
  where
    whole' : IsWhole counted
    whole' = whole_from old counted whole k.nodes k.firsts

    lt' : source < length counted.nodes.items
    lt' = subst (λ (v : Vec Node Global). source < length v.items) (sym k.nodes) lt

    longer : Longer old.firsts.items mid.firsts.items
    longer =
        longer_on old.firsts.items counted.firsts.items mid.firsts.items (longer_none (ap (λ (v : Vec ℕ Global). v.items) k.firsts))
        (went_longer counted mid source whole' lt' goes)

    same : (a b : ℕ) → AreSameNodes new.nodes.items a b ↔ (AreSameNodes old.nodes.items a b × IsSameFor i.now a b)
    same a b =
        let p = more_nodes new mid.nodes.items (After i) a b nodes in
        let q = went_same counted mid source whole' lt' goes a b in
        let r = same_simple a b i.now simple in (
          λ s. (subst (λ (v : Vec Node Global). AreSameNodes v.items a b) k.nodes (q.0 (p.0 s).0), r.0 (p.0 s).1),
          λ s. p.1 (q.1 (subst (λ (v : Vec Node Global). AreSameNodes v.items a b) (sym k.nodes) s.0), r.1 s.1),
        )

    merged : (hs : List (List Item)) (h : List Item) → IsMerged hs old → Names hs old source h →
        IsMerged (hs ++ (h ++ i.now ∷ []) ∷ []) new × Names (hs ++ (h ++ i.now ∷ []) ∷ []) new (length mid.nodes.items) (h ++ i.now ∷ [])
    merged hs h is names =
        made old new hs x is (omega (arith, many, went_many counted mid source whole' lt' goes, k.many)) mid.nodes.items mid.firsts.items
        (After i) longer stands.merging tells nodes firsts
      where
        x : List Item
        x = h ++ i.now ∷ []

        wide : List (List Item)
        wide = hs ++ x ∷ []

        stands : Stands wide mid.nodes.items mid.firsts.items (head_at (kept wide counted.firsts.items) source)
        stands = went counted mid source whole' lt' goes wide
            (subst (λ (v : Vec Node Global). IsMerging wide v.items counted.firsts.items) (sym k.nodes)
            (subst (λ (v : Vec ℕ Global). IsMerging wide old.nodes.items v.items) (sym k.firsts)
            (widened hs old.nodes.items old.firsts.items is.merging (x ∷ []))))

        at : head_at (kept wide counted.firsts.items) source ≡ head_at (kept hs old.firsts.items) source
        at = ap (λ (v : Vec ℕ Global). head_at (kept wide v.items) source) k.firsts ∙ ap (λ ks. head_at ks source)
            (kept_wide hs (x ∷ []) old.firsts.items is.merging.inside)

        tells : head_at (kept wide (mid.firsts.items ++ old.many ∷ [])) (length mid.nodes.items) ≡ x →
            Tells (kept wide (mid.firsts.items ++ old.many ∷ [])) (length mid.nodes.items) (After i)
        tells here = (
          simple,
          stands.some,
          texts_from x (head_at (kept wide mid.firsts.items) (length mid.nodes.items - 1) ++ i.now ∷ []) here
              (ap (λ (z : List Item). z ++ i.now ∷ [])
              (grown wide mid.firsts.items old.many (length mid.nodes.items - 1) (omega (arith, stands.some, stands.merging.count))))
              (texts_push h (head_at (kept wide mid.firsts.items) (length mid.nodes.items - 1)) i.now i.now
              (texts_on _ (head_at (kept wide counted.firsts.items) source) _ (subst (λ z. SameTexts h z) (sym at) names.1) (texts_back _ _ stands.last))
              (λ t. (λ m. m, λ m. m))),
        )

pub same_found : (old new : Merged) (source : ℕ) → IsWhole old → Counts old new → AddsSame old new source
same_found old new source whole k = record {
  whole = whole_from old new whole k.nodes k.firsts;
  longer = longer_none (ap (λ (v : Vec ℕ Global). v.items) k.firsts);
  merged = λ hs h is names. found old new hs h is k.many source k.nodes k.firsts names;
  same = λ a b. same_nodes old new a b (IsAnyPair a b) k.nodes (λ _. tt);
}

pub join_found : (old new : Merged) (ends : List ℕ) (n : ℕ) → IsWhole old → Counts old new → IsJoin old.nodes.items n ends → AddsJoin old new ends n
join_found old new ends n whole k j = (
  subst (λ (v : Vec Node Global). n < length v.items) (sym k.nodes) j.0,
  record {
    whole = whole_from old new whole k.nodes k.firsts;
    longer = longer_none (ap (λ (v : Vec ℕ Global). v.items) k.firsts);
    merged = λ hs h is are. found old new hs h is k.many n k.nodes k.firsts
        (j.0, join_texts hs old.nodes.items old.firsts.items is.merging n ends h j are.told);
    same = λ a b. same_nodes old new a b (IsAnyPair a b) k.nodes (λ _. tt);
  },
)

pub join_made : (old new : Merged) (ends : Vec ℕ Global) → IsWhole old → new.nodes.items ≡ old.nodes.items ++ Join ends ∷ [] →
    new.firsts.items ≡ old.firsts.items ++ old.many ∷ [] → new.many ≡ old.many + 1 →
    AddsJoin old new ends.items (length old.nodes.items)
join_made old new ends whole nodes firsts many = (
  omega (arith, ap length nodes, length_push old.nodes.items (Join ends)),
  record {
    whole = whole_pushed new old.nodes.items old.firsts.items (Join ends) old.many whole nodes firsts;
    longer = (old.many ∷ [], firsts);
    merged = merged;
    same = λ a b. more_nodes new old.nodes.items (Join ends) a b nodes;
  },
)
  where
    merged : (hs : List (List Item)) (h : List Item) → IsMerged hs old → AreEnds hs old ends.items (Matches h) →
        IsMerged (hs ++ h ∷ []) new × Names (hs ++ h ∷ []) new (length old.nodes.items) h
    merged hs h is are =
        made old new hs h is many old.nodes.items old.firsts.items (Join ends) (longer_none refl)
        (widened hs old.nodes.items old.firsts.items is.merging (h ∷ [])) tells nodes firsts
      where
        ks : List (List Item)
        ks = kept (hs ++ h ∷ []) (old.firsts.items ++ old.many ∷ [])

        below : (p : ℕ) → Contains ends.items p → p < length old.nodes.items
        below p c = subst (λ z. z < length old.nodes.items) c.2 (are.within c.0 p c.1)

        stays : (p : ℕ) → Contains ends.items p → head_at ks p ≡ head_at (kept hs old.firsts.items) p
        stays p c = kept_further hs (h ∷ []) old.firsts.items (old.many ∷ []) p is.merging.inside (omega (arith, below p c, whole))

        tells : head_at ks (length old.nodes.items) ≡ h → Tells ks (length old.nodes.items) (Join ends)
        tells here = (
          are.within,
          λ t. (
            λ m. let x = (are.told t).0 (subst (λ z. Matches z t) here m) in (x.0, x.1, subst (λ z. Matches z t) (sym (stays x.0 x.1)) x.2),
            λ x. subst (λ z. Matches z t) (sym here) ((are.told t).1 (x.0, x.1, subst (λ z. Matches z t) (stays x.0 x.1) x.2)),
          ),
        )

pub end_made : (old new : Merged) (source : ℕ) → IsWhole old → source < length old.nodes.items →
    Pushes old new (Same source) (get_or old.firsts.items source 0) →
    AddsEnd old new source (length old.nodes.items)
end_made old new source whole lt p = (
  refl,
  omega (arith, ap length p.nodes, length_push old.nodes.items (Same source)),
  record {
    whole = whole_pushed new old.nodes.items old.firsts.items (Same source) (get_or old.firsts.items source 0) whole p.nodes p.firsts;
    longer = (get_or old.firsts.items source 0 ∷ [], p.firsts);
    merged = merged;
    same = λ a b. more_nodes new old.nodes.items (Same source) a b p.nodes;
  },
)
  where
    merged : (hs : List (List Item)) (h : List Item) → IsMerged hs old → Names hs old source h →
        IsMerged (hs ++ []) new × Names (hs ++ []) new (length old.nodes.items) h
    merged hs h is names =
        subst (λ z. IsMerged z new × Names z new (length old.nodes.items) h) (sym (append-nil hs)) (
          record {
            merging = subst (λ z. IsMerging hs z new.firsts.items) (sym p.nodes)
                (subst (λ z. IsMerging hs (old.nodes.items ++ Same source ∷ []) z) (sym p.firsts)
                (copied hs old.nodes.items old.firsts.items is.merging source lt));
            met = subst (λ z. AreMet hs (kept hs z)) (sym p.firsts)
                (subst (λ ks. AreMet hs ks) (sym (kept_append hs old.firsts.items (get_or old.firsts.items source 0 ∷ [])))
                (met_longer hs (kept hs old.firsts.items) _ is.met));
            many = p.many ∙ is.many;
          },
          (
            omega (arith, ap length p.nodes, length_push old.nodes.items (Same source)),
            subst (λ z. SameTexts h (head_at (kept hs z) (length old.nodes.items))) (sym p.firsts)
                (texts_on _ (head_at (kept hs old.firsts.items) source) _ names.1
                (texts_same _ _ (kept_at hs old.firsts.items source l ∙ sym
                (newest hs old.firsts.items (get_or old.firsts.items source 0) (length old.nodes.items) (sym whole))))),
          ),
        )
      where
        l : source < length old.firsts.items
        l = omega (arith, lt, whole)

pub merged_none : (m : Merged) → m.nodes.items ≡ [] → m.firsts.items ≡ [] → m.many ≡ 0 → IsMerged [] m
merged_none m nodes firsts many = record {
  merging = subst (λ z. IsMerging [] z m.firsts.items) (sym nodes)
      (subst (λ z. IsMerging [] [] z) (sym firsts) (record { count = refl; inside = λ k d lt. absurd (omega arith); tells = λ n lt. absurd (omega arith) }));
  met = λ n lt. absurd (omega arith);
  many = many;
}

-- the same where a position was counted before
pub start_there : (old new : Merged) → IsWhole old → Counts old new → HasStart new.nodes.items → AddsStart old new 0
start_there old new whole k has =
    let first = subst (λ (v : Vec Node Global). HasStart v.items) k.nodes has in
    start_found old new whole k first.0 first.1

pub start_added : (old mid new : Merged) (n : ℕ) → IsWhole old → Counts old mid → length mid.nodes.items ≡ n → Pushes mid new Start old.many →
    AddsStart old new n
start_added old mid new n whole k e p =
    subst (λ z. AddsStart old new z) (sym (ap (λ (v : Vec Node Global). length v.items) k.nodes) ∙ e)
    (start_made old new whole (p.nodes ∙ ap (λ (v : Vec Node Global). v.items ++ Start ∷ []) k.nodes)
    (p.firsts ∙ ap (λ (v : Vec ℕ Global). v.items ++ old.many ∷ []) k.firsts) (p.many ∙ k.many))

pub behind_there : (old new : Merged) (source n : ℕ) (i : Item) → IsWhole old → IsSimple i → Counts old new →
    IsBehind new.nodes.items n source i → AddsSimple old new source i n
behind_there old new source n i whole simple k b = behind_found old new source n i whole simple k
    (subst (λ (v : Vec Node Global). IsBehind v.items n source i) k.nodes b)

pub behind_added : (old counted mid new : Merged) (source n : ℕ) (i : Bor Item) → IsWhole old → IsSimple i.now → source < length old.nodes.items →
    Counts old counted → Goes counted mid source →
    length mid.nodes.items ≡ n → new.nodes.items ≡ mid.nodes.items ++ After i ∷ [] → new.firsts.items ≡ mid.firsts.items ++ old.many ∷ [] →
    new.many ≡ mid.many → AddsSimple old new source i.now n
behind_added old counted mid new source n i whole simple lt k goes e nodes firsts many =
    subst (λ z. AddsSimple old new source i.now z) e (behind_made old counted mid new source i whole simple lt k goes nodes firsts many)

pub join_there : (old new : Merged) (ends : List ℕ) (n : ℕ) → IsWhole old → Counts old new → IsJoin new.nodes.items n ends → AddsJoin old new ends n
join_there old new ends n whole k j = join_found old new ends n whole k (subst (λ (v : Vec Node Global). IsJoin v.items n ends) k.nodes j)

pub join_added : (old mid new : Merged) (ends : Vec ℕ Global) (n : ℕ) → IsWhole old → Counts old mid → length mid.nodes.items ≡ n →
    new.nodes.items ≡ mid.nodes.items ++ Join ends ∷ [] →
    new.firsts.items ≡ mid.firsts.items ++ old.many ∷ [] → new.many ≡ mid.many → AddsJoin old new ends.items n
join_added old mid new ends n whole k e nodes firsts many =
    subst (λ z. AddsJoin old new ends.items z) (sym (ap (λ (v : Vec Node Global). length v.items) k.nodes) ∙ e)
    (join_made old new ends whole (nodes ∙ ap (λ (v : Vec Node Global). v.items ++ Join ends ∷ []) k.nodes)
    (firsts ∙ ap (λ (v : Vec ℕ Global). v.items ++ old.many ∷ []) k.firsts) (many ∙ k.many))
