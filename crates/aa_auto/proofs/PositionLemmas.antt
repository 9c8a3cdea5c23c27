-- The positions of patterns, one more item, branch or pattern at a time.
use Rattle.std.proofs.Common.{slice_get, Vec, Global, ◌≡◌, ℕ, ◌+◌, ◌≤◌, ◌<◌, ◌↔◌, Some, List, [], ◌∷◌, ◌++◌, length}
use Rattle.std.proofs.Common.{get_or}
use Rattle.std.proofs.Common.{take, refl, sym, ap, ◌∙◌, subst, inl, inr, ⊎_elim, arith, append_assoc, length-append}
use Rattle.std.proofs.lemmas.List.{append-nil, take_all, take_more, get_or_append_left, get_or_push}
use Rattle.std.proofs.lemmas.List.Elements.{Contains-push, Contains-push_cases, Contains-append_left, All-nil, All-push}
use Rattle.std.proofs.lemmas.Option.{slice_get_within}
use Rattle.aa_pattern.specs.declared.item.Item.{Item, Choice}
use Rattle.aa_pattern.specs.declared.pattern.Pattern.{Pattern}
use Rattle.aa_pattern.specs.Globs.{Matches}
use Rattle.aa_pattern.specs.Steps.{IsSimple}
use Rattle.aa_pattern.specs.Heads.{heads_within, heads_after, heads_of_choice, heads_of_patterns}
use Rattle.aa_auto.specs.declared.merging.Merged.{Merged}
use Rattle.aa_auto.specs.Classes.{IsSame, IsSameFor, IsSameForItems, IsSameForLists}
use Rattle.aa_auto.specs.Merged.{SameTexts, kept, IsWhole, IsMerged, Names, AreEnds, Longer, AddsStart, AddsSimple, AddsSame, AddsJoin, AddsEnd}
use Rattle.aa_auto.specs.Nodes.{head_at, SomeEnds, AreSameNodes}
use Rattle.aa_auto.specs.Positions.{AddsItems, AddsItem, AddsBranches, ArePositions}
use Rattle.aa_auto.proofs.SortedLemmas.{rising_push}
use Rattle.aa_auto.proofs.SameLemmas.{IsSameForItems-push, IsSameForLists-push, IsSame-push, IsSameFor-Choice}
use Rattle.aa_auto.proofs.HeadLemmas.{heads_after-push, within_none, heads_of_choice-push, heads_of_patterns-push, pattern_either}
use Rattle.aa_auto.proofs.Choices.{Matches-choice, SomeEnds-push, heads_within-Choice}
use Rattle.aa_auto.proofs.MergeLemmas.{longer_on, longer_many, head_kept, still_within, names_kept, ends_kept}

abbrev Heads : Type 0
Heads = List (List Item)

pub grown_within : (old new : Merged) (n : ℕ) → IsWhole old → IsWhole new → Longer old.firsts.items new.firsts.items →
    n < length old.nodes.items → n < length new.nodes.items
grown_within old new n was whole longer lt = omega (arith, lt, was, whole, longer_many old.firsts.items new.firsts.items longer)

pub items_none : (old : Merged) (source : ℕ) → IsWhole old → source < length old.nodes.items → AddsItems old old source [] source
items_none old source whole lt = (
  lt,
  record {
    whole = whole;
    longer = ([], sym (append-nil old.firsts.items));
    merged = λ hs h is names. (
      subst (λ z. IsMerged z old) (sym (append-nil hs)) is,
      subst (λ z. Names z old source (h ++ [])) (sym (append-nil hs)) (subst (λ z. Names hs old source z) (sym (append-nil h)) names),
    );
    same = λ a b. (λ s. (s, tt), λ s. s.0);
  },
)

items_push : (old mid new : Merged) (source m n : ℕ) (xs : List Item) (i : Item) → AddsItems old mid source xs m → AddsItem mid new m i n →
    AddsItems old new source (xs ++ i ∷ []) n
items_push old mid new source m n xs i front one = (
  one.0,
  record {
    whole = one.1.whole;
    longer = longer_on old.firsts.items mid.firsts.items new.firsts.items front.1.longer one.1.longer;
    merged = merged;
    same = same;
  },
)
  where
    same : (a b : ℕ) → AreSameNodes new.nodes.items a b ↔ (AreSameNodes old.nodes.items a b × IsSameForItems (xs ++ i ∷ []) a b)
    same a b =
        let p = one.1.same a b in
        let q = front.1.same a b in
        let r = IsSameForItems-push a b xs i in (
          λ s. let u = p.0 s in let w = q.0 u.0 in (w.0, r.1 (w.1, u.1)),
          λ s. let u = r.0 s.1 in p.1 (q.1 (s.0, u.0), u.1),
        )

    merged : (hs : Heads) (h : List Item) → IsMerged hs old → Names hs old source h →
        IsMerged (hs ++ heads_after h (xs ++ i ∷ [])) new × Names (hs ++ heads_after h (xs ++ i ∷ [])) new n (h ++ (xs ++ i ∷ []))
    merged hs h is names =
        let f = front.1.merged hs h is names in
        let o = one.1.merged (hs ++ heads_after h xs) (h ++ xs) f.0 f.1 in
        (subst (λ z. IsMerged z new) e o.0, subst (λ z. Names z new n (h ++ (xs ++ i ∷ []))) e (subst (λ g. Names whole new n g) joined o.1))
      where
        joined : (h ++ xs) ++ i ∷ [] ≡ h ++ (xs ++ i ∷ [])
        joined = append_assoc h xs (i ∷ [])

        whole : Heads
        whole = (hs ++ heads_after h xs) ++ (heads_within (h ++ xs) i ++ ((h ++ xs) ++ i ∷ []) ∷ [])

        e : (hs ++ heads_after h xs) ++ (heads_within (h ++ xs) i ++ ((h ++ xs) ++ i ∷ []) ∷ []) ≡ hs ++ heads_after h (xs ++ i ∷ [])
        e =
            append_assoc hs (heads_after h xs) (heads_within (h ++ xs) i ++ ((h ++ xs) ++ i ∷ []) ∷ [])
            ∙ ap (λ (z : List Item). hs ++ (heads_after h xs ++ (heads_within (h ++ xs) i ++ z ∷ []))) joined
            ∙ ap (λ (z : Heads). hs ++ z) (sym (heads_after-push h xs i))

pub items_more : (old mid new : Merged) (source m n k : ℕ) (xs : List Item) (i : Item) → k < length xs → i ≡ get_or xs k i →
    AddsItems old mid source (take k xs) m → AddsItem mid new m i n → AddsItems old new source (take (k + 1) xs) n
items_more old mid new source m n k xs i lt is front one =
    subst (λ ys. AddsItems old new source ys n) (sym (take_more xs k i lt ∙ ap (λ z. take k xs ++ z ∷ []) (sym is)))
    (items_push old mid new source m n (take k xs) i front one)

pub items_all : (old new : Merged) (source n k : ℕ) (xs : List Item) → length xs ≤ k → AddsItems old new source (take k xs) n →
    AddsItems old new source xs n
items_all old new source n k xs le adds = subst (λ ys. AddsItems old new source ys n) (take_all k xs le) adds

pub simple_made : (old new : Merged) (source n : ℕ) (i : Item) → IsSimple i → AddsSimple old new source i n → AddsItem old new source i n
simple_made old new source n i simple adds = (
  adds.0,
  record {
    whole = adds.1.whole;
    longer = adds.1.longer;
    merged = λ hs h is names.
        subst (λ z. IsMerged (hs ++ (z ++ (h ++ i ∷ []) ∷ [])) new × Names (hs ++ (z ++ (h ++ i ∷ []) ∷ [])) new n (h ++ i ∷ []))
        (sym (within_none h i simple))
        (adds.1.merged hs h is names);
    same = adds.1.same;
  },
)

pub choice_made : (old mid new : Merged) (source n : ℕ) (ends : List ℕ) (branches : List (Vec Item Global)) (i : Item)
    (v : Vec (Vec Item Global) Global) → i ≡ Choice v → branches ≡ v.items →
    AddsBranches old mid source branches ends → AddsJoin mid new ends n → AddsItem old new source i n
choice_made old mid new source n ends branches i v is listed adds join =
    subst (λ j. AddsItem old new source j n) (sym is) (
      join.0,
      record {
        whole = join.1.whole;
        longer = longer_on old.firsts.items mid.firsts.items new.firsts.items front.longer join.1.longer;
        merged = merged;
        same = same;
      },
    )
  where
    front : AddsBranches old mid source v.items ends
    front = subst (λ bs. AddsBranches old mid source bs ends) listed adds

    same : (a b : ℕ) → AreSameNodes new.nodes.items a b ↔ (AreSameNodes old.nodes.items a b × IsSameFor (Choice v) a b)
    same a b =
        let p = join.1.same a b in
        let q = front.same a b in
        let r = IsSameFor-Choice a b v in (
          λ s. let w = q.0 (p.0 s).0 in (w.0, r.1 w.1),
          λ s. p.1 (q.1 (s.0, r.0 s.1), tt),
        )

    merged : (hs : Heads) (h : List Item) → IsMerged hs old → Names hs old source h →
        IsMerged (hs ++ (heads_within h (Choice v) ++ (h ++ Choice v ∷ []) ∷ [])) new
        × Names (hs ++ (heads_within h (Choice v) ++ (h ++ Choice v ∷ []) ∷ [])) new n (h ++ Choice v ∷ [])
    merged hs h is names =
        let x = h ++ Choice v ∷ [] in
        let b = front.merged hs h is names in
        let ended : AreEnds (hs ++ heads_of_choice h v.items) mid ends (Matches x) = record {
          within = b.1.within;
          told = λ t. (
            λ m. (b.1.told t).0 ((Matches-choice h v t).0 m),
            λ s. (Matches-choice h v t).1 ((b.1.told t).1 s),
          );
        } in
        let j = join.1.merged (hs ++ heads_of_choice h v.items) x b.0 ended in
        let e : (hs ++ heads_of_choice h v.items) ++ x ∷ [] ≡ hs ++ (heads_within h (Choice v) ++ x ∷ []) =
        append_assoc hs (heads_of_choice h v.items) (x ∷ []) ∙ ap (λ (z : Heads). hs ++ (z ++ x ∷ [])) (sym (heads_within-Choice h v)) in
        subst (λ z. IsMerged z new × Names z new n x) e j

pub branches_none : (old : Merged) (source : ℕ) (ends : List ℕ) → IsWhole old → ends ≡ [] → AddsBranches old old source [] ends
branches_none old source ends whole e = subst (λ z. AddsBranches old old source [] z) (sym e) (record {
  whole = whole;
  longer = ([], sym (append-nil old.firsts.items));
  merged = λ hs h is names.
      subst (λ z. IsMerged z old × AreEnds z old [] (SomeEnds h [])) (sym (append-nil hs)) (
        is,
        record { within = All-nil (λ e. e < length old.nodes.items); told = λ t. (λ z. absurd z.4, λ s. absurd (omega (arith, s.1.1))) },
      );
  same = λ a b. (λ s. (s, tt), λ s. s.0);
})

branches_push : (old mid again new : Merged) (source last : ℕ) (ends : List ℕ) (bs : List (Vec Item Global)) (b : Vec Item Global) →
    AddsBranches old mid source bs ends → AddsSame mid again source → AddsItems again new source b.items last →
    AddsBranches old new source (bs ++ b ∷ []) (ends ++ last ∷ [])
branches_push old mid again new source last ends bs b front once one =
    record { whole = one.1.whole; longer = longer_on old.firsts.items mid.firsts.items new.firsts.items front.longer longer; merged = merged; same = same }
  where
    longer : Longer mid.firsts.items new.firsts.items
    longer = longer_on mid.firsts.items again.firsts.items new.firsts.items once.longer one.1.longer

    same : (x y : ℕ) → AreSameNodes new.nodes.items x y ↔ (AreSameNodes old.nodes.items x y × IsSameForLists (bs ++ b ∷ []) x y)
    same x y =
        let p = one.1.same x y in
        let o = once.same x y in
        let q = front.same x y in
        let r = IsSameForLists-push x y bs b in (
          λ s. let u = p.0 s in let w = q.0 (o.0 u.0).0 in (w.0, r.1 (w.1, u.1)),
          λ s. let u = r.0 s.1 in p.1 (o.1 (q.1 (s.0, u.0), tt), u.1),
        )

    merged : (hs : Heads) (h : List Item) → IsMerged hs old → Names hs old source h →
        IsMerged (hs ++ heads_of_choice h (bs ++ b ∷ [])) new × AreEnds (hs ++ heads_of_choice h (bs ++ b ∷ [])) new (ends ++ last ∷ [])
        (SomeEnds h (bs ++ b ∷ []))
    merged hs h is names = subst (λ z. IsMerged z new × AreEnds z new (ends ++ last ∷ []) (SomeEnds h (bs ++ b ∷ []))) e2 (there.0, ended)
      where
        had : Heads
        had = hs ++ heads_of_choice h bs

        behind : Heads
        behind = h ∷ heads_after h b.items

        f : IsMerged had mid × AreEnds had mid ends (SomeEnds h bs)
        f = front.merged hs h is names

        there : IsMerged (had ++ behind) new × Names (had ++ behind) new last (h ++ b.items)
        there =
            let s = once.merged had h f.0 (names_kept hs (heads_of_choice h bs) old mid is front.whole front.longer source h names) in
            subst (λ z. IsMerged z new × Names z new last (h ++ b.items)) (append_assoc had (h ∷ []) (heads_after h b.items))
            (one.1.merged (had ++ h ∷ []) h s.0 s.1)

        e2 : had ++ behind ≡ hs ++ heads_of_choice h (bs ++ b ∷ [])
        e2 = append_assoc hs (heads_of_choice h bs) behind ∙ ap (λ (z : Heads). hs ++ z) (sym (heads_of_choice-push h bs b))

        earlier : AreEnds (had ++ behind) new ends (SomeEnds h bs)
        earlier = ends_kept had behind mid new f.0 one.1.whole longer ends (SomeEnds h bs) f.1

        ended : AreEnds (had ++ behind) new (ends ++ last ∷ []) (SomeEnds h (bs ++ b ∷ []))
        ended = record {
          within = All-push (λ e. e < length new.nodes.items) ends last earlier.within there.1.0;
          told = λ t. (
            λ s. ⊎_elim
                (λ (x : SomeEnds h bs t). let y = (earlier.told t).0 x in (y.0, Contains-append_left ends (last ∷ []) y.0 y.1, y.2))
                (λ (x : Matches (h ++ b.items) t). (last, Contains-push ends last, (there.1.1 t).0 x))
                ((SomeEnds-push h t b bs).1 s),
            λ s. (SomeEnds-push h t b bs).0 (⊎_elim
                (λ c. inl ((earlier.told t).1 (s.0, c, s.2)))
                (λ (c : last ≡ s.0). inr ((there.1.1 t).1 (subst (λ n. Matches (head_at (kept (had ++ behind) new.firsts.items) n) t) (sym c) s.2)))
                (Contains-push_cases ends last s.0 s.1)),
          );
        }

pub branches_more : (old mid again new : Merged) (source last : ℕ) (ends more : List ℕ) (items : List Item) (k : ℕ) (bs : List (Vec Item Global))
    (b : Vec Item Global) →
    k < length bs → b ≡ get_or bs k b → items ≡ b.items → more ≡ ends ++ last ∷ [] →
    AddsBranches old mid source (take k bs) ends → AddsSame mid again source → AddsItems again new source items last →
    AddsBranches old new source (take (k + 1) bs) more
branches_more old mid again new source last ends more items k bs b lt is same grown front once one =
    subst (λ cs. AddsBranches old new source cs more) (sym (take_more bs k b lt ∙ ap (λ z. take k bs ++ z ∷ []) (sym is)))
    (subst (λ es. AddsBranches old new source (take k bs ++ b ∷ []) es) (sym grown)
    (branches_push old mid again new source last ends (take k bs) b front once (subst (λ xs. AddsItems again new source xs last) same one)))

pub branches_all : (old new : Merged) (source : ℕ) (ends : List ℕ) (k : ℕ) (bs : List (Vec Item Global)) → length bs ≤ k →
    AddsBranches old new source (take k bs) ends → AddsBranches old new source bs ends
branches_all old new source ends k bs le adds = subst (λ cs. AddsBranches old new source cs ends) (take_all k bs le) adds

pub patterns_none : (m : Merged) (ends : List ℕ) → IsWhole m → IsMerged [] m → m.nodes.items ≡ [] → ends ≡ [] → ArePositions [] m ends
patterns_none m ends whole is none e = subst (λ z. ArePositions [] m z) (sym e) (record {
  whole = whole;
  merged = is;
  same = λ a b. (λ _. tt, λ _. subst (λ z. AreSameNodes z a b) (sym none) tt);
  count = refl;
  rising = λ k lt. absurd (omega arith);
  within = All-nil (λ e. e < length m.nodes.items);
  ended = λ n p e. absurd (cc e);
})

patterns_push : (old begun mid new : Merged) (ends : List ℕ) (start last end : ℕ) (ps : List Pattern) (p : Pattern) → ArePositions ps old ends →
    AddsStart old begun start →
    AddsItems begun mid start p.items.items last → AddsEnd mid new last end → ArePositions (ps ++ p ∷ []) new (ends ++ end ∷ [])
patterns_push old begun mid new ends start last end ps p front start_at one end_at = record {
  whole = end_at.2.whole;
  merged = subst (λ z. IsMerged z new) e there.0;
  same = same;
  count = omega (arith, front.count, length-append ends (end ∷ []), length-append ps (p ∷ []));
  rising = rising_push ends end front.rising (λ k d l. omega (
    arith,
    front.within k d l,
    front.whole,
    one.1.whole,
    longer_many old.firsts.items mid.firsts.items longer_mid,
    end_at.0,
  ));
  within = All-push (λ z. z < length new.nodes.items) ends end
      (λ k d l. still_within hs more old new front.merged end_at.2.whole longer (get_or ends k d) (front.within k d l)) end_at.1;
  ended = ended;
}
  where
    hs : Heads
    hs = heads_of_patterns ps

    more : Heads
    more = [] ∷ heads_after [] p.items.items

    longer_mid : Longer old.firsts.items mid.firsts.items
    longer_mid = longer_on old.firsts.items begun.firsts.items mid.firsts.items start_at.1.longer one.1.longer

    longer : Longer old.firsts.items new.firsts.items
    longer = longer_on old.firsts.items mid.firsts.items new.firsts.items longer_mid end_at.2.longer

    there : IsMerged (hs ++ more) new × Names (hs ++ more) new end p.items.items
    there =
        let a = start_at.1.merged hs [] front.merged refl in
        let b = one.1.merged (hs ++ [] ∷ []) [] a.0 a.1 in
        let c = end_at.2.merged ((hs ++ [] ∷ []) ++ heads_after [] p.items.items) p.items.items b.0 b.1 in
        subst (λ z. IsMerged z new × Names z new end p.items.items)
        (append-nil ((hs ++ [] ∷ []) ++ heads_after [] p.items.items) ∙ append_assoc hs ([] ∷ []) (heads_after [] p.items.items)) c

    e : hs ++ more ≡ heads_of_patterns (ps ++ p ∷ [])
    e = sym (heads_of_patterns-push ps p)

    same : (a b : ℕ) → AreSameNodes new.nodes.items a b ↔ IsSame (ps ++ p ∷ []) a b
    same a b =
        let r = IsSame-push a b ps p in (
          λ s.
              let u = (one.1.same a b).0 ((end_at.2.same a b).0 s).0 in
              r.1 ((front.same a b).0 ((start_at.1.same a b).0 u.0).0, u.1),
          λ s.
              let u = r.0 s in
              (end_at.2.same a b).1 ((one.1.same a b).1 ((start_at.1.same a b).1 ((front.same a b).1 u.0, tt), u.1), tt),
        )

    ended : (n : ℕ) (q : Pattern) → slice_get (ps ++ p ∷ []) n ≡ Some q →
        SameTexts (head_at (kept (heads_of_patterns (ps ++ p ∷ [])) new.firsts.items) (get_or (ends ++ end ∷ []) n 0)) q.items.items
    ended n q at =
        subst (λ z. SameTexts (head_at (kept z new.firsts.items) (get_or (ends ++ end ∷ []) n 0)) q.items.items) e
        (⊎_elim
        (λ (l : slice_get ps n ≡ Some q).
        let lt : n < length ends = omega (arith, slice_get_within ps n q l, front.count) in
        subst (λ z. SameTexts (head_at (kept (hs ++ more) new.firsts.items) z) q.items.items) (sym (get_or_append_left ends (end ∷ []) 0 n lt))
        (subst (λ z. SameTexts z q.items.items) (sym (head_kept hs more old new front.merged end_at.2.whole longer (get_or ends n 0) (front.within n 0 lt)))
        (front.ended n q l)))
        (λ (l : (length ps ≡ n) × (p ≡ q)).
        subst (λ z. SameTexts (head_at (kept (hs ++ more) new.firsts.items) z) q.items.items) (sym (get_or_push ends end 0 n (front.count ∙ l.0)))
        (subst (λ (z : Pattern). SameTexts (head_at (kept (hs ++ more) new.firsts.items) end) z.items.items) l.1 (λ t. ((there.1.1 t).1, (there.1.1 t).0))))
        (pattern_either p ps n q at))

pub patterns_more : (old begun mid new : Merged) (ends more : List ℕ) (start last end : ℕ) (items : List Item) (k : ℕ) (ps : List Pattern)
    (p : Pattern) →
    k < length ps → p ≡ get_or ps k p → items ≡ p.items.items → more ≡ ends ++ end ∷ [] → ArePositions (take k ps) old ends →
    AddsStart old begun start →
    AddsItems begun mid start items last → AddsEnd mid new last end → ArePositions (take (k + 1) ps) new more
patterns_more old begun mid new ends more start last end items k ps p lt is same grown front start_at one end_at =
    subst (λ qs. ArePositions qs new more) (sym (take_more ps k p lt ∙ ap (λ z. take k ps ++ z ∷ []) (sym is)))
    (subst (λ es. ArePositions (take k ps ++ p ∷ []) new es) (sym grown)
    (patterns_push old begun mid new ends start last end (take k ps) p front start_at (subst (λ xs. AddsItems begun mid start xs last) same one) end_at))

pub patterns_all : (m : Merged) (ends : List ℕ) (k : ℕ) (ps : List Pattern) → length ps ≤ k → ArePositions (take k ps) m ends →
    ArePositions ps m ends
patterns_all m ends k ps le are = subst (λ qs. ArePositions qs m ends) (take_all k ps le) are
