-- What is noted of positions tells which bytes lead alike from them.
use Rattle.std.proofs.Common.{Contains, ◌≡◌, ℕ, ◌+◌, ◌<◌, ◌↔◌, ◌⊎◌, List, [], ◌∷◌, ◌++◌, length, get_or, take, sym}
use Rattle.std.proofs.Common.{ap, ◌∙◌, subst, inl, inr, ⊎_elim}
use Rattle.std.proofs.lemmas.List.{take_more}
use Rattle.std.proofs.lemmas.List.Elements.{Contains-push, Contains-push_cases, Contains-append_left}
use Rattle.aa_pattern.specs.declared.item.Item.{Item, Byte, One, Run, RunOne, Deep, DeepOne, Class, Choice'}
use Rattle.aa_pattern.specs.Globs.{IsNameByte}
use Rattle.aa_pattern.specs.Steps.{Continues}
use Rattle.aa_auto.specs.declared.nodes.Node.{Node}
use Rattle.aa_auto.specs.declared.nodes.Node.TheVariants.{Start, After, Same, Join}
use Rattle.aa_auto.specs.Noted.{IsFree, Notes, NotesNext, NotesOwn, NotesStars, AreNoted}
use Rattle.aa_auto.specs.Spots.{BeginsNode, ContinuesNode, LeadAlike}

continues_item : (item : Item) (a b : ℕ) → IsNameByte a → IsNameByte b → Continues item a → Continues item b
continues_item (Byte k) a b p q c = c
continues_item One a b p q c = c
continues_item Run a b p q c = q
continues_item RunOne a b p q c = q
continues_item Deep a b p q c = q.0
continues_item DeepOne a b p q c = q.0
continues_item (Class k) a b p q c = c
continues_item (Choice' k l) a b p q c = c

continues_node : (node : Node) (a b : ℕ) → IsNameByte a → IsNameByte b → ContinuesNode node a → ContinuesNode node b
continues_node Start a b p q c = c
continues_node (Same k) a b p q c = c
continues_node (Join k) a b p q c = c
continues_node (After i) a b p q c = continues_item i.now a b p q c

-- of bytes that are free, those lead alike that the asked positions find alike
pub alike_noted : (nodes : List Node) (set : List ℕ) (mark : ℕ) (named : List ℕ) (asked : List ℕ) (a b : ℕ) → IsFree mark named a → IsFree mark named b →
    LeadAlike nodes a b asked →
    AreNoted nodes set mark named asked → LeadAlike nodes a b set
alike_noted nodes set mark named asked a b fa fb like noted = λ p h.
    ⊎_elim
    (λ c. like p c)
    (λ (e : BeginsNode (get_or nodes (p + 1) Start) a ↔ BeginsNode (get_or nodes (p + 1) Start) b). (e, noted.alike p h a b fa fb))
    (noted.noted p h a b fa fb)

-- a star's bytes were noted before the position
pub own_noted : (node : Node) (mark : ℕ) (old new : List ℕ) → NotesStars mark old new → NotesOwn node mark old new
own_noted node mark old new stars = record {
  many = stars.many;
  free = stars.free;
  alike = λ a b fa fb. (continues_node node a b (stars.names a fa) (stars.names b fb), continues_node node b a (stars.names b fb) (stars.names a fa));
}

-- what stands before and what stands behind the position were noted, one after the other
pub noted_both : (nodes : List Node) (start mark : ℕ) (old mid new : List ℕ) (was asked : List ℕ) → NotesOwn (get_or nodes start Start) mark old mid →
    NotesNext (get_or nodes (start + 1) Start) start mark mid new was asked → Notes nodes start mark old new was asked
noted_both nodes start mark old mid new was asked own next = record {
  next = record {
    many = next.many ∙ own.many;
    free = λ b f. own.free b (next.free b f);
    kept = next.kept;
    from = next.from;
    noted = next.noted;
  };
  alike = λ a b fa fb. own.alike a b (next.free a fa) (next.free b fb);
}

-- one more position
pub noted_more : (nodes : List Node) (set : List ℕ) (k start mark : ℕ) (named new : List ℕ) (was asked : List ℕ) → k < length set →
    start ≡ get_or set k 0 →
    AreNoted nodes (take k set) mark named was → Notes nodes start mark named new was asked → AreNoted nodes (take (k + 1) set) mark new asked
noted_more nodes set k start mark named new was asked lt is all one =
    subst (λ z. AreNoted nodes z mark new asked) (sym (take_more set k 0 lt ∙ ap (λ z. take k set ++ z ∷ []) (sym is))) (record {
      many = one.next.many ∙ all.many;
      from = λ n h. ⊎_elim
          (λ o. Contains-append_left (take k set) (start ∷ []) n (all.from n o))
          (λ (s : n ≡ start). subst (λ z. Contains (take k set ++ start ∷ []) z) (sym s) (Contains-push (take k set) start))
          (one.next.from n h);
      noted = λ p h a b fa fb. ⊎_elim
          (λ o. ⊎_elim (λ c. inl (one.next.kept p c)) (λ e. inr e) (all.noted p o a b (one.next.free a fa) (one.next.free b fb)))
          (λ (s : start ≡ p). subst (λ z. Contains asked z ⊎ (BeginsNode (get_or nodes (z + 1) Start) a ↔ BeginsNode (get_or nodes (z + 1) Start) b)) s
          (one.next.noted a b fa fb))
          (Contains-push_cases (take k set) start p h);
      alike = λ p h a b fa fb. ⊎_elim
          (λ o. all.alike p o a b (one.next.free a fa) (one.next.free b fb))
          (λ (s : start ≡ p). subst (λ z. ContinuesNode (get_or nodes z Start) a ↔ ContinuesNode (get_or nodes z Start) b) s (one.alike a b fa fb))
          (Contains-push_cases (take k set) start p h);
    })
