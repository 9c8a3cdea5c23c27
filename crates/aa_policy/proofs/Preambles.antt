-- What stands before the profiles reads in one way alone.
use Rattle.std.proofs.Common.{◌≡◌, ℕ, ◌+◌, ◌<◌, ◌≤◌, List, [], ◌∷◌, ◌++◌, length, map, get_or, refl, sym, ap, subst, ◌∙◌, Some, None, Bool, true, false, arith, inl, inr, ◌⊎◌}
use Rattle.std.proofs.lemmas.List.{append_cancel_left, append_cancel_right}
use Rattle.std.specs.Prelude.{codes, not, Option, option_and_then, Result, Ok, Err, IfOk}
use Rattle.std.specs.Bool.{OnTrue, OnFalse}
use Rattle.aa_base.specs.declared.fault.Spot.{Spot}
use Rattle.aa_base.specs.declared.fault.PolicyFault.{PolicyFault}
use Rattle.aa_words.specs.declared.word.Word.{Word}
use Rattle.aa_words.specs.declared.word.WordKind.TheVariants.{Equals, PlusEquals, Path, Name}
use Rattle.aa_words.specs.Splits.{WordData, word_data}
use Rattle.aa_glob.specs.Variables.{Variable, has_name}
use Rattle.aa_rules.specs.Faults.{IsPlaced}
use Rattle.aa_rules.specs.Grammar.{Starts, Many, Keyword, LacksKeyword, spot_of, place_of}
use Rattle.aa_base.specs.Kinds.{no_memory}
use Rattle.aa_glob.specs.Expansions.{is_reserved}
use Rattle.aa_policy.specs.Preamble.{Names, sign_of, Assigning, LacksAssignment, IsValue, NoValue, AssignmentData, assignment, IsAssignment, CanNameAbi}
use Rattle.aa_policy.specs.Preamble.{NamesAbi, LacksAbiName, IsAbi, PreambleData, Assigns, Abi, IsPreambleItem, PreambleEnds, IsPreamble, Here, assigned, given}
use Rattle.aa_policy.specs.Preamble.{variables_after, variables_of, Misfits, Misnames, IsMisnamed, misnamed}
use Rattle.aa_rules.specs.Reading.{rest_of}
use Rattle.aa_rules.proofs.Places.{here, nothing_here}
use Rattle.aa_rules.proofs.Phrases.{starts_same, starts_kind, keyword_once}
use Rattle.aa_rules.proofs.Repetition.{Reads, Reaches, many_once, reaches_start, reaches_next, reaches_end, here_next}

pub names_once : (text m n : List ℕ) → Names text m → Names text n → m ≡ n
names_once text m n a b = append_cancel_right m n (codes "}") (append_cancel_left (codes "@{") _ _ (sym a.text_is ∙ b.text_is))

equals_plus : Equals ≡ PlusEquals → ⊥
equals_plus e = cc

sign_once : (a b : Bool) → sign_of a ≡ sign_of b → a ≡ b
sign_once true true e = refl
sign_once true false e = absurd (equals_plus (sym e))
sign_once false true e = absurd (equals_plus e)
sign_once false false e = refl

-- an assignment begins in one way
pub record SameHead (at bt : Spot) (m n : List ℕ) (a b : Bool) (r s : List WordData) : Type 0 where
  pub at_same : at ≡ bt
  pub name_same : m ≡ n
  pub adds_same : a ≡ b
  pub rest_same : r ≡ s

pub assigning_once : (ws : List WordData) (at bt : Spot) (m n : List ℕ) (a b : Bool) (r s : List WordData) → Assigning ws at m a r → Assigning ws bt n b s → SameHead at bt m n a b r s
assigning_once ws at bt m n a b r s x y =
    let v = starts_same ws x.variable y.variable x.after y.after x.variable_stands.words y.variable_stands.words in
    let moved = subst (λ (z : List WordData). Starts (sign_of a) z x.sign r) v.1 x.sign_stands in
    let w = starts_same y.after x.sign y.sign r s moved.words y.sign_stands.words in
    record {
      at_same = x.at_is ∙ ap spot_of v.0 ∙ sym y.at_is;
      name_same = names_once y.variable.text m n (subst (λ (z : WordData). Names z.text m) v.0 x.names) y.names;
      adds_same = sign_once a b (sym x.sign_stands.kind_is ∙ ap (λ (z : WordData). z.kind) w.0 ∙ y.sign_stands.kind_is);
      rest_same = w.1;
    }

value_once : (ws : List WordData) (x y : List ℕ) (r s : List WordData) → IsValue ws x r → IsValue ws y s → (x ≡ y) × (r ≡ s)
value_once ws x y r s a b =
    let w = starts_same ws a.word b.word r s a.stands.words b.stands.words in
    (a.value_is ∙ ap (λ (z : WordData). z.text) w.0 ∙ sym b.value_is, w.1)

values_end_once : (ws r s : List WordData) → NoValue ws r → NoValue ws s → r ≡ s
values_end_once ws r s a b = a.0 ∙ sym b.0

value_apart : (ws : List WordData) (x : List ℕ) (r s : List WordData) → IsValue ws x r → NoValue ws s → ⊥
value_apart ws x r s a b = b.1 a.word r a.stands

-- the values of an assignment
pub value_reads : Reads IsValue NoValue
value_reads = record { once = value_once; ends_once = values_end_once; apart = value_apart }

-- the assignment that is read is the one of this beginning and these values
pub assignment_is : (ws : List WordData) (at : Spot) (n : List ℕ) (b : Bool) (after : List WordData) (vs : List (List ℕ)) (next : List WordData) (x : AssignmentData) (rest : List WordData)
    → Assigning ws at n b after → Many IsValue NoValue after vs next → IsAssignment ws x rest → x ≡ assignment at n b vs
assignment_is ws at n b after vs next x rest h m a =
    let s = assigning_once ws x.at at x.name n x.adds b a.after after a.head h in
    let v = many_once IsValue NoValue value_reads after x.values vs rest next (subst (λ (z : List WordData). Many IsValue NoValue z x.values rest) s.rest_same a.values) m in
    ap (λ (z : Spot). assignment z x.name x.adds x.values) s.at_same ∙ ap (λ (z : List ℕ). assignment at z x.adds x.values) s.name_same
    ∙ ap (λ (z : Bool). assignment at n z x.values) s.adds_same ∙ ap (λ (z : List (List ℕ)). assignment at n b z) v.0

pub assignment_once : (ws : List WordData) (x y : AssignmentData) (r s : List WordData) → IsAssignment ws x r → IsAssignment ws y s → (x ≡ y) × (r ≡ s)
assignment_once ws x y r s a b =
    let h = assigning_once ws x.at y.at x.name y.name x.adds y.adds a.after b.after a.head b.head in
    let v = many_once IsValue NoValue value_reads b.after x.values y.values r s (subst (λ (z : List WordData). Many IsValue NoValue z x.values r) h.rest_same a.values) b.values in
    (assignment_is ws y.at y.name y.adds b.after y.values s x r b.head b.values a, v.1)

none_some : {X : Type 0} (x : X) → None ≡ Some x → ⊥
none_some x e = cc

-- no assignment is read where it can't be made, and none where it has no value
pub no_variables : (vars : List Variable) (x y : AssignmentData) (more : List Variable) → x ≡ y → assigned vars y ≡ None → assigned vars x ≡ Some more → ⊥
no_variables vars x y more e n g = none_some more (sym n ∙ ap (assigned vars) (sym e) ∙ g)

pub no_values : (ws : List WordData) (x : AssignmentData) (rest : List WordData) (y : AssignmentData) → x ≡ y → y.values ≡ [] → IsAssignment ws x rest → ⊥
no_values ws x rest y e n a = a.some (ap (λ (z : AssignmentData). z.values) e ∙ n)

pub abi_once : (ws r s : List WordData) → IsAbi ws r → IsAbi ws s → r ≡ s
abi_once ws r s a b =
    let k = keyword_once (codes "abi") ws a.named b.named a.keyword_stands b.keyword_stands in
    let w = starts_same b.named a.word b.word a.after b.after (sym k ∙ a.word_stands.words) b.word_stands.words in
    (starts_same b.after a.comma b.comma r s (sym w.1 ∙ a.comma_stands.words) b.comma_stands.words).1

path_name : Path ≡ Name → ⊥
path_name e = cc

-- where an assignment begins, no name stands
pub assigning_no_keyword : (ws : List WordData) (at : Spot) (n : List ℕ) (b : Bool) (r : List WordData) (text : List ℕ) → Assigning ws at n b r → LacksKeyword text ws
assigning_no_keyword ws at n b r text a = λ rest k.
    path_name (sym a.variable_stands.kind_is ∙ starts_kind ws a.variable k.word a.after rest a.variable_stands.words k.stands.words ∙ k.stands.kind_is)

pub item_once : (ws : List WordData) (x y : PreambleData) (r s : List WordData) → IsPreambleItem ws x r → IsPreambleItem ws y s → (x ≡ y) × (r ≡ s)
item_once ws (Assigns x) (Assigns y) r s a b = let p = assignment_once ws x y r s a b in (ap Assigns p.0, p.1)
item_once ws (Assigns x) Abi r s a b = absurd (assigning_no_keyword ws x.at x.name x.adds a.after (codes "abi") a.head b.named b.keyword_stands)
item_once ws Abi (Assigns y) r s a b = absurd (assigning_no_keyword ws y.at y.name y.adds b.after (codes "abi") b.head a.named a.keyword_stands)
item_once ws Abi Abi r s a b = (refl, abi_once ws r s a b)

preamble_ends_once : (ws r s : List WordData) → PreambleEnds ws r → PreambleEnds ws s → r ≡ s
preamble_ends_once ws r s a b = a.0 ∙ sym b.0

item_apart : (ws : List WordData) (x : PreambleData) (r s : List WordData) → IsPreambleItem ws x r → PreambleEnds ws s → ⊥
item_apart ws (Assigns x) r s a b = b.1 x.at x.name x.adds a.after a.head
item_apart ws Abi r s a b = b.2 a.named a.keyword_stands

-- the items of a preamble
pub item_reads : Reads IsPreambleItem PreambleEnds
item_reads = record { once = item_once; ends_once = preamble_ends_once; apart = item_apart }

pub preamble_once : (ws : List WordData) (xs ys : List PreambleData) (r s : List WordData) → IsPreamble ws xs r → IsPreamble ws ys s → (xs ≡ ys) × (r ≡ s)
preamble_once ws xs ys r s a b = many_once IsPreambleItem PreambleEnds item_reads ws xs ys r s a b

-- the word that names an abi
pub abi_here : (words : List Word) (at : ℕ) (w : Word) → at < length words → w ≡ get_or words at w → CanNameAbi w.kind w.text.now → NamesAbi (rest_of words at) (word_data w) (rest_of words (at + 1))
abi_here words at w h e n = record { words = here words at w h e; can_name = n }

pub no_abi_here : (words : List Word) (at : ℕ) (w : Word) → at < length words → w ≡ get_or words at w → (CanNameAbi w.kind w.text.now → ⊥) → LacksAbiName (rest_of words at)
no_abi_here words at w h e n = λ v rest s.
    let same = starts_same (rest_of words at) v (word_data w) rest (rest_of words (at + 1)) s.words (here words at w h e) in
    n (subst (λ (z : WordData). CanNameAbi z.kind z.text) same.0 s.can_name)

pub no_word : (w : WordData) (rest : List WordData) → [] ≡ w ∷ rest → ⊥
no_word w rest e = cc

pub no_abi_past : (words : List Word) (at : ℕ) → length words ≤ at → LacksAbiName (rest_of words at)
no_abi_past words at h = λ v rest s. no_word v rest (sym (nothing_here words at h) ∙ s.words)

-- an item begins there, or the preamble ends
pub begins : (b : Bool) (ws : List WordData) → OnTrue b ((at : Spot) × (name : List ℕ) × (adds : Bool) × (rest : List WordData) × Assigning ws at name adds rest) → OnTrue b (PreambleEnds ws ws → ⊥)
begins true ws a = λ e. e.1 a.0 a.1 a.2 a.3 a.4
begins false ws a = a

pub begins_by_keyword : (b : Bool) (ws rest : List WordData) → OnTrue b (Keyword (codes "abi") ws rest) → OnTrue b (PreambleEnds ws ws → ⊥)
begins_by_keyword true ws rest a = λ e. e.2 rest a
begins_by_keyword false ws rest a = a

pub ends_without : (b : Bool) (ws : List WordData) → LacksAssignment ws → OnFalse b (LacksKeyword (codes "abi") ws) → OnFalse b (PreambleEnds ws ws)
ends_without true ws h a = a
ends_without false ws h a = (refl, h, a)

-- an assignment that is read is an item that is read
pub as_item : (r : Result ℕ PolicyFault) (words : List Word) (ws : List WordData) (old new : List Variable)
    → IfOk r (λ n. (x : AssignmentData) × IsAssignment ws x (rest_of words n) × (assigned old x ≡ Some new))
    → IfOk r (λ n. (item : PreambleData) × IsPreambleItem ws item (rest_of words n) × (given old item ≡ Some new))
as_item (Ok n) words ws old new a = (Assigns a.0, a.1, a.2)
as_item (Err e) words ws old new a = a

-- where neither an assignment nor an abi rule is read, no item is
pub no_item : (ws : List WordData) (old : List Variable) → LacksKeyword (codes "abi") ws
    → ((x : AssignmentData) (more : List Variable) (rest : List WordData) → IsAssignment ws x rest → assigned old x ≡ Some more → ⊥)
    → (item : PreambleData) (more : List Variable) (rest : List WordData) → IsPreambleItem ws item rest → given old item ≡ Some more → ⊥
no_item ws old l h (Assigns x) more rest a g = h x more rest a g
no_item ws old l h Abi more rest a g = l a.named a.keyword_stands

-- no items
pub none_of : {X Y : Type 0} (f : X → Y) (xs : List X) → length xs ≡ 0 → map f xs ≡ []
none_of f [] e = refl
none_of f (x ∷ xs) e = absurd (omega (arith, e))

-- the items so far stand first, are those of the whole, and give these variables
pub record Stands (ws rest : List WordData) (vars : List Variable) : Type 0 where
  pub items : List PreambleData
  pub reach : Reaches IsPreambleItem PreambleEnds ws items rest
  pub before : Many IsPreambleItem Here ws items rest
  pub gives : variables_of items ≡ Some vars

pub stands_start : (ws : List WordData) → Stands ws ws []
stands_start ws = record { items = []; reach = reaches_start IsPreambleItem PreambleEnds ws; before = refl; gives = refl }

-- variables behind items and more items
then_more : (xs ys : List PreambleData) (o : Option (List Variable))
    → ((m : List Variable) → variables_after m (xs ++ ys) ≡ option_and_then (λ v. variables_after v ys) (variables_after m xs))
    → option_and_then (λ m. variables_after m (xs ++ ys)) o ≡ option_and_then (λ v. variables_after v ys) (option_and_then (λ m. variables_after m xs) o)
then_more xs ys None h = refl
then_more xs ys (Some m) h = h m

after_both : (xs ys : List PreambleData) (vars : List Variable) → variables_after vars (xs ++ ys) ≡ option_and_then (λ v. variables_after v ys) (variables_after vars xs)
after_both [] ys vars = refl
after_both (x ∷ xs) ys vars = then_more xs ys (given vars x) (after_both xs ys)

gives_more : (xs ys : List PreambleData) (vars : List Variable) → variables_of xs ≡ Some vars → variables_of (xs ++ ys) ≡ variables_after vars ys
gives_more xs ys vars g = after_both xs ys [] ∙ ap (option_and_then (λ v. variables_after v ys)) g

pub stands_next : (ws rest : List WordData) (vars : List Variable) (item : PreambleData) (after : List WordData) (more : List Variable)
    → IsPreambleItem rest item after → given vars item ≡ Some more → Stands ws rest vars → Stands ws after more
stands_next ws rest vars item after more h g s = record {
  items = s.items ++ item ∷ [];
  reach = reaches_next IsPreambleItem PreambleEnds item_reads ws s.items rest item after h s.reach;
  before = here_next IsPreambleItem ws s.items rest item after h s.before;
  gives = gives_more s.items (item ∷ []) vars s.gives ∙ ap (option_and_then (λ v. variables_after v [])) g;
}

pub stands_end : (ws rest : List WordData) (vars : List Variable) → PreambleEnds rest rest → Stands ws rest vars → (items : List PreambleData) × IsPreamble ws items rest × (variables_of items ≡ Some vars)
stands_end ws rest vars e s = (s.items, reaches_end IsPreambleItem PreambleEnds ws s.items rest rest e s.reach, s.gives)

some_first : (f : List Variable → Option (List Variable)) (o : Option (List Variable)) (y : List Variable) → option_and_then f o ≡ Some y → (m : List Variable) × (o ≡ Some m)
some_first f None y e = absurd (none_some y e)
some_first f (Some m) y e = (m, refl)

none_goes_on : (rest : List WordData) (vars : List Variable) (xs : List PreambleData) (end : List WordData) (whole : List Variable)
    → (PreambleEnds rest rest → ⊥) → ((item : PreambleData) (more : List Variable) (after : List WordData) → IsPreambleItem rest item after → given vars item ≡ Some more → ⊥)
    → IsPreamble rest xs end → variables_after vars xs ≡ Some whole → ⊥
none_goes_on rest vars [] end whole h g m e = h (refl, m.1, m.2)
none_goes_on rest vars (x ∷ xs) end whole h g m e = let s = some_first (λ v. variables_after v xs) (given vars x) whole e in g x s.0 m.0 m.1 s.1

-- where neither an item nor the end stands, there is no preamble
pub stands_none : (ws rest : List WordData) (vars : List Variable) → (PreambleEnds rest rest → ⊥)
    → ((item : PreambleData) (more : List Variable) (after : List WordData) → IsPreambleItem rest item after → given vars item ≡ Some more → ⊥)
    → Stands ws rest vars → (items : List PreambleData) (whole : List Variable) (end : List WordData) → IsPreamble ws items end → variables_of items ≡ Some whole → ⊥
stands_none ws rest vars h g s items whole end m e =
    let o = s.reach.only items end m in
    none_goes_on rest vars o.0 end whole h g o.2 (sym (gives_more s.items o.0 vars s.gives) ∙ ap variables_of (sym o.1) ∙ e)

pub stands_misnamed : (adds : Bool) (ws rest : List WordData) (vars : List Variable) (at : Spot) → Misnames adds vars rest at → Stands ws rest vars → IsMisnamed adds ws at
stands_misnamed adds ws rest vars at m s = record { items = s.items; vars = vars; after = rest; before = s.before; gives = s.gives; misnames = m }

-- ---- an assignment whose sign doesn't fit its name

-- it is refused at its variable
pub head_placed : (words : List Word) (at : ℕ) (end spot : Spot) (name : List ℕ) (sign : Bool) (rest : List WordData) (e : PolicyFault) → Assigning (rest_of words at) spot name sign rest
    → (e ≡ no_memory) ⊎ (e.at ≡ spot) → IsPlaced words end e
head_placed words at end spot name sign rest e h (inl q) = inl q
head_placed words at end spot name sign rest e h (inr q) = inr (at, q ∙ h.at_is ∙ sym (ap (λ (ws : List WordData). place_of ws end) h.variable_stands.words))

-- it gives no variables
misfit : (vars : List Variable) (a : AssignmentData) (adds : Bool) → a.adds ≡ adds → is_reserved a.name ≡ false → has_name a.name vars ≡ not adds → assigned vars a ≡ None
unfolding assigned
misfit vars a true s u t = rw (u, s, t) refl
misfit vars a false s u t = rw (u, s, t) refl

pub misnames_head : (adds : Bool) (vars : List Variable) (ws : List WordData) (at : Spot) (name : List ℕ) (sign : Bool) (rest : List WordData) (spot : Spot) → Assigning ws at name sign rest
    → Misnames adds vars ws spot → (at ≡ spot) × Misfits adds vars name sign
misnames_head adds vars ws at name sign rest spot h m =
    let s = assigning_once ws at spot name m.name sign m.sign rest m.rest h m.head in
    (s.at_same, subst (λ (n : List ℕ). Misfits adds vars n sign) (sym s.name_same) (subst (λ (b : Bool). Misfits adds vars m.name b) (sym s.adds_same) m.misfits))

misnames_no_item : (adds : Bool) (vars : List Variable) (ws : List WordData) (spot : Spot) → Misnames adds vars ws spot
    → (item : PreambleData) (more : List Variable) (after : List WordData) → IsPreambleItem ws item after → given vars item ≡ Some more → ⊥
misnames_no_item adds vars ws spot m (Assigns x) more after a g =
    let f = (misnames_head adds vars ws x.at x.name x.adds a.after spot a.head m).1 in
    none_some more (sym (misfit vars x adds f.sign_is f.usable f.there) ∙ g)
misnames_no_item adds vars ws spot m Abi more after a g = assigning_no_keyword ws spot m.name m.sign m.rest (codes "abi") m.head a.named a.keyword_stands

-- from here on items give more variables, and then such an assignment begins
pub record Ahead (adds : Bool) (vars : List Variable) (ws : List WordData) (spot : Spot) : Type 0 where
  pub items : List PreambleData
  pub more : List Variable
  pub after : List WordData
  pub before : Many IsPreambleItem Here ws items after
  pub gives : variables_after vars items ≡ Some more
  pub misnames : Misnames adds more after spot

pub ahead_start : (adds : Bool) (ws : List WordData) (spot : Spot) → IsMisnamed adds ws spot → Ahead adds [] ws spot
ahead_start adds ws spot m = record { items = m.items; more = m.vars; after = m.after; before = m.before; gives = m.gives; misnames = m.misnames }

same_given : (u v : List Variable) → Some u ≡ Some v → u ≡ v
same_given u v e = cc

-- it begins here
begins_here : (adds : Bool) (vars more : List Variable) (ws after : List WordData) (spot : Spot) → after ≡ ws → variables_after vars [] ≡ Some more → Misnames adds more after spot → Misnames adds vars ws spot
begins_here adds vars more ws after spot h g m =
    subst (λ (v : List Variable). Misnames adds v ws spot) (sym (same_given vars more g)) (subst (λ (w : List WordData). Misnames adds more w spot) h m)

next_of : (adds : Bool) (vars : List Variable) (ws : List WordData) (spot : Spot) (items : List PreambleData) (more : List Variable) (after : List WordData)
    → Many IsPreambleItem Here ws items after → variables_after vars items ≡ Some more → Misnames adds more after spot
    → (item : PreambleData) (rest : List WordData) (now : List Variable) → IsPreambleItem ws item rest → given vars item ≡ Some now → Ahead adds now rest spot
next_of adds vars ws spot [] more after b g m item rest now h e = absurd (misnames_no_item adds vars ws spot (begins_here adds vars more ws after spot b g m) item now rest h e)
next_of adds vars ws spot (x ∷ xs) more after b g m item rest now h e =
    let o = item_once ws x item b.0 rest b.1 h in
    let first : given vars x ≡ Some now = ap (given vars) o.0 ∙ e in
    record {
      items = xs;
      more = more;
      after = after;
      before = subst (λ (w : List WordData). Many IsPreambleItem Here w xs after) o.1 b.2;
      gives = sym (ap (option_and_then (λ v. variables_after v xs)) first) ∙ g;
      misnames = m;
    }

pub ahead_next : (adds : Bool) (vars : List Variable) (ws : List WordData) (spot : Spot) (item : PreambleData) (rest : List WordData) (now : List Variable)
    → IsPreambleItem ws item rest → given vars item ≡ Some now → Ahead adds vars ws spot → Ahead adds now rest spot
ahead_next adds vars ws spot item rest now h e a = next_of adds vars ws spot a.items a.more a.after a.before a.gives a.misnames item rest now h e

end_of : (adds : Bool) (vars : List Variable) (ws : List WordData) (spot : Spot) (items : List PreambleData) (more : List Variable) (after : List WordData)
    → Many IsPreambleItem Here ws items after → variables_after vars items ≡ Some more → Misnames adds more after spot → PreambleEnds ws ws → ⊥
end_of adds vars ws spot [] more after b g m e = let n = begins_here adds vars more ws after spot b g m in e.1 spot n.name n.sign n.rest n.head
end_of adds vars ws spot (x ∷ xs) more after b g m e = item_apart ws x b.0 ws b.1 e

pub ahead_end : (adds : Bool) (vars : List Variable) (ws : List WordData) (spot : Spot) → PreambleEnds ws ws → Ahead adds vars ws spot → ⊥
ahead_end adds vars ws spot e a = end_of adds vars ws spot a.items a.more a.after a.before a.gives a.misnames e

refusal_of : (adds : Bool) (vars : List Variable) (ws : List WordData) (spot : Spot) (items : List PreambleData) (more : List Variable) (after : List WordData)
    → Many IsPreambleItem Here ws items after → variables_after vars items ≡ Some more → Misnames adds more after spot → (e : PolicyFault)
    → (((item : PreambleData) (now : List Variable) (rest : List WordData) → IsPreambleItem ws item rest → given vars item ≡ Some now → ⊥) ⊎ (e ≡ no_memory))
    → (Misnames adds vars ws spot → (e ≡ no_memory) ⊎ (e ≡ misnamed adds spot)) → (e ≡ no_memory) ⊎ (e ≡ misnamed adds spot)
refusal_of adds vars ws spot [] more after b g m e n f = f (begins_here adds vars more ws after spot b g m)
refusal_of adds vars ws spot (x ∷ xs) more after b g m e (inl n) f = let s = some_first (λ v. variables_after v xs) (given vars x) more g in absurd (n x s.0 b.0 b.1 s.1)
refusal_of adds vars ws spot (x ∷ xs) more after b g m e (inr q) f = inl q

pub ahead_refused : (adds : Bool) (vars : List Variable) (ws : List WordData) (spot : Spot) (e : PolicyFault) → Ahead adds vars ws spot
    → (((item : PreambleData) (now : List Variable) (rest : List WordData) → IsPreambleItem ws item rest → given vars item ≡ Some now → ⊥) ⊎ (e ≡ no_memory))
    → (Misnames adds vars ws spot → (e ≡ no_memory) ⊎ (e ≡ misnamed adds spot)) → (e ≡ no_memory) ⊎ (e ≡ misnamed adds spot)
ahead_refused adds vars ws spot e a n f = refusal_of adds vars ws spot a.items a.more a.after a.before a.gives a.misnames e n f
