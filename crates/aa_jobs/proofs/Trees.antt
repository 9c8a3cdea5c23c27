-- The data that a tree stands for: what `serde_json` reads, and what look-ups find in it.
use Rattle.std.proofs.Common.{◌≡◌, ℕ, ◌-◌, ◌<◌, ◌≤◌, ◌&&◌, List, [], ◌∷◌, ◌++◌, length, take, get_or, arith, Bool, true, false, cond, true≢false, Option, Some, None, option_map}
use Rattle.std.proofs.Common.{option_and_then, map, refl, sym, ap, ◌∙◌, Bor, Global, Ordering, Less, Equal, Greater, nat_cmp, bytes_eq}
use Rattle.std.specs.Option.{is_some}
use Rattle.std.proofs.lemmas.List.{take_more}
use Rattle.std.specs.Ordering.{match_ordering}
use Rattle.std.specs.Cmp.Lexicographic.{slice_cmp}
use Rattle.std.specs.BTreeMap.{insert_entry}
use Rattle.std.proofs.lemmas.Slice.Eq.{bytes_eq-Decides}
use Rattle.json.specs.Json as json
use Rattle.json.specs.Token.{Token}
use Rattle.json.specs.Value.{items_view, members_view}
use Rattle.json.specs.declared.value.Value.{Value}
use Rattle.serde_json.specs.Data.{Num, Data, number, array, object, item, Members, no_members, member, put}
use Rattle.serde_json.specs.Find.{get_member}
use Rattle.serde_json.specs.Read.{converted, number_of, of_json, of_items, of_members}
use Rattle.serde_json.proofs.Views.{get_member-put, get_member-put_other}
use Rattle.aa_jobs.specs.Shape.{data_list, entry_list}
use Rattle.aa_jobs.specs.Trees.{number_data, data_of, items_data, members_data, in_range, items_in_range, members_in_range, tree_data, object_data, entry_data}

abbrev pub Pair : Type 0
Pair = Bor (List ℕ) × Value Global

-- ---- what is read

-- a value, where a test holds
abbrev pub gate : {A : Type 0} → Bool → A → Option A
gate b a = cond b (Some a) None

gate_map : {A B : Type 0} (f : A → B) (b : Bool) (a : A) → option_map f (gate b a) ≡ gate b (f a)
gate_map f true a = refl
gate_map f false a = refl

gate_and : {A B C : Type 0} (f : A → B → C) (p q : Bool) (a : A) (b : B) → option_and_then (λ x. option_map (f x) (gate q b)) (gate p a) ≡ gate (p && q) (f a b)
gate_and f true true a b = refl
gate_and f true false a b = refl
gate_and f false q a b = refl

gate_then : {A B : Type 0} (f : A → Option B) (p q : Bool) (a : A) (b : B) → f a ≡ gate q b → option_and_then f (gate p a) ≡ gate (p && q) b
gate_then f true q a b e = e
gate_then f false q a b e = refl

number_read : (o : Option Num) → option_map number o ≡ gate (is_some o) (number_data o)
number_read None = refl
number_read (Some n) = refl

mutual
  pub of_json_is : (j : json.Json) → of_json j ≡ gate (in_range j) (data_of j)
  of_json_is json.null = refl
  of_json_is (json.boolean b) = refl
  of_json_is (json.number s) = number_read (number_of s)
  of_json_is (json.string s) = refl
  of_json_is (json.array js) = ap (option_map array) (of_items_is js) ∙ gate_map array (items_in_range js) (items_data js)
  of_json_is (json.object ms) = ap (option_map object) (of_members_is ms no_members) ∙ gate_map object (members_in_range ms) (members_data ms no_members)

  of_items_is : (js : json.Items) → of_items js ≡ gate (items_in_range js) (items_data js)
  of_items_is json.no_items = refl
  of_items_is (json.item j js) = rw (of_json_is j, of_items_is js) (gate_and item (in_range j) (items_in_range js) (data_of j) (items_data js))

  of_members_is : (ms : json.Members) (found : Members) → of_members ms found ≡ gate (members_in_range ms) (members_data ms found)
  of_members_is json.no_members found = refl
  of_members_is (json.member k j ms) found =
      ap (option_and_then (λ d. of_members ms (put k d found))) (of_json_is j)
      ∙ gate_then (λ d. of_members ms (put k d found)) (in_range j) (members_in_range ms) (data_of j) (members_data ms (put k (data_of j) found)) (of_members_is ms (put k (data_of j) found))

-- a value at the head of tokens, where its numbers are in range
pub read_is : (o : Option (json.Json × List Token)) (j : json.Json) (r : List Token) (b : Bool) → o ≡ Some (j, r) → in_range j ≡ b → converted of_json o ≡ gate b (data_of j, r)
read_is o j r b e fits =
    ap (converted of_json) e ∙ ap (option_map (λ d. (d, r))) (of_json_is j) ∙ gate_map (λ d. (d, r)) (in_range j) (data_of j) ∙ ap (λ t. gate t (data_of j, r)) fits

-- ---- what is found

pub found_first : (b : Bool) (q k : List ℕ) (d : Data) (ms : Members) → bytes_eq k q ≡ b → get_member q (put k d ms) ≡ cond b (Some d) (get_member q ms)
found_first true q k d ms e = let same : k ≡ q = (bytes_eq-Decides k q).0 e in ap (λ x. get_member x (put k d ms)) (sym same) ∙ get_member-put k d ms
found_first false q k d ms e = get_member-put_other q k d ms (λ h. true≢false (sym ((bytes_eq-Decides k q).1 (sym h)) ∙ e))

data_push : (ms : List Pair) (m : Pair) (found : Members) → members_data (members_view (ms ++ m ∷ [])) found ≡ put m.0.now (tree_data m.1) (members_data (members_view ms) found)
data_push [] m found = refl
data_push (n ∷ ms) m found = data_push ms m (put n.0.now (tree_data n.1) found)

pub object_data_push : (ms : List Pair) (m : Pair) → object_data (ms ++ m ∷ []) ≡ put m.0.now (tree_data m.1) (object_data ms)
object_data_push ms m = data_push ms m no_members

-- what is found among the members up to one, by whether that is of the key
pub found_at : (b : Bool) (q : List ℕ) (ms : List Pair) (n : ℕ) (m : Pair) → 0 < n → n ≤ length ms → m ≡ get_or ms (n - 1) m → bytes_eq m.0.now q ≡ b
    → get_member q (object_data (take n ms)) ≡ cond b (Some (tree_data m.1)) (get_member q (object_data (take (n - 1) ms)))
found_at b q ms n m some enough at e =
    let one : take n ms ≡ take (n - 1) ms ++ m ∷ [] =
    ap (λ k. take k ms) (omega (arith, some)) ∙ take_more ms (n - 1) m (omega (arith, some, enough)) ∙ ap (λ (x : Pair). take (n - 1) ms ++ x ∷ []) (sym at) in
    ap (λ xs. get_member q (object_data xs)) one ∙ ap (get_member q) (object_data_push (take (n - 1) ms) m) ∙ found_first b q m.0.now (tree_data m.1) (object_data (take (n - 1) ms)) e

pub item_list_is : (vs : List (Value Global)) → map tree_data vs ≡ data_list (items_data (items_view vs))
item_list_is [] = refl
item_list_is (v ∷ vs) = ap (λ (ds : List Data). tree_data v ∷ ds) (item_list_is vs)

-- ---- members in order

abbrev pub Entry : Type 0
Entry = Bor (List ℕ) × Bor (Value Global)

abbrev pub entries_data : List Entry → Members
entries_data [] = no_members
entries_data (e ∷ es) = member e.0.now (tree_data e.1.now) (entries_data es)

abbrev pub key_cmp : Bor (List ℕ) → Bor (List ℕ) → Ordering
key_cmp k l = slice_cmp nat_cmp k.now l.now

entries_data-match_ordering : (o : Ordering) (a b c : List Entry) → entries_data (match_ordering o a b c) ≡ match_ordering o (entries_data a) (entries_data b) (entries_data c)
entries_data-match_ordering Less a b c = refl
entries_data-match_ordering Equal a b c = refl
entries_data-match_ordering Greater a b c = refl

pub entries_data-insert_entry : (es : List Entry) (k : Bor (List ℕ)) (v : Bor (Value Global)) → entries_data (insert_entry key_cmp es k v) ≡ put k.now (tree_data v.now) (entries_data es)
entries_data-insert_entry [] k v = refl
entries_data-insert_entry (e ∷ es) k v = entries_data-match_ordering (key_cmp k e.0) _ _ _ ∙ rw (entries_data-insert_entry es k v)

pub entry_list_is : (es : List Entry) → entry_list (entries_data es) ≡ map entry_data es
entry_list_is [] = refl
entry_list_is (e ∷ es) = ap (λ (ds : List (List ℕ × Data)). entry_data e ∷ ds) (entry_list_is es)
