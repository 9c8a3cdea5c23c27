-- Values, arrays and objects as data, where the numbers of what tokens write are in range.
use Rattle.std.proofs.Common.{◌≡◌, ℕ, zero, suc, ◌-◌, ◌<◌, ◌≤◌, List, [], ◌∷◌, length, Option, Some, None, option_map, option_and_then, refl, ap, ◌∙◌, arith}
use Rattle.json.specs.Token.{Token}
use Rattle.json.specs.Json as json
use Rattle.json.specs.Json.{Parse, parse_map, after_end_array, if_last, items, members, read_key}
use Rattle.json.proofs.Grammar.{items_end, items_fail, items_more, members_end, members_fail, members_more, members_no_key}
use Rattle.serde_json.specs.Data.{Data, array, object, no_items, item, Members, no_members, put}
use Rattle.serde_json.specs.Read.{converted, of_items, of_json, of_members}

-- beside the tokens that are left
abbrev beside : {B : Type 0} → List Token → Option B → Option (B × List Token)
beside rest o = option_map (λ b. (b, rest)) o

beside_some : {B : Type 0} (rest other : List Token) (o : Option B) (b : B) → beside rest o ≡ Some (b, other) → (rest ≡ other) × (o ≡ Some b)
beside_some rest other None b e = absurd cc
beside_some {B = B} rest other (Some a) b e =
    let one : B × List Token = (a, rest) in
    let two : B × List Token = (b, other) in
    let same : one ≡ two = cc in
    (ap (λ p. p.1) same, ap (λ p. Some p.0) same)

beside_none : {B : Type 0} (rest : List Token) (o : Option B) → beside rest o ≡ None → o ≡ None
beside_none rest None e = refl
beside_none rest (Some a) e = absurd cc

beside_map : {A B : Type 0} (f : A → B) (rest : List Token) (o : Option A) → beside rest (option_map f o) ≡ parse_map f (beside rest o)
beside_map f rest None = refl
beside_map f rest (Some a) = refl

pub converted_is : {A B : Type 0} (f : A → Option B) (o : Option (A × List Token)) (b : B) (rest : List Token) → converted f o ≡ Some (b, rest) → (a : A) × (o ≡ Some (a, rest)) × (f a ≡ Some b)
converted_is f None b rest e = absurd cc
converted_is f (Some (a, left)) b rest e =
    let same = beside_some left rest (f a) b e in
    (a, ap (λ r. Some (a, r)) same.0, same.1)

pub array_converted : (o : Option (json.Items × List Token)) → converted of_json (parse_map json.array o) ≡ parse_map array (converted of_items o)
array_converted None = refl
array_converted (Some (js, rest)) = beside_map array rest (of_items js)

pub object_converted : (o : Option (json.Members × List Token)) → converted of_json (parse_map json.object o) ≡ parse_map object (converted (λ ms. of_members ms no_members) o)
object_converted None = refl
object_converted (Some (ms, rest)) = beside_map object rest (of_members ms no_members)

-- ---- one item, and the items behind it

one_item : (j : json.Json) (d : Data) → of_json j ≡ Some d → (o : Option (json.Items × List Token)) → converted of_items (parse_map (json.item j) o) ≡ parse_map (item d) (converted of_items o)
one_item j d e None = refl
one_item j d e (Some (js, rest)) = ap (λ (x : Option Data). beside rest (option_and_then (λ y. option_map (item y) (of_items js)) x)) e ∙ beside_map (item d) rest (of_items js)

no_item : (j : json.Json) → of_json j ≡ None → (o : Option (json.Items × List Token)) → converted of_items (parse_map (json.item j) o) ≡ None
no_item j e None = refl
no_item j e (Some (js, rest)) = ap (λ (x : Option Data). beside rest (option_and_then (λ y. option_map (item y) (of_items js)) x)) e

one_member : (k : List ℕ) (j : json.Json) (d : Data) (ms : Members) → of_json j ≡ Some d → (o : Option (json.Members × List Token))
    → converted (λ xs. of_members xs ms) (parse_map (json.member k j) o) ≡ converted (λ xs. of_members xs (put k d ms)) o
one_member k j d ms e None = refl
one_member k j d ms e (Some (js, rest)) = ap (λ (x : Option Data). beside rest (option_and_then (λ y. of_members js (put k y ms)) x)) e

no_member : (k : List ℕ) (j : json.Json) (ms : Members) → of_json j ≡ None → (o : Option (json.Members × List Token)) → converted (λ xs. of_members xs ms) (parse_map (json.member k j) o) ≡ None
no_member k j ms e None = refl
no_member k j ms e (Some (js, rest)) = ap (λ (x : Option Data). beside rest (option_and_then (λ y. of_members js (put k y ms)) x)) e

module _ (p : Parse json.Json) where
  pub item_read : (n : ℕ) (ts rest : List Token) (d : Data) → 0 < n → after_end_array ts ≡ None → converted of_json (p ts) ≡ Some (d, rest)
      → converted of_items (items p n ts) ≡ parse_map (item d) (converted of_items (items p (n - 1) rest))
  item_read n ts rest d some more e =
      let j = converted_is of_json (p ts) d rest e in
      ap (converted of_items) (items_more p n ts rest j.0 some more j.1) ∙ one_item j.0 d j.2 (items p (n - 1) rest)

  item_refused_at : (n : ℕ) (ts : List Token) (o : Option (json.Json × List Token)) → p ts ≡ o → 0 < n → after_end_array ts ≡ None → converted of_json o ≡ None → converted of_items (items p n ts) ≡ None
  item_refused_at n ts None is some more e = ap (converted of_items) (items_fail p n ts more is)
  item_refused_at n ts (Some (j, rest)) is some more e = ap (converted of_items) (items_more p n ts rest j some more is) ∙ no_item j (beside_none rest (of_json j) e) (items p (n - 1) rest)

  pub item_refused : (n : ℕ) (ts : List Token) → after_end_array ts ≡ None → converted of_json (p ts) ≡ None → converted of_items (items p n ts) ≡ None
  unfolding items
  item_refused zero ts more e = refl
  item_refused (suc n) ts more e = item_refused_at (suc n) ts (p ts) refl (omega arith) more e

  pub items_over : (n : ℕ) (ts rest : List Token) → length ts ≤ n → after_end_array ts ≡ Some rest → converted of_items (items p n ts) ≡ Some (no_items, rest)
  items_over n ts rest enough e = ap (converted of_items) (items_end p n ts rest enough e)

  module _ (ms : Members) where
    pub member_read : (n : ℕ) (k : List ℕ) (ts value rest : List Token) (d : Data) → 0 < n → read_key ts ≡ Some (Some k, value) → converted of_json (p value) ≡ Some (d, rest)
        → converted (λ xs. of_members xs ms) (members p n ts) ≡ converted (λ xs. of_members xs (put k d ms)) (members p (n - 1) rest)
    member_read n k ts value rest d some key e =
        let j = converted_is of_json (p value) d rest e in
        ap (converted (λ xs. of_members xs ms)) (members_more p n k ts value rest j.0 some key j.1) ∙ one_member k j.0 d ms j.2 (members p (n - 1) rest)

    member_refused_at : (n : ℕ) (k : List ℕ) (ts value : List Token) (o : Option (json.Json × List Token)) → p value ≡ o → 0 < n → read_key ts ≡ Some (Some k, value) → converted of_json o ≡ None
        → converted (λ xs. of_members xs ms) (members p n ts) ≡ None
    member_refused_at n k ts value None is some key e = ap (converted (λ xs. of_members xs ms)) (members_fail p n k ts value key is)
    member_refused_at n k ts value (Some (j, rest)) is some key e =
        ap (converted (λ xs. of_members xs ms)) (members_more p n k ts value rest j some key is) ∙ no_member k j ms (beside_none rest (of_json j) e) (members p (n - 1) rest)

    pub member_refused : (n : ℕ) (k : List ℕ) (ts value : List Token) → read_key ts ≡ Some (Some k, value) → converted of_json (p value) ≡ None → converted (λ xs. of_members xs ms) (members p n ts) ≡ None
    unfolding members
    member_refused zero k ts value key e = refl
    member_refused (suc n) k ts value key e = member_refused_at (suc n) k ts value (p value) refl (omega arith) key e

    pub key_refused : (n : ℕ) (ts : List Token) → read_key ts ≡ None → converted (λ xs. of_members xs ms) (members p n ts) ≡ None
    key_refused n ts e = ap (converted (λ xs. of_members xs ms)) (members_no_key p n ts e)

    pub members_over : (n : ℕ) (ts rest : List Token) → length ts ≤ n → read_key ts ≡ Some (None, rest) → converted (λ xs. of_members xs ms) (members p n ts) ≡ Some (ms, rest)
    members_over n ts rest enough e = ap (converted (λ xs. of_members xs ms)) (members_end p n ts rest enough e)

-- ---- the whole text

abbrev pub whole : Option (json.Json × List Token) → Option Data
whole o = option_and_then of_json (option_and_then (λ p. if_last p.0 p.1) o)

pub whole_read : (o : Option (json.Json × List Token)) (d : Data) → converted of_json o ≡ Some (d, []) → whole o ≡ Some d
whole_read o d e =
    let j = converted_is of_json o d [] e in
    ap whole j.1 ∙ j.2

pub whole_and_more : (o : Option (json.Json × List Token)) (d : Data) (t : Token) (ts : List Token) → converted of_json o ≡ Some (d, t ∷ ts) → whole o ≡ None
whole_and_more o d t ts e = ap whole (converted_is of_json o d (t ∷ ts) e).1

pub whole_refused : (o : Option (json.Json × List Token)) → converted of_json o ≡ None → whole o ≡ None
whole_refused None e = refl
whole_refused (Some (j, [])) e = beside_none [] (of_json j) e
whole_refused (Some (j, t ∷ ts)) e = refl
