-- What is kept of an item's members shows all that an item asks of them.
use Rattle.std.proofs.Common.{◌≡◌, ℕ, zero, suc, ◌-◌, ◌<◌, ◌≤◌, List, [], ◌∷◌, ◌++◌, length, take, get_or, arith, map, Bool}
use Rattle.std.proofs.Common.{true, false, ◌&&◌, ◌||◌, cond, Option, Some, None, option_map}
use Rattle.std.proofs.Common.{Result, Ok, Err, Bor, refl, sym, ap, subst, ◌∙◌, bytes_eq}
use Rattle.std.specs.Prelude.{codes, if◌then◌else◌}
use Rattle.std.specs.List.{list_all, list_any}
use Rattle.std.specs.Option.{is_some}
use Rattle.std.proofs.lemmas.List.{take_more}
use Rattle.std.proofs.lemmas.Slice.Eq.{bytes_eq-Decides}
use Rattle.json.specs.Json as json
use Rattle.json.specs.Json.{Parse, items, members, parse_map, value, value_with}
use Rattle.json.specs.Reads.{token_of}
use Rattle.json.specs.Token.{Token}
use Rattle.json.specs.declared.token.Token.{Token as CodeToken}
use Rattle.json.specs.declared.token.Token.TheVariants as code
use Rattle.serde_json.specs.Data.{Num, Data, number, array, object, Members, no_members, put}
use Rattle.serde_json.specs.Find.{get_member}
use Rattle.serde_json.specs.Read.{converted, number_of, of_items, of_json, of_members}
use Rattle.aa_jobs.specs.declared.job_fault.JobFault.{JobFault}
use Rattle.aa_jobs.specs.declared.job_fault.JobFault.TheVariants.{BadShape}
use Rattle.aa_jobs.specs.declared.keyed.ItemKey.{ItemKey}
use Rattle.aa_jobs.specs.declared.keyed.ItemKey.TheVariants as key
use Rattle.aa_jobs.specs.declared.keyed.ItemValue.{ItemValue}
use Rattle.aa_jobs.specs.declared.shape.Part.{Part}
use Rattle.aa_jobs.specs.declared.shape.Part.TheVariants.{Whole, OfTask, OfFile, OfLink, OfExec, OfCap, OfNet, OfChange, OfReload}
use Rattle.aa_jobs.specs.Items.{AreStrange, Look, LookAlike, Looked, is_of_item, item_data, item_object, key_name, key_of, look, value_data}
use Rattle.aa_jobs.specs.Shape.{cap_shape, change_shape, exec_shape, file_shape, flag_from, has, has_only, is_key, link_shape, net_shape, number_at, number_in}
use Rattle.aa_jobs.specs.Shape.{reload_shape, request_shape, text_at, text_in}
use Rattle.aa_jobs.specs.Steps.{◌>>=◌, needed, only_if}
use Rattle.aa_jobs.specs.Trees.{number_data}
use Rattle.aa_jobs.specs.Written.{WrittenItem, file_item, link_item, exec_item, cap_item, net_item, change_item, reload_item}
use Rattle.aa_jobs.proofs.Conversion.{array_converted, object_converted}
use Rattle.aa_jobs.proofs.Keys.{known_put}
use Rattle.aa_jobs.proofs.Trees.{found_first}

abbrev pub Kept : Type 0
Kept = ItemKey × ItemValue

-- ---- keys

pub among_keys : (k : List ℕ) (ks : List ItemKey) → list_any (λ b. bytes_eq k (key_name b)) ks ≡ list_any (λ n. bytes_eq k n) (map key_name ks)
among_keys k [] = refl
among_keys k (b ∷ bs) = ap (λ (x : Bool). bytes_eq k (key_name b) || x) (among_keys k bs)

regrouped : (a b c : Bool) → ((a && b) && c) ≡ (b && (a && c))
regrouped true b c = refl
regrouped false true c = refl
regrouped false false c = refl

keyed_among : (part : Part) (ms : List Kept) (found : Members)
    → (list_all (λ m. is_key part (key_name m.0)) ms && has_only part found) ≡ has_only part (item_data ms found)
keyed_among part [] found = refl
keyed_among part (m ∷ ms) found =
    regrouped (is_key part (key_name m.0)) (list_all (λ n. is_key part (key_name n.0)) ms) (has_only part found)
    ∙ ap (λ (b : Bool). list_all (λ n. is_key part (key_name n.0)) ms && b) (sym (known_put part (key_name m.0) (value_data m.1) found))
    ∙ keyed_among part ms (put (key_name m.0) (value_data m.1) found)

and_true : (b : Bool) → b ≡ (b && true)
and_true true = refl
and_true false = refl

pub only_keyed : (part : Part) (ms : List Kept) → list_all (λ m. is_key part (key_name m.0)) ms ≡ has_only part (item_object ms)
only_keyed part ms = and_true (list_all (λ m. is_key part (key_name m.0)) ms) ∙ keyed_among part ms no_members

data_push : (ms : List Kept) (m : Kept) (found : Members) → item_data (ms ++ m ∷ []) found ≡ put (key_name m.0) (value_data m.1) (item_data ms found)
data_push [] m found = refl
data_push (n ∷ ms) m found = data_push ms m (put (key_name n.0) (value_data n.1) found)

pub item_object_push : (ms : List Kept) (m : Kept) → item_object (ms ++ m ∷ []) ≡ put (key_name m.0) (value_data m.1) (item_object ms)
item_object_push ms m = data_push ms m no_members

-- what is found among the members up to one, by whether that is of the key
pub kept_at : (b : Bool) (q : List ℕ) (ms : List Kept) (n : ℕ) (d : Kept) → 0 < n → n ≤ length ms
    → bytes_eq (key_name (get_or ms (n - 1) d).0) q ≡ b
    → get_member q (item_object (take n ms)) ≡ cond b (Some (value_data (get_or ms (n - 1) d).1)) (get_member q (item_object (take (n - 1) ms)))
kept_at b q ms n d some enough e =
    let m : Kept = get_or ms (n - 1) d in
    let one : take n ms ≡ take (n - 1) ms ++ m ∷ [] = ap (λ k. take k ms) (omega (arith, some)) ∙ take_more ms (n - 1) d (omega (arith, some, enough)) in
    ap (λ xs. get_member q (item_object xs)) one ∙ ap (get_member q) (item_object_push (take (n - 1) ms) m)
    ∙ found_first b q (key_name m.0) (value_data m.1) (item_object (take (n - 1) ms)) e

-- ---- names

not_first : (b : Bool) (x : ItemKey) (o : Option ItemKey) → (if b then Some x else o) ≡ None → (b ≡ false) × (o ≡ None)
not_first true x o e = absurd cc
not_first false x o e = (refl, e)

no_one : (a b : Bool) → a ≡ false → b ≡ false → (a || b) ≡ false
no_one a b e f = rw (e, f) refl

-- a name of no key is in no item
pub unnamed : (k : List ℕ) → key_of k ≡ None → (part : Part) → is_of_item part ≡ true → is_key part k ≡ false
unnamed k none part of_item =
    let no_file = not_first (bytes_eq k (codes "file")) key.File _ none in
    let no_mask = not_first (bytes_eq k (codes "mask")) key.Mask _ no_file.1 in
    let no_owned = not_first (bytes_eq k (codes "owned")) key.Owned _ no_mask.1 in
    let no_exec = not_first (bytes_eq k (codes "exec")) key.Exec _ no_owned.1 in
    let no_link = not_first (bytes_eq k (codes "link")) key.Link _ no_exec.1 in
    let no_to = not_first (bytes_eq k (codes "to")) key.To _ no_link.1 in
    let no_cap = not_first (bytes_eq k (codes "cap")) key.Cap _ no_to.1 in
    let no_net = not_first (bytes_eq k (codes "net")) key.Net _ no_cap.1 in
    let no_type = not_first (bytes_eq k (codes "type")) key.Type _ no_net.1 in
    let no_change = not_first (bytes_eq k (codes "change")) key.Change _ no_type.1 in
    let no_reload = not_first (bytes_eq k (codes "reload")) key.Reload _ no_change.1 in
    let one = λ (a : Bool) (e : a ≡ false). no_one a false e refl in
    let two = λ (a b : Bool) (e : a ≡ false) (f : b ≡ false). no_one a (b || false) e (one b f) in
    let three = λ (a b c : Bool) (e : a ≡ false) (f : b ≡ false) (g : c ≡ false). no_one a (b || (c || false)) e (two b c f g) in
    (elim part as (λ (p : Part). is_of_item p ≡ true → is_key p k ≡ false) [
      | Whole ↦ λ h. absurd cc
      | OfTask ↦ λ h. absurd cc
      | OfFile ↦ λ h. three (bytes_eq k (codes "file")) (bytes_eq k (codes "mask")) (bytes_eq k (codes "owned")) no_file.0 no_mask.0 no_owned.0
      | OfLink ↦ λ h. three (bytes_eq k (codes "link")) (bytes_eq k (codes "to")) (bytes_eq k (codes "owned")) no_link.0 no_to.0 no_owned.0
      | OfExec ↦ λ h. two (bytes_eq k (codes "exec")) (bytes_eq k (codes "owned")) no_exec.0 no_owned.0
      | OfCap ↦ λ h. one (bytes_eq k (codes "cap")) no_cap.0
      | OfNet ↦ λ h. two (bytes_eq k (codes "net")) (bytes_eq k (codes "type")) no_net.0 no_type.0
      | OfChange ↦ λ h. one (bytes_eq k (codes "change")) no_change.0
      | OfReload ↦ λ h. one (bytes_eq k (codes "reload")) no_reload.0
    ]) of_item

first_or : (b : Bool) (k n : List ℕ) (x y : ItemKey) (o : Option ItemKey) → bytes_eq k n ≡ b → key_name x ≡ n → (if b then Some x else o) ≡ Some y
    → (o ≡ Some y → key_name y ≡ k) → key_name y ≡ k
first_or true k n x y o e is found other = let same : x ≡ y = cc in sym (ap key_name same) ∙ is ∙ sym ((bytes_eq-Decides k n).0 e)
first_or false k n x y o e is found other = other found

at_first : (k n : List ℕ) (x y : ItemKey) (o : Option ItemKey) → key_name x ≡ n → (if bytes_eq k n then Some x else o) ≡ Some y
    → (o ≡ Some y → key_name y ≡ k) → key_name y ≡ k
at_first k n x y o is found other = first_or (bytes_eq k n) k n x y o refl is found other

nothing_is : (k : List ℕ) (y : ItemKey) → None ≡ Some y → key_name y ≡ k
nothing_is k y e = absurd cc

-- the name of a name's key
pub named : (k : List ℕ) (y : ItemKey) → key_of k ≡ Some y → key_name y ≡ k
named k y e =
    at_first k (codes "file") key.File y _ refl e (λ e. at_first k (codes "mask") key.Mask y _ refl e (λ e. at_first k (codes "owned") key.Owned y _ refl e (λ e.
    at_first k (codes "exec") key.Exec y _ refl e (λ e. at_first k (codes "link") key.Link y _ refl e (λ e. at_first k (codes "to") key.To y _ refl e (λ e.
    at_first k (codes "cap") key.Cap y _ refl e (λ e. at_first k (codes "net") key.Net y _ refl e (λ e. at_first k (codes "type") key.Type y _ refl e (λ e.
    at_first k (codes "change") key.Change y _ refl e (λ e. at_first k (codes "reload") key.Reload y _ refl e (nothing_is k y)))))))))))

-- ---- members that look alike

pub alike_first : LookAlike no_members no_members
alike_first = (λ k. refl, λ part. refl)

looks_with : (b : Bool) (x d : Data) (one other : Option Data) → look x ≡ look d → option_map look one ≡ option_map look other
    → option_map look (cond b (Some x) one) ≡ option_map look (cond b (Some d) other)
looks_with true x d one other is same = ap Some is
looks_with false x d one other is same = same

alike_put : (k : List ℕ) (x d : Data) (one other : Members) → look x ≡ look d → LookAlike one other → LookAlike (put k x one) (put k d other)
alike_put k x d one other is same = (
  λ q. ap (option_map look) (found_first (bytes_eq k q) q k x one refl)
      ∙ looks_with (bytes_eq k q) x d (get_member q one) (get_member q other) is (same.0 q)
      ∙ sym (ap (option_map look) (found_first (bytes_eq k q) q k d other refl)),
  λ part. known_put part k x one ∙ ap (λ (b : Bool). is_key part k && b) (same.1 part) ∙ sym (known_put part k d other),
)

and_no : (b : Bool) → (b && false) ≡ false
and_no true = refl
and_no false = refl

strange_put : (k : List ℕ) (d : Data) (ms : Members) → AreStrange ms → AreStrange (put k d ms)
strange_put k d ms strange part of_item = known_put part k d ms ∙ ap (λ (b : Bool). is_key part k && b) (strange part of_item) ∙ and_no (is_key part k)

-- a member of a known key was kept
pub looked_more : (known : Bool) (kept : List Kept) (m : Kept) (k : List ℕ) (d : Data) (ms : Members) → Looked known (item_object kept) ms
    → look d ≡ look (value_data m.1) → key_name m.0 ≡ k
    → Looked known (item_object (kept ++ m ∷ [])) (put k d ms)
looked_more true kept m k d ms so_far is name =
    subst (λ xs. LookAlike xs (put k d ms)) (sym (item_object_push kept m ∙ ap (λ q. put q (value_data m.1) (item_object kept)) name))
    (alike_put k (value_data m.1) d (item_object kept) ms (sym is) so_far)
looked_more false kept m k d ms so_far is name = strange_put k d ms so_far

-- a member of another key comes
pub looked_strange : (k : List ℕ) (d : Data) (ms : Members) → key_of k ≡ None → AreStrange (put k d ms)
looked_strange k d ms none part of_item = known_put part k d ms ∙ ap (λ (b : Bool). b && has_only part ms) (unnamed k none part of_item)

-- ---- what an item asks of its members

abbrev look_at : List ℕ → Members → Option Look
look_at k ms = option_map look (get_member k ms)

abbrev text_look : Option Look → Result (List ℕ) JobFault
text_look None = Err BadShape
text_look (Some l) = needed BadShape l.text

abbrev flag_look : Option Look → Result Bool JobFault
flag_look None = Ok false
flag_look (Some l) = needed BadShape l.flag

abbrev number_look : Option Look → Result ℕ JobFault
number_look None = Err BadShape
number_look (Some l) = needed BadShape l.number

text_by : (o : Option Data) → (needed BadShape o >>= text_in) ≡ text_look (option_map look o)
text_by None = refl
text_by (Some d) = refl

flag_by : (o : Option Data) → flag_from o ≡ flag_look (option_map look o)
flag_by None = refl
flag_by (Some d) = refl

number_by : (o : Option Data) → (needed BadShape o >>= number_in) ≡ number_look (option_map look o)
number_by None = refl
number_by (Some d) = refl

has_by : (o : Option Data) → is_some o ≡ is_some (option_map look o)
has_by None = refl
has_by (Some d) = refl

abbrev Item : Type 0
Item = Result WrittenItem JobFault

abbrev file_from : Bool → Result (List ℕ) JobFault → Result (List ℕ) JobFault → Result Bool JobFault → Item
file_from fit path letters owned = only_if fit BadShape >>= λ _. path >>= λ p. letters >>= λ l. owned >>= λ o. Ok (file_item p l o)

abbrev link_from : Bool → Result (List ℕ) JobFault → Result (List ℕ) JobFault → Result Bool JobFault → Item
link_from fit path target owned = only_if fit BadShape >>= λ _. path >>= λ p. target >>= λ t. owned >>= λ o. Ok (link_item p t o)

abbrev exec_from : Bool → Result (List ℕ) JobFault → Result Bool JobFault → Item
exec_from fit path owned = only_if fit BadShape >>= λ _. path >>= λ p. owned >>= λ o. Ok (exec_item p o)

abbrev cap_from : Bool → Result (List ℕ) JobFault → Item
cap_from fit name = only_if fit BadShape >>= λ _. name >>= λ n. Ok (cap_item n)

abbrev net_from : Bool → Result (List ℕ) JobFault → Result (List ℕ) JobFault → Item
net_from fit family kind = only_if fit BadShape >>= λ _. family >>= λ f. kind >>= λ k. Ok (net_item f k)

abbrev change_from : Bool → Result (List ℕ) JobFault → Item
change_from fit name = only_if fit BadShape >>= λ _. name >>= λ n. Ok (change_item n)

abbrev reload_from : Bool → Result ℕ JobFault → Item
reload_from fit policy = only_if fit BadShape >>= λ _. policy >>= λ n. Ok (reload_item n)

abbrev request_from : Bool → Item → Bool → Item → Bool → Item → Bool → Item → Bool → Item → Bool → Item → Bool → Item → Item
request_from file f link l exec e cap c net n change g reload r =
    if file then f else (if link then l else (if exec then e else (if cap then c else (if net then n else (if change then g else (if reload then r else Err BadShape))))))

module _ (one other : Members) (same : LookAlike one other) where
  text_same : (k : List ℕ) → text_at k (object one) ≡ text_at k (object other)
  text_same k = text_by (get_member k one) ∙ ap text_look (same.0 k) ∙ sym (text_by (get_member k other))

  flag_same : (k : List ℕ) → flag_from (get_member k one) ≡ flag_from (get_member k other)
  flag_same k = flag_by (get_member k one) ∙ ap flag_look (same.0 k) ∙ sym (flag_by (get_member k other))

  number_same : (k : List ℕ) → number_at k (object one) ≡ number_at k (object other)
  number_same k = number_by (get_member k one) ∙ ap number_look (same.0 k) ∙ sym (number_by (get_member k other))

  has_same : (k : List ℕ) → has k (object one) ≡ has k (object other)
  has_same k = has_by (get_member k one) ∙ ap is_some (same.0 k) ∙ sym (has_by (get_member k other))

  file_same : file_shape (object one) ≡ file_shape (object other)
  unfolding file_shape
  file_same = λ i. file_from (same.1 OfFile i) (text_same (codes "file") i) (text_same (codes "mask") i) (flag_same (codes "owned") i)

  link_same : link_shape (object one) ≡ link_shape (object other)
  unfolding link_shape
  link_same = λ i. link_from (same.1 OfLink i) (text_same (codes "link") i) (text_same (codes "to") i) (flag_same (codes "owned") i)

  exec_same : exec_shape (object one) ≡ exec_shape (object other)
  unfolding exec_shape
  exec_same = λ i. exec_from (same.1 OfExec i) (text_same (codes "exec") i) (flag_same (codes "owned") i)

  cap_same : cap_shape (object one) ≡ cap_shape (object other)
  unfolding cap_shape
  cap_same = λ i. cap_from (same.1 OfCap i) (text_same (codes "cap") i)

  net_same : net_shape (object one) ≡ net_shape (object other)
  unfolding net_shape
  net_same = λ i. net_from (same.1 OfNet i) (text_same (codes "net") i) (text_same (codes "type") i)

  change_same : change_shape (object one) ≡ change_shape (object other)
  unfolding change_shape
  change_same = λ i. change_from (same.1 OfChange i) (text_same (codes "change") i)

  reload_same : reload_shape (object one) ≡ reload_shape (object other)
  unfolding reload_shape
  reload_same = λ i. reload_from (same.1 OfReload i) (number_same (codes "reload") i)

  pub request_same : request_shape (object one) ≡ request_shape (object other)
  unfolding request_shape
  request_same =
      λ i. request_from (has_same (codes "file") i) (file_same i) (has_same (codes "link") i) (link_same i) (has_same (codes "exec") i) (exec_same i) (has_same (codes "cap") i) (cap_same i)
      (has_same (codes "net") i) (net_same i) (has_same (codes "change") i) (change_same i) (has_same (codes "reload") i) (reload_same i)

either : {A : Type 0} (b : Bool) (x : A) → (if b then x else x) ≡ x
either true x = refl
either false x = refl

module _ (ms : Members) (strange : AreStrange ms) where
  file_none : file_shape (object ms) ≡ Err BadShape
  unfolding file_shape
  file_none =
      ap (λ (b : Bool). file_from b (text_at (codes "file") (object ms)) (text_at (codes "mask") (object ms)) (flag_from (get_member (codes "owned") ms))) (strange OfFile refl)

  link_none : link_shape (object ms) ≡ Err BadShape
  unfolding link_shape
  link_none =
      ap (λ (b : Bool). link_from b (text_at (codes "link") (object ms)) (text_at (codes "to") (object ms)) (flag_from (get_member (codes "owned") ms))) (strange OfLink refl)

  exec_none : exec_shape (object ms) ≡ Err BadShape
  unfolding exec_shape
  exec_none = ap (λ (b : Bool). exec_from b (text_at (codes "exec") (object ms)) (flag_from (get_member (codes "owned") ms))) (strange OfExec refl)

  cap_none : cap_shape (object ms) ≡ Err BadShape
  unfolding cap_shape
  cap_none = ap (λ (b : Bool). cap_from b (text_at (codes "cap") (object ms))) (strange OfCap refl)

  net_none : net_shape (object ms) ≡ Err BadShape
  unfolding net_shape
  net_none = ap (λ (b : Bool). net_from b (text_at (codes "net") (object ms)) (text_at (codes "type") (object ms))) (strange OfNet refl)

  change_none : change_shape (object ms) ≡ Err BadShape
  unfolding change_shape
  change_none = ap (λ (b : Bool). change_from b (text_at (codes "change") (object ms))) (strange OfChange refl)

  reload_none : reload_shape (object ms) ≡ Err BadShape
  unfolding reload_shape
  reload_none = ap (λ (b : Bool). reload_from b (number_at (codes "reload") (object ms))) (strange OfReload refl)

  none_of : (a b c d e f g : Bool)
      → request_from a (Err BadShape) b (Err BadShape) c (Err BadShape) d (Err BadShape) e (Err BadShape) f (Err BadShape) g (Err BadShape) ≡ Err BadShape
  none_of true b c d e f g = refl
  none_of false true c d e f g = refl
  none_of false false true d e f g = refl
  none_of false false false true e f g = refl
  none_of false false false false true f g = refl
  none_of false false false false false true g = refl
  none_of false false false false false false g = either g (Err BadShape)

  pub request_none : request_shape (object ms) ≡ Err BadShape
  unfolding request_shape
  request_none =
      let at = λ (k : List ℕ). has k (object ms) in
      let f : Item → Item → Item → Item → Item → Item → Item → Item = λ file link exec cap net change reload. request_from (at (codes "file")) file (at (codes "link")) link (at (codes "exec")) exec
      (at (codes "cap")) cap (at (codes "net")) net (at (codes "change")) change (at (codes "reload")) reload in
      let all : request_shape (object ms) ≡ f (Err BadShape) (Err BadShape) (Err BadShape) (Err BadShape) (Err BadShape) (Err BadShape) (Err BadShape) =
      λ i. f (file_none i) (link_none i) (exec_none i) (cap_none i) (net_none i) (change_none i) (reload_none i) in
      all ∙ none_of (at (codes "file")) (at (codes "link")) (at (codes "exec")) (at (codes "cap")) (at (codes "net")) (at (codes "change")) (at (codes "reload"))

-- ---- a value that is read

pub boolean_read : (depth : ℕ) (b : Bool) (ts : List Token) → converted of_json (value depth (Token.boolean b ∷ ts)) ≡ Some (Data.boolean b, ts)
unfolding value
boolean_read zero b ts = refl
boolean_read (suc k) b ts = refl

numbered : (b : Bool) (o : Option Num) (ts : List Token) → is_some o ≡ b → option_map {U = Data × List Token} (λ d. (d, ts)) (option_map number o) ≡ cond b (Some (number_data o, ts)) None
numbered b None ts e = ap (λ x. cond x (Some (number_data None, ts)) None) e
numbered b (Some n) ts e = ap (λ x. cond x (Some (number n, ts)) None) e

pub number_read : (depth : ℕ) (s : List ℕ) (ts : List Token) (b : Bool) → is_some (number_of s) ≡ b
    → converted of_json (value depth (Token.number s ∷ ts)) ≡ cond b (Some (number_data (number_of s), ts)) None
unfolding value
number_read zero s ts b e = numbered b (number_of s) ts e
number_read (suc k) s ts b e = numbered b (number_of s) ts e

abbrev pub is_plain : Token → Bool
is_plain Token.begin_object = false
is_plain Token.end_object = false
is_plain Token.begin_array = false
is_plain Token.end_array = false
is_plain (Token.key s) = false
is_plain (Token.string s) = true
is_plain (Token.number s) = true
is_plain (Token.boolean b) = true
is_plain Token.null = false
is_plain Token.bad = false

abbrev first : Option (Data × List Token) → Data
first None = Data.null
first (Some p) = p.0

looks_as : (x d : Data) (ts r : List Token) → look x ≡ look Data.null → ◌≡◌ {A = Option (Data × List Token)} (Some (x, ts)) (Some (d, r)) → look d ≡ look Data.null
looks_as x d ts r is e = subst (λ z. look z ≡ look Data.null) (ap first e) is

nothing_read : {A : Type 0} {G : Type 0} (p : A) → ◌≡◌ {A = Option A} None (Some p) → G
nothing_read p e = absurd cc

mapped_as : {A : Type 0} (make : A → Data) (o : Option (A × List Token)) (d : Data) (r : List Token) → ((a : A) → look (make a) ≡ look Data.null)
    → parse_map make o ≡ Some (d, r) → look d ≡ look Data.null
mapped_as make None d r is e = nothing_read (d, r) e
mapped_as make (Some p) d r is e = looks_as (make p.0) d p.1 r (is p.0) e

plain_among : (a : Parse json.Items) (o : Parse json.Members) (t : Token) (ts r : List Token) (d : Data) → is_plain t ≡ false
    → converted of_json (value_with a o (t ∷ ts)) ≡ Some (d, r) → look d ≡ look Data.null
plain_among a o Token.begin_object ts r d is e =
    mapped_as object (converted (λ ms. of_members ms no_members) (o ts)) d r (λ ms. refl) (sym (object_converted (o ts)) ∙ e)
plain_among a o Token.end_object ts r d is e = nothing_read (d, r) e
plain_among a o Token.begin_array ts r d is e = mapped_as array (converted of_items (a ts)) d r (λ ds. refl) (sym (array_converted (a ts)) ∙ e)
plain_among a o Token.end_array ts r d is e = nothing_read (d, r) e
plain_among a o (Token.key s) ts r d is e = nothing_read (d, r) e
plain_among a o (Token.string s) ts r d is e = absurd cc
plain_among a o (Token.number s) ts r d is e = absurd cc
plain_among a o (Token.boolean b) ts r d is e = absurd cc
plain_among a o Token.null ts r d is e = looks_as Data.null d ts r refl e
plain_among a o Token.bad ts r d is e = nothing_read (d, r) e

-- a value that begins with another token than a text, a number, true or false looks like none of them
pub no_plain : (depth : ℕ) (t : Token) (ts r : List Token) (d : Data) → is_plain t ≡ false → converted of_json (value depth (t ∷ ts)) ≡ Some (d, r)
    → look d ≡ look Data.null
unfolding value
no_plain zero t ts r d is e = plain_among (λ s. None) (λ s. None) t ts r d is e
no_plain (suc k) t ts r d is e = plain_among (λ s. items (value k) (length s) s) (λ s. members (value k) (length s) s) t ts r d is e

pub plain_not : (t : CodeToken) → ((s : Bor (List ℕ)) → t ≡ code.String s → ⊥) → ((s : Bor (List ℕ)) → t ≡ code.Number s → ⊥)
    → ((b : Bool) → t ≡ code.Bool b → ⊥) → is_plain (token_of t) ≡ false
plain_not code.BeginObject s n b = refl
plain_not code.EndObject s n b = refl
plain_not code.BeginArray s n b = refl
plain_not code.EndArray s n b = refl
plain_not (code.Key x) s n b = refl
plain_not (code.String x) s n b = absurd (s x refl)
plain_not (code.Number x) s n b = absurd (n x refl)
plain_not (code.Bool x) s n b = absurd (b x refl)
plain_not code.Null s n b = refl
plain_not code.Bad s n b = refl

-- what was seen of a value that was read
pub seen_is : (o : Option (Data × List Token)) (l : Look) (r : List Token) → parse_map look o ≡ Some (l, r)
    → (d : Data) × (o ≡ Some (d, r)) × (look d ≡ l)
seen_is None l r e = nothing_read (l, r) e
seen_is (Some (d, t)) l r e =
    let one : Look × List Token = (look d, t) in
    let two : Look × List Token = (l, r) in
    let same : one ≡ two = cc in
    (d, ap (λ p. Some (d, p.1)) same, ap (λ p. p.0) same)
