-- A value, an array and an object read from tokens, a turn at a time.
use Rattle.std.proofs.Common.{◌≡◌, ℕ, zero, suc, ◌-◌, ◌<◌, ◌≤◌, List, [], ◌∷◌, ◌++◌, length, Bool, true, false, cond, Option}
use Rattle.std.proofs.Common.{Some, None, option_map, Result, Ok, Err, Bor, refl, sym, ap, subst, ◌∙◌, append_assoc}
use Rattle.std.proofs.lemmas.List.{append-nil}
use Rattle.json.specs.Lex.{tokens}
use Rattle.json.specs.Reads.{token_of}
use Rattle.json.specs.declared.token.Token.{Token as CodeToken}
use Rattle.json.specs.declared.token.Token.TheVariants as code
use Rattle.json.specs.Token.{Token}
use Rattle.json.specs.Json as json
use Rattle.json.specs.Json.{Parse, parse_map, after_end_array, read_key, items, members, value, value_with}
use Rattle.json.proofs.Grammar.{left, left-parse_map, left_none, left_some, skip_value-shorter, value-begin_array, value-begin_object, value_is}
use Rattle.serde_json.specs.Data.{Num, Data, number, array, object, Items, item, Members, no_members}
use Rattle.serde_json.specs.Find.{as_array, as_object, as_str}
use Rattle.serde_json.specs.Read.{converted, number_of, of_json, of_items, of_members, read}
use Rattle.std.specs.Option.{is_some}
use Rattle.std.specs.Prelude.{⊤}
use Rattle.aa_jobs.specs.declared.job_fault.JobFault.{JobFault}
use Rattle.aa_jobs.specs.declared.shape.Part.TheVariants.{Whole, OfTask}
use Rattle.aa_jobs.specs.declared.job_fault.JobFault.TheVariants.{NoMemory, NotJson, BadShape, BadRequest, TooLarge}
use Rattle.aa_jobs.specs.Made.{MadeJob, made_items, made_items_shape, made_job, made_job_shape, made_task, made_task_shape, mapped}
use Rattle.aa_jobs.specs.Shape.{data_list, fits, fits_members, item_shape, job_shape, list_in, request_shape, task_shape}
use Rattle.aa_jobs.specs.Steps.{◌>>=◌, each, needed, only_if, Gives, Refuses}
use Rattle.aa_jobs.specs.Stream.{AgreeBut, Apart, Shaped, followed, shape_at, written_as}
use Rattle.aa_jobs.specs.Written.{WrittenItem}
use Rattle.aa_jobs.proofs.Conversion.{array_converted, converted_is, item_read, item_refused, items_over, object_converted, whole_and_more, whole_read, whole_refused}
use Rattle.aa_jobs.proofs.Rows.{passes_on}

-- ---- one value

pub needed_is : {A : Type 0} (e : JobFault) (o : Option A) (a : A) → needed e o ≡ Ok a → o ≡ Some a
needed_is e None a is = absurd cc
needed_is e (Some b) a is = let same : b ≡ a = cc in ap Some same

-- where one isn't read, the other isn't
pub none_on : {A B : Type 0} (e : JobFault) (one : Option A) (other : Option B) → (one ≡ None → other ≡ None) → Refuses e (needed NotJson one) → Refuses e (needed NotJson other)
none_on NoMemory one other along h = tt
none_on NotJson None other along h = ap (needed NotJson) (along refl)
none_on NotJson (Some a) other along h = absurd cc
none_on BadShape None other along h = absurd cc
none_on BadShape (Some a) other along h = absurd cc
none_on BadRequest None other along h = absurd cc
none_on BadRequest (Some a) other along h = absurd cc
none_on TooLarge None other along h = absurd cc
none_on TooLarge (Some a) other along h = absurd cc

pub unmapped : {A B : Type 0} (f : A → B) (o : Option (A × List Token)) → parse_map f o ≡ None → o ≡ None
unmapped f None e = refl
unmapped f (Some p) e = absurd cc

pub shaped_by : {A X Y : Type 0} (view : X → Y) (inner : Result X JobFault) (f : A → Result Y JobFault) (o : Option (A × List Token)) (a : A) (rest : List Token)
    → o ≡ Some (a, rest) → Gives view inner (f a) → Shaped view inner rest (parse_map f o)
shaped_by view inner f o a rest e g = subst (λ x. Shaped view inner rest (parse_map f x)) (sym e) (refl, g)

pub shaped_is : {A X Y : Type 0} (view : X → Y) (inner : Result X JobFault) (f : A → Result Y JobFault) (o : Option (A × List Token)) (rest : List Token)
    → Shaped view inner rest (parse_map f o) → (a : A) × (o ≡ Some (a, rest)) × Gives view inner (f a)
shaped_is view inner f None rest h = absurd h
shaped_is view inner f (Some (a, r)) rest h = (a, ap (λ s. Some (a, s)) h.0, h.1)

-- reading a value leaves fewer tokens
pub converted-shorter : (depth : ℕ) (ts r : List Token) (d : Data) → converted of_json (value depth ts) ≡ Some (d, r) → length r < length ts
converted-shorter depth ts r d e =
    let j = converted_is of_json (value depth ts) d r e in
    skip_value-shorter depth ts r (ap (option_map (λ p. p.1)) j.1)

-- ---- what stands in front, and what is still to read

abbrev pub joined : {B : Type 0} → Result (List B) JobFault → Result (List B) JobFault → Result (List B) JobFault
joined front given = front >>= λ xs. given >>= λ ys. Ok (xs ++ ys)

joined_one : {B : Type 0} (front : Result (List B) JobFault) (last : Result B JobFault) (given : Result (List B) JobFault)
    → joined front (last >>= λ y. given >>= λ ys. Ok (y ∷ ys)) ≡ joined (followed front last) given
joined_one (Err e) last given = refl
joined_one (Ok xs) (Err e) given = refl
joined_one (Ok xs) (Ok y) (Err e) = refl
joined_one (Ok xs) (Ok y) (Ok ys) = ap Ok (simp append_assoc)

joined_nothing : {B : Type 0} (front : Result (List B) JobFault) → joined front (Ok []) ≡ front
joined_nothing (Err e) = refl
joined_nothing (Ok xs) = ap Ok (append-nil xs)

nothing_joined : {B : Type 0} (given : Result (List B) JobFault) → given ≡ joined (Ok []) given
nothing_joined (Err e) = refl
nothing_joined (Ok ys) = refl

-- ---- an array

module _ {B : Type 0} (f : Data → Result B JobFault) where
  -- the shape of the items that are left, behind those before
  abbrev pub going : Result (List B) JobFault → Option (Items × List Token) → Option (Result (List B) JobFault × List Token)
  going front o = parse_map (λ ds. joined front (each f (data_list ds))) o

  pub going_first : (o : Option (Items × List Token)) → parse_map (λ ds. each f (data_list ds)) o ≡ going (Ok []) o
  going_first None = refl
  going_first (Some (ds, r)) = ap (λ g. Some (g, r)) (nothing_joined (each f (data_list ds)))

  going_one : (front : Result (List B) JobFault) (d : Data) (o : Option (Items × List Token)) → going front (parse_map (item d) o) ≡ going (followed front (f d)) o
  unfolding each
  going_one front d None = refl
  going_one front d (Some (ds, r)) = ap (λ g. Some (g, r)) (joined_one front (f d) (each f (data_list ds)))

  pub going_on : (depth n : ℕ) (front : Result (List B) JobFault) (ts r : List Token) (d : Data) → 0 < n → after_end_array ts ≡ None → converted of_json (value depth ts) ≡ Some (d, r)
      → going front (converted of_items (items (value depth) n ts)) ≡ going (followed front (f d)) (converted of_items (items (value depth) (n - 1) r))
  going_on depth n front ts r d some more e =
      ap (going front) (item_read (value depth) n ts r d some more e) ∙ going_one front d (converted of_items (items (value depth) (n - 1) r))

  pub going_ends : (depth n : ℕ) (front : Result (List B) JobFault) (ts : List Token) → after_end_array ts ≡ None → converted of_json (value depth ts) ≡ None
      → going front (converted of_items (items (value depth) n ts)) ≡ None
  going_ends depth n front ts more e = ap (going front) (item_refused (value depth) n ts more e)

  pub going_done : (depth n : ℕ) (front : Result (List B) JobFault) (ts r : List Token) → length ts ≤ n → after_end_array ts ≡ Some r
      → going front (converted of_items (items (value depth) n ts)) ≡ Some (front, r)
  unfolding each
  going_done depth n front ts r enough e =
      ap (going front) (items_over (value depth) n ts r enough e) ∙ ap (λ g. Some (g, r)) (joined_nothing front)

  in_array : (o : Option (Items × List Token)) → parse_map (λ d. list_in d >>= each f) (parse_map array o) ≡ parse_map (λ ds. each f (data_list ds)) o
  in_array None = refl
  in_array (Some p) = refl

  -- a value that begins with a bracket is an array
  pub array_opens : (depth : ℕ) (ts rest : List Token) → 0 < depth → ts ≡ Token.begin_array ∷ rest
      → parse_map (λ d. list_in d >>= each f) (converted of_json (value depth ts)) ≡ parse_map (λ ds. each f (data_list ds)) (converted of_items (items (value (depth - 1)) (length rest) rest))
  array_opens depth ts rest some is =
      let o = items (value (depth - 1)) (length rest) rest in
      ap (λ x. parse_map (λ d. list_in d >>= each f) (converted of_json x)) (ap (value depth) is ∙ value-begin_array depth rest some)
      ∙ ap (parse_map (λ d. list_in d >>= each f)) (array_converted o) ∙ in_array (converted of_items o)

-- ---- an object

-- a value that begins with a brace is an object
pub object_opens : (depth : ℕ) (ts rest : List Token) → 0 < depth → ts ≡ Token.begin_object ∷ rest
    → converted of_json (value depth ts) ≡ parse_map object (converted (λ ms. of_members ms no_members) (members (value (depth - 1)) (length rest) rest))
object_opens depth ts rest some is =
    ap (converted of_json) (ap (value depth) is ∙ value-begin_object depth rest some) ∙ object_converted (members (value (depth - 1)) (length rest) rest)

-- ---- a value of another kind

abbrev first : Option (Data × List Token) → Data
first None = Data.null
first (Some p) = p.0

read_as : {C : Type 0} (see : Data → Option C) (x d : Data) (ts r : List Token) → see x ≡ None → ◌≡◌ {A = Option (Data × List Token)} (Some (x, ts)) (Some (d, r)) → see d ≡ None
read_as see x d ts r none e = subst (λ z. see z ≡ None) (ap first e) none

nothing_read : {A : Type 0} {G : Type 0} (p : A) → ◌≡◌ {A = Option A} None (Some p) → G
nothing_read p e = absurd cc

mapped_as : {A C : Type 0} (see : Data → Option C) (make : A → Data) (o : Option (A × List Token)) (d : Data) (r : List Token) → ((a : A) → see (make a) ≡ None) → parse_map make o ≡ Some (d, r) → see d ≡ None
mapped_as see make None d r none e = nothing_read (d, r) e
mapped_as see make (Some p) d r none e = read_as see (make p.0) d p.1 r (none p.0) e

number_as : {C : Type 0} (see : Data → Option C) (o : Option Num) (d : Data) (ts r : List Token) → ((n : Num) → see (number n) ≡ None)
    → option_map {U = Data × List Token} (λ b. (b, ts)) (option_map number o) ≡ Some (d, r) → see d ≡ None
number_as see None d ts r none e = nothing_read (d, r) e
number_as see (Some n) d ts r none e = read_as see (number n) d ts r (none n) e

abbrev pub is_bracket : Token → Bool
is_bracket Token.begin_object = false
is_bracket Token.end_object = false
is_bracket Token.begin_array = true
is_bracket Token.end_array = false
is_bracket (Token.key s) = false
is_bracket (Token.string s) = false
is_bracket (Token.number s) = false
is_bracket (Token.boolean b) = false
is_bracket Token.null = false
is_bracket Token.bad = false

abbrev pub is_brace : Token → Bool
is_brace Token.begin_object = true
is_brace Token.end_object = false
is_brace Token.begin_array = false
is_brace Token.end_array = false
is_brace (Token.key s) = false
is_brace (Token.string s) = false
is_brace (Token.number s) = false
is_brace (Token.boolean b) = false
is_brace Token.null = false
is_brace Token.bad = false

abbrev pub is_text : Token → Bool
is_text Token.begin_object = false
is_text Token.end_object = false
is_text Token.begin_array = false
is_text Token.end_array = false
is_text (Token.key s) = false
is_text (Token.string s) = true
is_text (Token.number s) = false
is_text (Token.boolean b) = false
is_text Token.null = false
is_text Token.bad = false

array_among : (a : Parse json.Items) (o : Parse json.Members) (t : Token) (ts r : List Token) (d : Data) → is_bracket t ≡ false → converted of_json (value_with a o (t ∷ ts)) ≡ Some (d, r) → as_array d ≡ None
array_among a o Token.begin_object ts r d is e = mapped_as as_array object (converted (λ ms. of_members ms no_members) (o ts)) d r (λ ms. refl) (sym (object_converted (o ts)) ∙ e)
array_among a o Token.end_object ts r d is e = nothing_read (d, r) e
array_among a o Token.begin_array ts r d is e = absurd cc
array_among a o Token.end_array ts r d is e = nothing_read (d, r) e
array_among a o (Token.key s) ts r d is e = nothing_read (d, r) e
array_among a o (Token.string s) ts r d is e = read_as as_array (Data.string s) d ts r refl e
array_among a o (Token.number s) ts r d is e = number_as as_array (number_of s) d ts r (λ n. refl) e
array_among a o (Token.boolean b) ts r d is e = read_as as_array (Data.boolean b) d ts r refl e
array_among a o Token.null ts r d is e = read_as as_array Data.null d ts r refl e
array_among a o Token.bad ts r d is e = nothing_read (d, r) e

object_among : (a : Parse json.Items) (o : Parse json.Members) (t : Token) (ts r : List Token) (d : Data) → is_brace t ≡ false → converted of_json (value_with a o (t ∷ ts)) ≡ Some (d, r) → as_object d ≡ None
object_among a o Token.begin_object ts r d is e = absurd cc
object_among a o Token.end_object ts r d is e = nothing_read (d, r) e
object_among a o Token.begin_array ts r d is e = mapped_as as_object array (converted of_items (a ts)) d r (λ ds. refl) (sym (array_converted (a ts)) ∙ e)
object_among a o Token.end_array ts r d is e = nothing_read (d, r) e
object_among a o (Token.key s) ts r d is e = nothing_read (d, r) e
object_among a o (Token.string s) ts r d is e = read_as as_object (Data.string s) d ts r refl e
object_among a o (Token.number s) ts r d is e = number_as as_object (number_of s) d ts r (λ n. refl) e
object_among a o (Token.boolean b) ts r d is e = read_as as_object (Data.boolean b) d ts r refl e
object_among a o Token.null ts r d is e = read_as as_object Data.null d ts r refl e
object_among a o Token.bad ts r d is e = nothing_read (d, r) e

text_among : (a : Parse json.Items) (o : Parse json.Members) (t : Token) (ts r : List Token) (d : Data) → is_text t ≡ false → converted of_json (value_with a o (t ∷ ts)) ≡ Some (d, r) → as_str d ≡ None
text_among a o Token.begin_object ts r d is e = mapped_as as_str object (converted (λ ms. of_members ms no_members) (o ts)) d r (λ ms. refl) (sym (object_converted (o ts)) ∙ e)
text_among a o Token.end_object ts r d is e = nothing_read (d, r) e
text_among a o Token.begin_array ts r d is e = mapped_as as_str array (converted of_items (a ts)) d r (λ ds. refl) (sym (array_converted (a ts)) ∙ e)
text_among a o Token.end_array ts r d is e = nothing_read (d, r) e
text_among a o (Token.key s) ts r d is e = nothing_read (d, r) e
text_among a o (Token.string s) ts r d is e = absurd cc
text_among a o (Token.number s) ts r d is e = number_as as_str (number_of s) d ts r (λ n. refl) e
text_among a o (Token.boolean b) ts r d is e = read_as as_str (Data.boolean b) d ts r refl e
text_among a o Token.null ts r d is e = read_as as_str Data.null d ts r refl e
text_among a o Token.bad ts r d is e = nothing_read (d, r) e

-- a value that begins with another token than a bracket is no array
pub no_array : (depth : ℕ) (t : Token) (ts r : List Token) (d : Data) → is_bracket t ≡ false → converted of_json (value depth (t ∷ ts)) ≡ Some (d, r) → as_array d ≡ None
unfolding value
no_array zero t ts r d is e = array_among (λ s. None) (λ s. None) t ts r d is e
no_array (suc k) t ts r d is e = array_among (λ s. items (value k) (length s) s) (λ s. members (value k) (length s) s) t ts r d is e

-- a value that begins with another token than a brace is no object
pub no_object : (depth : ℕ) (t : Token) (ts r : List Token) (d : Data) → is_brace t ≡ false → converted of_json (value depth (t ∷ ts)) ≡ Some (d, r) → as_object d ≡ None
unfolding value
no_object zero t ts r d is e = object_among (λ s. None) (λ s. None) t ts r d is e
no_object (suc k) t ts r d is e = object_among (λ s. items (value k) (length s) s) (λ s. members (value k) (length s) s) t ts r d is e

-- a value that begins with another token than a text is none
pub no_text : (depth : ℕ) (t : Token) (ts r : List Token) (d : Data) → is_text t ≡ false → converted of_json (value depth (t ∷ ts)) ≡ Some (d, r) → as_str d ≡ None
unfolding value
no_text zero t ts r d is e = text_among (λ s. None) (λ s. None) t ts r d is e
no_text (suc k) t ts r d is e = text_among (λ s. items (value k) (length s) s) (λ s. members (value k) (length s) s) t ts r d is e

-- a text is read at once
pub text_read : (depth : ℕ) (s : List ℕ) (ts : List Token) → converted of_json (value depth (Token.string s ∷ ts)) ≡ Some (Data.string s, ts)
unfolding value
text_read zero s ts = refl
text_read (suc k) s ts = refl

pub nothing_begins : {A : Type 0} (f : Data → A) (depth : ℕ) (ts : List Token) → ts ≡ [] → parse_map f (converted of_json (value depth ts)) ≡ None
nothing_begins f depth ts empty = ap (λ x. parse_map f (converted of_json x)) (ap (value depth) empty ∙ value_is depth [])

pub not_listed : {B : Type 0} (f : Data → Result B JobFault) (d : Data) → as_array d ≡ None → (list_in d >>= each f) ≡ Err BadShape
not_listed f d none = ap (λ a. needed BadShape (option_map data_list a) >>= each f) none

-- a value that begins with another token than a bracket is read past, and is no list
pub passed_list : {X Y : Type 0} (view : X → Y) (f : Data → Result Y JobFault) → ((d : Data) → as_array d ≡ None → f d ≡ Err BadShape)
    → (depth : ℕ) (ts rest new : List Token) (t : Token) → ts ≡ t ∷ rest → is_bracket t ≡ false
    → needed NotJson (left (converted of_json (value depth (t ∷ rest)))) ≡ Ok new
    → Shaped view (Err BadShape) new (parse_map f (converted of_json (value depth ts)))
passed_list view f refuses depth ts rest new t is other passed =
    let d = left_some (converted of_json (value depth (t ∷ rest))) new (needed_is NotJson _ _ passed) in
    shaped_by view (Err BadShape) f (converted of_json (value depth ts)) d.0 new (ap (λ x. converted of_json (value depth x)) is ∙ d.1)
    (refuses d.0 (no_array depth t rest new d.0 other d.1))

pub no_items : (d : Data) → as_array d ≡ None → made_items_shape d ≡ Err BadShape
no_items d none = ap (mapped made_items) (not_listed item_shape d none)

-- a value that begins with another token than a brace is read past, and is no object
pub passed_object : {X Y : Type 0} (view : X → Y) (f : Data → Result Y JobFault) → ((d : Data) → as_object d ≡ None → f d ≡ Err BadShape)
    → (depth : ℕ) (ts rest new : List Token) (t : Token) → ts ≡ t ∷ rest → is_brace t ≡ false
    → needed NotJson (left (converted of_json (value depth (t ∷ rest)))) ≡ Ok new → Shaped view (Err BadShape) new (parse_map f (converted of_json (value depth ts)))
passed_object view f refuses depth ts rest new t is other passed =
    let d = left_some (converted of_json (value depth (t ∷ rest))) new (needed_is NotJson _ _ passed) in
    shaped_by view (Err BadShape) f (converted of_json (value depth ts)) d.0 new (ap (λ x. converted of_json (value depth x)) is ∙ d.1) (refuses d.0 (no_object depth t rest new d.0 other d.1))

refused_first : {A : Type 0} (b : Bool) (f : ⊤ → Result A JobFault) → b ≡ false → (only_if b BadShape >>= f) ≡ Err BadShape
refused_first b f e = ap (λ x. only_if x BadShape >>= f) e

pub no_task : (d : Data) → as_object d ≡ None → made_task_shape d ≡ Err BadShape
unfolding task_shape
no_task d none = ap (mapped made_task) (refused_first (fits OfTask d) _ (ap (fits_members OfTask) none))

pub no_job : (d : Data) → as_object d ≡ None → made_job_shape d ≡ Err BadShape
unfolding job_shape
no_job d none = ap (mapped made_job) (refused_first (fits Whole d) _ (ap (fits_members Whole) none))

-- what is neither an object nor a text is no item
no_item : (d : Data) → as_object d ≡ None → as_str d ≡ None → item_shape d ≡ Err BadShape
unfolding request_shape
no_item Data.null apart none = refl
no_item (Data.boolean b) apart none = refl
no_item (number n) apart none = refl
no_item (Data.string s) apart none = absurd cc
no_item (array ds) apart none = refl
no_item (object ms) apart none = absurd cc

-- a value that begins with another token than a brace or a text is read past, and is no item
pub passed_item : {X : Type 0} (view : X → WrittenItem) (depth : ℕ) (ts rest new : List Token) (t : Token) → ts ≡ t ∷ rest → is_brace t ≡ false → is_text t ≡ false
    → needed NotJson (left (converted of_json (value depth (t ∷ rest)))) ≡ Ok new → Shaped view (Err BadShape) new (parse_map item_shape (converted of_json (value depth ts)))
passed_item view depth ts rest new t is apart other passed =
    let d = left_some (converted of_json (value depth (t ∷ rest))) new (needed_is NotJson _ _ passed) in
    shaped_by view (Err BadShape) item_shape (converted of_json (value depth ts)) d.0 new
    (ap (λ x. converted of_json (value depth x)) is ∙ d.1) (no_item d.0 (no_object depth t rest new d.0 apart d.1) (no_text depth t rest new d.0 other d.1))

-- where it can't be read past, it is no value
pub passed_none : {A : Type 0} (e : JobFault) (f : Data → A) (depth : ℕ) (ts rest : List Token) (t : Token) → ts ≡ t ∷ rest
    → Refuses e (needed NotJson (left (converted of_json (value depth (t ∷ rest))))) → Refuses e (needed NotJson (parse_map f (converted of_json (value depth ts))))
passed_none e f depth ts rest t is h =
    none_on e (left (converted of_json (value depth (t ∷ rest)))) (parse_map f (converted of_json (value depth ts)))
    (λ none. ap (λ x. parse_map f (converted of_json (value depth x))) is ∙ ap (parse_map f) (left_none (converted of_json (value depth (t ∷ rest))) none)) h

-- what stands in an object, as its kind's shape gives it
pub object_shaped : {X Y : Type 0} (view : X → Y) (inner : Result X JobFault) (f : Data → Result Y JobFault) (depth : ℕ) (ts mid rest : List Token) (ms : Members) → 0 < depth → ts ≡ Token.begin_object ∷ mid
    → converted (λ xs. of_members xs no_members) (members (value (depth - 1)) (length mid) mid) ≡ Some (ms, rest) → Gives view inner (f (object ms)) → Shaped view inner rest (parse_map f (converted of_json (value depth ts)))
object_shaped view inner f depth ts mid rest ms some is e g =
    shaped_by view inner f (converted of_json (value depth ts)) (object ms) rest (object_opens depth ts mid some is ∙ ap (parse_map object) e) g

in_object : {A : Type 0} (f : Data → A) (o : Option (Members × List Token)) → parse_map f (parse_map object o) ≡ parse_map (λ ms. f (object ms)) o
in_object f None = refl
in_object f (Some p) = refl

-- what is made of a value that begins with a brace is made of its members
pub object_read : {A : Type 0} (f : Data → A) (depth : ℕ) (ts rest : List Token) → 0 < depth → ts ≡ Token.begin_object ∷ rest
    → parse_map f (converted of_json (value depth ts)) ≡ parse_map (λ ms. f (object ms)) (converted (λ ms. of_members ms no_members) (members (value (depth - 1)) (length rest) rest))
object_read f depth ts rest some is = ap (parse_map f) (object_opens depth ts rest some is) ∙ in_object f (converted (λ ms. of_members ms no_members) (members (value (depth - 1)) (length rest) rest))

pub object_none : {A : Type 0} (e : JobFault) (f : Data → A) (depth : ℕ) (ts mid : List Token) → 0 < depth → ts ≡ Token.begin_object ∷ mid
    → Refuses e (needed NotJson (converted (λ xs. of_members xs no_members) (members (value (depth - 1)) (length mid) mid))) → Refuses e (needed NotJson (parse_map f (converted of_json (value depth ts))))
object_none e f depth ts mid some is h =
    none_on e (converted (λ xs. of_members xs no_members) (members (value (depth - 1)) (length mid) mid)) (parse_map f (converted of_json (value depth ts)))
    (λ none. ap (parse_map f) (object_opens depth ts mid some is ∙ ap (parse_map object) none)) h

pub apart_is : {X Y V : Type 0} (rest_of : V → Members) (key : List ℕ) (view : X → Y) (f : Data → Result Y JobFault) (p : V × Result X JobFault)
    (rest : List Token) (o : Option (Members × List Token)) → Apart rest_of key view f p rest o
    → (ms : Members) × (o ≡ Some (ms, rest)) × AgreeBut key (rest_of p.0) ms × Gives view p.1 (shape_at f key ms)
apart_is rest_of key view f p rest None h = absurd h
apart_is rest_of key view f p rest (Some (ms, r)) h = (ms, ap (λ x. Some (ms, x)) h.0, h.1, h.2)

-- ---- tokens that are passed

pub bracket_not : (t : CodeToken) → (t ≡ code.BeginArray → ⊥) → is_bracket (token_of t) ≡ false
bracket_not code.BeginObject h = refl
bracket_not code.EndObject h = refl
bracket_not code.BeginArray h = absurd (h refl)
bracket_not code.EndArray h = refl
bracket_not (code.Key s) h = refl
bracket_not (code.String s) h = refl
bracket_not (code.Number s) h = refl
bracket_not (code.Bool b) h = refl
bracket_not code.Null h = refl
bracket_not code.Bad h = refl

pub brace_not : (t : CodeToken) → (t ≡ code.BeginObject → ⊥) → is_brace (token_of t) ≡ false
brace_not code.BeginObject h = absurd (h refl)
brace_not code.EndObject h = refl
brace_not code.BeginArray h = refl
brace_not code.EndArray h = refl
brace_not (code.Key s) h = refl
brace_not (code.String s) h = refl
brace_not (code.Number s) h = refl
brace_not (code.Bool b) h = refl
brace_not code.Null h = refl
brace_not code.Bad h = refl

pub text_not : (t : CodeToken) → ((s : Bor (List ℕ)) → t ≡ code.String s → ⊥) → is_text (token_of t) ≡ false
text_not code.BeginObject h = refl
text_not code.EndObject h = refl
text_not code.BeginArray h = refl
text_not code.EndArray h = refl
text_not (code.Key s) h = refl
text_not (code.String s) h = absurd (h s refl)
text_not (code.Number s) h = refl
text_not (code.Bool b) h = refl
text_not code.Null h = refl
text_not code.Bad h = refl

abbrev pub past : ℕ → Token → List Token → Result (List Token) JobFault
past depth t ts = needed NotJson (left (converted of_json (value depth (t ∷ ts))))

number_past : (o : Option Num) (ts : List Token) (b : Bool) → is_some o ≡ b → needed NotJson (left (option_map {U = Data × List Token} (λ d. (d, ts)) (option_map number o))) ≡ cond b (Ok ts) (Err NotJson)
number_past None ts b e = ap (λ x. cond x (Ok ts) (Err NotJson)) e
number_past (Some n) ts b e = ap (λ x. cond x (Ok ts) (Err NotJson)) e

past_with : (depth : ℕ) (t : Token) (ts : List Token) (other : Result (List Token) JobFault)
    → ((a : Parse json.Items) (o : Parse json.Members) → needed NotJson (left (converted of_json (value_with a o (t ∷ ts)))) ≡ other)
    → past depth t ts ≡ other
unfolding value
past_with zero t ts other same = same (λ s. None) (λ s. None)
past_with (suc k) t ts other same = same (λ s. items (value k) (length s) s) (λ s. members (value k) (length s) s)

pub past_null : (depth : ℕ) (ts : List Token) → past depth Token.null ts ≡ Ok ts
past_null depth ts = past_with depth Token.null ts (Ok ts) (λ a o. refl)

pub past_boolean : (depth : ℕ) (b : Bool) (ts : List Token) → past depth (Token.boolean b) ts ≡ Ok ts
past_boolean depth b ts = past_with depth (Token.boolean b) ts (Ok ts) (λ a o. refl)

pub past_string : (depth : ℕ) (s : List ℕ) (ts : List Token) → past depth (Token.string s) ts ≡ Ok ts
past_string depth s ts = past_with depth (Token.string s) ts (Ok ts) (λ a o. refl)

pub past_number : (depth : ℕ) (s : List ℕ) (ts : List Token) (b : Bool) → is_some (number_of s) ≡ b → past depth (Token.number s) ts ≡ cond b (Ok ts) (Err NotJson)
past_number depth s ts b e = past_with depth (Token.number s) ts (cond b (Ok ts) (Err NotJson)) (λ a o. number_past (number_of s) ts b e)

pub past_end_array : (depth : ℕ) (ts : List Token) → past depth Token.end_array ts ≡ Err NotJson
past_end_array depth ts = past_with depth Token.end_array ts (Err NotJson) (λ a o. refl)

pub past_end_object : (depth : ℕ) (ts : List Token) → past depth Token.end_object ts ≡ Err NotJson
past_end_object depth ts = past_with depth Token.end_object ts (Err NotJson) (λ a o. refl)

pub past_key : (depth : ℕ) (s : List ℕ) (ts : List Token) → past depth (Token.key s) ts ≡ Err NotJson
past_key depth s ts = past_with depth (Token.key s) ts (Err NotJson) (λ a o. refl)

pub past_bad : (depth : ℕ) (ts : List Token) → past depth Token.bad ts ≡ Err NotJson
past_bad depth ts = past_with depth Token.bad ts (Err NotJson) (λ a o. refl)

pub past_array : (depth : ℕ) (ts : List Token) → 0 < depth → past depth Token.begin_array ts ≡ needed NotJson (left (converted of_items (items (value (depth - 1)) (length ts) ts)))
past_array depth ts some =
    ap (needed NotJson) (ap (λ o. left (converted of_json o)) (value-begin_array depth ts some) ∙ ap left (array_converted (items (value (depth - 1)) (length ts) ts)) ∙ left-parse_map array _)

pub past_object : (depth : ℕ) (ts : List Token) → 0 < depth → past depth Token.begin_object ts ≡ needed NotJson (left (converted (λ xs. of_members xs no_members) (members (value (depth - 1)) (length ts) ts)))
past_object depth ts some =
    ap (needed NotJson) (ap (λ o. left (converted of_json o)) (value-begin_object depth ts some) ∙ ap left (object_converted (members (value (depth - 1)) (length ts) ts)) ∙ left-parse_map object _)

-- ---- the whole text

abbrev pub read_text : List ℕ → Option (Data × List Token)
read_text text = converted of_json (value 127 (tokens text))

abbrev meant : Option Data → Result MadeJob JobFault
meant o = mapped made_job (needed NotJson o >>= job_shape)

pub text_shaped : {X : Type 0} (view : X → MadeJob) (inner : Result X JobFault) (text : List ℕ) (rest : List Token)
    → Shaped view inner rest (parse_map made_job_shape (read_text text)) → rest ≡ [] → Gives view inner (mapped made_job (written_as text))
text_shaped view inner text rest h over =
    let d = shaped_is view inner made_job_shape (read_text text) rest h in
    subst (λ g. Gives view inner g) (sym (ap meant (whole_read (value 127 (tokens text)) d.0 (d.1 ∙ ap (λ r. Some (d.0, r)) over)))) d.2

pub text_more : {X : Type 0} (view : X → MadeJob) (inner : Result X JobFault) (text : List ℕ) (rest : List Token) (t : Token) (ts : List Token)
    → Shaped view inner rest (parse_map made_job_shape (read_text text))
    → rest ≡ t ∷ ts → mapped made_job (written_as text) ≡ Err NotJson
text_more view inner text rest t ts h more =
    let d = shaped_is view inner made_job_shape (read_text text) rest h in
    ap meant (whole_and_more (value 127 (tokens text)) d.0 t ts (d.1 ∙ ap (λ r. Some (d.0, r)) more))

abbrev whole_of : List ℕ → Option Data
whole_of text = read text

meant_none : (e : JobFault) (o : Option Data) → Refuses e (needed NotJson o) → Refuses e (meant o)
meant_none e o h = passes_on e (needed NotJson o) (meant o) (λ d k. ap (λ r. mapped made_job (r >>= job_shape)) k) h

pub text_refused : (e : JobFault) (text : List ℕ) → Refuses e (needed NotJson (parse_map made_job_shape (read_text text)))
    → Refuses e (mapped made_job (written_as text))
text_refused e text h =
    let none : parse_map made_job_shape (read_text text) ≡ None → whole_of text
    ≡ None = λ n. whole_refused (value 127 (tokens text)) (unmapped made_job_shape (read_text text) n) in
    meant_none e (whole_of text) (none_on e (parse_map made_job_shape (read_text text)) (whole_of text) none h)
