-- Where a record's request is asked: at the first task that takes it, or behind all.
use Rattle.std.proofs.Common.{◌≡◌, ◌<◌, ◌≤◌, ℕ, zero, suc, List, [], ◌∷◌, ◌++◌, length, find, set, get_or, Bool, true, false, cond, Option, Some, None, refl, sym, ap, ◌∙◌, arith, nat_lt}
use Rattle.std.specs.List.{position, position_or_len}
use Rattle.std.proofs.lemmas.List.Sums.{fails_before_first}
use Rattle.std.proofs.lemmas.List.Quantifiers.{position-Some}
use Rattle.std.proofs.lemmas.Bool.{ltb-false}
use Rattle.std.proofs.lemmas.List.{length-map, map-append, map-set}
use Rattle.aa_logs.specs.Outcomes.{RecordData}
use Rattle.aa_logs.specs.declared.task.LogTask.{LogTask}
use Rattle.aa_logs.specs.Tasks.{TaskData, task_data, tasks_data, takes, begun, gone_on, with_record, fits}

abbrev takes_it : RecordData → LogTask → Bool
takes_it r t = takes r (task_data t)

abbrev NoneBefore : RecordData → List LogTask → ℕ → LogTask → Type 0
NoneBefore r ts n d = (k : ℕ) → k < n → takes_it r (get_or ts k d) ≡ false

later : (r : RecordData) (t : LogTask) (ts : List LogTask) (n : ℕ) (d : LogTask) → NoneBefore r (t ∷ ts) (suc n) d → NoneBefore r ts n d
later r t ts n d none k lt = none (suc k) (omega arith)

passed : (b : Bool) (x y : List TaskData) → b ≡ false → cond b x y ≡ y
passed b x y e = rw e refl

taken : (b : Bool) (x y : List TaskData) → b ≡ true → cond b x y ≡ x
taken b x y e = rw e refl

found : (b : Bool) (x : TaskData) (y : Option TaskData) → b ≡ true → cond b (Some x) y ≡ Some x
found b x y e = rw e refl

not_found : (b : Bool) (x : TaskData) (y : Option TaskData) → b ≡ false → cond b (Some x) y ≡ y
not_found b x y e = rw e refl

first_there : (r : RecordData) (ts : List LogTask) (n : ℕ) (d : LogTask) → n < length ts → takes_it r (get_or ts n d) ≡ true → NoneBefore r ts n d
    → with_record r (tasks_data ts) ≡ set (tasks_data ts) n (gone_on r.request (task_data (get_or ts n d)))
unfolding with_record
first_there r [] n d lt h none = absurd (omega (arith, lt))
first_there r (t ∷ ts) zero d lt h none = taken (takes_it r t) (gone_on r.request (task_data t) ∷ tasks_data ts) (task_data t ∷ with_record r (tasks_data ts)) h
first_there r (t ∷ ts) (suc n) d lt h none =
    passed (takes_it r t) (gone_on r.request (task_data t) ∷ tasks_data ts) (task_data t ∷ with_record r (tasks_data ts)) (none 0 (omega arith))
    ∙ ap (λ (l : List TaskData). task_data t ∷ l) (first_there r ts n d (omega (arith, lt)) h (later r t ts n d none))

first_found : (r : RecordData) (ts : List LogTask) (n : ℕ) (d : LogTask) → n < length ts → takes_it r (get_or ts n d) ≡ true → NoneBefore r ts n d
    → find (takes r) (tasks_data ts) ≡ Some (task_data (get_or ts n d))
first_found r [] n d lt h none = absurd (omega (arith, lt))
first_found r (t ∷ ts) zero d lt h none = found (takes_it r t) (task_data t) (find (takes r) (tasks_data ts)) h
first_found r (t ∷ ts) (suc n) d lt h none =
    not_found (takes_it r t) (task_data t) (find (takes r) (tasks_data ts)) (none 0 (omega arith)) ∙ first_found r ts n d (omega (arith, lt)) h (later r t ts n d none)

none_there : (r : RecordData) (ts : List LogTask) (d : LogTask) → NoneBefore r ts (length ts) d → with_record r (tasks_data ts) ≡ tasks_data ts ++ begun r ∷ []
unfolding with_record
none_there r [] d none = refl
none_there r (t ∷ ts) d none =
    passed (takes_it r t) (gone_on r.request (task_data t) ∷ tasks_data ts) (task_data t ∷ with_record r (tasks_data ts)) (none 0 (omega arith))
    ∙ ap (λ (l : List TaskData). task_data t ∷ l) (none_there r ts d (later r t ts (length ts) d none))

none_found : (r : RecordData) (ts : List LogTask) (d : LogTask) → NoneBefore r ts (length ts) d → find (takes r) (tasks_data ts) ≡ None
none_found r [] d none = refl
none_found r (t ∷ ts) d none =
    not_found (takes_it r t) (task_data t) (find (takes r) (tasks_data ts)) (none 0 (omega arith)) ∙ none_found r ts d (later r t ts (length ts) d none)

is_none : (b : Bool) (n : ℕ) → cond b (Some n) None ≡ None → b ≡ false
is_none true n e = grind arith
is_none false n e = refl

none_before : (r : RecordData) (ts : List LogTask) (d : LogTask) → position (takes_it r) ts ≡ None → NoneBefore r ts (length ts) d
none_before r ts d e k lt =
    let no : nat_lt (position_or_len (takes_it r) ts) (length ts) ≡ false = is_none _ _ e in
    let le : length ts ≤ position_or_len (takes_it r) ts = ltb-false _ _ no in
    fails_before_first (takes_it r) ts k d (omega (arith, lt, le))

pub found_place : (r : RecordData) (ts : List LogTask) (n : ℕ) (d : LogTask) → position (takes_it r) ts ≡ Some n → find (takes r) (tasks_data ts) ≡ Some (task_data (get_or ts n d))
found_place r ts n d e = let is = position-Some (takes_it r) ts n d e in first_found r ts n d is.0 is.1 is.2

pub no_place : (r : RecordData) (ts : List LogTask) → position (takes_it r) ts ≡ None → find (takes r) (tasks_data ts) ≡ None
no_place r [] e = refl
no_place r (t ∷ ts) e = none_found r (t ∷ ts) t (none_before r (t ∷ ts) t e)

pub gone_on_there : (r : RecordData) (ts : List LogTask) (n : ℕ) (d : LogTask) → position (takes_it r) ts ≡ Some n
    → with_record r (tasks_data ts) ≡ set (tasks_data ts) n (gone_on r.request (task_data (get_or ts n d)))
gone_on_there r ts n d e = let is = position-Some (takes_it r) ts n d e in first_there r ts n d is.0 is.1 is.2

pub begun_behind : (r : RecordData) (ts : List LogTask) → position (takes_it r) ts ≡ None → with_record r (tasks_data ts) ≡ tasks_data ts ++ begun r ∷ []
unfolding with_record
begun_behind r [] e = refl
begun_behind r (t ∷ ts) e = none_there r (t ∷ ts) t (none_before r (t ∷ ts) t e)

pub room_behind : (r : RecordData) (ts : List LogTask) → position (takes_it r) ts ≡ None → nat_lt (length ts) 1024 ≡ fits r (tasks_data ts)
unfolding fits
room_behind r ts e = rw (no_place r ts e) (ap (λ (n : ℕ). nat_lt n 1024) (sym (length-map ts task_data)))

pub pushed : (r : RecordData) (old new : List LogTask) (t : LogTask) → position (takes_it r) old ≡ None → new ≡ old ++ t ∷ [] → task_data t ≡ begun r
    → tasks_data new ≡ with_record r (tasks_data old)
pushed r old new t e is begins =
    ap tasks_data is ∙ map-append task_data old (t ∷ []) ∙ ap (λ (x : TaskData). tasks_data old ++ x ∷ []) begins ∙ sym (begun_behind r old e)

pub replaced : (r : RecordData) (old : List LogTask) (n : ℕ) (t x : LogTask) → position (takes_it r) old ≡ Some n → x ≡ get_or old n x
    → task_data t ≡ gone_on r.request (task_data x) → tasks_data (set old n t) ≡ with_record r (tasks_data old)
replaced r old n t x e is goes =
    map-set task_data old n t ∙ ap (λ (y : TaskData). set (tasks_data old) n y) (goes ∙ ap (λ (y : LogTask). gone_on r.request (task_data y)) is) ∙ sym (gone_on_there r old n x e)
