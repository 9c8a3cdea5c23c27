-- Rows that are listed at the places that they mention.
use Rattle.std.proofs.Common.{◌≡◌, ◌≢◌, ℕ, ◌+◌, ◌<◌, ◌≤◌, List, [], ◌∷◌, ◌++◌, length, take, set, get_or, Bool, true}
use Rattle.std.proofs.Common.{false, Option, Some, None, refl, sym, ap, ◌∙◌, subst, All, Contains, arith, ⊎_elim, ◌⊎◌, inl, inr}
use Rattle.std.specs.Prelude.{◌==◌}
use Rattle.std.specs.List.{slice_get}
use Rattle.std.proofs.lemmas.Bool.{cases_lt}
use Rattle.std.proofs.lemmas.Bool.Decides.{eqb_tells}
use Rattle.std.specs.Global.{Global}
use Rattle.std.specs.declared.vec.Vec.{Vec}
use Rattle.std.proofs.lemmas.List.{take_more, length-map, get_or-map, length-set, get_or-set_same, get_or-set_other}
use Rattle.std.proofs.lemmas.List.Elements.{Contains-get_or, Contains-append_left, Contains-append_right, Contains-push, Contains-push_cases}
use Rattle.std.proofs.lemmas.Option.{slice_get-get_or, slice_get_read, same_Some}
use Rattle.aa_redundancy.specs.declared.marks.RuleMark.{RuleMark}
use Rattle.aa_redundancy.specs.declared.tables.Table.{Table}
use Rattle.aa_redundancy.specs.declared.mentions.RowNumber.{RowNumber}
use Rattle.aa_redundancy.specs.Without.{marked}
use Rattle.aa_redundancy.specs.Tables.{none_gone, SameTables}
use Rattle.aa_redundancy.specs.Going.{NoneMarked}
use Rattle.aa_redundancy.specs.Mentions.{Mentions, lists, rows_at, IsListed, RowsAreListed, AreListed, StayListed, SameAt}
use Rattle.aa_redundancy.proofs.Gone.{AgreeAt, Agree, said_same, tables_same}

-- ---- what is listed stays so

pub all_stay : (listed : List (List RowNumber)) → StayListed listed listed
all_stay listed = record { many = refl; stay = λ place at c. c }

pub still_stay : (a b c : List (List RowNumber)) → StayListed a b → StayListed b c → StayListed a c
still_stay a b c ab bc = record { many = bc.many ∙ ab.many; stay = λ place at h. bc.stay place at (ab.stay place at h) }

pub listed_more : (old new : List (List RowNumber)) (place : ℕ) (at : RowNumber) → place < length old → new ≡ set old place (rows_at old place ++ at ∷ [])
    → StayListed old new × Contains (rows_at new place) at
listed_more old new place at lt e =
    let row = rows_at old place ++ at ∷ [] in
    let here : rows_at new place ≡ row = ap (λ (l : List (List RowNumber)). rows_at l place) e ∙ get_or-set_same old place row [] lt in (
      record {
        many = ap length e ∙ length-set old place row;
        stay = λ other it c.
            ⊎_elim
            (λ (y : ((other == place) ≡ true) × (other ≡ place)).
            subst (λ (k : ℕ). Contains (rows_at new k) it) (sym y.1)
            (subst (λ (l : List RowNumber). Contains l it) (sym here) (Contains-append_left (rows_at old place) (at ∷ []) it (subst (λ (k : ℕ). Contains (rows_at old k) it) y.1 c))))
            (λ (n : ((other == place) ≡ false) × (other ≢ place)).
            subst (λ (l : List RowNumber). Contains l it) (sym (ap (λ (l : List (List RowNumber)). rows_at l other) e ∙ get_or-set_other old place other row [] n.1)) c)
            (eqb_tells other place);
      },
      subst (λ (l : List RowNumber). Contains l at) (sym here) (Contains-push (rows_at old place) at),
    )

pub still_listed : (t : Table) (row : List ℕ) (at : RowNumber) (old new : List (List RowNumber)) → StayListed old new → IsListed t row at old → IsListed t row at new
still_listed t row at old new stay h place lt m = stay.stay place at (h place (omega (arith, lt, stay.many)) m)

-- ---- one mark more, one row more, one table more

pub none_listed : (t : Table) (at : RowNumber) (listed : List (List RowNumber)) → IsListed t [] at listed
none_listed t at listed place lt m = absurd (omega (arith, m.stands.1))

pub mark_more : (t : Table) (numbers : List ℕ) (i n : ℕ) (at : RowNumber) (old new : List (List RowNumber)) → i < length numbers → n ≡ get_or numbers i n
    → IsListed t (take i numbers) at old → StayListed old new
    → ((m : RuleMark) → slice_get t.marks.items n ≡ Some m → m.rule < length new → Contains (rows_at new m.rule) at) → IsListed t (take (i + 1) numbers) at new
mark_more t numbers i n at old new lt is before stay here place less m =
    let more : take (i + 1) numbers ≡ take i numbers ++ n ∷ [] = take_more numbers i n lt ∙ ap (λ (k : ℕ). take i numbers ++ k ∷ []) (sym is) in
    ⊎_elim
    (λ (c : Contains (take i numbers) m.number). still_listed t (take i numbers) at old new stay before place less (record { number = m.number; mark = m.mark; stands = c; read = m.read; is = m.is }))
    (λ (e : n ≡ m.number).
    subst (λ (k : ℕ). Contains (rows_at new k) at) m.is
    (here m.mark (ap (slice_get t.marks.items) e ∙ m.read) (omega (arith, less, m.is))))
    (Contains-push_cases (take i numbers) n m.number (subst (λ (l : List ℕ). Contains l m.number) more m.stands))

pub rows_more : (t : Table) (k i : ℕ) (r : List ℕ) (rows : List (List ℕ)) (old new : List (List RowNumber)) → rows ≡ t.rows.items → i < length rows → r ≡ get_or rows i r → StayListed old new
    → ((j : ℕ) (row : List ℕ) → j < i → slice_get t.rows.items j ≡ Some row → IsListed t row (record { table = k; row = j }) old) → IsListed t r (record { table = k; row = i }) new
    → (j : ℕ) (row : List ℕ) → j < i + 1 → slice_get t.rows.items j ≡ Some row → IsListed t row (record { table = k; row = j }) new
rows_more t k i r rows old new same lt is stay before here j row less e =
    ⊎_elim (λ (l : j < i). still_listed t row (record { table = k; row = j }) old new stay (before j row l e))
    (λ (g : i ≤ j).
    let at : i ≡ j = omega (arith, g, less) in
    let one : r ≡ row = same_Some r row (sym (slice_get_read rows (length rows) i r refl lt is) ∙ ap (λ (l : List (List ℕ)). slice_get l i) same ∙ ap (slice_get t.rows.items) at ∙ e) in
    subst (λ (n : ℕ). IsListed t row (record { table = k; row = n }) new) at (subst (λ (l : List ℕ). IsListed t l (record { table = k; row = i }) new) one here))
    (cases_lt j i)

pub tables_more : (ts : List Table) (i : ℕ) (x : Table) (old new : List (List RowNumber)) → i < length ts → x ≡ get_or ts i x → StayListed old new
    → ((k : ℕ) (t : Table) → k < i → slice_get ts k ≡ Some t → RowsAreListed t k old) → RowsAreListed x i new → (k : ℕ) (t : Table) → k < i + 1 → slice_get ts k ≡ Some t → RowsAreListed t k new
tables_more ts i x old new lt is stay before here k t less e =
    ⊎_elim (λ (l : k < i). λ j row at. still_listed t row (record { table = k; row = j }) old new stay (before k t l e j row at))
    (λ (g : i ≤ k).
    let at : i ≡ k = omega (arith, g, less) in
    let one : x ≡ t = same_Some x t (sym (slice_get_read ts (length ts) i x refl lt is) ∙ ap (slice_get ts) at ∙ e) in
    subst (λ (n : ℕ). RowsAreListed t n new) at (subst (λ (y : Table). RowsAreListed y i new) one here))
    (cases_lt k i)

-- ---- rules of one place go

-- a row mentions the place, or its rules are gone as they were
module _ (t : Table) (place : ℕ) (was now : ℕ → Bool) (others : (n : ℕ) → n ≢ place → now n ≡ was n) where
  pub mentions_or_agrees : (row : List ℕ) → Mentions t row place ⊎ Agree now was t.marks.items row
  mentions_or_agrees [] = inr tt
  mentions_or_agrees (n ∷ ns) = at (slice_get t.marks.items n) refl (mentions_or_agrees ns)
    where
      later : Mentions t ns place → Mentions t (n ∷ ns) place
      later m = record { number = m.number; mark = m.mark; stands = Contains-append_right (n ∷ []) ns m.number m.stands; read = m.read; is = m.is }

      at : (o : Option RuleMark) → slice_get t.marks.items n ≡ o → Mentions t ns place ⊎ Agree now was t.marks.items ns → Mentions t (n ∷ ns) place ⊎ (AgreeAt now was t.marks.items o × Agree now was t.marks.items ns)
      at o e (inl m) = inl (later m)
      at None e (inr a) = inr (tt, a)
      at (Some m) e (inr a) =
          ⊎_elim
          (λ (y : ((m.rule == place) ≡ true) × (m.rule ≡ place)). inl (record { number = n; mark = m; stands = Contains-get_or (n ∷ ns) 0 n (omega arith); read = e; is = y.1 }))
          (λ (z : ((m.rule == place) ≡ false) × (m.rule ≢ place)). inr (others m.rule z.1, a))
          (eqb_tells m.rule place)

pub read_at : {X : Type 0} (xs : List X) (x : X) (c : Contains xs x) → slice_get xs c.0 ≡ Some x
read_at xs x c = slice_get-get_or xs c.0 x c.1 ∙ ap Some c.2

-- where the rows that mention a place say the same, so do all, since the others do as before
pub rest_same : (ts : List Table) (listed : List (List RowNumber)) (place : ℕ) (was now : ℕ → Bool) → AreListed ts listed → place < length listed
    → ((n : ℕ) → n ≢ place → now n ≡ was n) → SameTables ts was → All (SameAt ts now) (rows_at listed place) → SameTables ts now
rest_same ts listed place was now are lt others same here t tc row rc =
    ⊎_elim
    (λ (m : Mentions t row place).
    let at : RowNumber = record { table = tc.0; row = rc.0 } in
    let it = read_at ts t tc in
    let its = read_at t.rows.items row rc in
    let c = are tc.0 t it rc.0 row its place lt m in
    subst (SameAt ts now) c.2 (here c.0 at c.1) t row it its)
    (λ (a : Agree now was t.marks.items row). λ owned. said_same now was t.marks.items row a owned ∙ same t tc row rc owned)
    (mentions_or_agrees t place was now others row)

-- so where a mark of the place is set
pub rest_goes : (ts : List Table) (listed : List (List RowNumber)) (gone flags : List Bool) (i : ℕ) → AreListed ts listed → i < length listed → flags ≡ set gone i true
    → SameTables ts (marked gone) → All (SameAt ts (marked flags)) (rows_at listed i) → SameTables ts (marked flags)
rest_goes ts listed gone flags i are lt e same here =
    rest_same ts listed i (marked gone) (marked flags) are lt (λ n ne. ap (λ (fs : List Bool). marked fs n) e ∙ get_or-set_other gone i n true false ne) same here

pub none_changes : (ts : List Table) (gone : List Bool) → NoneMarked gone → SameTables ts (marked gone)
none_changes ts gone none = tables_same ts none_gone (marked gone) (λ n. sym (none n)) (λ t c row rc owned. refl)

pub within_lists : (listed : List (Vec RowNumber Global)) (gone : List Bool) (i : ℕ) → length gone ≡ length listed → i < length gone → i < length (lists listed)
within_lists listed gone i many lt = let long = length-map listed (λ (v : Vec RowNumber Global). v.items) in omega (arith, many, lt, long)

-- the rows that are listed at a place, as they lie in memory
pub rows_are : (listed : List (Vec RowNumber Global)) (place : ℕ) (one : Vec RowNumber Global) (rows : List RowNumber) → place < length listed → one ≡ get_or listed place one → rows ≡ one.items
    → rows ≡ rows_at (lists listed) place
rows_are listed place one rows lt is e = let items = λ (v : Vec RowNumber Global). v.items in e ∙ ap items is ∙ sym (get_or-map items listed place one [] lt)
