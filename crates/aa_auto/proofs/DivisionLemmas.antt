-- Bytes that are divided into classes, one more byte or item at a time.
use Rattle.std.proofs.Common.{Bor, ◌≡◌, ◌≢◌, ℕ, ◌+◌, ◌<◌, ◌≤◌, ◌↔◌, Bool, true, false, cond, set, Result, Ok, Err, IfOk, List}
use Rattle.std.proofs.Common.{[], ◌∷◌, ◌++◌, length, get_or, take, IsTrue, inl, inr, ◌⊎◌, refl, sym, ap, ◌∙◌, subst, ⊎_elim, arith}
use Rattle.std.proofs.Common.{true≢false}
use Rattle.std.proofs.lemmas.List.{get_or_append_left, get_or_push, length_push, take_more, get_or-set_same, get_or-set_other, length-set}
use Rattle.std.proofs.lemmas.Bool.{cases_lt, cases_eq}
use Rattle.aa_pattern.specs.declared.item.Item.{Item, Byte, One, Run, RunOne, Deep, DeepOne, Class, Choice'}
use Rattle.aa_pattern.specs.Globs.{IsNameByte}
use Rattle.aa_pattern.specs.Steps.{Begins}
use Rattle.aa_auto.specs.declared.nodes.Node.{Node}
use Rattle.aa_auto.specs.declared.nodes.Node.TheVariants.{Start, After, Same, Join}
use Rattle.aa_auto.specs.Nodes.{IsSameNode}
use Rattle.aa_auto.specs.Division.{GivesClass, Divides, IsDivision, IsSameItem, IsKey, AreKeys, Refines, RefinesBy, CanLeave, TakesOut, AreClasses, TakesAlone, AreAlone, NotesAlone, IsWild, TellsZero}
use Rattle.aa_auto.proofs.SameLemmas.{AreSameNodes-append}

module _ (keys : List ℕ) (n : ℕ) (of bytes : List ℕ) (class : ℕ) (all : Divides keys n of bytes) where
  o_old : (a : ℕ) → a < n → get_or (of ++ class ∷ []) a 0 ≡ get_or of a 0
  o_old a lt = get_or_append_left of (class ∷ []) 0 a (omega (arith, all.many))

  o_new : (a : ℕ) → a ≡ n → get_or (of ++ class ∷ []) a 0 ≡ class
  o_new a e = get_or_push of class 0 a (all.many ∙ sym e)

  divides_same : class < length bytes → get_or keys (get_or bytes class 0) 0 ≡ get_or keys n 0 → Divides keys (n + 1) (of ++ class ∷ []) bytes
  divides_same lt same = record {
    many = omega (arith, length_push of class, all.many);
    few = omega (arith, all.few);
    classed = λ a l. ⊎_elim
        (λ (o : a < n). subst (λ z. (z < length bytes) × (get_or keys (get_or bytes z 0) 0 ≡ get_or keys a 0)) (sym (o_old a o)) (all.classed a o))
        (λ (g : n ≤ a). let e : a ≡ n = omega arith in
        subst (λ z. (z < length bytes) × (get_or keys (get_or bytes z 0) 0 ≡ get_or keys a 0)) (sym (o_new a e)) (lt, same ∙ ap (λ z. get_or keys z 0) (sym e)))
        (cases_lt a n);
    named = λ c l. let q = all.named c l in (omega (arith, q.0), o_old (get_or bytes c 0) q.0 ∙ q.1);
    apart = all.apart;
  }

  divides_new : class ≡ length bytes → ((k : ℕ) → k < length bytes → get_or keys (get_or bytes k 0) 0 ≢ get_or keys n 0) → Divides keys (n + 1) (of ++ class ∷ []) (bytes ++ n ∷ [])
  divides_new is none = record {
    many = omega (arith, length_push of class, all.many);
    few = omega (arith, all.few, long);
    classed = λ a l. ⊎_elim
        (λ (o : a < n). let q = all.classed a o in
        subst (λ z. (z < length (bytes ++ n ∷ [])) × (get_or keys (get_or (bytes ++ n ∷ []) z 0) 0 ≡ get_or keys a 0)) (sym (o_old a o))
        (omega (arith, q.0, long), ap (λ z. get_or keys z 0) (b_old (get_or of a 0) q.0) ∙ q.1))
        (λ (g : n ≤ a). let e : a ≡ n = omega arith in
        subst (λ z. (z < length (bytes ++ n ∷ [])) × (get_or keys (get_or (bytes ++ n ∷ []) z 0) 0 ≡ get_or keys a 0)) (sym (o_new a e))
        (omega (arith, is, long), ap (λ z. get_or keys z 0) (b_new class is ∙ sym e)))
        (cases_lt a n);
    named = λ c l. ⊎_elim
        (λ (o : c < length bytes). let q = all.named c o in
        subst (λ z. (z < n + 1) × (get_or (of ++ class ∷ []) z 0 ≡ c)) (sym (b_old c o)) (omega (arith, q.0), o_old (get_or bytes c 0) q.0 ∙ q.1))
        (λ (g : length bytes ≤ c). let e : c ≡ length bytes = omega (arith, l, long) in
        subst (λ z. (z < n + 1) × (get_or (of ++ class ∷ []) z 0 ≡ c)) (sym (b_new c e)) (omega arith, o_new n refl ∙ is ∙ sym e))
        (cases_lt c (length bytes));
    apart = apart;
  }
    where
      long : length (bytes ++ n ∷ []) ≡ length bytes + 1
      long = length_push bytes n

      b_old : (c : ℕ) → c < length bytes → get_or (bytes ++ n ∷ []) c 0 ≡ get_or bytes c 0
      b_old c lt = get_or_append_left bytes (n ∷ []) 0 c lt

      b_new : (c : ℕ) → c ≡ length bytes → get_or (bytes ++ n ∷ []) c 0 ≡ n
      b_new c e = get_or_push bytes n 0 c (sym e)

      apart : (c d : ℕ) → c < length (bytes ++ n ∷ []) → d < length (bytes ++ n ∷ []) → get_or keys (get_or (bytes ++ n ∷ []) c 0) 0 ≡ get_or keys (get_or (bytes ++ n ∷ []) d 0) 0 → c ≡ d
      apart c d lc ld e =
          ⊎_elim
          (λ (oc : c < length bytes). ⊎_elim
          (λ (od : d < length bytes). all.apart c d oc od (ap (λ z. get_or keys z 0) (sym (b_old c oc)) ∙ e ∙ ap (λ z. get_or keys z 0) (b_old d od)))
          (λ (gd : length bytes ≤ d). let q : d ≡ length bytes = omega (arith, ld, long) in
          absurd (none c oc (ap (λ z. get_or keys z 0) (sym (b_old c oc)) ∙ e ∙ ap (λ z. get_or keys z 0) (b_new d q))))
          (cases_lt d (length bytes)))
          (λ (gc : length bytes ≤ c). let p : c ≡ length bytes = omega (arith, lc, long) in ⊎_elim
          (λ (od : d < length bytes). absurd (none d od (ap (λ z. get_or keys z 0) (sym (b_old d od)) ∙ sym e ∙ ap (λ z. get_or keys z 0) (b_new c p))))
          (λ (gd : length bytes ≤ d). omega (arith, lc, ld, long, gc, gd))
          (cases_lt d (length bytes)))
          (cases_lt c (length bytes))

  pub divides_more : (new : List ℕ) → GivesClass keys bytes new n class → Divides keys (n + 1) (of ++ class ∷ []) new
  divides_more new gives = ⊎_elim
      (λ (p : (new ≡ bytes) × (class < length bytes) × (get_or keys (get_or bytes class 0) 0 ≡ get_or keys n 0)).
      subst (λ z. Divides keys (n + 1) (of ++ class ∷ []) z) (sym p.0) (divides_same p.1 p.2))
      (λ (p : (new ≡ bytes ++ n ∷ []) × (class ≡ length bytes) × ((k : ℕ) → k < length bytes → get_or keys (get_or bytes k 0) 0 ≢ get_or keys n 0)).
      subst (λ z. Divides keys (n + 1) (of ++ class ∷ []) z) (sym p.0) (divides_new p.1 p.2))
      gives

pub division : (keys of bytes : List ℕ) → Divides keys 256 of bytes → IsDivision of bytes
division keys of bytes all = record { many = all.many; few = all.few; within = λ a lt. (all.classed a lt).0; named = all.named }

divided : (keys of bytes : List ℕ) → Divides keys 256 of bytes → (a b : ℕ) → a < 256 → b < 256 → (get_or of a 0 ≡ get_or of b 0) ↔ (get_or keys a 0 ≡ get_or keys b 0)
divided keys of bytes all a b la lb = (
  λ e. sym (all.classed a la).1 ∙ ap (λ z. get_or keys (get_or bytes z 0) 0) e ∙ (all.classed b lb).1,
  λ e. all.apart (get_or of a 0) (get_or of b 0) (all.classed a la).0 (all.classed b lb).0 ((all.classed a la).1 ∙ e ∙ sym (all.classed b lb).1),
)

abbrev digit : Bool → ℕ
digit x = cond x 1 0

digit_small : (x : Bool) → digit x ≤ 1
digit_small true = omega arith
digit_small false = omega arith

digit_same : (x y : Bool) → digit x ≡ digit y → x ≡ y
digit_same true true e = refl
digit_same false false e = refl
digit_same true false e = absurd (omega arith)
digit_same false true e = absurd (omega arith)

same_flag : (a b : Bool) {P Q : Type 0} → (IsTrue a ↔ P) → (IsTrue b ↔ Q) → (P ↔ Q) → a ≡ b
same_flag true true f g same = refl
same_flag false false f g same = refl
same_flag true false f g same = absurd (true≢false (sym (g.1 (same.0 (f.0 refl)))))
same_flag false true f g same = absurd (true≢false (sym (f.1 (same.1 (g.0 refl)))))

iff_by : (a b : Bool) {P Q : Type 0} → (IsTrue a ↔ P) → (IsTrue b ↔ Q) → a ≡ b → P ↔ Q
iff_by a b f g e = (λ p. g.0 (subst IsTrue e (f.1 p)), λ q. f.0 (subst IsTrue (sym e) (g.1 q)))

keys_same : (of : List ℕ) (item : Item) (a b k l : ℕ) → IsKey of item a k → IsKey of item b l → (k ≡ l) ↔ ((get_or of a 0 ≡ get_or of b 0) × IsSameItem item a b)
keys_same of item a b k l p q = (
  λ e. (
    omega (arith, e, p.4, q.4, digit_small p.0, digit_small p.1, digit_small q.0, digit_small q.1),
    (
      iff_by p.0 q.0 p.2 q.2 (digit_same p.0 q.0 (omega (arith, e, p.4, q.4, digit_small p.0, digit_small p.1, digit_small q.0, digit_small q.1))),
      iff_by p.1 q.1 p.3 q.3 (digit_same p.1 q.1 (omega (arith, e, p.4, q.4, digit_small p.0, digit_small p.1, digit_small q.0, digit_small q.1))),
    ),
  ),
  λ s. omega (arith, p.4, q.4, s.0, ap digit (same_flag p.0 q.0 p.2 q.2 s.1.0), ap digit (same_flag p.1 q.1 p.3 q.3 s.1.1)),
)

pub keys_more : (of : List ℕ) (item : Item) (keys : List ℕ) (n k : ℕ) → AreKeys of item keys n → IsKey of item n k → AreKeys of item (keys ++ k ∷ []) (n + 1)
keys_more of item keys n k all key = record {
  many = omega (arith, length_push keys k, all.many);
  keyed = λ b lt. ⊎_elim
      (λ (l : b < n). subst (λ z. IsKey of item b z) (sym (get_or_append_left keys (k ∷ []) 0 b (omega (arith, all.many)))) (all.keyed b l))
      (λ (g : n ≤ b). let e : n ≡ b = omega arith in
      subst (λ z. IsKey of item b z) (sym (get_or_push keys k 0 b (all.many ∙ e))) (subst (λ z. IsKey of item z k) e key))
      (cases_lt b n);
}

refines_at : (old : List ℕ) (item : Item) (keys of bytes : List ℕ) → AreKeys old item keys 256 → Divides keys 256 of bytes → Refines old of bytes item
refines_at old item keys of bytes keyed all = record {
  division = division keys of bytes all;
  same = λ a b la lb.
      let d = divided keys of bytes all a b la lb in
      let k = keys_same old item a b (get_or keys a 0) (get_or keys b 0) (keyed.keyed a la) (keyed.keyed b lb) in
      (λ e. k.0 (d.0 e), λ s. d.1 (k.1 s));
}

pub refines : (old : List ℕ) (item : Item) (keys slice of bytes : List ℕ) → slice ≡ keys → AreKeys old item keys 256 → Divides slice 256 of bytes → Refines old of bytes item
refines old item keys slice of bytes same keyed all = refines_at old item keys of bytes keyed (subst (λ z. Divides z 256 of bytes) same all)

pub classes_more : (nodes : List Node) (k : ℕ) (node : Node) (old olds of bytes : List ℕ) → k < length nodes → node ≡ get_or nodes k node → AreClasses (take k nodes) old olds → RefinesBy old of bytes node →
    AreClasses (take (k + 1) nodes) of bytes
classes_more nodes k node old olds of bytes lt is front one =
    subst (λ z. AreClasses z of bytes) (sym (take_more nodes k node lt ∙ ap (λ z. take k nodes ++ z ∷ []) (sym is))) (record {
      division = one.division;
      same = λ a b la lb.
          let q = AreSameNodes-append a b (take k nodes) (node ∷ []) in
          let o = one.same a b la lb in
          let f = front.same a b la lb in
          (λ e. let s = o.0 e in q.1 (f.0 s.0, (s.1, tt)), λ s. let u = q.0 s in o.1 (f.1 u.0, u.1.0));
    })

pub if_ok : {T E : Type 0} (r : Result T E) {P Q : T → Type 0} → ((x : T) → P x → Q x) → IfOk r P → IfOk r Q
if_ok (Ok x) f p = f x p
if_ok (Err e) f p = tt

taken : (node : Node) (a b : ℕ) → TakesAlone node a → IsSameNode node b a → b ≡ a
taken (After item) a b t s = (subst (λ (i : Item). Begins i a → Begins i b) t.0 s.0.1 (refl, t.1)).0
taken Start a b t s = absurd t
taken (Same k) a b t s = absurd t
taken (Join k) a b t s = absurd t

begins_wild : (item : Item) (b : ℕ) → IsWild item → IsNameByte b → Begins item b
begins_wild One b w n = n
begins_wild Run b w n = n
begins_wild RunOne b w n = n
begins_wild Deep b w n = n.0
begins_wild DeepOne b w n = n
begins_wild (Byte k) b w n = absurd w
begins_wild (Class k) b w n = absurd w
begins_wild (Choice' k l) b w n = absurd w

ends_wild : (item : Item) → IsWild item → Begins item 0 → ⊥
ends_wild One w b = omega (arith, b.0.0)
ends_wild Run w b = omega (arith, b.0.0)
ends_wild RunOne w b = omega (arith, b.0.0)
ends_wild Deep w b = omega (arith, b.0)
ends_wild DeepOne w b = omega (arith, b.0.0)
ends_wild (Byte k) w b = absurd w
ends_wild (Class k) w b = absurd w
ends_wild (Choice' k l) w b = absurd w

-- a byte is 0, `/`, or one of the others, which stars take for one
name_byte : (b : ℕ) → b < 256 → (b ≡ 0) ⊎ (b ≡ 47) ⊎ IsNameByte b
name_byte b lt =
    ⊎_elim
    (λ (some : 0 < b). ⊎_elim
    (λ (below : b < 47). inr (inr ((some, lt), λ e. omega (arith, e, below))))
    (λ (from : 47 ≤ b). ⊎_elim (λ (above : 47 < b). inr (inr ((some, lt), λ e. omega (arith, e, above)))) (λ (to : b ≤ 47). inr (inl (omega arith))) (cases_lt 47 b))
    (cases_lt b 47))
    (λ (none : b ≤ 0). inl (omega arith))
    (cases_lt 0 b)

told_zero : (node : Node) (of : List ℕ) (was : List Bool) (a b : ℕ) → AreAlone of was → TellsZero node was a → b < 256 → get_or of b 0 ≡ get_or of a 0 → IsSameNode node b a → b ≡ a
told_zero Start of was a b are t lb same s = absurd t
told_zero (Same k) of was a b are t lb same s = absurd t
told_zero (Join k) of was a b are t lb same s = absurd t
told_zero (After item) of was a b are t lb same s =
    ⊎_elim
    (λ (e : b ≡ 0). e ∙ sym t.0)
    (λ (r : (b ≡ 47) ⊎ IsNameByte b). ⊎_elim
    (λ (e : b ≡ 47). sym (are b a lb (omega (arith, t.0)) (subst (λ z. get_or was z false ≡ true) (sym e) t.2) (sym same)))
    (λ (n : IsNameByte b). absurd (ends_wild item.now t.1 (subst (Begins item.now) t.0 (s.0.0 (begins_wild item.now b t.1 n)))))
    r)
    (name_byte b lb)

-- bytes that were alone are alone, and so is one that was told from all others
pub alone_more : (node : Node) (old of bytes : List ℕ) (was alone : List Bool) → AreAlone old was → RefinesBy old of bytes node → NotesAlone node was alone → AreAlone of alone
alone_more node old of bytes was alone before one notes a b la lb flag same =
    let s = (one.same b a lb la).0 same in
    ⊎_elim
    (λ e. before a b la lb e s.0)
    (λ (r : TakesAlone node a ⊎ TellsZero node was a). ⊎_elim (λ t. taken node a b t s.1) (λ t. told_zero node old was a b before t lb s.0 s.1) r)
    (notes.flags a flag)

-- a byte that leaves its class
module _ (of bytes : List ℕ) (byte : ℕ) (d : IsDivision of bytes) (inside : byte < 256) (leaves : CanLeave of bytes byte) where
  abbrev new_of : List ℕ
  new_of = set of byte (length bytes)

  abbrev new_bytes : List ℕ
  new_bytes = bytes ++ byte ∷ []

  long : length new_bytes ≡ length bytes + 1
  long = length_push bytes byte

  at_own : (a : ℕ) → a ≡ byte → get_or new_of a 0 ≡ length bytes
  at_own a e = ap (λ n. get_or new_of n 0) e ∙ get_or-set_same of byte (length bytes) 0 (omega (arith, inside, d.many))

  at_other : (a : ℕ) → a ≢ byte → get_or new_of a 0 ≡ get_or of a 0
  at_other a e = get_or-set_other of byte a (length bytes) 0 e

  new_within : (a : ℕ) → a < 256 → get_or new_of a 0 < length new_bytes
  new_within a lt = ⊎_elim
      (λ (e : a ≡ byte). omega (arith, at_own a e, long))
      (λ (e : a ≢ byte). omega (arith, at_other a e, d.within a lt, long))
      (cases_eq a byte)

  new_named : (c : ℕ) → c < length new_bytes → (get_or new_bytes c 0 < 256) × (get_or new_of (get_or new_bytes c 0) 0 ≡ c)
  new_named c lt = ⊎_elim
      (λ (l : c < length bytes).
      let q = d.named c l in
      let differs : get_or bytes c 0 ≢ byte = λ e. leaves.other (ap (λ n. get_or bytes n 0) (sym (ap (λ n. get_or of n 0) e) ∙ q.1) ∙ e) in
      subst (λ z. (z < 256) × (get_or new_of z 0 ≡ c)) (sym (get_or_append_left bytes (byte ∷ []) 0 c l)) (q.0, at_other (get_or bytes c 0) differs ∙ q.1))
      (λ (g : length bytes ≤ c).
      let e : length bytes ≡ c = omega (arith, g, lt, long) in
      subst (λ z. (z < 256) × (get_or new_of z 0 ≡ c)) (sym (get_or_push bytes byte 0 c e)) (inside, at_own byte refl ∙ e))
      (cases_lt c (length bytes))

  below_new : (a : ℕ) → a < 256 → a ≢ byte → get_or new_of a 0 < length bytes
  below_new a lt e = omega (arith, at_other a e, d.within a lt)

  same_to : (a b : ℕ) → a < 256 → b < 256 → get_or new_of a 0 ≡ get_or new_of b 0 → (get_or of a 0 ≡ get_or of b 0) × ((a ≡ byte) ↔ (b ≡ byte))
  same_to a b la lb e = ⊎_elim
      (λ (ea : a ≡ byte). ⊎_elim
      (λ (eb : b ≡ byte). (ap (λ n. get_or of n 0) (ea ∙ sym eb), (λ x. eb, λ x. ea)))
      (λ (nb : b ≢ byte). absurd (omega (arith, e, at_own a ea, below_new b lb nb)))
      (cases_eq b byte))
      (λ (na : a ≢ byte). ⊎_elim
      (λ (eb : b ≡ byte). absurd (omega (arith, e, at_own b eb, below_new a la na)))
      (λ (nb : b ≢ byte). (sym (at_other a na) ∙ e ∙ at_other b nb, (λ x. absurd (na x), λ x. absurd (nb x))))
      (cases_eq b byte))
      (cases_eq a byte)

  same_from : (a b : ℕ) → (get_or of a 0 ≡ get_or of b 0) × ((a ≡ byte) ↔ (b ≡ byte)) → get_or new_of a 0 ≡ get_or new_of b 0
  same_from a b s = ⊎_elim
      (λ (ea : a ≡ byte). at_own a ea ∙ sym (at_own b (s.1.0 ea)))
      (λ (na : a ≢ byte). at_other a na ∙ s.0 ∙ sym (at_other b (λ eb. na (s.1.1 eb))))
      (cases_eq a byte)

  pub taken_out : TakesOut of (set of byte (length bytes)) (bytes ++ byte ∷ []) byte
  taken_out = record {
    division = record { many = length-set of byte (length bytes) ∙ d.many; few = omega (arith, long, leaves.few); within = new_within; named = new_named };
    same = λ a b la lb. (same_to a b la lb, same_from a b);
  }

-- which is what the item that takes it alone tells apart
out_by_item : (old of bytes : List ℕ) (byte : ℕ) (item : Item) → Byte byte ≡ item → 0 < byte → TakesOut old of bytes byte → Refines old of bytes item
out_by_item old of bytes byte item is some out = subst (Refines old of bytes) is (record {
  division = out.division;
  same = λ a b la lb. (
    λ e. let s = (out.same a b la lb).0 e in (s.0, ((λ x. (s.1.0 x.0, (omega (arith, s.1.0 x.0, some), lb)), λ x. (s.1.1 x.0, (omega (arith, s.1.1 x.0, some), la))), (λ x. x, λ x. x))),
    λ s. (out.same a b la lb).1 (s.0, (λ x. (s.1.0.0 (x, (omega (arith, x, some), la))).0, λ x. (s.1.0.1 (x, (omega (arith, x, some), lb))).0)),
  );
})

pub out_by_node : (old of bytes : List ℕ) (byte : ℕ) (node : Node) (item : Bor Item) → node ≡ After item → item.now ≡ Byte byte → 0 < byte → TakesOut old of bytes byte → RefinesBy old of bytes node
out_by_node old of bytes byte node item there is some out =
    let r = out_by_item old of bytes byte item.now (sym is) some out in
    subst (λ z. RefinesBy old of bytes z) (sym there) (record { division = r.division; same = r.same })

-- the same classes, by other numbers
pub numbered : (nodes : List Node) (slice old olds of bytes : List ℕ) → slice ≡ old → AreClasses nodes old olds → Divides slice 256 of bytes → AreClasses nodes of bytes
numbered nodes slice old olds of bytes is was all = record {
  division = division slice of bytes all;
  same = λ a b la lb.
      let d = divided slice of bytes all a b la lb in
      let q = was.same a b la lb in
      (λ e. q.0 (subst (λ z. get_or z a 0 ≡ get_or z b 0) is (d.0 e)), λ s. d.1 (subst (λ z. get_or z a 0 ≡ get_or z b 0) (sym is) (q.1 s)));
}
