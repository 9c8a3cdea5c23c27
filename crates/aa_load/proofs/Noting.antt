-- Numbers that are noted one after another.
use Rattle.std.proofs.Common.{◌≡◌, ℕ, ◌+◌, ◌<◌, ◌≤◌, Bool, true, false, ◌||◌, cond, List, [], ◌∷◌, ◌++◌, length, take}
use Rattle.std.proofs.Common.{get_or, Option, Some, None, is_some, Result, Ok, Err, OnOk, OnErr, refl, sym, ap, subst, ◌∙◌, arith, append_assoc}
use Rattle.std.specs.Result.{is_err}
use Rattle.std.specs.Str.{bytes_eq}
use Rattle.std.specs.Cmp.Lexicographic.{nat_list_eq_equiv}
use Rattle.std.proofs.lemmas.List.{append-nil, length-append, length-take-le, take_more, take_all}
use Rattle.aa_model.specs.declared.policy.Profile.{Profile}
use Rattle.aa_load.specs.Faults.{number_of}
use Rattle.aa_load.specs.Numbers.{Noted, noted, AreNumbers, NotesNumber, AreNew}
use Rattle.aa_load.proofs.Names.{numbers_pushed, known_pushed, number_before, none_of_front, distinct_at}
use Rattle.aa_load.proofs.Places.{unknown_at, unknown_name}

-- what holds where it went well, and where it was refused
pub when_ok : {A E P : Type 0} (r : Result A E) → is_err r ≡ false → OnOk r P → P
when_ok (Ok x) e p = p
when_ok (Err x) e p = absurd cc

pub when_err : {A E P : Type 0} (r : Result A E) → is_err r ≡ true → OnErr r P → P
when_err (Ok x) e p = absurd cc
when_err (Err x) e p = p

-- the front of a list with one more, as it is
front_more : (ps : List Profile) (i : ℕ) (p : Profile) → i < length ps → p ≡ get_or ps i p → take (i + 1) ps ≡ take i ps ++ p ∷ []
front_more ps i p lt is = take_more ps i p lt ∙ ap (λ (x : Profile). take i ps ++ x ∷ []) (sym is)

-- taken away twice
either : (a b c : Bool) (x : Option ℕ) → c ≡ (b || a) → cond a None (cond b None x) ≡ cond c None x
either true true c x e = ap (λ (d : Bool). cond d None x) (sym e)
either true false c x e = ap (λ (d : Bool). cond d None x) (sym e)
either false true c x e = ap (λ (d : Bool). cond d None x) (sym e)
either false false c x e = ap (λ (d : Bool). cond d None x) (sym e)

-- one name more is taken away
pub forgotten_more : (old mid new : Noted) (ps : List Profile) (i : ℕ) (p : Profile) (key name : List ℕ) → i < length ps → p ≡ get_or ps i p → key ≡ p.name
    → noted name new ≡ cond (bytes_eq key name) None (noted name mid)
    → noted name mid ≡ cond (is_some (number_of name (take i ps))) None (noted name old)
    → noted name new ≡ cond (is_some (number_of name (take (i + 1) ps))) None (noted name old)
forgotten_more old mid new ps i p key name lt is named now before =
    let known : is_some (number_of name (take (i + 1) ps)) ≡ (is_some (number_of name (take i ps)) || bytes_eq key name) =
    ap (λ (l : List Profile). is_some (number_of name l)) (front_more ps i p lt is) ∙ known_pushed name (take i ps) p
    ∙ ap (λ (b : Bool). is_some (number_of name (take i ps)) || b) (nat_list_eq_equiv.symm name p.name ∙ ap (λ (t : List ℕ). bytes_eq t name) (sym named)) in
    now ∙ ap (λ (o : Option ℕ). cond (bytes_eq key name) None o) before
    ∙ either (bytes_eq key name) (is_some (number_of name (take i ps))) (is_some (number_of name (take (i + 1) ps))) (noted name old) known

-- before the first is noted
pub noting_start : (numbers : Noted) (count : ℕ) (earlier later : List Profile) → AreNew numbers count earlier later → AreNumbers numbers (earlier ++ take 0 later)
noting_start numbers count earlier later new = subst (λ (l : List Profile). AreNumbers numbers l) (sym (append-nil earlier)) new.numbered

-- one more is noted
pub noting_more : (first old new : Noted) (count : ℕ) (earlier later : List Profile) (i n : ℕ) (p : Profile) (key : List ℕ) → AreNew first count earlier later
    → i < length later → p ≡ get_or later i p → key ≡ p.name → n ≡ count + i → AreNumbers old (earlier ++ take i later) → NotesNumber key n old new
    → AreNumbers new (earlier ++ take (i + 1) later)
noting_more first old new count earlier later i n p key fresh lt is named number are notes =
    let front = take i later in
    let unknown : number_of p.name earlier ≡ None = ap (λ (x : Profile). number_of x.name earlier) is ∙ unknown_at earlier later i p fresh.unknown lt in
    let apart : number_of p.name front ≡ None = ap (λ (x : Profile). number_of x.name front) is ∙ distinct_at later i p fresh.distinct lt in
    let long : n ≡ length (earlier ++ front) =
    let a = length-append earlier front in let b = length-take-le i later (omega (arith, lt)) in let k = fresh.counted in omega (arith, a, b, k, number) in
    let pushed : AreNumbers new ((earlier ++ front) ++ p ∷ []) =
    numbers_pushed old new (earlier ++ front) p n are (number_before p.name earlier front apart ∙ unknown) long (subst (λ (t : List ℕ). NotesNumber t n old new) named notes) in
    subst (λ (l : List Profile). AreNumbers new l) (append_assoc earlier front (p ∷ []) ∙ ap (λ (l : List Profile). earlier ++ l) (sym (front_more later i p lt is))) pushed

-- all are noted
pub noting_end : (numbers : Noted) (earlier later : List Profile) (i : ℕ) → length later ≤ i → AreNumbers numbers (earlier ++ take i later) → AreNumbers numbers (earlier ++ later)
noting_end numbers earlier later i le are = subst (λ (l : List Profile). AreNumbers numbers (earlier ++ l)) (take_all i later le) are

-- those that were noted are taken away again
pub noting_undone : (first mid new : Noted) (count : ℕ) (earlier later : List Profile) (i : ℕ) → AreNew first count earlier later → AreNumbers mid (earlier ++ take i later)
    → ((name : List ℕ) → noted name new ≡ cond (is_some (number_of name later)) None (noted name mid)) → AreNumbers new earlier
noting_undone first mid new count earlier later i fresh are gone = λ name. gone name ∙ by name (number_of name later) refl
  where
    by : (name : List ℕ) (o : Option ℕ) → number_of name later ≡ o → cond (is_some o) None (noted name mid) ≡ number_of name earlier
    by name (Some n) e = sym (unknown_name name earlier later fresh.unknown (ap is_some e))
    by name None e = are name ∙ number_before name earlier (take i later) (none_of_front name later i e)
