-- What is found at labels one after another.
use Rattle.std.proofs.Common.{◌≡◌, ℕ, zero, suc, ◌+◌, ◌<◌, ◌≤◌, List, [], ◌∷◌, ◌++◌, length, map, flat_map, get_or, take, Bool, true, false, true≢false, Option, Some, None}
use Rattle.std.proofs.Common.{refl, sym, ap, subst, ◌∙◌, ⊎_elim, arith}
use Rattle.std.specs.Prelude.{not, ◌&&◌, ◌||◌, MatchBool, if◌then◌else◌}
use Rattle.std.specs.Option.{option_map_or, option_and_then}
use Rattle.std.specs.List.{slice_get}
use Rattle.std.proofs.lemmas.Grind.{common_steps}
use Rattle.std.proofs.lemmas.Option.{slice_get_cases, slice_get_within, get_or_from_slice_get}
use Rattle.std.proofs.lemmas.List.{append-nil, append_assoc, take_all, take_more}
use Rattle.aa_model.specs.declared.policy.Policy.{Policy}
use Rattle.aa_model.specs.declared.policy.Profile.{Profile}
use Rattle.aa_model.specs.declared.label.Label.{Label}
use Rattle.aa_model.specs.declared.label.Label.TheVariants.{Unconfined, Confined}
use Rattle.aa_compile.specs.FileRules.{is_nil}
use Rattle.aa_compile.specs.Labels.{profile_in, first_profiles}
use Rattle.aa_claims.specs.declared.words.ClaimWord.{ClaimWord}
use Rattle.aa_undecided.specs.Answers.{PlacedFile}
use Rattle.aa_assert.specs.declared.asked.Asked.{Asked}
use Rattle.aa_assert.specs.declared.part.Part.{Part}
use Rattle.aa_who.specs.Untold.{Untold}
use Rattle.aa_assert.specs.Scope.{is_about, is_about_free}
use Rattle.aa_assert.specs.Findings.{Found, AllFound, or_else, is_found, AreFoundAt, first_some, all_of, labels_from, labels_about, files_concerned}
use Rattle.aa_assert.specs.Findings.{IsFoundAt, AreFoundOf}
use Rattle.aa_command.specs.Counts.{count_of}

-- ---- lists of files

pub else_nil : (xs : List PlacedFile) → or_else xs [] ≡ xs
else_nil [] = refl
else_nil (x ∷ xs) = refl

else_assoc : (xs ys zs : List PlacedFile) → or_else (or_else xs ys) zs ≡ or_else xs (or_else ys zs)
else_assoc [] ys zs = refl
else_assoc (x ∷ xs) ys zs = refl

doubts_more : (found : List AllFound) (fs : AllFound)
    → first_some (map (λ (x : AllFound). x.doubt) (found ++ fs ∷ [])) ≡ or_else (first_some (map (λ (x : AllFound). x.doubt) found)) fs.doubt
doubts_more [] fs = else_nil fs.doubt
doubts_more (x ∷ found) fs =
    ap (or_else x.doubt) (doubts_more found fs) ∙ sym (else_assoc x.doubt (first_some (map (λ (y : AllFound). y.doubt) found)) fs.doubt)

flat_more : {X : Type 0} (f : AllFound → List X) (found : List AllFound) (fs : AllFound) → flat_map f (found ++ fs ∷ []) ≡ flat_map f found ++ f fs
flat_more f [] fs = append-nil (f fs)
flat_more f (x ∷ found) fs = ap (λ ys. f x ++ ys) (flat_more f found fs) ∙ sym (append_assoc (f x) (flat_map f found) (f fs))

pub made : (a b h k : List Found) (c e : List Untold) (f g : List PlacedFile) → a ≡ b → h ≡ k → c ≡ e → f ≡ g
    → (let x : AllFound = record { list = a; apart = h; untold = c; doubt = f } in x) ≡ record { list = b; apart = k; untold = e; doubt = g }
made a b h k c e f g same beside alike like =
    let first : (x : List Found) → AllFound = λ x. record { list = x; apart = h; untold = c; doubt = f } in
    let second : (x : List Found) → AllFound = λ x. record { list = b; apart = x; untold = c; doubt = f } in
    let next : (x : List Untold) → AllFound = λ x. record { list = b; apart = k; untold = x; doubt = f } in
    let last : (x : List PlacedFile) → AllFound = λ x. record { list = b; apart = k; untold = e; doubt = x } in
    ap first same ∙ (ap second beside ∙ (ap next alike ∙ ap last like))

-- all of two
pub all_two : (was fs : AllFound) → all_of [] (was ∷ fs ∷ []) ≡ record {
  list = was.list ++ fs.list;
  apart = was.apart ++ fs.apart;
  untold = was.untold ++ fs.untold;
  doubt = or_else was.doubt fs.doubt;
}
all_two was fs =
    made _ _ _ _ _ _ _ _
    (ap (λ xs. was.list ++ xs) (append-nil fs.list))
    (ap (λ xs. was.apart ++ xs) (append-nil fs.apart))
    (ap (λ xs. was.untold ++ xs) (append-nil fs.untold))
    (ap (or_else was.doubt) (else_nil fs.doubt))

-- one more is added
pub all_more : (concerned : List PlacedFile) (found : List AllFound) (fs : AllFound)
    → all_of concerned (found ++ fs ∷ []) ≡ all_of [] (all_of concerned found ∷ fs ∷ [])
all_more concerned found fs =
    made _ _ _ _ _ _ _ _
    (flat_more (λ (x : AllFound). x.list) found fs)
    (flat_more (λ (x : AllFound). x.apart) found fs)
    (flat_more (λ (x : AllFound). x.untold) found fs)
    (ap (or_else concerned) (doubts_more found fs) ∙ sym (else_assoc concerned (first_some (map (λ (x : AllFound). x.doubt) found)) fs.doubt))
    ∙ sym (all_two (all_of concerned found) fs)

-- ---- where the first is wanted alone

never : (b : Bool) → (b && false) ≡ false
never true = refl
never false = refl

-- nobody is found: so it is in each part
not_done : (first : Bool) (xs ys : List Found) → (first && not (is_nil (xs ++ ys))) ≡ false
    → ((first && not (is_nil xs)) ≡ false) × ((first && not (is_nil ys)) ≡ false)
not_done false xs ys e = (refl, refl)
not_done true [] ys e = (refl, e)
not_done true (x ∷ xs) ys e = absurd (true≢false e)

-- somebody is found, not in the first part
done_behind : (first : Bool) (xs ys : List Found) → (first && not (is_nil (xs ++ ys))) ≡ true → (first && not (is_nil xs)) ≡ false
    → (first && not (is_nil ys)) ≡ true
done_behind false xs ys e f = e
done_behind true [] ys e f = e
done_behind true (x ∷ xs) ys e f = absurd (true≢false f)

module _ (first : Bool) (At : Label → AllFound → Type 0) where
  abbrev all_list : List AllFound → List Found
  all_list found = flat_map (λ (fs : AllFound). fs.list) found

  -- one more label is looked at
  pub more_at : (ls : List Label) (l : Label) (found : List AllFound) (fs : AllFound) → AreFoundAt first At ls found
      → (first && not (is_nil (all_list found))) ≡ false → At l fs → AreFoundAt first At (ls ++ l ∷ []) (found ++ fs ∷ [])
  more_at [] l found fs are free is =
      subst (λ (x : List AllFound). AreFoundAt first At (l ∷ []) (x ++ fs ∷ [])) (sym are) (is, last (first && is_found fs))
    where
      last : (b : Bool) → MatchBool b (let none : List AllFound = [] in none ≡ []) (let none : List AllFound = [] in none ≡ [])
      last true = refl
      last false = refl
  more_at (k ∷ ls) l [] fs are free is = absurd are
  more_at (k ∷ ls) l (g ∷ found) fs are free is =
      let parts = not_done first g.list (all_list found) free in
      (are.0, on (first && is_found g) parts.0 are.1 (λ m. more_at ls l found fs m parts.1 is))
    where
      on : (b : Bool) → b ≡ false → MatchBool b (found ≡ []) (AreFoundAt first At ls found)
          → (AreFoundAt first At ls found → AreFoundAt first At (ls ++ l ∷ []) (found ++ fs ∷ []))
          → MatchBool b (found ++ fs ∷ [] ≡ []) (AreFoundAt first At (ls ++ l ∷ []) (found ++ fs ∷ []))
      on true e m onward = absurd (true≢false e)
      on false e m onward = onward m

  -- nobody looks at more
  pub done_at : (ls more : List Label) (found : List AllFound) → AreFoundAt first At ls found → (first && not (is_nil (all_list found))) ≡ true
      → AreFoundAt first At (ls ++ more) found
  done_at [] more found are done =
      absurd (true≢false (sym done ∙ (ap (λ (x : List AllFound). first && not (is_nil (all_list x))) are ∙ never first)))
  done_at (k ∷ ls) more [] are done = absurd are
  done_at (k ∷ ls) more (g ∷ found) are done =
      (are.0, on (first && is_found g) refl are.1 (λ e m. done_at ls more found m (done_behind first g.list (all_list found) done e)))
    where
      on : (b : Bool) → (first && is_found g) ≡ b → MatchBool b (found ≡ []) (AreFoundAt first At ls found)
          → ((first && is_found g) ≡ false → AreFoundAt first At ls found → AreFoundAt first At (ls ++ more) found)
          → MatchBool b (found ≡ []) (AreFoundAt first At (ls ++ more) found)
      on true e m onward = m
      on false e m onward = onward e m

-- ---- profiles one after another

-- its label, if the claim is about it
abbrev label_if : List ClaimWord → ℕ → Profile → List Label
label_if ws n p = if is_about ws p.name then Confined 0 n ∷ [] else []

-- behind one profile more
from_rest : (ws : List ClaimWord) (k : ℕ) (q : Profile) (ps : List Profile) (p : Profile)
    → labels_from ws (suc k) (ps ++ p ∷ []) ≡ labels_from ws (suc k) ps ++ label_if ws (suc k + length ps) p
    → labels_from ws k (q ∷ ps ++ p ∷ []) ≡ labels_from ws k (q ∷ ps) ++ label_if ws (k + length (q ∷ ps)) p
from_rest ws k q ps p is = on (is_about ws q.name)
  where
    rest : labels_from ws (suc k) (ps ++ p ∷ []) ≡ labels_from ws (suc k) ps ++ label_if ws (k + length (q ∷ ps)) p
    rest =
        let same : suc k + length ps ≡ k + suc (length ps) = omega arith in
        is ∙ ap (λ (n : ℕ). labels_from ws (suc k) ps ++ label_if ws n p) same

    on : (b : Bool) → (if b then Confined 0 k ∷ labels_from ws (suc k) (ps ++ p ∷ []) else labels_from ws (suc k) (ps ++ p ∷ []))
        ≡ (if b then Confined 0 k ∷ labels_from ws (suc k) ps else labels_from ws (suc k) ps) ++ label_if ws (k + length (q ∷ ps)) p
    on true = ap (λ (ls : List Label). Confined 0 k ∷ ls) rest
    on false = rest

from_more : (ws : List ClaimWord) (k : ℕ) (ps : List Profile) (p : Profile)
    → labels_from ws k (ps ++ p ∷ []) ≡ labels_from ws k ps ++ label_if ws (k + length ps) p
from_more ws k [] p = ap (λ (n : ℕ). label_if ws n p) (let same : k ≡ k + 0 = omega arith in same)
from_more ws k (q ∷ ps) p = from_rest ws k q ps p (from_more ws (suc k) ps p)

about_more : (ws : List ClaimWord) (ps : List Profile) (p : Profile)
    → labels_about ws (ps ++ p ∷ []) ≡ labels_about ws ps ++ label_if ws (length ps) p
about_more ws ps p = on (is_about_free ws)
  where
    start : labels_from ws 0 (ps ++ p ∷ []) ≡ labels_from ws 0 ps ++ label_if ws (length ps) p
    start =
        let same : 0 + length ps ≡ length ps = omega arith in
        from_more ws 0 ps p ∙ ap (λ (n : ℕ). labels_from ws 0 ps ++ label_if ws n p) same

    on : (b : Bool) → (if b then Unconfined 0 ∷ labels_from ws 0 (ps ++ p ∷ []) else labels_from ws 0 (ps ++ p ∷ []))
        ≡ (if b then Unconfined 0 ∷ labels_from ws 0 ps else labels_from ws 0 ps) ++ label_if ws (length ps) p
    on true = ap (λ (ls : List Label). Unconfined 0 ∷ ls) start
    on false = start

module _ (first : Bool) (d : Part) (limit : ℕ) (ws : List ClaimWord) (a : Asked) (text : List ℕ) where
  abbrev At : Label → AllFound → Type 0
  At l fs = IsFoundAt d limit a text l fs

  abbrev Of : List Profile → AllFound → Type 0
  Of ps fs = AreFoundOf first d limit ws a text ps fs

  -- it isn't looked at
  pub passed : (ps : List Profile) (p : Profile) (was : AllFound) → ((first && is_found was) || not (is_about ws p.name)) ≡ true → Of ps was
      → Of (ps ++ p ∷ []) was
  passed ps p was so of =
      (of.0, subst (λ (ls : List Label). AreFoundAt first At ls of.0) (sym (about_more ws ps p)) (on (first && is_found was) (is_about ws p.name) refl so), of.2)
    where
      on : (b c : Bool) → (first && is_found was) ≡ b → (b || not c) ≡ true
          → AreFoundAt first At (labels_about ws ps ++ (if c then Confined 0 (length ps) ∷ [] else [])) of.0
      on true c f h =
          done_at first At (labels_about ws ps) (if c then Confined 0 (length ps) ∷ [] else []) of.0 of.1
          (ap (λ (x : AllFound). first && is_found x) (sym of.2) ∙ f)
      on false true f h = absurd (true≢false (sym h))
      on false false f h = subst (λ (ls : List Label). AreFoundAt first At ls of.0) (sym (append-nil (labels_about ws ps))) of.1

  -- it is looked at
  pub looked : (ps : List Profile) (p : Profile) (was now fs : AllFound) → ((first && is_found was) || not (is_about ws p.name)) ≡ false
      → At (Confined 0 (length ps)) fs → now ≡ all_of [] (was ∷ fs ∷ []) → Of ps was → Of (ps ++ p ∷ []) now
  looked ps p was now fs so is more of = (
    of.0 ++ fs ∷ [],
    subst (λ (ls : List Label). AreFoundAt first At ls (of.0 ++ fs ∷ [])) (sym (about_more ws ps p))
        (on (first && is_found was) (is_about ws p.name) refl so),
    more ∙ (ap (λ (x : AllFound). all_of [] (x ∷ fs ∷ [])) of.2 ∙ sym (all_more (files_concerned ws d) of.0 fs)),
  )
    where
      on : (b c : Bool) → (first && is_found was) ≡ b → (b || not c) ≡ false
          → AreFoundAt first At (labels_about ws ps ++ (if c then Confined 0 (length ps) ∷ [] else [])) (of.0 ++ fs ∷ [])
      on true c f h = absurd (true≢false h)
      on false false f h = absurd (true≢false h)
      on false true f h =
          more_at first At (labels_about ws ps) (Confined 0 (length ps)) of.0 fs of.1 (ap (λ (x : AllFound). first && is_found x) (sym of.2) ∙ f) is

  -- ---- tasks without a profile

  pub none_free : (fs : AllFound) → is_about_free ws ≡ false → fs ≡ all_of (files_concerned ws d) [] → Of [] fs
  none_free fs e all =
      ([], subst (λ (b : Bool). AreFoundAt first At (if b then Unconfined 0 ∷ [] else []) []) (sym e) refl, all)

  pub one_free : (now fs : AllFound) → is_about_free ws ≡ true → At (Unconfined 0) fs
      → now ≡ all_of [] (all_of (files_concerned ws d) [] ∷ fs ∷ []) → Of [] now
  one_free now fs e is all = (
    fs ∷ [],
    subst (λ (b : Bool). AreFoundAt first At (if b then Unconfined 0 ∷ [] else []) (fs ∷ [])) (sym e)
        (more_at first At [] (Unconfined 0) [] fs refl (never first) is),
    all ∙ sym (all_more (files_concerned ws d) [] fs),
  )

-- ---- by their numbers

module _ (policies : List Policy) where
  pub numbered : (n : ℕ) → profile_in policies 0 n ≡ slice_get (first_profiles policies) n
  numbered n = on (slice_get policies 0)
    where
      on : (o : Option Policy) → option_and_then (λ (p : Policy). slice_get p.profiles n) o
          ≡ slice_get (option_map_or (λ (p : Policy). p.profiles) o []) n
      on None = refl
      on (Some p) = refl

  pub as_many : count_of policies ≡ length (first_profiles policies)
  as_many = on (slice_get policies 0)
    where
      on : (o : Option Policy) → option_map_or (λ (p : Policy). length p.profiles) o 0 ≡ length (option_map_or (λ (p : Policy). p.profiles) o [])
      on None = refl
      on (Some p) = refl

  pub all_taken : take (count_of policies) (first_profiles policies) ≡ first_profiles policies
  all_taken = take_all (count_of policies) (first_profiles policies) (omega (arith, as_many))

taken_length : (ps : List Profile) (n : ℕ) → n ≤ length ps → length (take n ps) ≡ n
taken_length ps zero le = refl
taken_length [] (suc n) le = absurd (omega (arith, le))
taken_length (p ∷ ps) (suc n) le = ap suc (taken_length ps n (grind (arith, common_steps)))

-- the next profile is there
pub one_taken : (ps : List Profile) (n : ℕ) (p : Profile) → slice_get ps n ≡ Some p
    → (take (n + 1) ps ≡ take n ps ++ p ∷ []) × (length (take n ps) ≡ n)
one_taken ps n p e =
    let lt = slice_get_within ps n p e in
    (take_more ps n p lt ∙ ap (λ (q : Profile). take n ps ++ q ∷ []) (get_or_from_slice_get ps n p p e), taken_length ps n (omega (arith, lt)))

-- no profile is there
pub none_taken : (ps : List Profile) (n : ℕ) → slice_get ps n ≡ None → take (n + 1) ps ≡ take n ps
none_taken ps n e =
    ⊎_elim
    (λ (here : (x : Profile) × (n < length ps) × (slice_get ps n ≡ Some x) × (get_or ps n x ≡ x)). absurd (let f : Some here.0 ≡ None = sym here.2 ∙ e in cc))
    (λ (none : (length ps ≤ n) × (slice_get ps n ≡ None)). take_all (n + 1) ps (omega (arith, none.0)) ∙ sym (take_all n ps none.0))
    (slice_get_cases ps n).1
