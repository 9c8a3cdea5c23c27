-- The parts of a mode.
use Rattle.std.proofs.Common.{◌≡◌, ℕ, ◌&&◌, ◌⊎◌, ◌↔◌, Bool, true, false, cond, List, [], ◌∷◌, ◌++◌, map, refl, sym, ap, ◌∙◌, arith, inl, inr, Some, None, Option, unwrap_or}
use Rattle.std.specs.Prelude.{codes, bit_or, is_some, option_and_then, option_map}
use Rattle.std.specs.List.{list_all, fold, prefix_len, take_while}
use Rattle.std.specs.Str.{bytes_eq}
use Rattle.std.proofs.lemmas.Bool.{and_parts}
use Rattle.std.proofs.lemmas.Bool.Decides.{nat_tests}
use Rattle.std.proofs.lemmas.List.{take-append-drop, append-nil}
use Rattle.std.proofs.lemmas.Slice.Eq.{bytes_eq-Decides}
use Rattle.aa_rules.specs.declared.modes.ExecMode.{ExecMode}
use Rattle.aa_rules.specs.declared.modes.Mode.{Mode}
use Rattle.aa_rules.specs.Modes.{letter_bits, letters_bits, is_access_letter, is_exec_letter, exec_of, with_part, behind, front_of, part_of, back_of, parts_of, writes_and_appends, mode_of, mode}
use Rattle.aa_language_laws.proofs.Fronts.{taken_cons, left_cons, taken_over, left_over, taken_none, left_none, all_both, all_front, all_back}
use Rattle.aa_language_laws.specs.ModeParts.{AreAccess, granted, Adds, IsModeOf}

access_no_exec : (c : ℕ) → is_access_letter c ≡ true → is_exec_letter c ≡ false
access_no_exec c h = grind (arith, nat_tests)

exec_no_access : (c : ℕ) → is_exec_letter c ≡ true → is_access_letter c ≡ false
exec_no_access c h = grind (arith, nat_tests)

abbrev bits_of : List ℕ → List ℕ
bits_of letters = map (λ c. unwrap_or (letter_bits c) 0) letters

one_granted : (o : Option ℕ) (bits : ℕ) (cs : List ℕ) → ((b : ℕ) → list_all is_access_letter cs ≡ true → letters_bits b cs ≡ Some (fold bit_or b (bits_of cs)))
    → (is_some o && list_all is_access_letter cs) ≡ true → option_and_then (λ b. letters_bits (bit_or bits b) cs) o ≡ Some (fold bit_or (bit_or bits (unwrap_or o 0)) (bits_of cs))
one_granted None bits cs h a = absurd cc
one_granted (Some b) bits cs h a = h (bit_or bits b) a

all_granted : (letters : List ℕ) (bits : ℕ) → list_all is_access_letter letters ≡ true → letters_bits bits letters ≡ Some (fold bit_or bits (bits_of letters))
unfolding letters_bits
all_granted [] bits h = refl
all_granted (c ∷ cs) bits h = one_granted (letter_bits c) bits cs (all_granted cs) h

one_access : (o : Option ℕ) (bits total : ℕ) (cs : List ℕ) → ((b : ℕ) → letters_bits b cs ≡ Some total → list_all is_access_letter cs ≡ true)
    → option_and_then (λ b. letters_bits (bit_or bits b) cs) o ≡ Some total → (is_some o && list_all is_access_letter cs) ≡ true
one_access None bits total cs h e = absurd cc
one_access (Some b) bits total cs h e = h (bit_or bits b) e

all_access : (letters : List ℕ) (bits total : ℕ) → letters_bits bits letters ≡ Some total → list_all is_access_letter letters ≡ true
unfolding letters_bits
all_access [] bits total e = refl
all_access (c ∷ cs) bits total e = one_access (letter_bits c) bits total cs (λ b. all_access cs b total) e

-- exec parts are of exec letters
abbrev AreExec : List ℕ → Type 0
AreExec part = list_all is_exec_letter part ≡ true

in_table : (part word : List ℕ) (v : Bool) → bytes_eq part word ≡ v → (here next : Option ExecMode) (how : ExecMode) → AreExec word → (next ≡ Some how → AreExec part) → cond v here next ≡ Some how → AreExec part
in_table part word true same here next how w h e = ap (list_all is_exec_letter) ((bytes_eq-Decides part word).0 same) ∙ w
in_table part word false same here next how w h e = h e

table_exec : (part : List ℕ) (how : ExecMode) → exec_of part ≡ Some how → AreExec part
unfolding exec_of
table_exec part how =
    in_table part (codes "ix") _ refl _ _ how refl (in_table part (codes "ux") _ refl _ _ how refl (in_table part (codes "Ux") _ refl _ _ how refl
    (in_table part (codes "px") _ refl _ _ how refl (in_table part (codes "Px") _ refl _ _ how refl (in_table part (codes "cx") _ refl _ _ how refl
    (in_table part (codes "Cx") _ refl _ _ how refl (in_table part (codes "pix") _ refl _ _ how refl (in_table part (codes "Pix") _ refl _ _ how refl
    (in_table part (codes "cix") _ refl _ _ how refl (in_table part (codes "Cix") _ refl _ _ how refl (in_table part (codes "pux") _ refl _ _ how refl
    (in_table part (codes "PUx") _ refl _ _ how refl (in_table part (codes "cux") _ refl _ _ how refl (in_table part (codes "CUx") _ refl _ _ how refl (λ e. absurd cc)))))))))))))))

exec_in : (deny : Bool) (part : List ℕ) (bits : ℕ) (m : Mode) → Adds deny part bits m → AreExec part
exec_in true part bits m a = ap (list_all is_exec_letter) a.0
exec_in false part bits m a = table_exec part a.0 a.1

abbrev Says : Bool → List ℕ → ℕ → Mode → Type 0
Says deny part bits m = ((part ≡ []) × (m ≡ mode bits None)) ⊎ Adds deny part bits m

denied : (part : List ℕ) (bits : ℕ) (m : Mode) (v : Bool) → bytes_eq part (codes "x") ≡ v → cond v (Some (mode (bit_or bits 64) None)) None ≡ Some m → Adds true part bits m
denied part bits m true same e = ((bytes_eq-Decides part (codes "x")).0 same, cc)
denied part bits m false same e = absurd cc

allowed : (part : List ℕ) (bits : ℕ) (m : Mode) (o : Option ExecMode) → exec_of part ≡ o → option_map (λ e. mode (bit_or bits 64) (Some e)) o ≡ Some m → Adds false part bits m
allowed part bits m None same e = absurd cc
allowed part bits m (Some how) same e = (how, same, cc)

says_so : (deny : Bool) (part : List ℕ) (bits : ℕ) (m : Mode) → with_part deny part bits ≡ Some m → Says deny part bits m
unfolding with_part
says_so deny [] bits m e = inl (refl, cc)
says_so true (c ∷ cs) bits m e = inr (denied (c ∷ cs) bits m _ refl e)
says_so false (c ∷ cs) bits m e = inr (allowed (c ∷ cs) bits m _ refl e)

x_alone : (bits : ℕ) → with_part true (codes "x") bits ≡ Some (mode (bit_or bits 64) None)
unfolding with_part
x_alone bits = refl

none_empty : (how : ExecMode) → exec_of [] ≡ Some how → ⊥
unfolding exec_of
none_empty how e = absurd cc

of_table : (part : List ℕ) (bits : ℕ) (how : ExecMode) → exec_of part ≡ Some how → with_part false part bits ≡ Some (mode (bit_or bits 64) (Some how))
unfolding with_part
of_table [] bits how e = absurd (none_empty how e)
of_table (c ∷ cs) bits how e = ap (option_map (λ h. mode (bit_or bits 64) (Some h))) e

adds_so : (deny : Bool) (part : List ℕ) (bits : ℕ) (m : Mode) → Adds deny part bits m → with_part deny part bits ≡ Some m
adds_so true part bits m a = ap (λ (x : List ℕ). with_part true x bits) a.0 ∙ x_alone bits ∙ ap Some (sym a.1)
adds_so false part bits m a = of_table part bits a.0 a.1 ∙ ap Some (sym a.2)

-- the text is cut into these letters and this exec part
abbrev IsCut : List ℕ → List ℕ → List ℕ → Type 0
IsCut text letters part = (front_of text ++ back_of text ≡ letters) × (part_of text ≡ part)

whole_front : (letters : List ℕ) → AreAccess letters → IsCut letters letters []
whole_front letters h =
    let t : take_while is_access_letter letters ≡ letters = simp append-nil at (taken_over is_access_letter letters [] h) in
    let b : behind is_access_letter letters ≡ [] = simp append-nil at (left_over is_access_letter letters [] h) in
    (ap (λ (x : List ℕ). take_while is_access_letter letters ++ behind is_exec_letter x) b ∙ append-nil (take_while is_access_letter letters) ∙ t, ap (take_while is_exec_letter) b)

in_parts : (front : List ℕ) (c : ℕ) (cs back : List ℕ) → AreAccess front → AreExec (c ∷ cs) → AreAccess back → IsCut (front ++ ((c ∷ cs) ++ back)) (front ++ back) (c ∷ cs)
in_parts front c cs back f p b =
    let other : is_access_letter c ≡ false = exec_no_access c (and_parts (is_exec_letter c) (list_all is_exec_letter cs) p).0 in
    let t : front_of (front ++ ((c ∷ cs) ++ back)) ≡ front = taken_over is_access_letter front ((c ∷ cs) ++ back) f
    ∙ ap (λ (x : List ℕ). front ++ x) (taken_cons is_access_letter c (cs ++ back) false other) ∙ append-nil front in
    let l : behind is_access_letter (front ++ ((c ∷ cs) ++ back)) ≡ (c ∷ cs) ++ back = left_over is_access_letter front ((c ∷ cs) ++ back) f ∙ left_cons is_access_letter c (cs ++ back) false other in
    let u : take_while is_exec_letter ((c ∷ cs) ++ back) ≡ c ∷ cs = taken_over is_exec_letter (c ∷ cs) back p
    ∙ ap (λ (x : List ℕ). (c ∷ cs) ++ x) (taken_none is_exec_letter is_access_letter access_no_exec back b) ∙ append-nil (c ∷ cs) in
    let v : behind is_exec_letter ((c ∷ cs) ++ back) ≡ back = left_over is_exec_letter (c ∷ cs) back p ∙ left_none is_exec_letter is_access_letter access_no_exec back b in
    (ap (λ (x : List ℕ). x ++ back_of (front ++ ((c ∷ cs) ++ back))) t ∙ ap (λ (x : List ℕ). front ++ x) (ap (behind is_exec_letter) l ∙ v), ap (take_while is_exec_letter) l ∙ u)

cut : (front part back : List ℕ) → AreAccess front → AreExec part → AreAccess back → IsCut (front ++ (part ++ back)) (front ++ back) part
cut front [] back f p b = whole_front (front ++ back) (all_both is_access_letter front back f b)
cut front (c ∷ cs) back f p b = in_parts front c cs back f p b

part_exec : (deny : Bool) (part : List ℕ) (bits : ℕ) (m : Mode) → Says deny part bits m → AreExec part
part_exec deny part bits m (inl e) = ap (list_all is_exec_letter) e.0
part_exec deny part bits m (inr a) = exec_in deny part bits m a

said : (deny : Bool) (part : List ℕ) (bits : ℕ) (m : Mode) → Says deny part bits m → with_part deny part bits ≡ Some m
unfolding with_part
said deny part bits m (inl e) = ap (λ (x : List ℕ). with_part deny x bits) e.0 ∙ ap Some (sym e.1)
said deny part bits m (inr a) = adds_so deny part bits m a

both_said : (deny : Bool) (text letters part : List ℕ) (m : Mode) → IsCut text letters part → AreAccess letters → with_part deny part (granted letters) ≡ Some m → parts_of deny text ≡ Some m
both_said deny text letters part m c a w =
    ap (λ (x : List ℕ). option_and_then (λ bits. with_part deny (part_of text) bits) (letters_bits 0 x)) c.0
    ∙ ap (option_and_then (λ bits. with_part deny (part_of text) bits)) (all_granted letters 0 a)
    ∙ ap (λ (x : List ℕ). with_part deny x (granted letters)) c.1 ∙ w

spelled_mode : (deny : Bool) (text : List ℕ) (m : Mode) → IsModeOf deny text m → mode_of deny text ≡ Some m
unfolding mode_of
spelled_mode deny text m i =
    let c = cut i.front i.part i.back i.front_is (part_exec deny i.part _ m i.says) i.back_is in
    let p = both_said deny (i.front ++ (i.part ++ i.back)) (i.front ++ i.back) i.part m c (all_both is_access_letter i.front i.back i.front_is i.back_is) (said deny i.part _ m i.says) in
    ap (λ (v : Bool). cond v None (parts_of deny text)) i.apart ∙ ap (parts_of deny) i.whole ∙ p

put_together : (text : List ℕ) → text ≡ front_of text ++ (part_of text ++ back_of text)
put_together text =
    let outer = take-append-drop (prefix_len is_access_letter text) text in
    let inner = take-append-drop (prefix_len is_exec_letter (behind is_access_letter text)) (behind is_access_letter text) in
    sym (ap (λ (x : List ℕ). front_of text ++ x) inner ∙ outer)

by_letters : (deny : Bool) (text : List ℕ) (m : Mode) (o : Option ℕ) → letters_bits 0 (front_of text ++ back_of text) ≡ o → option_and_then (λ bits. with_part deny (part_of text) bits) o ≡ Some m
    → writes_and_appends text ≡ false → IsModeOf deny text m
by_letters deny text m None l e w = absurd cc
by_letters deny text m (Some bits) l e w =
    let a = all_access (front_of text ++ back_of text) 0 bits l in
    let g = all_granted (front_of text ++ back_of text) 0 a in
    let same : bits ≡ granted (front_of text ++ back_of text) = cc in
    record {
      front = front_of text;
      part = part_of text;
      back = back_of text;
      whole = put_together text;
      front_is = all_front is_access_letter (front_of text) (back_of text) a;
      back_is = all_back is_access_letter (front_of text) (back_of text) a;
      apart = w;
      says = says_so deny (part_of text) (granted (front_of text ++ back_of text)) m (ap (with_part deny (part_of text)) (sym same) ∙ e);
    }

by_apart : (deny : Bool) (text : List ℕ) (m : Mode) (v : Bool) → writes_and_appends text ≡ v → cond v None (parts_of deny text) ≡ Some m → IsModeOf deny text m
by_apart deny text m true w e = absurd cc
by_apart deny text m false w e = by_letters deny text m _ refl e w

pub modes_are : (deny : Bool) (text : List ℕ) (m : Mode) → (mode_of deny text ≡ Some m) ↔ IsModeOf deny text m
unfolding mode_of
modes_are deny text m = (by_apart deny text m _ refl, spelled_mode deny text m)
