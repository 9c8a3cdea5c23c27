-- A mode lets a program be executed exactly where it says how, and under deny it doesn't say how.
use Rattle.std.proofs.Common.{◌≡◌, ℕ, ◌<◌, ◌*◌, List, [], ◌∷◌, ◌++◌, Bool, true, false, Option, Some, None, refl, sym, ap, subst, ◌∙◌, cond, lit<, lit≤, inl, inr}
use Rattle.std.specs.Prelude.{◌&&◌, codes, bit_or, ◌==◌, is_some}
use Rattle.std.specs.Str.{bytes_eq}
use Rattle.std.specs.Option.{option_map}
use Rattle.std.proofs.lemmas.Option.{option_and_then_some, same_Some}
use Rattle.std.proofs.lemmas.Nat.{or_lt, and_or_self}
use Rattle.std.proofs.lemmas.Nat.Bits.{and_pow, bit_at_above}
use Rattle.aa_words.specs.Splits.{WordData}
use Rattle.aa_rules.specs.declared.modes.ExecMode.{ExecMode}
use Rattle.aa_rules.specs.declared.modes.Mode.{Mode}
use Rattle.aa_rules.specs.declared.tree.Qualifiers.{Qualifiers}
use Rattle.aa_rules.specs.Modes.{letter_bits, letters_bits, has_letter, exec_of, mode, with_part, part_of, front_of, back_of, mode_of}
use Rattle.aa_rules.specs.FileRules.{IsPair, IsEntry, IsFile, exec_with}
use Rattle.aa_rules.specs.Reading.{EntryData, ExecData, FileData}
use Rattle.aa_model.specs.Lawful.{has_exec}
use Rattle.aa_policy.specs.Spelling as spelling
use Rattle.aa_policy.proofs.Refusals.{true_false}
use Rattle.aa_rules.proofs.Phrases.{false_true}

abbrev IsLow : Option ℕ → Type 0
IsLow o = (b : ℕ) → o ≡ Some b → b < 64

low : (n : ℕ) → n < 64 → IsLow (Some n)
low n h b e = subst (λ (x : ℕ). x < 64) (same_Some n b e) h

low_none : IsLow None
low_none b e = absurd cc

low_if : (t : Bool) (o p : Option ℕ) → IsLow o → IsLow p → IsLow (cond t o p)
low_if true o p h k = h
low_if false o p h k = k

letter_low : (c : ℕ) → IsLow (letter_bits c)
letter_low c =
    low_if (c == 114) _ _ (low 1 (lit< tt)) (low_if (c == 119) _ _ (low 6 (lit< tt)) (low_if (c == 97) _ _ (low 4 (lit< tt))
    (low_if (c == 108) _ _ (low 8 (lit< tt)) (low_if (c == 107) _ _ (low 16 (lit< tt)) (low_if (c == 109) _ _ (low 32 (lit< tt)) low_none)))))

-- access letters don't let a program be executed
letters_low : (n : ℕ) (cs : List ℕ) (b : ℕ) → n < 64 → letters_bits n cs ≡ Some b → b < 64
unfolding letters_bits
letters_low n [] b h e = low n h b e
letters_low n (c ∷ cs) b h e =
    option_and_then_some _ (letter_bits c) b e (λ m q r. letters_low (bit_or n m) cs b (or_lt 6 n m h (letter_low c m q)) r)

no_exec : (n : ℕ) → n < 64 → has_exec (record { 0 = n }) ≡ false
no_exec n h = ap (λ (x : ℕ). x == 64) (and_pow n 6 ∙ ap (λ (x : ℕ). x * 64) (bit_at_above n 6 6 h (lit≤ tt)))

with_exec : (n : ℕ) → has_exec (record { 0 = bit_or n 64 }) ≡ true
with_exec n = ap (λ (x : ℕ). x == 64) (and_or_self 64 n)

-- what a mode keeps
record IsLawfulMode (deny : Bool) (m : Mode) : Type 0 where
  allowed : deny ≡ false → has_exec m.perms ≡ is_some m.exec
  denied : deny ≡ true → is_some m.exec ≡ false

abbrev AllLawful : Bool → Option Mode → Type 0
AllLawful deny o = (m : Mode) → o ≡ Some m → IsLawfulMode deny m

one_lawful : (deny : Bool) (m : Mode) → IsLawfulMode deny m → AllLawful deny (Some m)
one_lawful deny m h n e = subst (λ (x : Mode). IsLawfulMode deny x) (same_Some m n e) h

none_lawful : (deny : Bool) → AllLawful deny None
none_lawful deny m e = absurd cc

lawful_if : (deny : Bool) (t : Bool) (o p : Option Mode) → AllLawful deny o → AllLawful deny p → AllLawful deny (cond t o p)
lawful_if deny true o p h k = h
lawful_if deny false o p h k = k

said_lawful : (bits : ℕ) (o : Option ExecMode) → AllLawful false (option_map (λ e. mode (bit_or bits 64) (Some e)) o)
said_lawful bits None = none_lawful false
said_lawful bits (Some e) = one_lawful false _ (record { allowed = λ _. with_exec bits; denied = λ h. absurd (false_true h) })

part_lawful : (deny : Bool) (part : List ℕ) (bits : ℕ) → bits < 64 → AllLawful deny (with_part deny part bits)
unfolding with_part
part_lawful true [] bits h = one_lawful true _ (record { allowed = λ _. no_exec bits h; denied = λ _. refl })
part_lawful false [] bits h = one_lawful false _ (record { allowed = λ _. no_exec bits h; denied = λ _. refl })
part_lawful true (c ∷ cs) bits h =
    lawful_if true (bytes_eq (c ∷ cs) (codes "x")) _ _ (one_lawful true _ (record { allowed = λ e. absurd (true_false e); denied = λ _. refl })) (none_lawful true)
part_lawful false (c ∷ cs) bits h = said_lawful bits (exec_of (c ∷ cs))

mode_lawful : (deny : Bool) (text : List ℕ) → AllLawful deny (mode_of deny text)
unfolding mode_of
mode_lawful deny text = lawful_if deny (has_letter 119 text && has_letter 97 text) None _ (none_lawful deny)
    (λ m e. option_and_then_some _ (letters_bits 0 (front_of text ++ back_of text)) m e (λ bits q r. part_lawful deny (part_of text) bits (letters_low 0 _ bits (lit< tt) q) m r))

pair_lawful : (deny : Bool) (ws : List WordData) (e : EntryData) (r : List WordData) → IsPair deny ws e r → IsLawfulMode deny e.mode
pair_lawful deny ws e r (inl a) = mode_lawful deny a.2.word.text e.mode a.2.says
pair_lawful deny ws e r (inr a) = mode_lawful deny a.1.word.text e.mode a.1.says

entry_lawful : (deny : Bool) (ws : List WordData) (e : EntryData) (r : List WordData) → IsEntry deny ws e r → IsLawfulMode deny e.mode
entry_lawful deny ws e r (inl a) = mode_lawful deny _ e.mode a.says
entry_lawful deny ws e r (inr a) = pair_lawful deny a.bare e r a.pair

-- what is meant says how where what is written does
said_same : (target : Option (List ℕ)) (exec : Option ExecMode) → is_some (option_map spelling.exec_meant (exec_with target exec)) ≡ is_some exec
said_same target None = refl
said_same target (Some e) = refl

-- a file rule as written permits execution exactly where it says how, and one with deny doesn't say how
pub record IsLawfulFile (f : FileData) : Type 0 where
  pub allowed : f.qualifiers.deny ≡ false → has_exec f.perms ≡ is_some (option_map spelling.exec_meant f.exec)
  pub denied : f.qualifiers.deny ≡ true → is_some (option_map spelling.exec_meant f.exec) ≡ false

pub file_lawful : (q : Qualifiers) (ws : List WordData) (f : FileData) (r : List WordData) → IsFile q ws f r → IsLawfulFile f
file_lawful q ws f r a =
    let l = entry_lawful q.deny a.bare a.entry a.after a.entry_stands in
    let deny : f.qualifiers.deny ≡ q.deny = ap (λ (x : Qualifiers). x.deny) a.qualifiers_are in
    let said : is_some (option_map spelling.exec_meant f.exec) ≡ is_some a.entry.mode.exec =
    ap (λ (x : Option ExecData). is_some (option_map spelling.exec_meant x)) a.exec_is ∙ said_same a.target a.entry.mode.exec in
    record { allowed = λ h. ap has_exec a.perms_are ∙ l.allowed (sym deny ∙ h) ∙ sym said; denied = λ h. said ∙ l.denied (sym deny ∙ h) }
