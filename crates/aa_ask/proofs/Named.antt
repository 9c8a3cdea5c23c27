-- What rules name of a request, and what the verdict of those that hold says of it.
use Rattle.std.proofs.Common.{◌≡◌, ℕ, ◌+◌, ◌<◌, List, [], ◌∷◌, ◌++◌, Bool, true, false, cond, Some, None, map, refl, sym, ap, ◌∙◌, arith}
use Rattle.std.specs.Prelude.{bit_and, bit_or, ◌==◌, ◌&&◌, not, option_to_list}
use Rattle.std.specs.List.{All, filter}
use Rattle.std.specs.Int.Bits.{and_zero_r, or_zero_l}
use Rattle.std.proofs.lemmas.List.Elements.{All-head, All-tail, All-map}
use Rattle.aa_compile.specs.declared.sets.RuleSets.{RuleSets}
use Rattle.aa_compile.specs.Said.{minus, perms_of, verdict}
use Rattle.aa_compile.specs.Said as said
use Rattle.aa_compile.specs.FileRules.{is_nil}
use Rattle.aa_explain.specs.declared.deciders.Decider.{Decider}
use Rattle.aa_explain.specs.declared.deciders.Listed.{Listed}
use Rattle.aa_explain.specs.declared.told.Saying.{Saying}
use Rattle.aa_explain.specs.Deciders.{part_of, naming_from, unnamed, reasons_by}
use Rattle.aa_ask.specs.Telling.{grant}
use Rattle.aa_ask.proofs.Bits.{minus_le, minus_nothing, minus_part, minus_both, or_below, and_either, missing, denied, none_of_both}

and_true : (b : Bool) → (b && true) ≡ b
and_true true = refl
and_true false = refl

and_false : (b : Bool) → (b && false) ≡ false
and_false true = refl
and_false false = refl

-- what one rule names with that verdict, and what all of them do
abbrev part : Bool → Saying → ℕ
part deny s = cond (s.holds && cond deny s.deny (not s.deny)) s.perms.0 0

abbrev named : Bool → List Saying → ℕ
named deny [] = 0
named deny (s ∷ ss) = bit_or (part deny s) (named deny ss)

abbrev HasByte : Saying → Type 0
HasByte s = s.perms.0 < 256

of_asked : (b : Bool) (bits asked : ℕ) → cond b (bit_and bits asked) 0 ≡ bit_and (cond b bits 0) asked
of_asked true bits asked = refl
of_asked false bits asked = refl

part_is : (deny : Bool) (s : Saying) (asked : ℕ) → part_of deny s asked ≡ bit_and (part deny s) asked
part_is deny s asked = of_asked (s.holds && cond deny s.deny (not s.deny)) s.perms.0 asked

byte_or_none : (b : Bool) (bits : ℕ) → bits < 256 → cond b bits 0 < 256
byte_or_none true bits fits = fits
byte_or_none false bits fits = omega arith

part_fits : (deny : Bool) (s : Saying) → HasByte s → part deny s < 256
part_fits deny s fits = byte_or_none (s.holds && cond deny s.deny (not s.deny)) s.perms.0 fits

named_fits : (deny : Bool) (ss : List Saying) → All HasByte ss → named deny ss < 256
named_fits deny [] fit = omega arith
named_fits deny (s ∷ ss) fit = or_below (part deny s) (named deny ss) (part_fits deny s (All-head HasByte s ss fit)) (named_fits deny ss (All-tail HasByte s ss fit))

pub unnamed_is : (deny : Bool) (asked : ℕ) (ss : List Saying) → asked < 256 → All HasByte ss → unnamed deny asked ss ≡ minus asked (named deny ss)
unfolding unnamed
unnamed_is deny asked [] fits fit = sym (minus_nothing asked fits)
unnamed_is deny asked (s ∷ ss) fits fit =
    let p = part deny s in
    let fp : p < 256 = part_fits deny s (All-head HasByte s ss fit) in
    let rest : All HasByte ss = All-tail HasByte s ss fit in
    let left : minus asked (part_of deny s asked) ≡ minus asked p = ap (minus asked) (part_is deny s asked) ∙ minus_part asked p fits fp in
    let fn : named deny ss < 256 = named_fits deny ss rest in
    ap (λ a. unnamed deny a ss) left
    ∙ (unnamed_is deny (minus asked p) ss (omega (arith, minus_le asked p)) rest
    ∙ minus_both asked p (named deny ss) fits fp fn (or_below p (named deny ss) fp fn))

none_here : (b : Bool) (d : Decider) (rest : List Decider) → is_nil (option_to_list (cond b None (Some d)) ++ rest) ≡ (b && is_nil rest)
none_here true d rest = refl
none_here false d rest = refl

pub naming_is : (deny : Bool) (asked n : ℕ) (ss : List Saying) → asked < 256 → All HasByte ss → is_nil (naming_from deny asked n ss) ≡ (bit_and asked (named deny ss) == 0)
unfolding naming_from
naming_is deny asked n [] fits fit = ap (λ m. m == 0) (sym (and_zero_r asked))
naming_is deny asked n (s ∷ ss) fits fit =
    let p = part deny s in
    let rest : All HasByte ss = All-tail HasByte s ss fit in
    let bits = part_of deny s asked in
    none_here (bits == 0) (record { rule = n; perms = perms_of bits }) (naming_from deny asked (n + 1) ss)
    ∙ (ap (λ b. bits == 0 && b) (naming_is deny asked (n + 1) ss fits rest)
    ∙ (ap (λ m. m == 0 && bit_and asked (named deny ss) == 0) (part_is deny s asked)
    ∙ (sym (none_of_both (bit_and p asked) (bit_and asked (named deny ss)))
    ∙ ap (λ m. m == 0) (sym (and_either asked p (named deny ss) fits (part_fits deny s (All-head HasByte s ss fit)) (named_fits deny ss rest))))))

-- what isn't granted, by what rules name
abbrev blocked_by : Bool → ℕ → ℕ → ℕ → ℕ
blocked_by complain asked allow deny = cond complain (bit_and (minus asked (minus allow deny)) deny) (minus asked (minus allow deny))

granting : (complain : Bool) (listed : Listed) (asked : ℕ) (ss : List Saying) → asked < 256 → All HasByte ss
    → (blocked_by complain asked (named false ss) (named true ss) == 0) ≡ grant complain true (reasons_by listed ss asked)
granting true listed asked ss fits fit =
    ap (λ m. m == 0) (denied asked (named false ss) (named true ss) fits (named_fits false ss fit) (named_fits true ss fit))
    ∙ (sym (naming_is true asked 0 ss fits fit) ∙ sym (and_true (is_nil (naming_from true asked 0 ss))))
granting false listed asked ss fits fit =
    let a = named false ss in
    let d = named true ss in
    let fd : d < 256 = named_fits true ss fit in
    let lacking : unnamed false (unnamed true asked ss) ss ≡ minus (minus asked d) a =
    ap (λ left. unnamed false left ss) (unnamed_is true asked ss fits fit) ∙ unnamed_is false (minus asked d) ss (omega (arith, minus_le asked d)) fit in
    ap (λ m. m == 0) (missing asked a d fits (named_fits false ss fit) fd)
    ∙ (none_of_both (bit_and asked d) (minus (minus asked d) a)
    ∙ (ap (λ b. b && minus (minus asked d) a == 0) (sym (naming_is true asked 0 ss fits fit))
    ∙ (ap (λ m. is_nil (naming_from true asked 0 ss) && m == 0) (sym lacking)
    ∙ ap (λ b. is_nil (naming_from true asked 0 ss) && b) (sym (and_true (unnamed false (unnamed true asked ss) ss == 0))))))

module _ {R : Type 0} (holds audit deny : R → Bool) (bits : R → ℕ) where
  abbrev saying : R → said.Saying
  saying r = record { audit = audit r; deny = deny r; bits = bits r }

  abbrev pub heard : R → Saying
  heard r = record { holds = holds r; deny = deny r; perms = perms_of (bits r) }

  abbrev pub verdict_by : List R → RuleSets
  verdict_by rules = verdict (map saying (filter holds rules))

  deny_more : (b : Bool) (r : R) (rules : List R) → (verdict (map saying (cond b (r ∷ filter holds rules) (filter holds rules)))).deny.0 ≡ bit_or (cond (b && deny r) (bits r) 0) (verdict_by rules).deny.0
  deny_more true r rules = refl
  deny_more false r rules = sym (or_zero_l (verdict_by rules).deny.0)

  allow_more : (b : Bool) (r : R) (rules : List R) → (verdict (map saying (cond b (r ∷ filter holds rules) (filter holds rules)))).allow.0 ≡ bit_or (cond (b && not (deny r)) (bits r) 0) (verdict_by rules).allow.0
  allow_more true r rules = refl
  allow_more false r rules = sym (or_zero_l (verdict_by rules).allow.0)

  pub denies : (rules : List R) → (verdict_by rules).deny.0 ≡ named true (map heard rules)
  denies [] = refl
  denies (r ∷ rules) = deny_more (holds r) r rules ∙ ap (bit_or (part true (heard r))) (denies rules)

  pub allows : (rules : List R) → (verdict_by rules).allow.0 ≡ named false (map heard rules)
  allows [] = refl
  allows (r ∷ rules) = allow_more (holds r) r rules ∙ ap (bit_or (part false (heard r))) (allows rules)

  heard_fit : (rules : List R) → All (λ r. bits r < 256) rules → All HasByte (map heard rules)
  heard_fit rules fit = All-map HasByte heard rules fit

  -- the bits that block a request are none exactly where the reasons grant it
  pub granted_by : (complain : Bool) (listed : Listed) (asked : ℕ) (rules : List R) → asked < 256 → All (λ r. bits r < 256) rules
      → (blocked_by complain asked (verdict_by rules).allow.0 (verdict_by rules).deny.0 == 0) ≡ grant complain true (reasons_by listed (map heard rules) asked)
  granted_by complain listed asked rules fits fit =
      ap (λ a. blocked_by complain asked a (verdict_by rules).deny.0 == 0) (allows rules)
      ∙ (ap (λ d. blocked_by complain asked (named false (map heard rules)) d == 0) (denies rules)
      ∙ granting complain listed asked (map heard rules) fits (heard_fit rules fit))

  -- a name that isn't found blocks a request outside complain mode
  pub granted_unfound : (complain : Bool) (listed : Listed) (asked : ℕ) (rules : List R) → asked < 256 → (asked == 0) ≡ false → All (λ r. bits r < 256) rules
      → (cond complain (bit_and asked (verdict_by rules).deny.0) asked == 0) ≡ grant complain false (reasons_by listed (map heard rules) asked)
  granted_unfound true listed asked rules fits some fit =
      ap (λ d. bit_and asked d == 0) (denies rules)
      ∙ (sym (naming_is true asked 0 (map heard rules) fits (heard_fit rules fit)) ∙ sym (and_true (is_nil (naming_from true asked 0 (map heard rules)))))
  granted_unfound false listed asked rules fits some fit =
      let r = reasons_by listed (map heard rules) asked in
      some ∙ (sym (and_false (is_nil r.denies)) ∙ ap (λ b. is_nil r.denies && b) (sym (and_false (r.lacking == 0))))
