-- The ways to join what rules say.
use Rattle.std.proofs.Common.{◌≡◌, ℕ, Bool, true, false, Option, Some, None, max, refl, sym, ap, ◌∙◌, arith}
use Rattle.std.specs.Prelude.{bit_or, ◌||◌}
use Rattle.std.specs.Int.{bit_at}
use Rattle.std.specs.Option.{option_or}
use Rattle.std.proofs.lemmas.Nat.Bits.{bit_at_or, bit_at-zero, same_from_bits}
use Rattle.aa_compile.specs.declared.sets.RuleSets.{RuleSets}
use Rattle.aa_compile.specs.declared.mark.Way.{Way}
use Rattle.aa_compile.specs.declared.side.Chosen.{Chosen}
use Rattle.aa_compile.specs.declared.side.Side.{Side}
use Rattle.aa_compile.specs.Said.{perms_of, both, nothing}
use Rattle.aa_compile.specs.Sides.{no_choice, earlier, none_said, joined}
use Rattle.aa_compile.proofs.Gathers.{IsJoin}

max_assoc : (a b c : ℕ) → max (max a b) c ≡ max a (max b c)
max_assoc a b c = omega arith

max_same : (a : ℕ) → max a a ≡ a
max_same a = omega arith

max_left : (a : ℕ) → max 0 a ≡ a
max_left a = omega arith

max_right : (a : ℕ) → max a 0 ≡ a
max_right a = omega arith

or_assoc : (a b c : ℕ) → bit_or (bit_or a b) c ≡ bit_or a (bit_or b c)
or_assoc a b c = same_from_bits (bit_or (bit_or a b) c) (bit_or a (bit_or b c)) (λ i.
    bit_at_or (bit_or a b) c i
    ∙ ap (λ n. max n (bit_at c i)) (bit_at_or a b i)
    ∙ max_assoc (bit_at a i) (bit_at b i) (bit_at c i)
    ∙ sym (ap (λ n. max (bit_at a i) n) (bit_at_or b c i))
    ∙ sym (bit_at_or a (bit_or b c) i))

or_same : (a : ℕ) → bit_or a a ≡ a
or_same a = same_from_bits (bit_or a a) a (λ i. bit_at_or a a i ∙ max_same (bit_at a i))

or_left : (a : ℕ) → bit_or 0 a ≡ a
or_left a = same_from_bits (bit_or 0 a) a (λ i. bit_at_or 0 a i ∙ ap (λ n. max n (bit_at a i)) (bit_at-zero i) ∙ max_left (bit_at a i))

or_right : (a : ℕ) → bit_or a 0 ≡ a
or_right a = same_from_bits (bit_or a 0) a (λ i. bit_at_or a 0 i ∙ ap (λ n. max (bit_at a i) n) (bit_at-zero i) ∙ max_right (bit_at a i))

abbrev sets : ℕ → ℕ → ℕ → ℕ → RuleSets
sets a b c d = record { allow = perms_of a; deny = perms_of b; loud = perms_of c; audited = perms_of d }

same_sets : (a b c d e f g h : ℕ) → a ≡ e → b ≡ f → c ≡ g → d ≡ h → sets a b c d ≡ sets e f g h
same_sets a b c d e f g h p q r s =
    ap (λ n. sets n b c d) p ∙ ap (λ n. sets e n c d) q ∙ ap (λ n. sets e f n d) r ∙ ap (λ n. sets e f g n) s

pub both_joins : IsJoin both nothing
both_joins = record {
  assoc = λ a b c. same_sets _ _ _ _ _ _ _ _ (or_assoc a.allow.0 b.allow.0 c.allow.0) (or_assoc a.deny.0 b.deny.0 c.deny.0) (or_assoc a.loud.0 b.loud.0 c.loud.0) (or_assoc a.audited.0 b.audited.0 c.audited.0);
  left = λ a. same_sets _ _ _ _ _ _ _ _ (or_left a.allow.0) (or_left a.deny.0) (or_left a.loud.0) (or_left a.audited.0);
  right = λ a. same_sets _ _ _ _ _ _ _ _ (or_right a.allow.0) (or_right a.deny.0) (or_right a.loud.0) (or_right a.audited.0);
  same = λ a. same_sets _ _ _ _ _ _ _ _ (or_same a.allow.0) (or_same a.deny.0) (or_same a.loud.0) (or_same a.audited.0);
}

first_assoc : (a b c : Option Way) → option_or (option_or a b) c ≡ option_or a (option_or b c)
first_assoc None b c = refl
first_assoc (Some x) b c = refl

first_right : (a : Option Way) → option_or a None ≡ a
first_right None = refl
first_right (Some x) = refl

first_same : (a : Option Way) → option_or a a ≡ a
first_same None = refl
first_same (Some x) = refl

any_assoc : (a b c : Bool) → ((a || b) || c) ≡ (a || (b || c))
any_assoc true b c = refl
any_assoc false b c = refl

any_right : (a : Bool) → (a || false) ≡ a
any_right true = refl
any_right false = refl

any_same : (a : Bool) → (a || a) ≡ a
any_same true = refl
any_same false = refl

abbrev choice : Option Way → Bool → Chosen
choice w b = record { way = w; audited = b }

same_choice : (w v : Option Way) (a b : Bool) → w ≡ v → a ≡ b → choice w a ≡ choice v b
same_choice w v a b p q = ap (λ x. choice x a) p ∙ ap (λ x. choice v x) q

pub earlier_joins : IsJoin earlier no_choice
earlier_joins = record {
  assoc = λ a b c. same_choice _ _ _ _ (first_assoc a.way b.way c.way) (any_assoc a.audited b.audited c.audited);
  left = λ a. refl;
  right = λ a. same_choice _ _ _ _ (first_right a.way) (any_right a.audited);
  same = λ a. same_choice _ _ _ _ (first_same a.way) (any_same a.audited);
}

abbrev side : RuleSets → Chosen → Chosen → Side
side s l a = record { sets = s; literal = l; any = a }

same_side : (s t : RuleSets) (l m a b : Chosen) → s ≡ t → l ≡ m → a ≡ b → side s l a ≡ side t m b
same_side s t l m a b p q r = ap (λ x. side x l a) p ∙ ap (λ x. side t x a) q ∙ ap (λ x. side t m x) r

pub joined_joins : IsJoin joined none_said
joined_joins = record {
  assoc = λ a b c. same_side _ _ _ _ _ _ (both_joins.assoc a.sets b.sets c.sets) (earlier_joins.assoc a.literal b.literal c.literal) (earlier_joins.assoc a.any b.any c.any);
  left = λ a. same_side _ _ _ _ _ _ (both_joins.left a.sets) (earlier_joins.left a.literal) (earlier_joins.left a.any);
  right = λ a. same_side _ _ _ _ _ _ (both_joins.right a.sets) (earlier_joins.right a.literal) (earlier_joins.right a.any);
  same = λ a. same_side _ _ _ _ _ _ (both_joins.same a.sets) (earlier_joins.same a.literal) (earlier_joins.same a.any);
}
