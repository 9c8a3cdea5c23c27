-- Rules that are chosen for one path say the same of it, where no two rules conflict.
use Rattle.std.proofs.Common.{◌≡◌, ◌≢◌, ℕ, List, [], ◌∷◌, Bool, true, false, true≢false, cond, Option, Some, None, refl, sym, ap, ◌∙◌, subst, Contains, ⊎_elim}
use Rattle.std.specs.Prelude.{IsTrue, not, ◌&&◌, ◌||◌, is_some}
use Rattle.std.specs.List.{filter, list_any}
use Rattle.std.specs.Option.{option_eq}
use Rattle.aa_pattern.specs.declared.pattern.Pattern.{Pattern}
use Rattle.aa_pattern.specs.Matching.{is_match}
use Rattle.aa_model.specs.declared.rule.Exec.{Exec}
use Rattle.aa_model.specs.declared.rule.FileRule.{FileRule}
use Rattle.aa_compile.specs.Patterns.{is_literal}
use Rattle.aa_compile.specs.FileRules.{any_sort, applies_by, chosen, is_nil, says_how, some_match, ways_by, Conflicts}
use Rattle.aa_compile.proofs.ConflictLemmas.{in_cases, in_head, in_tail, not_in}
use Rattle.aa_mediate.specs.Links.{same_exec}
use Rattle.aa_mediate.proofs.SameWays.{both_true, and_true, options_same, same_decides}

module _ {X : Type 0} (f : X → Bool) where
  -- what a filter keeps passes its test
  kept : (x : X) (xs : List X) → Contains (filter f xs) x → Contains xs x × (f x ≡ true)
  kept x [] c = absurd (not_in x c)
  kept x (y ∷ ys) c = at (kept x ys) (f y) refl c
    where
      at : (Contains (filter f ys) x → Contains ys x × (f x ≡ true)) → (b : Bool) → f y ≡ b → Contains (cond b (y ∷ filter f ys) (filter f ys)) x → Contains (y ∷ ys) x × (f x ≡ true)
      at rest true e d =
          ⊎_elim
          (λ (same : y ≡ x). (subst (λ z. Contains (y ∷ ys) z) same (in_head y ys), ap f (sym same) ∙ e))
          (λ (d : Contains (filter f ys) x). let t = rest d in (in_tail y x ys t.0, t.1))
          (in_cases y x (filter f ys) d)
      at rest false e d = let t = rest d in (in_tail y x ys t.0, t.1)

  -- nothing passes the test of a filter that keeps nothing
  none_kept : (x : X) (xs : List X) → is_nil (filter f xs) ≡ true → Contains xs x → f x ≡ false
  none_kept x [] e c = absurd (not_in x c)
  none_kept x (y ∷ ys) e c = at (none_kept x ys) (f y) refl e
    where
      at : (is_nil (filter f ys) ≡ true → Contains ys x → f x ≡ false) → (b : Bool) → f y ≡ b → is_nil (cond b (y ∷ filter f ys) (filter f ys)) ≡ true → f x ≡ false
      at rest true p n = absurd (true≢false (sym n))
      at rest false p n =
          ⊎_elim
          (λ (same : y ≡ x). ap f (sym same) ∙ p)
          (λ (d : Contains ys x). rest n d)
          (in_cases y x ys c)

  -- what passes the test where some element does
  passing : (xs : List X) → list_any f xs ≡ true → (x : X) × Contains xs x × (f x ≡ true)
  passing [] e = absurd (true≢false (sym e))
  passing (y ∷ ys) e = at (passing ys) (f y) refl e
    where
      at : (list_any f ys ≡ true → (x : X) × Contains ys x × (f x ≡ true)) → (b : Bool) → f y ≡ b → (b || list_any f ys) ≡ true → (x : X) × Contains (y ∷ ys) x × (f x ≡ true)
      at rest true p n = (y, in_head y ys, p)
      at rest false p n = let t = rest n in (t.0, in_tail y t.0 ys t.1, t.2)

  -- and some element does where one is there
  some_passes : (x : X) (xs : List X) → Contains xs x → f x ≡ true → list_any f xs ≡ true
  some_passes x [] c e = absurd (not_in x c)
  some_passes x (y ∷ ys) c e =
      ⊎_elim
      (λ (same : y ≡ x). ap (λ b. b || list_any f ys) (ap f same ∙ e))
      (λ (d : Contains ys x). or_true (f y) (list_any f ys) (some_passes x ys d e))
      (in_cases y x ys c)
    where
      or_true : (a b : Bool) → b ≡ true → (a || b) ≡ true
      or_true true b p = refl
      or_true false b p = p

not_deny : (b : Bool) → not b ≡ true → b ≡ false
not_deny true e = absurd (true≢false (sym e))
not_deny false e = refl

said : (o : Option Exec) → is_some o ≡ true → (e : Exec) × (o ≡ Some e)
said None e = absurd (true≢false (sym e))
said (Some x) e = (x, refl)

module _ (rules : List FileRule) (path : List ℕ) (owned : Bool) where
  -- a chosen rule, and a pattern of it that matches
  record Chosen (literal : Bool) (r : FileRule) : Type 0 where
    in_rules : Contains rules r
    allow : r.deny ≡ false
    exec : Exec
    says : r.exec ≡ Some exec
    pattern : Pattern
    in_patterns : Contains r.patterns pattern
    match : IsTrue (is_match pattern.items.items path)
    sort : is_literal pattern ≡ literal

  abbrev test : (Pattern → Bool) → FileRule → Bool
  test sort r = says_how r && applies_by sort path owned r

  chosen_by : (sort : Pattern → Bool) (literal : Bool)
      → ((r : FileRule) (p : Pattern) → Contains rules r → test sort r ≡ true → Contains r.patterns p
      → (sort p && is_match p.items.items path) ≡ true → is_literal p ≡ literal) → (r : FileRule) → Contains (ways_by sort rules path owned) r
      → Chosen literal r
  chosen_by sort literal is r c =
      let k = kept (λ x. says_how x && applies_by sort path owned x) r rules c in
      let parts = both_true _ _ k.1 in
      let how = both_true _ _ parts.0 in
      let x = said r.exec how.1 in
      let applies = both_true _ _ parts.1 in
      let p = passing (λ p. sort p && is_match p.items.items path) r.patterns applies.1 in
      record {
        in_rules = k.0;
        allow = not_deny r.deny how.0;
        exec = x.0;
        says = x.1;
        pattern = p.0;
        in_patterns = p.1;
        match = (both_true _ _ p.2).1;
        sort = is r p.0 k.0 k.1 p.1 p.2;
      }

  -- two of one sort that don't conflict say the same
  agree : (Conflicts rules → ⊥) → (literal : Bool) (r q : FileRule) → Chosen literal r → Chosen literal q → r.exec ≡ q.exec
  agree free literal r q a b = at (option_eq same_exec r.exec q.exec) refl
    where
      at : (s : Bool) → option_eq same_exec r.exec q.exec ≡ s → r.exec ≡ q.exec
      at true e = options_same r.exec q.exec e
      at false e = absurd (free (
        record { rule = r; pattern = a.pattern },
        record { rule = q; pattern = b.pattern },
        path,
        record {
          rules_are = (a.in_rules, b.in_rules);
          patterns_are = (a.in_patterns, b.in_patterns);
          match = (a.match, b.match);
          sort = a.sort ∙ sym b.sort;
          say = record {
            allow = (a.allow, b.allow);
            one = a.exec;
            other = b.exec;
            say = (a.says, b.says);
            differ = λ same. true≢false (sym ((same_decides r.exec q.exec).1 (a.says ∙ ap Some same ∙ sym b.says)) ∙ e);
          };
        },
      ))

  by_literal : (r : FileRule) (p : Pattern) → Contains rules r → test is_literal r ≡ true → Contains r.patterns p → (is_literal p && is_match p.items.items path) ≡ true → is_literal p ≡ true
  by_literal r p c t d e = (both_true _ _ e).0

  -- where no rule applies by a literal pattern, those that apply do so by others
  by_others : is_nil (ways_by is_literal rules path owned) ≡ true → (r : FileRule) (p : Pattern) → Contains rules r → test any_sort r ≡ true
      → Contains r.patterns p → (any_sort p && is_match p.items.items path) ≡ true → is_literal p ≡ false
  by_others nil r p c t d e = at (is_literal p) refl
    where
      at : (b : Bool) → is_literal p ≡ b → is_literal p ≡ false
      at false l = l
      at true l =
          let parts = both_true (says_how r) (applies_by any_sort path owned r) t in
          let applies = both_true (owned || not r.owner) (some_match any_sort path r.patterns) parts.1 in
          let match = (both_true (any_sort p) (is_match p.items.items path) e).1 in
          let some = some_passes (λ p. is_literal p && is_match p.items.items path) p r.patterns d (and_true (is_literal p) (is_match p.items.items path) l match) in
          let passes = and_true (says_how r) (applies_by is_literal path owned r) parts.0 (and_true (owned || not r.owner) (some_match is_literal path r.patterns) applies.0 some) in
          absurd (true≢false (sym passes ∙ none_kept (λ x. says_how x && applies_by is_literal path owned x) r rules nil c))

  chosen_are : (b : Bool) → is_nil (ways_by is_literal rules path owned) ≡ b → (Conflicts rules → ⊥) → (r q : FileRule)
      → Contains (cond b (ways_by any_sort rules path owned) (ways_by is_literal rules path owned)) r
      → Contains (cond b (ways_by any_sort rules path owned) (ways_by is_literal rules path owned)) q → r.exec ≡ q.exec
  chosen_are true nil free r q c d = agree free false r q (chosen_by any_sort false (by_others nil) r c) (chosen_by any_sort false (by_others nil) q d)
  chosen_are false nil free r q c d = agree free true r q (chosen_by is_literal true by_literal r c) (chosen_by is_literal true by_literal q d)

pub chosen_agree : (rules : List FileRule) (path : List ℕ) (owned : Bool) → (Conflicts rules → ⊥) → (r q : FileRule) → Contains (chosen rules path owned) r → Contains (chosen rules path owned) q → r.exec ≡ q.exec
chosen_agree rules path owned free r q c d = chosen_are rules path owned (is_nil (ways_by is_literal rules path owned)) refl free r q c d
