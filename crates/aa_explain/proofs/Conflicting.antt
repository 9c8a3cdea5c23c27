-- Rules that conflict at a text.
use Rattle.std.proofs.Common.{◌≡◌, ℕ, List, [], ◌∷◌, Bool, true, false, true≢false, Some, Contains, sym, ap, ◌∙◌, subst, inl, inr, ⊎_elim}
use Rattle.std.specs.Prelude.{◌&&◌}
use Rattle.std.specs.List.{slice_get}
use Rattle.std.proofs.lemmas.Bool.{and_parts, and_from, or_cases, not-true, not_from_false, cases_Bool}
use Rattle.std.proofs.lemmas.List.Folds.{list_any_at}
use Rattle.std.proofs.lemmas.Option.{same_Some}
use Rattle.aa_pattern.specs.declared.pattern.Pattern.{Pattern}
use Rattle.aa_pattern.specs.Matching.{is_match}
use Rattle.aa_model.specs.declared.rule.FileRule.{FileRule}
use Rattle.aa_compile.specs.Patterns.{is_literal}
use Rattle.aa_compile.specs.FileRules.{some_match, SayDifferently, Hit, IsConflict}
use Rattle.aa_compile.proofs.ConflictLemmas.{in_head, in_tail, got_in}
use Rattle.aa_explain.specs.Clashes.{is_no_literal, ClashAt, Conflict}

record Found (sort : Pattern → Bool) (text : List ℕ) (ps : List Pattern) : Type 0 where
  pattern : Pattern
  within : Contains ps pattern
  sorted : sort pattern ≡ true
  match : is_match pattern.items.items text ≡ true

found : (sort : Pattern → Bool) (text : List ℕ) (ps : List Pattern) → some_match sort text ps ≡ true → Found sort text ps
found sort text [] e = absurd (true≢false (sym e))
found sort text (q ∷ ps) e =
    ⊎_elim
    (λ h. let b = and_parts (sort q) (is_match q.items.items text) h in record { pattern = q; within = in_head q ps; sorted = b.0; match = b.1 })
    (λ h. let f = found sort text ps h in record { pattern = f.pattern; within = in_tail q f.pattern ps f.within; sorted = f.sorted; match = f.match })
    (or_cases (sort q && is_match q.items.items text) (some_match sort text ps) e)

matched : (sort : Pattern → Bool) (text : List ℕ) (ps : List Pattern) (p : Pattern) → Contains ps p → sort p ≡ true → is_match p.items.items text ≡ true → some_match sort text ps ≡ true
matched sort text ps p c e f =
    list_any_at (λ (q : Pattern). sort q && is_match q.items.items text) ps c.0 p c.1
    (ap (λ (q : Pattern). sort q && is_match q.items.items text) c.2 ∙ and_from (sort p) (is_match p.items.items text) e f)

module _ (rules : List FileRule) (first second : ℕ) (a b : FileRule) (text : List ℕ) (at : slice_get rules first ≡ Some a) (other : slice_get rules second ≡ Some b) (say : SayDifferently a b) where
  made : (sort : Pattern → Bool) (f : Found sort text a.patterns) (g : Found sort text b.patterns) → is_literal f.pattern ≡ is_literal g.pattern → Conflict rules first second text
  made sort f g same = (
    record { rule = a; pattern = f.pattern },
    record { rule = b; pattern = g.pattern },
    at,
    other,
    record {
      rules_are = (got_in rules first a at, got_in rules second b other);
      patterns_are = (f.within, g.within);
      match = (f.match, g.match);
      sort = same;
      say = say;
    },
  )

-- rules that clash at a text conflict there
pub conflict : (rules : List FileRule) (first second : ℕ) (a b : FileRule) (text : List ℕ) → slice_get rules first ≡ Some a → slice_get rules second ≡ Some b → ClashAt a b text → Conflict rules first second text
conflict rules first second a b text at other clash =
    ⊎_elim
    (λ m. let f = found is_literal text a.patterns m.0 in let g = found is_literal text b.patterns m.1 in made rules first second a b text at other clash.0 is_literal f g (f.sorted ∙ sym g.sorted))
    (λ m. let f = found is_no_literal text a.patterns m.0 in let g = found is_no_literal text b.patterns m.1 in
    made rules first second a b text at other clash.0 is_no_literal f g (not-true (is_literal f.pattern) f.sorted ∙ sym (not-true (is_literal g.pattern) g.sorted)))
    clash.1

clash_of_hits : (rules : List FileRule) (a b : Hit) (text : List ℕ) → IsConflict rules a b text → ClashAt a.rule b.rule text
clash_of_hits rules a b text c = (
  c.say,
  ⊎_elim
      (λ (e : is_literal a.pattern ≡ true).
      inl (matched is_literal text a.rule.patterns a.pattern c.patterns_are.0 e c.match.0, matched is_literal text b.rule.patterns b.pattern c.patterns_are.1 (sym c.sort ∙ e) c.match.1))
      (λ (e : is_literal a.pattern ≡ false).
      inr (
        matched is_no_literal text a.rule.patterns a.pattern c.patterns_are.0 (not_from_false (is_literal a.pattern) e) c.match.0,
        matched is_no_literal text b.rule.patterns b.pattern c.patterns_are.1 (not_from_false (is_literal b.pattern) (sym c.sort ∙ e)) c.match.1,
      ))
      (cases_Bool (is_literal a.pattern)),
)

-- rules that conflict at a text clash there
pub clash : (rules : List FileRule) (first second : ℕ) (a b : FileRule) (text : List ℕ) → slice_get rules first ≡ Some a → slice_get rules second ≡ Some b → Conflict rules first second text → ClashAt a b text
clash rules first second a b text at other x =
    let p : x.0.rule ≡ a = same_Some x.0.rule a (sym x.2 ∙ at) in
    let q : x.1.rule ≡ b = same_Some x.1.rule b (sym x.3 ∙ other) in
    subst (λ (r : FileRule). ClashAt r b text) p (subst (λ (r : FileRule). ClashAt x.0.rule r text) q (clash_of_hits rules x.0 x.1 text x.4))

-- each conflicts with the other
pub turned : (rules : List FileRule) (first second : ℕ) (text : List ℕ) → Conflict rules first second text → Conflict rules second first text
turned rules first second text x =
    let c = x.4 in
    let d = c.say in (
      x.1,
      x.0,
      x.3,
      x.2,
      record {
        rules_are = (c.rules_are.1, c.rules_are.0);
        patterns_are = (c.patterns_are.1, c.patterns_are.0);
        match = (c.match.1, c.match.0);
        sort = sym c.sort;
        say = record {
          allow = (d.allow.1, d.allow.0);
          one = d.other;
          other = d.one;
          say = (d.say.1, d.say.0);
          differ = λ e. d.differ (sym e);
        };
      },
    )
