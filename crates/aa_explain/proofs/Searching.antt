-- Where no two rules are found, none conflict.
use Rattle.std.proofs.Common.{◌≡◌, ◌<◌, ◌⊎◌, ℕ, List, length, true, false, Option, Some, None, IfNone, Contains, sym, ap, ◌∙◌, subst, ⊎_elim}
use Rattle.std.specs.Prelude.{not, ◌&&◌, is_some}
use Rattle.std.specs.List.{slice_get}
use Rattle.std.proofs.lemmas.Bool.{cases_order}
use Rattle.std.proofs.lemmas.Option.{same_Some, slice_get_within}
use Rattle.aa_pattern.specs.Globs.{Matches}
use Rattle.aa_pattern.specs.declared.pattern.Pattern.{Pattern}
use Rattle.aa_pattern.specs.Matching.{is_match}
use Rattle.aa_pattern.proofs.Decided.{decided}
use Rattle.aa_model.specs.declared.rule.Exec.{Exec}
use Rattle.aa_model.specs.declared.rule.FileRule.{FileRule}
use Rattle.aa_auto.specs.Tables.{ListsMatching}
use Rattle.aa_regions.specs.declared.regions.Region.{Region}
use Rattle.aa_regions.specs.Regions.{AreTextRegions}
use Rattle.aa_compile.specs.FileRules.{says_how, Hit, Conflicts}
use Rattle.aa_compile.proofs.MatchedTexts.{matched_text}
use Rattle.aa_explain.specs.Clashes.{AreOwners, Conflict, SomeConflict}
use Rattle.aa_explain.proofs.Conflicting.{turned}
use Rattle.aa_compile.proofs.ConflictLemmas.{get_in}

pub none_then : {X : Type 0} (o : Option X) {P Q : Type 0} → IfNone o P → (P → Q) → IfNone o Q
none_then None h f = f h
none_then (Some x) h f = h

says : (r : FileRule) (e : Exec) → r.deny ≡ false → r.exec ≡ Some e → says_how r ≡ true
says r e allow exec = ap (λ d. not d && is_some r.exec) allow ∙ ap is_some exec

module _ (rules : List FileRule) (patterns : List Pattern) (owners : List ℕ) (are : AreOwners rules (length rules) patterns owners) where
  -- where a hit stands among the patterns of the region
  record At (r : Region) (h : Hit) : Type 0 where
    number : ℕ
    rule : ℕ
    is : slice_get rules rule ≡ Some h.rule
    among : Contains r.numbers number
    owner : slice_get owners number ≡ Some rule
    match : is_match h.pattern.items.items r.witness ≡ true

  at : (h : Hit) (s : List ℕ) (r : Region) → ListsMatching patterns s r.numbers → ListsMatching patterns r.witness r.numbers → Contains rules h.rule → says_how h.rule ≡ true → Contains h.rule.patterns h.pattern
      → is_match h.pattern.items.items s ≡ true → At r h
  at h s r lists own c how d match =
      let i = get_in rules h.rule c in
      let n = are.each i.0 h.rule h.pattern (slice_get_within rules i.0 h.rule i.1) i.1 how d in
      let here : Contains r.numbers n.0 = (lists.exact n.0).1 (h.pattern, n.1, (decided h.pattern.items.items s).0 match) in
      let q = (own.exact n.0).0 here in
      let is : q.0 ≡ h.pattern = same_Some q.0 h.pattern (sym q.1 ∙ n.1) in
      record {
        number = n.0;
        rule = i.0;
        is = i.1;
        among = here;
        owner = n.2;
        match = (decided h.pattern.items.items r.witness).1 (subst (λ (p : Pattern). Matches p.items.items r.witness) is q.2);
      }

  pub free : (rs : List Region) → AreTextRegions patterns rs → ((r : Region) → Contains rs r → SomeConflict rules owners r.numbers r.witness → ⊥) → Conflicts rules → ⊥
  free rs regions none (a, b, s, c) =
      let d = c.say in
      let u = regions.all s (matched_text a.pattern.items.items s ((decided a.pattern.items.items s).0 c.match.0)) in
      let r = u.0 in
      let own = (regions.each r u.1).lists in
      let x = at a s r u.2 own c.rules_are.0 (says a.rule d.one d.allow.0 d.say.0) c.patterns_are.0 c.match.0 in
      let y = at b s r u.2 own c.rules_are.1 (says b.rule d.other d.allow.1 d.say.1) c.patterns_are.1 c.match.1 in
      let here : Conflict rules x.rule y.rule r.witness = (
        a,
        b,
        x.is,
        y.is,
        record { rules_are = c.rules_are; patterns_are = c.patterns_are; match = (x.match, y.match); sort = c.sort; say = d },
      ) in
      ⊎_elim
      (λ (e : x.rule ≡ y.rule).
      let rule : a.rule ≡ b.rule = same_Some a.rule b.rule (sym x.is ∙ ap (slice_get rules) e ∙ y.is) in
      d.differ (same_Some d.one d.other (sym d.say.0 ∙ ap (λ (r : FileRule). r.exec) rule ∙ d.say.1)))
      (λ (o : (x.rule < y.rule) ⊎ (y.rule < x.rule)).
      ⊎_elim
      (λ (l : x.rule < y.rule). none r u.1 (x.number, x.among, record { one = x.rule; owner = x.owner; later = record { number = y.number; other = y.rule; among = y.among; owner = y.owner; later = l; conflict = here } }))
      (λ (l : y.rule < x.rule).
      none r u.1 (y.number, y.among, record { one = y.rule; owner = y.owner; later = record { number = x.number; other = x.rule; among = x.among; owner = x.owner; later = l; conflict = turned rules x.rule y.rule r.witness here } }))
      o)
      (cases_order x.rule y.rule)
