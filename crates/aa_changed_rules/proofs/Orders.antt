-- Lists in their order, wherever they lie in memory.
use Rattle.std.proofs.Common.{◌≡◌, ℕ, ◌+◌, ◌<◌, List, [], ◌∷◌, ◌++◌, map, length, take, get_or, Vec, Global, refl, sym, ap, ◌∙◌}
use Rattle.std.specs.declared.cmp.Ordering.{Ordering}
use Rattle.std.specs.declared.cmp.Ordering.TheVariants.{Less, Equal, Greater}
use Rattle.std.specs.Ordering.{match_ordering, nat_cmp}
use Rattle.std.specs.BTreeSet.{insert_key}
use Rattle.std.specs.Cmp.Lexicographic.{slice_cmp}
use Rattle.std.proofs.lemmas.List.{map_more}
use Rattle.aa_pattern.specs.declared.pattern.Pattern.{Pattern}
use Rattle.aa_changed_rules.specs.Codes.{pattern_code}
use Rattle.aa_changed_rules.specs.Forms.{lists, ascending, ascending_behind}

-- how two are compared
abbrev pub compares : Vec ℕ Global → Vec ℕ Global → Ordering
compares v w = slice_cmp nat_cmp v.items w.items

pub inserted : (vs : List (Vec ℕ Global)) (v : Vec ℕ Global) → lists (insert_key compares vs v) ≡ insert_key (slice_cmp nat_cmp) (lists vs) v.items
inserted [] v = refl
inserted (w ∷ ws) v = by (inserted ws v) (slice_cmp nat_cmp v.items w.items)
  where
    by : lists (insert_key compares ws v) ≡ insert_key (slice_cmp nat_cmp) (lists ws) v.items → (o : Ordering)
        → lists (match_ordering o (v ∷ w ∷ ws) (w ∷ ws) (w ∷ insert_key compares ws v))
        ≡ match_ordering o (v.items ∷ w.items ∷ lists ws) (w.items ∷ lists ws) (w.items ∷ insert_key (slice_cmp nat_cmp) (lists ws) v.items)
    by later Less = refl
    by later Equal = refl
    by later Greater = ap (λ (rest : List (List ℕ)). w.items ∷ rest) later

pub ascending_more : (done cs : List (List ℕ)) (c : List ℕ) → ascending_behind done (cs ++ c ∷ []) ≡ insert_key (slice_cmp nat_cmp) (ascending_behind done cs) c
ascending_more done [] c = refl
ascending_more done (d ∷ cs) c = ascending_more (insert_key (slice_cmp nat_cmp) done d) cs c

-- one pattern more
pub codes_more : (ps : List Pattern) (i : ℕ) (p : Pattern) (old new : List (Vec ℕ Global)) (v : Vec ℕ Global) → i < length ps → p ≡ get_or ps i p → v.items ≡ pattern_code p
    → new ≡ insert_key compares old v → lists old ≡ ascending (map pattern_code (take i ps)) → lists new ≡ ascending (map pattern_code (take (i + 1) ps))
codes_more ps i p old new v h is code n e =
    ap lists n ∙ inserted old v ∙ ap (λ (cs : List (List ℕ)). insert_key (slice_cmp nat_cmp) cs v.items) e
    ∙ ap (insert_key (slice_cmp nat_cmp) (ascending (map pattern_code (take i ps)))) (code ∙ ap pattern_code is)
    ∙ sym (ascending_more [] (map pattern_code (take i ps)) (pattern_code (get_or ps i p))) ∙ ap ascending (sym (map_more pattern_code ps i p h))
