-- Lists that grow rule by rule.
use Rattle.std.proofs.Common.{◌≡◌, ℕ, ◌+◌, ◌<◌, ◌≤◌, List, ◌++◌, map, length, drop, get_or, ap, sym, ◌∙◌, append_assoc}
use Rattle.std.specs.Prelude.{flat_map}
use Rattle.std.proofs.lemmas.List.{drop_more, drop_all, append-nil}
use Rattle.std.proofs.lemmas.List.Concat.{flat_map-cons}
use Rattle.aa_policy.specs.declared.tree.ProfileTree.{ProfileTree}
use Rattle.aa_model.specs.declared.policy.PassedOver.{PassedOver}
use Rattle.aa_policy.specs.Bodies.{tree_data}
use Rattle.aa_rules.specs.Reading.{rule_data}
use Rattle.aa_policy.specs.Spelling.{listed_at, passed_over_from}

-- what is found so far, and then what the rest gives, is the whole
pub added : {Z : Type 0} (found new more rest here whole : List Z) → new ≡ found ++ more → here ≡ more ++ rest → found ++ here ≡ whole → new ++ rest ≡ whole
added {Z} found new more rest here whole e h w = ap (λ (x : List Z). x ++ rest) e ∙ append_assoc found more rest ∙ ap (λ (x : List Z). found ++ x) (sym h) ∙ w

pub rest_step : {X Y Z : Type 0} (f : Y → List Z) (g : X → Y) (xs : List X) (i : ℕ) (d : X) → i < length xs
    → flat_map f (map g (drop i xs)) ≡ f (g (get_or xs i d)) ++ flat_map f (map g (drop (i + 1) xs))
rest_step {X} f g xs i d h = ap (λ (ys : List X). flat_map f (map g ys)) (drop_more xs i d h) ∙ flat_map-cons f (g (get_or xs i d)) (map g (drop (i + 1) xs))

pub rest_end : {X Y Z : Type 0} (f : Y → List Z) (g : X → Y) (xs : List X) (i : ℕ) (found whole : List Z) → length xs ≤ i → found ++ flat_map f (map g (drop i xs)) ≡ whole → found ≡ whole
rest_end {X} f g xs i found whole h w = sym (append-nil found) ∙ ap (λ (ys : List X). found ++ flat_map f (map g ys)) (sym (drop_all i xs h)) ∙ w

-- the profiles from one on
pub profile_step : (ps : List ProfileTree) (n : ℕ) (p d : ProfileTree) → n < length ps → p ≡ get_or ps n d
    → passed_over_from n (tree_data (drop n ps)) ≡ flat_map (listed_at n) (map rule_data p.rules.items) ++ passed_over_from (n + 1) (tree_data (drop (n + 1) ps))
profile_step ps n p d h e =
    ap (λ (qs : List ProfileTree). passed_over_from n (tree_data qs)) (drop_more ps n d h)
    ∙ ap (λ (q : ProfileTree). flat_map (listed_at n) (map rule_data q.rules.items) ++ passed_over_from (n + 1) (tree_data (drop (n + 1) ps))) (sym e)

pub profile_end : (ps : List ProfileTree) (n : ℕ) (found whole : List PassedOver) → length ps ≤ n → found ++ passed_over_from n (tree_data (drop n ps)) ≡ whole → found ≡ whole
profile_end ps n found whole h w = sym (append-nil found) ∙ ap (λ (qs : List ProfileTree). found ++ passed_over_from n (tree_data qs)) (sym (drop_all n ps h)) ∙ w
