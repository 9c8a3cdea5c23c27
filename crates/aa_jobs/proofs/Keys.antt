-- The keys of an object as they stand in the text, and in the value that it stands for.
use Rattle.std.proofs.Common.{◌≡◌, ℕ, List, [], ◌∷◌, Bool, true, false, ◌&&◌, ◌||◌, map, Bor, Global, Ordering, Less, Equal, Greater, is_eq, nat_cmp, refl, sym, ap, ◌∙◌}
use Rattle.std.specs.Cmp.Lexicographic.{slice_cmp}
use Rattle.std.specs.List.{list_all, list_any}
use Rattle.std.specs.Str.{bytes_eq}
use Rattle.std.specs.Ordering.{match_ordering}
use Rattle.std.proofs.lemmas.Slice.Eq.{bytes_eq-Decides}
use Rattle.std.proofs.lemmas.Map.Text.{is_eq-slice_cmp}
use Rattle.json.specs.Value.{members_view}
use Rattle.json.specs.declared.value.Value.{Value}
use Rattle.serde_json.specs.Data.{Data, Members, no_members, member, put}
use Rattle.aa_jobs.specs.declared.shape.Part.{Part}
use Rattle.aa_jobs.specs.Raw.{raw_text}
use Rattle.aa_jobs.specs.Shape.{is_key, has_only}
use Rattle.aa_jobs.specs.Trees.{members_data, object_data, tree_data}

twice : (a b : Bool) → (a && b) ≡ (a && (a && b))
twice true b = refl
twice false b = refl

swapped : (a b c : Bool) → (a && (b && c)) ≡ (b && (a && c))
swapped true b c = refl
swapped false true c = refl
swapped false false c = refl

known_put_at : (part : Part) (o : Ordering) (k l : List ℕ) (d e : Data) (ms : Members) → slice_cmp nat_cmp k l ≡ o → has_only part (put k d ms) ≡ (is_key part k && has_only part ms)
    → has_only part (match_ordering o (member k d (member l e ms)) (member l d ms) (member l e (put k d ms))) ≡ (is_key part k && (is_key part l && has_only part ms))
known_put_at part Less k l d e ms is later = refl
known_put_at part Equal k l d e ms is later =
    let same : k ≡ l = (bytes_eq-Decides k l).0 (sym (is_eq-slice_cmp k l) ∙ ap is_eq is) in
    twice (is_key part l) (has_only part ms) ∙ ap (λ x. is_key part x && (is_key part l && has_only part ms)) (sym same)
known_put_at part Greater k l d e ms is later = ap (λ (b : Bool). is_key part l && b) later ∙ swapped (is_key part l) (is_key part k) (has_only part ms)

pub known_put : (part : Part) (k : List ℕ) (d : Data) (ms : Members) → has_only part (put k d ms) ≡ (is_key part k && has_only part ms)
known_put part k d no_members = refl
known_put part k d (member l e ms) = known_put_at part (slice_cmp nat_cmp k l) k l d e ms refl (known_put part k d ms)

regrouped : (a b c : Bool) → ((a && b) && c) ≡ (b && (a && c))
regrouped true b c = refl
regrouped false true c = refl
regrouped false false c = refl

known_among : (part : Part) (ms : List (Bor (List ℕ) × Value Global)) (found : Members) → (list_all (λ m. is_key part m.0.now) ms && has_only part found) ≡ has_only part (members_data (members_view ms) found)
known_among part [] found = refl
known_among part (m ∷ ms) found =
    regrouped (is_key part m.0.now) (list_all (λ n. is_key part n.0.now) ms) (has_only part found)
    ∙ ap (λ (b : Bool). list_all (λ n. is_key part n.0.now) ms && b) (sym (known_put part m.0.now (tree_data m.1) found))
    ∙ known_among part ms (put m.0.now (tree_data m.1) found)

and_true : (b : Bool) → b ≡ (b && true)
and_true true = refl
and_true false = refl

pub only_is : (part : Part) (ms : List (Bor (List ℕ) × Value Global)) → list_all (λ m. is_key part m.0.now) ms ≡ has_only part (object_data ms)
only_is part ms = and_true (list_all (λ m. is_key part m.0.now) ms) ∙ known_among part ms no_members

-- ---- the keys of an object's kind

pub among_is : (k : List ℕ) (ks : List (Bor (List ℕ))) → list_any (λ b. bytes_eq k b.now) ks ≡ list_any (λ n. bytes_eq k n) (map raw_text ks)
among_is k [] = refl
among_is k (b ∷ bs) = ap (λ (x : Bool). bytes_eq k b.now || x) (among_is k bs)
