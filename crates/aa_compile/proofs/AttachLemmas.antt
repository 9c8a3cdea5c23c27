-- Attachments by their numbers.
use Rattle.std.proofs.Common.{◌≡◌, ℕ, ◌+◌, ◌<◌, max, length, drop, get_or, List, [], ◌∷◌, Option, Some, None, Bool, true, false, cond, refl, ap, ◌∙◌, arith}
use Rattle.std.specs.Prelude.{◌||◌, filter, map}
use Rattle.std.specs.List.{list_any, slice_get, cons_option}
use Rattle.std.specs.Option.{option_map_or, option_and_then}
use Rattle.std.proofs.lemmas.List.{at_drop_more}
use Rattle.aa_compile.specs.declared.attach.Attachment.{Attachment}
use Rattle.aa_compile.specs.Gathered.{picked}
use Rattle.aa_compile.specs.Attached.{is_strong, longest, literal_at, front_at, profile_if, profiles_of}

pub literal_picked : (as' : List Attachment) (ns : List ℕ) → list_any (literal_at as') ns ≡ list_any (λ a. a.literal) (picked as' ns)
literal_picked as' [] = refl
literal_picked as' (n ∷ ns) = ap (λ b. literal_at as' n || b) (literal_picked as' ns) ∙ at (slice_get as' n)
  where
    at : (o : Option Attachment) → (option_map_or (λ (a : Attachment). a.literal) o false || list_any (λ a. a.literal) (picked as' ns)) ≡ list_any (λ a. a.literal) (cons_option o (picked as' ns))
    at None = refl
    at (Some a) = refl

pub profiles_picked : (literal : Bool) (front : ℕ) (as' : List Attachment) (ns : List ℕ) → profiles_of literal front as' ns ≡ map (λ a. a.profile) (filter (is_strong literal front) (picked as' ns))
profiles_picked literal front as' [] = refl
profiles_picked literal front as' (n ∷ ns) = ap (cons_option (profile_if literal front as' n)) (profiles_picked literal front as' ns) ∙ at (slice_get as' n)
  where
    strong : (a : Attachment) (b : Bool)
        → cons_option (cond b (Some a.profile) None) (map (λ a. a.profile) (filter (is_strong literal front) (picked as' ns))) ≡ map (λ a. a.profile)
        (cond b (a ∷ filter (is_strong literal front) (picked as' ns)) (filter (is_strong literal front) (picked as' ns)))
    strong a true = refl
    strong a false = refl

    at : (o : Option Attachment) → cons_option (option_and_then (λ (a : Attachment). cond (is_strong literal front a) (Some a.profile) None) o)
        (map (λ a. a.profile) (filter (is_strong literal front) (picked as' ns))) ≡ map (λ a. a.profile)
        (filter (is_strong literal front) (cons_option o (picked as' ns)))
    at None = refl
    at (Some a) = strong a (is_strong literal front a)

pub longest_step : (as' : List Attachment) (ns : List ℕ) (i acc next total : ℕ) → i < length ns → next ≡ max acc (front_at as' (get_or ns i 0))
    → max acc (longest (picked as' (drop i ns))) ≡ total → max next (longest (picked as' (drop (i + 1) ns))) ≡ total
longest_step as' ns i acc next total lt e so_far =
    let here : longest (picked as' (drop i ns)) ≡ max (front_at as' (get_or ns i 0)) (longest (picked as' (drop (i + 1) ns))) =
    at_drop_more (λ l. longest (picked as' l)) ns i 0 lt ∙ at (slice_get as' (get_or ns i 0)) (picked as' (drop (i + 1) ns)) in
    omega (arith, e, so_far, here)
  where
    at : (o : Option Attachment) (rest : List Attachment) → longest (cons_option o rest) ≡ max (option_map_or (λ (a : Attachment). a.front) o 0) (longest rest)
    at None rest = omega arith
    at (Some a) rest = refl
