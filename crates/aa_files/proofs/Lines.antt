-- A line includes the path that it is made of.
use Rattle.std.proofs.Common.{◌≡◌, ℕ, ◌+◌, Bool, true, false, not, ◌||◌, ◌==◌, List, [], ◌∷◌, ◌++◌, cond, refl, sym, ap, ◌∙◌, codes}
use Rattle.std.specs.List.{list_any}
use Rattle.aa_words.specs.Runs.{name_len}
use Rattle.aa_words.specs.Includes.{ends_include_name, include_name, included_name, from_sign, behind_white}
use Rattle.aa_files.specs.Folders.{can_stand, include_line, LinesIncludeTheirPaths}

name_so : (v a : Bool) (b : ℕ) (rest path : List ℕ) → (not a ≡ true → rest ≡ path) → not (v || a) ≡ true → cond v [] (b ∷ rest) ≡ b ∷ path
name_so true a b rest path ih free = absurd cc
name_so false a b rest path ih free = ap (λ (t : List ℕ). b ∷ t) (ih free)

name_ends : (path after : List ℕ) → can_stand path ≡ true → include_name 34 (path ++ 34 ∷ after) ≡ path
unfolding include_name
name_ends [] after free = refl
name_ends (b ∷ bs) after free = name_so (ends_include_name 34 b) (list_any (λ c. ends_include_name 34 c) bs) b (include_name 34 (bs ++ 34 ∷ after)) bs (name_ends bs after) free

reads_path : (path : List ℕ) → included_name (include_line path) ≡ include_name 34 (path ++ codes "\"\n")
unfolding included_name include_line from_sign behind_white name_len
reads_path path = refl

pub lines_include_their_paths : LinesIncludeTheirPaths
lines_include_their_paths path free = reads_path path ∙ name_ends path (10 ∷ []) free
