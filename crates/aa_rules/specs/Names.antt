-- Which words name a profile, and which are left out where a rule begins.
-- Source: apparmor.d(5), "Profile Head"; own.
use Rattle.std.specs.Prelude.{ℕ, List, [], ◌∷◌, Bool, true, false, not, ◌&&◌, ◌||◌, ◌==◌, codes}
use Rattle.std.specs.Bool.{nat_eq}
use Rattle.std.specs.List.{starts_with}
use Rattle.std.specs.Str.{bytes_eq}
use Rattle.aa_base.specs.declared.fault.PolicyKind.{PolicyKind}
use Rattle.aa_base.specs.declared.fault.PolicyKind.TheVariants.{Syntax, Unsupported}
use Rattle.aa_words.specs.Splits.{is_one_of}
pub use Rattle.aa_words.specs.Runs.{begins_with}

-- nothing stands there
abbrev pub is_empty : List ℕ → Bool
is_empty [] = true
is_empty (b ∷ bs) = false

-- the two bytes stand side by side somewhere
unfoldable pub holds_pair : ℕ → ℕ → List ℕ → Bool
holds_pair a b [] = false
holds_pair a b (x ∷ xs) = (x == a && begins_with b xs) || holds_pair a b xs

-- the bytes stand somewhere in the text, side by side
unfoldable pub holds : List ℕ → List ℕ → Bool
holds part [] = false
holds part (x ∷ xs) = starts_with nat_eq (x ∷ xs) part || holds part xs

-- a name that no namespace or stack is written with: it isn't empty, begins with neither : nor &, and holds no //&
unfoldable pub is_single_name : List ℕ → Bool
is_single_name name = not (is_empty name) && not (begins_with 58 name) && not (begins_with 38 name) && not (holds (codes "//&") name)

-- the name behind an arrow: it holds no @{ besides
unfoldable pub is_target_name : List ℕ → Bool
is_target_name name = is_single_name name && not (holds_pair 64 123 name)

-- a name that can be a full one: it isn't the word for no profile, and holds no //
unfoldable pub is_full_name : List ℕ → Bool
is_full_name name = not (bytes_eq name (codes "unconfined")) && not (holds_pair 47 47 name)

-- the name of a profile: at the top level it is its full one
unfoldable pub is_right_name : Bool → List ℕ → Bool
is_right_name top name = is_single_name name && (not top || is_full_name name)

-- the name behind the keyword: it holds no @{
unfoldable pub is_plain_name : Bool → List ℕ → Bool
is_plain_name top name = is_right_name top name && not (holds_pair 64 123 name)

-- what a word that names no profile is refused for: there is none, or one that is written as the language leaves out
abbrev pub name_fault : List ℕ → PolicyKind
name_fault [] = Syntax
name_fault (b ∷ bs) = Unsupported

-- the words of the language that this one leaves out where a rule begins
abbrev pub left_out_words : List (List ℕ)
left_out_words =
    codes "alias" ∷ codes "link" ∷ codes "hat" ∷ codes "change_hat" ∷ codes "if" ∷ codes "else"
    ∷ codes "priority" ∷ codes "quiet" ∷ codes "prompt" ∷ codes "other" ∷ codes "all" ∷ []

-- a word that is left out where a rule begins: it is one of these, or begins with $ or ^
unfoldable pub is_left_out : List ℕ → Bool
is_left_out name = begins_with 36 name || begins_with 94 name || is_one_of left_out_words name
