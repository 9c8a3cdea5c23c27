-- Why no profile is attached to a program.
-- Source: apparmor.d(5), "Profile Head"; own.
use Rattle.std.specs.Prelude.{ℕ, List, [], ◌∷◌, ◌++◌, ◌==◌, length, flat_map, codes, Bool, if◌then◌else◌, Option, Some, None, Ok, Err, option_map}
use Rattle.std.specs.List.{list_any}
use Rattle.aa_base.specs.Values.{value}
use Rattle.aa_pattern.specs.declared.pattern.Pattern.{Pattern}
use Rattle.aa_pattern.specs.Matching.{is_match}
use Rattle.aa_model.specs.declared.policy.Policy.{Policy}
use Rattle.aa_model.specs.declared.policy.Profile.{Profile}
use Rattle.aa_model.specs.declared.label.Label.{Label}
use Rattle.aa_model.specs.declared.label.Label.TheVariants.{Unconfined, Confined}
use Rattle.aa_model.specs.Lawful.{has_parent}
use Rattle.aa_compile.specs.declared.attach.Attachment.{Attachment}
use Rattle.aa_compile.specs.Attached.{attachment_by, is_strong, longest}
use Rattle.aa_compile.specs.Labels.{first_profiles}
use Rattle.aa_ask.specs.declared.asking.Manner.{Manner}
use Rattle.aa_ask.specs.Asked.{Outcome, listed_profile, label_by_program}

-- an attachment, where it matches the path; whose it is doesn't count here
abbrev pub match_of : List ℕ → Pattern → List Attachment
match_of path p = if is_match p.items.items path then attachment_by 0 p ∷ [] else []

-- those that match
abbrev pub matches_in : List ℕ → List Pattern → List Attachment
matches_in path ps = flat_map (match_of path) ps

-- the attachments of a top-level profile that match the path
abbrev pub matches_of : List ℕ → Profile → List Attachment
matches_of path p = if has_parent None p then matches_in path p.attachments else []

-- those of all top-level profiles
abbrev pub all_matches : List ℕ → List Profile → List Attachment
all_matches path ps = flat_map (matches_of path) ps

-- one of them is literal, where one has to be literal, or else has so long a front
abbrev pub is_rival : Bool → ℕ → List Attachment → Bool
is_rival literal front own = list_any (is_strong literal front) own

-- the name of a profile, where one of its attachments is as strong as any that matches
unfoldable pub rival_name : List ℕ → Bool → ℕ → Profile → List ℕ
rival_name path literal front p = if is_rival literal front (matches_of path p) then listed_profile p else []

-- what stands before the profiles that tie
unfoldable pub tie_words : List ℕ
tie_words = codes ", since these tie:"

-- the names of the profiles whose attachments are literal, or else have that front
unfoldable pub rival_names : List ℕ → List Profile → Bool → ℕ → List ℕ
rival_names path ps literal front = flat_map (rival_name path literal front) ps

-- of some attachments that match it is said which profiles have the strongest
abbrev pub tie_text : List ℕ → List Profile → List Attachment → List ℕ
tie_text path ps as' =
    if length as' == 0 then []
    else tie_words ++ rival_names path ps (list_any (λ (a : Attachment). a.literal) as') (longest as')

-- no profile is attached to the path, since no attachment matches, or since several are as strong
abbrev pub unattached_line : List ℕ → List Profile → List ℕ
unattached_line path ps = codes "warning: no profile is attached to " ++ value path ++ tie_text path ps (all_matches path ps) ++ codes "\n"

-- what is warned of where a program asks under this label
abbrev pub program_warning : List Policy → List ℕ → Outcome Label → List ℕ
program_warning policies path (Ok (Unconfined k)) = unattached_line path (first_profiles policies)
program_warning policies path (Ok (Confined k n)) = []
program_warning policies path (Err line) = []

-- a profile that is named, or that is the only one, isn't warned of
abbrev pub warning_by : List Policy → Option (List ℕ) → Option (List ℕ) → List ℕ
warning_by policies (Some name) program = []
warning_by policies None (Some path) = program_warning policies path (label_by_program policies path)
warning_by policies None None = []

-- what is warned of before anything is answered
abbrev pub opening_warning : List Policy → Manner → List ℕ
opening_warning policies m = warning_by policies (option_map (λ name. name.now) m.profile) (option_map (λ path. path.now) m.program)
