-- Answers as they are printed in JSON.
-- Source: own.
use Rattle.std.specs.Prelude.{ℕ, List, [], ◌∷◌, ◌++◌, map, codes, decimal, Bool, true, false, Option, Some, None, option_map}
use Rattle.aa_text.specs.Jsons.{json_bytes, key_text, bool_text, member_text, member_if, list_text}
use Rattle.aa_ask.specs.Json.{json_verdict}
use Rattle.aa_undecided.specs.Answers.{PlacedFile}
use Rattle.aa_undecided.specs.Jsons.{json_placed}
use Rattle.aa_who.specs.Untold.{json_untold}
use Rattle.aa_who.specs.Grants.{Granted}
use Rattle.aa_who.specs.Answers.{Answered}

-- there is none that isn't granted
abbrev pub is_none : Option (List ℕ) → Bool
is_none None = true
is_none (Some other) = false

-- a profile, and whether all is granted to it
unfoldable pub json_front : Granted → List ℕ
json_front g = codes "{" ++ (key_text (codes "profile") ++ json_bytes g.name) ++ member_text (codes "every") (bool_text (is_none g.refused))

-- whether it is in complain mode, and a verdict that grants
unfoldable pub json_shown : Granted → List ℕ
json_shown g = member_text (codes "complains") (bool_text g.complains) ++ member_text (codes "as") (json_verdict g.verdict)

-- so, and a request that isn't granted, or one at an unclean path, where all others are
unfoldable pub json_grant : Granted → List ℕ
json_grant g =
    json_front g ++ json_shown g ++ member_if (codes "not") (option_map json_bytes g.refused) ++ member_if (codes "not_unclean") (option_map json_bytes g.apart)
    ++ codes "}"

-- whether all is granted, or null where it can't be told
abbrev pub json_all : Option Bool → List ℕ
json_all (Some all) = bool_text all
json_all None = codes "null"

-- profiles that are granted it at unclean paths alone, if there are some
abbrev pub json_apart : List Granted → List ℕ
json_apart [] = []
json_apart (g ∷ gs) = member_text (codes "unclean") (list_text (map json_grant (g ∷ gs)))

-- a word, and the profiles that are granted it
unfoldable pub json_granted : Answered → List ℕ
json_granted a =
    codes "{" ++ (key_text (codes "word") ++ json_bytes a.word) ++ member_text (codes "granted") (list_text (map json_grant a.grants)) ++ json_apart a.apart

-- so, with the profiles of which it can't be told, how many there are, and whether a task without a profile is granted it
unfoldable pub json_answer : Answered → List ℕ
json_answer a =
    json_granted a ++ member_text (codes "untold") (list_text (map json_untold a.untold)) ++ member_text (codes "profiles") (decimal a.profiles)
    ++ member_text (codes "unconfined") (json_all a.is_free) ++ codes "}"

-- the answers, and how many rules decide nothing
unfoldable pub json_told : ℕ → List Answered → List ℕ
json_told passed answers = codes "{" ++ key_text (codes "answers") ++ list_text (map json_answer answers) ++ member_text (codes "passed_over") (decimal passed)

-- one JSON object with these, and the files that are skipped
unfoldable pub json_answers : ℕ → List PlacedFile → List Answered → List ℕ
json_answers passed skipped answers = json_told passed answers ++ member_text (codes "skipped") (list_text (map json_placed skipped)) ++ codes "}\n"
