-- Answers as they are printed in JSON.
-- Source: own.
use Rattle.std.specs.Prelude.{ℕ, List, [], ◌∷◌, ◌++◌, map, codes, decimal, Bool, true, Option, Some}
use Rattle.aa_text.specs.Jsons.{key_text, bool_text, json_bytes, member_text, list_text}
use Rattle.aa_ask.specs.Json.{json_verdict}
use Rattle.aa_who.specs.Untold.{json_asker, json_untold}
use Rattle.aa_undecided.specs.Answers.{PlacedFile}
use Rattle.aa_undecided.specs.Jsons.{json_placed}
use Rattle.aa_assert.specs.Findings.{Found, ByRequest, ByWay, Complaining}
use Rattle.aa_assert.specs.Answers.{Answered}
use Rattle.aa_assert.specs.Shown.{files_open}

-- whose it is, and whether the profile complains
unfoldable pub json_whose : Option (List ℕ) → Bool → List ℕ
json_whose name complains = codes "{" ++ (key_text (codes "profile") ++ json_asker name) ++ member_text (codes "complains") (bool_text complains)

-- by whom a claim is broken: such a profile, with the verdict on a request, as of ask, or with where it leads and by which words, or without
unfoldable pub json_found : Found → List ℕ
json_found (ByRequest complains t) = json_whose t.asker complains ++ member_text (codes "as") (json_verdict t) ++ codes "}"
json_found (ByWay complains w) =
    json_whose w.asker complains ++ member_text (codes "reaches") (json_asker w.to) ++ member_text (codes "by") (list_text (map json_bytes w.words)) ++ codes "}"
json_found (Complaining name) = json_whose (Some name) true ++ codes "}"

-- a claim by the number of its line, and by whom it is broken
unfoldable pub json_broken : Answered → List ℕ
json_broken a = codes "{" ++ key_text (codes "line") ++ decimal a.number ++ member_text (codes "broken") (list_text (map json_found a.found.list))

-- a member with those by whom a claim is broken at unclean paths alone, if there are some
abbrev pub json_apart : List Found → List ℕ
json_apart [] = []
json_apart (f ∷ fs) = member_text (codes "unclean") (list_text (map json_found (f ∷ fs)))

-- so, by whom at unclean paths alone, of whom that can't be told, and the skipped files that could break it where nobody does
unfoldable pub json_answer : Answered → List ℕ
json_answer a =
    json_broken a ++ json_apart a.found.apart ++ member_text (codes "untold") (list_text (map json_untold a.found.untold))
    ++ member_text (codes "skipped") (list_text (map json_placed (files_open a)))
    ++ codes "}"

-- one JSON object with the claims, how many rules decide nothing, and the files that are skipped
unfoldable pub json_answers : ℕ → List PlacedFile → List Answered → List ℕ
json_answers passed skipped answers =
    codes "{" ++ key_text (codes "claims") ++ list_text (map json_answer answers) ++ member_text (codes "passed_over") (decimal passed)
    ++ member_text (codes "skipped") (list_text (map json_placed skipped)) ++ codes "}\n"
