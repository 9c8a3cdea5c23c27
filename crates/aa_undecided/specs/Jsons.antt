-- Answers as they are printed in JSON.
-- Source: own.
use Rattle.std.specs.Prelude.{ℕ, List, ◌++◌, map, codes}
use Rattle.aa_text.specs.Jsons.{json_bytes, json_place, key_text, member_text, list_text}
use Rattle.aa_ask.specs.Json.{json_verdict}
use Rattle.aa_undecided.specs.Answers.{PlacedFile, DoubtData, AnswerData, Settled, Undecided}

-- a skipped file, and where its fault lies
unfoldable pub json_placed : PlacedFile → List ℕ
json_placed f = codes "{" ++ key_text (codes "file") ++ json_bytes f.path ++ codes "," ++ json_place f.at f.place ++ codes "}"

-- a request that is undecided: neither granted nor not, with the files that could decide it
unfoldable pub json_doubt : DoubtData → List ℕ
json_doubt k =
    codes "{" ++ key_text (codes "request") ++ json_bytes k.word ++ member_text (codes "granted") (codes "null")
    ++ member_text (codes "skipped") (list_text (map json_placed k.files)) ++ codes "}"

-- an answer as a JSON object
abbrev pub json_of : AnswerData → List ℕ
json_of (Settled t) = json_verdict t
json_of (Undecided k) = json_doubt k

-- one JSON list and a line end
abbrev pub json_answers : List AnswerData → List ℕ
json_answers as' = list_text (map json_of as') ++ codes "\n"
