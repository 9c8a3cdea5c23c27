-- A line for which nothing is answered, as JSON.
-- Source: own.
use Rattle.std.specs.Prelude.{ℕ, ◌-◌, ◌==◌, ◌&&◌, nat_eq, nat_lt, List, [], ◌∷◌, ◌++◌, length, take, drop, codes, Bool, if◌then◌else◌}
use Rattle.std.specs.List.{starts_with}
use Rattle.aa_text.specs.Jsons.{json_bytes}
use Rattle.aa_command.specs.Printed.{Printed, refusal_line}

-- the line that is begun behind a byte: the one so far, or where the byte ends it, the next one, if it isn't empty
abbrev pub begun : List ℕ → ℕ → List ℕ → List ℕ
begun line b rest = if b == 10 && nat_lt 0 (length rest) then rest else line

-- the last line of those that go on so
abbrev pub last_from : List ℕ → List ℕ → List ℕ
last_from line [] = line
last_from line (b ∷ rest) = last_from (begun line b rest) rest

-- the last line, without its end
abbrev pub last_line : List ℕ → List ℕ
last_line lines = take (length (last_from lines lines) - 1) (last_from lines lines)

-- a kind and a sentence as a JSON object
abbrev pub json_said : List ℕ → List ℕ → List ℕ
json_said kind sentence = codes "{\"kind\":\"" ++ (kind ++ (codes "\",\"message\":" ++ (json_bytes sentence ++ codes "}")))

-- a line begins so
abbrev pub begins : List ℕ → List ℕ → Bool
begins front line = starts_with nat_eq line front

-- the kind of a line and its sentence, by how it begins
unfoldable pub json_line : List ℕ → List ℕ
json_line line =
    if begins (codes "error: no profile is called ") line then json_said (codes "NoProfile") (drop 7 line)
    else (if begins (codes "error: this is no request: ") line then json_said (codes "NoRequest") (drop 7 line)
    else (if begins (codes "error: ") line then json_said (codes "Refused") (drop 7 line)
    else (if begins (codes "TooLarge: ") line then json_said (codes "TooLarge") (drop 10 line)
    else (if begins (codes "NotText: ") line then json_said (codes "NotText") (drop 9 line)
    else json_said (codes "Refused") line))))

-- nothing is answered, though the command line is none that is refused, and no fault but a line says why
abbrev pub is_said_alone : Printed → Bool
is_said_alone p = length p.answers == 0 && length p.refusal == 0 && nat_lt 0 (length p.faults) && p.status == 1

-- the fault in JSON for which nothing is answered: that which was found, or the last line that is said in its place
abbrev pub refusal_of : Printed → List ℕ
refusal_of p = if is_said_alone p then json_line (last_line p.faults) else p.refusal

-- what is printed where the answers are in JSON: behind them the fault, if there is one
abbrev pub in_json : Printed → Printed
in_json p = record { answers = p.answers ++ refusal_line (refusal_of p); faults = p.faults; refusal = []; status = p.status }
