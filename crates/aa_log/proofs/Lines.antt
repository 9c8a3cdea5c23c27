-- The lines of logs, one log after another.
use Rattle.std.proofs.Common.{◌≡◌, ℕ, ◌+◌, ◌<◌, ◌≤◌, List, [], ◌∷◌, ◌++◌, length, take, drop, get_or, Bool, Option, Some, None, IfSome, is_some, Bor, refl, ap, sym, subst, ◌∙◌}
use Rattle.std.proofs.lemmas.List.{take_all}
use Rattle.aa_files.specs.Texts.{slices}
use Rattle.aa_logs.specs.declared.chosen.Choice.{Choice}
use Rattle.aa_logs.specs.LogLines.{LogLine, log_lines}
use Rattle.aa_log.specs.declared.said.SaidReport.{SaidReport}
use Rattle.aa_log.specs.Said.{HasSaidTheSame, IsSaid}
use Rattle.aa_command.proofs.Lying.{lines_more, logs_more, path_behind, logs_long}
use Rattle.aa_command.specs.LogFiles.{LogFiles, AreLogs, lines_from}
use Rattle.aa_log.specs.Command.{IsFoundIn, IsFirstUnreadLog}

-- what a log that is read as the one of that number adds to what is found
abbrev pub AddsLog : Option LogFiles → List ℕ → ℕ → SaidReport → SaidReport → Type 0
AddsLog lying path n old new =
    IfSome lying (λ files. (bytes : List ℕ) × (files path ≡ Some bytes) × ((before : List LogLine) → IsSaid before old → IsSaid (before ++ log_lines n bytes) new))

lines_none : (lying : Option LogFiles) (r : SaidReport) → IsSaid [] r → IfSome lying (λ files. (logs : List (List ℕ)) × AreLogs files [] logs × IsSaid (lines_from 0 logs) r)
unfolding lines_from
lines_none None r is = tt
lines_none (Some files) r is = ([], tt, is)

-- what is found has of logs, in which nothing is found yet
pub found_none : (lying : Option LogFiles) (r : SaidReport) → IsSaid [] r → IsFoundIn lying r.report.choice (is_some r.report.each_skipped) [] r
found_none lying r is = record { chosen = refl; skipped = refl; found = lines_none lying r is }

lines_found : (lying : Option LogFiles) (paths : List (Bor (List ℕ))) (i : ℕ) (d path : Bor (List ℕ)) (old new : SaidReport) → i < length paths → path ≡ get_or paths i d → AddsLog lying path.now i old new
    → IfSome lying (λ files. (logs : List (List ℕ)) × AreLogs files (slices (take i paths)) logs × IsSaid (lines_from 0 logs) old)
    → IfSome lying (λ files. (logs : List (List ℕ)) × AreLogs files (slices (take (i + 1) paths)) logs × IsSaid (lines_from 0 logs) new)
lines_found None paths i d path old new lt item adds found = tt
lines_found (Some files) paths i d path old new lt item adds found =
    let logs = found.0 in
    let bytes = adds.0 in
    let lines : lines_from 0 (logs ++ bytes ∷ []) ≡ lines_from 0 logs ++ log_lines i bytes = lines_more 0 logs bytes ∙ ap (λ (m : ℕ). lines_from 0 logs ++ log_lines m bytes) (logs_long files paths i logs lt found.1) in
    (logs ++ bytes ∷ [], logs_more files paths i d path logs bytes lt item adds.1 found.1, subst (λ (ls : List LogLine). IsSaid ls new) (sym lines) (adds.2 (lines_from 0 logs) found.2))

pub found_more : (lying : Option LogFiles) (choice : Choice) (wants_skipped : Bool) (paths : List (Bor (List ℕ))) (i : ℕ) (d path : Bor (List ℕ)) (old new : SaidReport) → i < length paths → path ≡ get_or paths i d
    → AddsLog lying path.now i old new → HasSaidTheSame old new → IsFoundIn lying choice wants_skipped (slices (take i paths)) old → IsFoundIn lying choice wants_skipped (slices (take (i + 1) paths)) new
found_more lying choice wants_skipped paths i d path old new lt item adds same found = record {
  chosen = same.0 ∙ found.chosen;
  skipped = same.1 ∙ found.skipped;
  found = lines_found lying paths i d path old new lt item adds found.found;
}

pub found_all : (lying : Option LogFiles) (choice : Choice) (wants_skipped : Bool) (paths : List (Bor (List ℕ))) (i : ℕ) (r : SaidReport) → length paths ≤ i
    → IsFoundIn lying choice wants_skipped (slices (take i paths)) r → IsFoundIn lying choice wants_skipped (slices paths) r
found_all lying choice wants_skipped paths i r le found = subst (λ (ps : List (Bor (List ℕ))). IsFoundIn lying choice wants_skipped (slices ps) r) (take_all i paths le) found

-- the same by other names of the choice and of what is wanted
pub found_for : (lying : Option LogFiles) (before choice : Choice) (kept wants_skipped : Bool) (paths : List (List ℕ)) (r : SaidReport) → before ≡ choice → kept ≡ wants_skipped
    → IsFoundIn lying before kept paths r → IsFoundIn lying choice wants_skipped paths r
found_for lying before choice kept wants_skipped paths r p q found = record { chosen = found.chosen ∙ p; skipped = found.skipped ∙ q; found = found.found }

-- the path of that number, behind those whose logs are read
pub unread_behind : (lying : Option LogFiles) (choice : Choice) (wants_skipped : Bool) (paths : List (Bor (List ℕ))) (i : ℕ) (d path : Bor (List ℕ)) (r : SaidReport) → i < length paths → path ≡ get_or paths i d
    → IsFoundIn lying choice wants_skipped (slices (take i paths)) r → IsFirstUnreadLog lying choice wants_skipped (slices paths) path.now
unread_behind lying choice wants_skipped paths i d path r lt item found = record {
  before = slices (take i paths);
  behind = slices (drop (i + 1) paths);
  are = path_behind paths i d path lt item;
  said = r;
  read = found;
}

pub unread_for : (lying : Option LogFiles) (before choice : Choice) (kept wants_skipped : Bool) (paths : List (List ℕ)) (path : List ℕ) → before ≡ choice → kept ≡ wants_skipped
    → IsFirstUnreadLog lying before kept paths path → IsFirstUnreadLog lying choice wants_skipped paths path
unread_for lying before choice kept wants_skipped paths path p q unread = record {
  before = unread.before;
  behind = unread.behind;
  are = unread.are;
  said = unread.said;
  read = found_for lying before choice kept wants_skipped unread.before unread.said p q unread.read;
}
