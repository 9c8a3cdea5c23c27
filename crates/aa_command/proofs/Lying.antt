-- The logs that lie at paths, one after another.
use Rattle.std.proofs.Common.{◌≡◌, ℕ, ◌+◌, ◌<◌, List, [], ◌∷◌, ◌++◌, length, take, drop, get_or, Bor, Some, ap, sym, subst, ◌∙◌, arith, append_assoc}
use Rattle.std.proofs.lemmas.List.{append-nil, take_more, take-append-drop, drop_more, map-append, length-map, length-take}
use Rattle.std.proofs.lemmas.Slice.Zip.{all_zipped_more, AllZip-long}
use Rattle.aa_files.specs.Texts.{slices}
use Rattle.aa_logs.specs.LogLines.{LogLine, log_lines}
use Rattle.aa_command.specs.LogFiles.{LogFiles, AreLogs, lines_from}

-- one log more
pub lines_more : (n : ℕ) (logs : List (List ℕ)) (bytes : List ℕ) → lines_from n (logs ++ bytes ∷ []) ≡ lines_from n logs ++ log_lines (n + length logs) bytes
unfolding lines_from
lines_more n [] bytes = let same : n ≡ n + 0 = omega arith in append-nil (log_lines n bytes) ∙ ap (λ (m : ℕ). log_lines m bytes) same
lines_more n (b ∷ bs) bytes =
    let here : n + 1 + length bs ≡ n + length (b ∷ bs) = omega arith in
    ap (λ (l : List LogLine). log_lines n b ++ l) (lines_more (n + 1) bs bytes ∙ ap (λ (m : ℕ). lines_from (n + 1) bs ++ log_lines m bytes) here)
    ∙ sym (append_assoc (log_lines n b) (lines_from (n + 1) bs) (log_lines (n + length (b ∷ bs)) bytes))

-- a path more, and the log there
pub logs_more : (files : LogFiles) (paths : List (Bor (List ℕ))) (i : ℕ) (d path : Bor (List ℕ)) (logs : List (List ℕ)) (bytes : List ℕ) → i < length paths → path ≡ get_or paths i d
    → files path.now ≡ Some bytes → AreLogs files (slices (take i paths)) logs → AreLogs files (slices (take (i + 1) paths)) (logs ++ bytes ∷ [])
logs_more files paths i d path logs bytes lt item at are =
    let one : slices (take (i + 1) paths) ≡ slices (take i paths) ++ path.now ∷ [] =
    ap slices (take_more paths i d lt ∙ ap (λ (x : Bor (List ℕ)). take i paths ++ x ∷ []) (sym item)) ∙ map-append (λ (x : Bor (List ℕ)). x.now) (take i paths) (path ∷ []) in
    subst (λ (ps : List (List ℕ)). AreLogs files ps (logs ++ bytes ∷ [])) (sym one) (all_zipped_more (λ (p b : List ℕ). files p ≡ Some b) (slices (take i paths)) logs path.now bytes are at)

-- a path behind those before it
pub path_behind : (paths : List (Bor (List ℕ))) (i : ℕ) (d path : Bor (List ℕ)) → i < length paths → path ≡ get_or paths i d → slices paths ≡ slices (take i paths) ++ path.now ∷ slices (drop (i + 1) paths)
path_behind paths i d path lt item =
    ap slices (sym (take-append-drop i paths) ∙ ap (λ (ps : List (Bor (List ℕ))). take i paths ++ ps) (drop_more paths i d lt ∙ ap (λ (p : Bor (List ℕ)). p ∷ drop (i + 1) paths) (sym item)))
    ∙ map-append (λ (x : Bor (List ℕ)). x.now) (take i paths) (path ∷ drop (i + 1) paths)

-- as many logs as paths
pub logs_long : (files : LogFiles) (paths : List (Bor (List ℕ))) (i : ℕ) (logs : List (List ℕ)) → i < length paths → AreLogs files (slices (take i paths)) logs → 0 + length logs ≡ i
logs_long files paths i logs lt are =
    let long = AllZip-long (λ (p b : List ℕ). files p ≡ Some b) (slices (take i paths)) logs are in
    let taken = length-map (take i paths) (λ (x : Bor (List ℕ)). x.now) in
    omega (arith, length-take i paths)
