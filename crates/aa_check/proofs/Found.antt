-- What is found of files, one behind another.
use Rattle.std.proofs.Common.{◌≡◌, ◌≢◌, ℕ, Bool, ◌+◌, ◌<◌, ◌≤◌, List, [], ◌∷◌, ◌++◌, length, flat_map, take, get_or, All, Vec}
use Rattle.std.proofs.Common.{true, false, Option, Some, None, refl, sym, ap, subst, ◌∙◌, arith, append_assoc}
use Rattle.std.specs.Prelude.{option_map, option_to_list, unwrap_or, if◌then◌else◌}
use Rattle.std.specs.declared.alloc.Global.{Global}
use Rattle.std.proofs.lemmas.List.{append-nil, take_more, map-append, length-map}
use Rattle.std.proofs.lemmas.List.Elements.{All-cons}
use Rattle.aa_files.specs.Texts.{texts}
use Rattle.aa_text.specs.declared.fault.FaultReport.{FaultReport}
use Rattle.aa_files.specs.declared.unit.UnitFault.{UnitFault}
use Rattle.aa_files.specs.declared.unit.UnitFault.TheVariants.{NoMemory}
use Rattle.aa_faults.specs.Further.{AreFurther}
use Rattle.aa_check.specs.declared.report.ProfileReport.{ProfileReport}
use Rattle.aa_check.specs.declared.report.FileReport.{FileReport}
use Rattle.aa_check.specs.Counts.{CountsPolicy}
use Rattle.aa_check.specs.Names.{first_with, twice_text, warning_of, warnings_of, IsWarned}
use Rattle.aa_command.specs.Setting.{Setting}
use Rattle.aa_diagnostics.specs.Reports.{IsSaid}
use Rattle.aa_files.specs.declared.unit.Unit as unit
use Rattle.aa_skipping.specs.declared.unread.Unread as skipping
use Rattle.aa_skipped.specs.Heads.{head_of, AreHeadsOf, Known, Unknown}
use Rattle.aa_check.specs.Checked.{most_further, TellsHeld, HasFault, HasOnly, IsFoundOf, Accepted, Refused, IsFound, Read, Unread, IsNext, AreFound}

-- what is said of a unit is not want of memory
pub said_of_more : (e : UnitFault) (fault : FaultReport) (unread : Bool) → IsSaid e fault unread → e ≢ NoMemory
said_of_more e fault unread said is = subst (λ x. IsSaid x fault unread) is said

-- where there are no texts there is nothing
no_texts : (lines : List (Vec ℕ Global)) → texts lines ≡ [] → lines ≡ []
no_texts [] none = refl
no_texts (line ∷ lines) none = cc

has_warned : (files : List FileReport) (f g : FileReport) (w : IsWarned files f g) {fault : _} → HasFault fault f → HasFault fault g
has_warned files f g w has = record {
  fault_is = w.fault ∙ has.fault_is;
  profiles = ap (λ v. v.items) w.profiles ∙ has.profiles;
  passed_over = ap (λ v. v.items) w.passed_over ∙ has.passed_over;
  warnings = no_texts g.warnings.items (w.warnings ∙ ap (flat_map (warning_of files f)) has.profiles);
}

only_warned : (files : List FileReport) (f g : FileReport) (w : IsWarned files f g) {fault : _} → HasOnly fault f → HasOnly fault g
only_warned files f g w only = record { has = has_warned files f g w only.has; alone = ap (λ v. v.items) w.further ∙ only.alone }

of_warned : (files : List FileReport) (f g : FileReport) (w : IsWarned files f g) {folders : List (List ℕ)} {states : ℕ} {u : _} → IsFoundOf folders states u f → IsFoundOf folders states u g
of_warned files f g w {folders} {states} {u} (Accepted policy is none alone nothing counts) =
    Accepted policy is (w.fault ∙ none) (ap (λ v. v.items) w.further ∙ alone) (w.held ∙ nothing)
    (subst (λ v. CountsPolicy u policy v.items g.passed_over.items) (sym w.profiles)
    (subst (λ v. CountsPolicy u policy f.profiles.items v.items) (sym w.passed_over) counts))
of_warned files f g w {folders} {states} {u} (Refused e fault why told has further held) =
    Refused e fault why told (has_warned files f g w has) (subst (λ v. AreFurther folders states most_further u e v.items) (sym w.further) further)
    (subst (λ h. TellsHeld u h) (sym w.held) held)

-- the warnings change nothing else of what is found
pub found_warned : (s : Setting) (path : List ℕ) (files : List FileReport) (f g : FileReport) → IsWarned files f g → IsFound s path f → IsFound s path g
found_warned s path files f g w (Read u loaded of read) = Read u loaded (of_warned files f g w of) (w.is_unread ∙ read)
found_warned s path files f g w (Unread e fault why said only nothing) = Unread e fault why (subst (λ b. IsSaid e fault b) (sym w.is_unread) said) (only_warned files f g w only) (w.held ∙ nothing)

-- one file more
pub found_more : (s : Setting) (before : List FileReport) (paths : List (List ℕ)) (files : List FileReport) (path : List ℕ) (f : FileReport)
    → AreFound s before paths files → IsNext s (before ++ files) path f → AreFound s before (paths ++ path ∷ []) (files ++ f ∷ [])
found_more s before [] [] path f found next = (subst (λ (b : List FileReport). IsNext s b path f) (append-nil before) next, tt)
found_more s before [] (g ∷ gs) path f found next = absurd found
found_more s before (p ∷ ps) [] path f found next = absurd found
found_more s before (p ∷ ps) (g ∷ gs) path f found next =
    (found.0, found_more s (before ++ g ∷ []) ps gs path f found.1 (subst (λ (b : List FileReport). IsNext s b path f) (sym (append_assoc before (g ∷ []) gs)) next))

-- as many as there are paths
pub found_many : (s : Setting) (before : List FileReport) (paths : List (List ℕ)) (files : List FileReport) → AreFound s before paths files → length files ≡ length paths
found_many s before [] [] found = refl
found_many s before [] (g ∷ gs) found = absurd found
found_many s before (p ∷ ps) [] found = absurd found
found_many s before (p ∷ ps) (g ∷ gs) found = let rest = found_many s (before ++ g ∷ []) ps gs found.1 in omega arith

few_of : {folders : List (List ℕ)} {states : ℕ} {u : _} (f : FileReport) → IsFoundOf folders states u f → length f.profiles.items ≤ 4096
few_of f (Accepted policy is none alone nothing counts) = let few = policy.lawful.limits.counts.few in let many = counts.many in omega arith
few_of f (Refused e fault why told has further held) = subst (λ (l : List _). length l ≤ 4096) (sym has.profiles) (omega arith)

-- a file has as many profiles as a policy may have
pub few_found : (s : Setting) (path : List ℕ) (f : FileReport) → IsFound s path f → length f.profiles.items ≤ 4096
few_found s path f (Read u loaded of read) = few_of f of
few_found s path f (Unread e fault why said only nothing) = subst (λ (l : List _). length l ≤ 4096) (sym only.has.profiles) (omega arith)

-- each of the files has at most so many
pub few_all : (s : Setting) (before : List FileReport) (paths : List (List ℕ)) (files : List FileReport) → AreFound s before paths files → All (λ (f : FileReport). length f.profiles.items ≤ 4096) files
few_all s before [] [] found = λ k d lt. absurd (omega arith)
few_all s before [] (g ∷ gs) found = absurd found
few_all s before (p ∷ ps) [] found = absurd found
few_all s before (p ∷ ps) (g ∷ gs) found =
    All-cons (λ (f : FileReport). length f.profiles.items ≤ 4096) g gs (few_found s p g found.0.found) (few_all s (before ++ g ∷ []) ps gs found.1)

few_heads : (u : unit.Unit) (r : skipping.Unread) → AreHeadsOf u r → length r.heads ≤ 4096
few_heads u r (Known ws policy has spells is) =
    let few = policy.lawful.limits.counts.few in
    let long : length r.heads ≡ length policy.profiles = ap (λ (x : skipping.Unread). length x.heads) is ∙ length-map policy.profiles head_of in
    omega arith
few_heads u r (Unknown none is) = subst (λ (x : skipping.Unread). length x.heads ≤ 4096) (sym is) (omega arith)

held_few : (others : Bool) (n : ℕ) → n ≤ 4096 → unwrap_or (if others then None else Some n) 0 ≤ 4096
held_few true n few = omega arith
held_few false n few = few

held_of : {folders : List (List ℕ)} {states : ℕ} (u : unit.Unit) (f : FileReport) → IsFoundOf folders states u f → unwrap_or f.held 0 ≤ 4096
held_of u f (Accepted policy is none alone nothing counts) = subst (λ (h : Option ℕ). unwrap_or h 0 ≤ 4096) (sym nothing) (omega arith)
held_of u f (Refused e fault why told has further held) =
    subst (λ (h : Option ℕ). unwrap_or h 0 ≤ 4096) (sym held.told) (held_few held.unread.others (length held.unread.heads) (few_heads u held.unread held.heads))

held_found : (s : Setting) (path : List ℕ) (f : FileReport) → IsFound s path f → unwrap_or f.held 0 ≤ 4096
held_found s path f (Read u loaded of read) = held_of u f of
held_found s path f (Unread e fault why said only nothing) = subst (λ (h : Option ℕ). unwrap_or h 0 ≤ 4096) (sym nothing) (omega arith)

-- of each of the files at most so many profiles are told
pub held_all : (s : Setting) (before : List FileReport) (paths : List (List ℕ)) (files : List FileReport) → AreFound s before paths files → All (λ (f : FileReport). unwrap_or f.held 0 ≤ 4096) files
held_all s before [] [] found = λ k d lt. absurd (omega arith)
held_all s before [] (g ∷ gs) found = absurd found
held_all s before (p ∷ ps) [] found = absurd found
held_all s before (p ∷ ps) (g ∷ gs) found =
    All-cons (λ (f : FileReport). unwrap_or f.held 0 ≤ 4096) g gs (held_found s p g found.0.found) (held_all s (before ++ g ∷ []) ps gs found.1)

-- warnings are a matter of the path and the profiles
abbrev warnings_by : List FileReport → List ℕ → List ProfileReport → List (List ℕ)
warnings_by files path profiles = flat_map (λ (p : ProfileReport). option_to_list (option_map (λ (e : FileReport). twice_text path p.name.items e.path.items) (first_with p.name.items files))) profiles

same_warnings : (files : List FileReport) (f g : FileReport) → IsWarned files f g → warnings_of files f ≡ warnings_of files g
same_warnings files f g w = ap (λ v. warnings_by files v.items f.profiles.items) (sym w.path) ∙ ap (λ v. warnings_by files g.path.items v.items) (sym w.profiles)

-- a file more, of that path
pub found_behind : (s : Setting) (paths : List (List ℕ)) (name : List ℕ) (files slice more : List FileReport) (f g : FileReport)
    → slice ≡ files → more ≡ files ++ g ∷ [] → f.path.items ≡ name → IsFound s name f → IsWarned slice f g → AreFound s [] paths files → AreFound s [] (paths ++ name ∷ []) more
found_behind s paths name files slice more f g is_slice is_more at found warned so_far =
    let w : IsWarned files f g = subst (λ (l : List FileReport). IsWarned l f g) is_slice warned in
    let next : IsNext s files name g = record {
      path_is = ap (λ v. v.items) w.path ∙ at;
      found = found_warned s name files f g w found;
      warned = w.warnings ∙ same_warnings files f g w;
    } in
    subst (λ (l : List FileReport). AreFound s [] (paths ++ name ∷ []) l) (sym is_more) (found_more s [] paths files name g so_far next)

-- the paths up to the next one
pub next_path : (paths : List (Vec ℕ Global)) (i : ℕ) (path : Vec ℕ Global) (name : List ℕ) → i < length paths → path ≡ get_or paths i path
    → name ≡ path.items → texts (take i paths) ++ name ∷ [] ≡ texts (take (i + 1) paths)
next_path paths i path name lt item is_name =
    let one : texts (take (i + 1) paths) ≡ texts (take i paths) ++ path.items ∷ [] =
    ap texts (take_more paths i path lt ∙ ap (λ (x : Vec ℕ Global). take i paths ++ x ∷ []) (sym item)) ∙ map-append (λ (v : Vec ℕ Global). v.items) (take i paths) (path ∷ []) in
    ap (λ (n : List ℕ). texts (take i paths) ++ n ∷ []) is_name ∙ sym one
