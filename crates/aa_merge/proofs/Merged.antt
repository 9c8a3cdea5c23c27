-- Parts one after another, and what is printed of them.
use Rattle.std.proofs.Common.{◌≡◌, ℕ, ◌+◌, ◌<◌, List, [], ◌∷◌, ◌++◌, length, take, drop, get_or, Bool, Option, Some, None, IfSome, Ok}
use Rattle.std.proofs.Common.{refl, sym, ap, subst, ◌∙◌}
use Rattle.std.specs.Prelude.{Vec}
use Rattle.std.specs.List.{AllZip}
use Rattle.std.specs.declared.alloc.Global.{Global}
use Rattle.std.proofs.lemmas.List.{take-append-drop, drop_more, map-append}
use Rattle.std.proofs.lemmas.Slice.Zip.{all_zipped_more}
use Rattle.aa_files.specs.Texts.{texts}
use Rattle.aa_log.proofs.Answered.{next_taken}
use Rattle.aa_logs.specs.LogLines.{LogLine, log_lines}
use Rattle.aa_command.specs.LogFiles.{LogFiles}
use Rattle.aa_command.specs.Printed.{Printed}
use Rattle.aa_command.specs.Refusals.{SaysFault}
use Rattle.aa_merge.specs.declared.adding.Merging.{Merging}
use Rattle.aa_merge.specs.declared.command.Unmerged.{Unmerged}
use Rattle.aa_merge.specs.declared.command.Unmerged.TheVariants as why
use Rattle.aa_merge.specs.declared.command.UnmergedPart.{UnmergedPart}
use Rattle.aa_merge.specs.declared.fault.PartFault.{PartFault}
use Rattle.aa_merge.specs.declared.fault.PartFault.TheVariants.{NoMemory, NotJson, NotAReport, Answered, Unlike, TooMany}
use Rattle.aa_merge.specs.declared.names.Names.{Names}
use Rattle.aa_merge.specs.Command.{IsPartAt, IsTogether, AreMerged, before_of, NoReport, IsFirstUnmerged, SaysRefused, IsOutputFor, NoPart, UnreadPart}
use Rattle.aa_merge.specs.Command.{RefusedPart, Merged, AreListed}
use Rattle.aa_merge.specs.Faults.{IsOfPart}
use Rattle.aa_merge.specs.Held.{IsSaidAs}
use Rattle.aa_merge.specs.Parts.{Report, all_behind, all_merged, merged, nothing_as}
use Rattle.aa_merge.specs.Reading.{report_of}
use Rattle.aa_merge.specs.Unmerged.{IsNoPart, IsUnmerged, IsUnmergedPart, IsMergedPrinted, IsTogetherPrinted, SaysUnmerged}
use Rattle.aa_merge.specs.Wholes.{AreNames, IsHeld}

-- ---- a part

pub part_there : (files : Option LogFiles) (path bytes : List ℕ) (r : Report) → IfSome files (λ f. f path ≡ Some bytes) → report_of bytes ≡ Ok r
    → IsPartAt files path r
part_there None path bytes r there is = tt
part_there (Some f) path bytes r there is = (bytes, there, is)

pub no_part_there : (files : Option LogFiles) (path bytes : List ℕ) (before : List Report) (u : Unmerged) → IfSome files (λ f. f path ≡ Some bytes)
    → IsNoPart bytes u → IsUnmerged files before path u
no_part_there files path bytes before (why.Unread e) there is = absurd is
no_part_there None path bytes before (why.Refused e) there is = NoReport tt
no_part_there (Some f) path bytes before (why.Refused e) there is = NoReport (bytes, there, is)

-- ---- parts one after another

behind_push : (m : Report) (rs : List Report) (r : Report) → all_behind m (rs ++ r ∷ []) ≡ merged (all_behind m rs) r
unfolding all_behind
behind_push m [] r = refl
behind_push m (x ∷ rs) r = behind_push (merged m x) rs r

pub none_before : (r : Report) (rs : List Report) (m : Merging) → IsHeld (nothing_as r) m → IsTogether rs None → IsHeld (before_of rs r) m
none_before r [] m held together = held
none_before r (x ∷ rs) m held together = absurd together

pub some_before : (r : Report) (rs : List Report) (m : Merging) → IsTogether rs (Some m) → IsHeld (before_of rs r) m
some_before r [] m together = absurd together
some_before r (x ∷ rs) m together = together

pub together_more : (r : Report) (rs : List Report) (m : Merging) → IsHeld (merged (before_of rs r) r) m → IsTogether (rs ++ r ∷ []) (Some m)
unfolding all_behind
together_more r [] m held = held
together_more r (x ∷ rs) m held = subst (λ (all : Report). IsHeld all m) (sym (behind_push (nothing_as x) (x ∷ rs) r)) held

pub none_merged : (files : Option LogFiles) → AreMerged files [] None
none_merged files = record { reports = []; read = tt; held = tt }

abbrev Paths : Type 0
Paths = List (Vec ℕ Global)

-- the paths so far, and the next one
pub merged_more : (files : Option LogFiles) (paths : Paths) (i : ℕ) (path : Vec ℕ Global) (before : Option Merging) (m : Merging) → i < length paths
    → path ≡ get_or paths i path
    → (are : AreMerged files (texts (take i paths)) before)
    → ((r : Report) × IsPartAt files path.items r × IsTogether (are.reports ++ r ∷ []) (Some m))
    → AreMerged files (texts (take (i + 1) paths)) (Some m)
merged_more files paths i path before m lt is are next = record {
  reports = are.reports ++ next.0 ∷ [];
  read = subst (λ (ps : List (List ℕ)). AllZip (IsPartAt files) ps (are.reports ++ next.0 ∷ []))
      (sym (next_taken (λ (v : Vec ℕ Global). v.items) paths i path lt is))
      (all_zipped_more (IsPartAt files) (texts (take i paths)) are.reports path.items next.0 are.read next.1);
  held = next.2;
}

-- the path of that number, behind those whose parts are merged
abbrev pub unmerged_next : (files : Option LogFiles) (paths : Paths) (i : ℕ) (path : Vec ℕ Global) (before : Option Merging) → i < length paths
    → path ≡ get_or paths i path
    → AreMerged files (texts (take i paths)) before → IsFirstUnmerged files (texts paths) path.items
unmerged_next files paths i path before lt is are = record {
  before = texts (take i paths);
  behind = texts (drop (i + 1) paths);
  are = ap texts
      (sym (take-append-drop i paths)
      ∙ ap (λ (ps : Paths). take i paths ++ ps) (drop_more paths i path lt ∙ ap (λ (p : Vec ℕ Global). p ∷ drop (i + 1) paths) (sym is)))
      ∙ map-append (λ (v : Vec ℕ Global). v.items) (take i paths) (path ∷ drop (i + 1) paths);
  reports = are.reports;
  read = are.read;
}

-- so of the path as it was handed on
pub unmerged_as : (files : Option LogFiles) (paths : List (List ℕ)) (path handed : List ℕ) (u : UnmergedPart) → handed ≡ path → u.path.now ≡ path
    → (first : IsFirstUnmerged files paths path) → IsUnmerged files first.reports handed u.why
    → IsUnmergedPart files paths u
unmerged_as files paths path handed u here there first is = record {
  first = record {
    before = first.before;
    behind = first.behind;
    are = first.are
        ∙ ap (λ (p : List ℕ). first.before ++ p ∷ first.behind) (sym there);
    reports = first.reports;
    read = first.read;
  };
  is = subst (λ (p : List ℕ). IsUnmerged files first.reports p u.why) (here ∙ sym there) is;
}

-- ---- what is printed

pub says_so : (path : List ℕ) (e : PartFault) (out : Printed) → ¬ (e ≡ NoMemory) → ¬ (e ≡ TooMany) → SaysFault (IsOfPart path e) 1 out
    → SaysRefused path e out
says_so path NoMemory out memory many says = absurd (memory refl)
says_so path NotJson out memory many says = says
says_so path (NotAReport m) out memory many says = says
says_so path Answered out memory many says = says
says_so path (Unlike m) out memory many says = says
says_so path TooMany out memory many says = absurd (many refl)

no_paths : (files : Option LogFiles) (paths : List (List ℕ)) (rs : List Report) → AllZip (IsPartAt files) paths rs → IsTogether rs None → paths ≡ []
no_paths files [] rs read together = refl
no_paths files (p ∷ paths) [] read together = absurd read
no_paths files (p ∷ paths) (r ∷ rs) read together = absurd together

no_part : (files : Option LogFiles) (paths : List (List ℕ)) → AreMerged files paths None → paths ≡ []
no_part files paths are = no_paths files paths are.reports are.read are.held

all_printed : (files : Option LogFiles) (is_json : Bool) (paths : List (List ℕ)) (rs : List Report) (m : Merging) (out : Printed)
    → AllZip (IsPartAt files) paths rs → IsTogether rs (Some m) → IsMergedPrinted m is_json out
    → IsOutputFor files is_json paths out
all_printed files is_json paths [] m out read together p = absurd together
all_printed files is_json paths (r ∷ rs) m out read together p =
    Merged r rs read p.options m.said
    (subst (λ (ps : List (List ℕ)). IsSaidAs (all_merged r rs) ps m.said) (sym p.paths) together.said) p.json p.text p.is_text p.printed

merged_out : (files : Option LogFiles) (is_json : Bool) (paths : List (List ℕ)) (m : Merging) (out : Printed) → AreMerged files paths (Some m)
    → IsMergedPrinted m is_json out → IsOutputFor files is_json paths out
merged_out files is_json paths m out are p = all_printed files is_json paths are.reports m out are.read are.held p

pub together_out : (files : Option LogFiles) (is_json : Bool) (paths : List (List ℕ)) (m : Option Merging) (out : Printed) → AreMerged files paths m
    → IsTogetherPrinted m is_json out → IsOutputFor files is_json paths out
together_out files is_json paths None out are p = NoPart (no_part files paths are) p
together_out files is_json paths (Some m) out are p = merged_out files is_json paths m out are p

unmerged_so : (files : Option LogFiles) (is_json : Bool) (paths : List (List ℕ)) (path : List ℕ) (u : Unmerged) (out : Printed)
    (first : IsFirstUnmerged files paths path) → IsUnmerged files first.reports path u → SaysUnmerged path u out
    → IsOutputFor files is_json paths out
unmerged_so files is_json paths path (why.Unread e) out first is says = UnreadPart path e first says
unmerged_so files is_json paths path (why.Refused e) out first is says = RefusedPart path e first is says

pub unmerged_out : (files : Option LogFiles) (is_json : Bool) (paths : List (List ℕ)) (u : UnmergedPart) (out : Printed) → IsUnmergedPart files paths u
    → SaysUnmerged u.path.now u.why out → IsOutputFor files is_json paths out
unmerged_out files is_json paths u out is says = unmerged_so files is_json paths u.path.now u.why out is.first is.is says

-- ---- a list of names

pub listed_in : (lying : Option LogFiles) (path : List ℕ) (old new : Names) → AreNames old []
    → IfSome lying
    (λ files. (bytes : List ℕ) × (files path ≡ Some bytes) ×
    ((before : List LogLine) → AreNames old before → AreNames new (before ++ log_lines 0 bytes)))
    → AreListed lying path (texts new.paths.items)
listed_in None path old new none taken = tt
listed_in (Some files) path old new none taken = (taken.0, taken.1, taken.2 [] none)
