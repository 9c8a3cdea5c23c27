-- What is said of a part that is refused.
-- Source: own.
use Rattle.std.specs.Prelude.{ℕ, List, ◌++◌, codes}
use Rattle.aa_text.specs.declared.fault.FaultReport.{FaultReport}
use Rattle.aa_diagnostics.specs.Reports.{IsOfWhole}
use Rattle.aa_merge.specs.declared.fault.Member.{Member}
use Rattle.aa_merge.specs.declared.fault.Member.TheVariants.{Requests, Then, Profile, Request, Count, Path, Line, Skipped, Reason, SkippedLines, Lines, Asking}
use Rattle.aa_merge.specs.declared.fault.Member.TheVariants.{Other, LeftOut}
use Rattle.aa_merge.specs.declared.fault.PartFault.{PartFault}
use Rattle.aa_merge.specs.declared.fault.PartFault.TheVariants.{NoMemory, NotJson, NotAReport, Answered, Unlike, TooMany}

-- a member's key
abbrev pub member_text : Member → List ℕ
member_text Requests = codes "requests"
member_text Then = codes "then"
member_text Profile = codes "profile"
member_text Request = codes "request"
member_text Count = codes "count"
member_text Path = codes "path"
member_text Line = codes "line"
member_text Skipped = codes "skipped"
member_text Reason = codes "reason"
member_text SkippedLines = codes "skipped_lines"
member_text Lines = codes "lines"
member_text Asking = codes "asking"
member_text Other = codes "other"
member_text LeftOut = codes "left_out"

-- the name of a fault
abbrev pub fault_name : PartFault → List ℕ
fault_name NoMemory = codes "NoMemory"
fault_name NotJson = codes "NotJson"
fault_name (NotAReport m) = codes "NotAReport"
fault_name Answered = codes "AnsweredReport"
fault_name (Unlike m) = codes "UnlikeReport"
fault_name TooMany = codes "TooLarge"

-- a sentence on a member
abbrev pub member_sentence : Member → List ℕ → List ℕ
member_sentence m end = codes "the member \"" ++ member_text m ++ end

-- what is wrong, in one sentence
abbrev pub fault_sentence : PartFault → List ℕ
fault_sentence NoMemory = codes "no memory"
fault_sentence NotJson = codes "a part holds one JSON object, as log --json prints it"
fault_sentence (NotAReport m) = member_sentence m (codes "\" isn't there or isn't as log --json prints it")
fault_sentence Answered = codes "its requests are answered by a policy; a part is printed without --against"
fault_sentence (Unlike m) = member_sentence m (codes "\" is in this part or in the first, and not in both")
fault_sentence TooMany = codes "all parts together have more than 1,000,000 distinct requests"

-- that is said of the part at a path
abbrev pub IsOfPart : List ℕ → PartFault → FaultReport → Type 0
IsOfPart path fault r = IsOfWhole (fault_name fault) path (fault_sentence fault) r

-- refused for want of memory, or since there are too many requests, and that is so
abbrev pub IsTooMany : PartFault → Type 0 → Type 0
IsTooMany NoMemory P = Unit {0}
IsTooMany NotJson P = ⊥
IsTooMany (NotAReport m) P = ⊥
IsTooMany Answered P = ⊥
IsTooMany (Unlike m) P = ⊥
IsTooMany TooMany P = P

-- refused for want of memory, or since it is unlike the parts before it, and that is so
abbrev pub IsUnlike : PartFault → Type 0 → Type 0
IsUnlike NoMemory P = Unit {0}
IsUnlike NotJson P = ⊥
IsUnlike (NotAReport m) P = ⊥
IsUnlike Answered P = ⊥
IsUnlike (Unlike m) P = P
IsUnlike TooMany P = ⊥
