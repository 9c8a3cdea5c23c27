-- What is found in logs, once a line more is taken.
use Rattle.std.proofs.Common.{◌≡◌, ℕ, ◌+◌, List, [], ◌∷◌, ◌++◌, Bool, true, false, cond, Option, Some, None, refl, sym, ap, subst, ◌∙◌, append-nil, arith}
use Rattle.std.specs.Prelude.{min, count_by, find, replicate, option_map}
use Rattle.std.specs.Option.{option_or}
use Rattle.std.proofs.lemmas.List.{append_assoc, replicate_more}
use Rattle.std.proofs.lemmas.List.Sums.{sum_by_push}
use Rattle.std.proofs.lemmas.List.Concat.{flat_map-append}
use Rattle.std.proofs.lemmas.List.Folds.{find-append}
use Rattle.aa_logs.specs.LogLines.{LogLine, log_line}
use Rattle.aa_messages.specs.Repeated.{RepeatedData}
use Rattle.aa_messages.specs.Said.{said_in, lines_said, all_said}
use Rattle.aa_messages.specs.Unclear.{is_unclear, is_unclear_line}
use Rattle.aa_log.specs.declared.logging.LinePlace.{LinePlace}
use Rattle.aa_log.specs.declared.logging.LogReport.{LogReport}
use Rattle.aa_log.specs.declared.said.SaidReport.{SaidReport}
use Rattle.aa_log.specs.Counted.{greatest}
use Rattle.aa_log.specs.Found.{place_of, IsReport}
use Rattle.aa_log.specs.Said.{IsSaid}
use Rattle.aa_log.proofs.Counting.{one_more}

said_behind : (ls : List LogLine) (l : LogLine) → all_said (ls ++ l ∷ []) ≡ all_said ls ++ lines_said l
said_behind ls l = flat_map-append lines_said ls (l ∷ []) ∙ ap (λ (more : List LogLine). all_said ls ++ more) (append-nil (lines_said l))

count_behind : (ls : List LogLine) (l : LogLine) (b : Bool) → is_unclear_line l ≡ b → count_by is_unclear_line (ls ++ l ∷ []) ≡ count_by is_unclear_line ls + cond b 1 0
count_behind ls l b is = sum_by_push (λ (l : LogLine). cond (is_unclear_line l) 1 0) ls l ∙ ap (λ (t : Bool). count_by is_unclear_line ls + cond t 1 0) is

bumped : (b : Bool) (n count more : ℕ) → count ≡ min n greatest → more ≡ cond b (min (count + 1) greatest) count → more ≡ min (n + cond b 1 0) greatest
bumped true n count more is more_is = more_is ∙ ap (λ (k : ℕ). min (k + 1) greatest) is ∙ sym (one_more n greatest)
bumped false n count more is more_is = more_is ∙ is ∙ ap (λ (k : ℕ). min k greatest) (let same : n ≡ n + 0 = omega arith in same)

first_behind : (b : Bool) (known : Option LogLine) (l : LogLine) → option_map place_of (option_or known (cond b (Some l) None)) ≡ cond b (option_or (option_map place_of known) (Some (place_of l))) (option_map place_of known)
first_behind true None l = refl
first_behind true (Some k) l = refl
first_behind false None l = refl
first_behind false (Some k) l = refl

first_more : (b : Bool) (ls : List LogLine) (l : LogLine) (first more : Option LinePlace) → is_unclear_line l ≡ b → first ≡ option_map place_of (find is_unclear_line ls)
    → more ≡ cond b (option_or first (Some (place_of l))) first → more ≡ option_map place_of (find is_unclear_line (ls ++ l ∷ []))
first_more b ls l first more clear is more_is =
    more_is ∙ ap (λ (o : Option LinePlace). cond b (option_or o (Some (place_of l))) o) is ∙ sym (first_behind b (find is_unclear_line ls) l)
    ∙ ap (λ (t : Bool). option_map place_of (option_or (find is_unclear_line ls) (cond t (Some l) None))) (sym clear)
    ∙ ap (option_map place_of) (sym (find-append is_unclear_line ls (l ∷ [])))

-- what was found, with a line that says its message so often
pub one_said : (ls : List LogLine) (l : LogLine) (old new : SaidReport) (r : RepeatedData) (b : Bool) → r ≡ said_in l.bytes → b ≡ is_unclear r.text
    → ((before : List LogLine) → IsReport before old.report → IsReport (before ++ replicate r.times (log_line l.log l.number r.text)) new.report)
    → new.unclear ≡ cond b (min (old.unclear + 1) greatest) old.unclear → new.first_unclear ≡ cond b (option_or old.first_unclear (Some (place_of l))) old.first_unclear
    → IsSaid ls old → IsSaid (ls ++ l ∷ []) new
one_said ls l old new r b said clear taken counts first is =
    let is_line : is_unclear_line l ≡ b = ap (λ (r : RepeatedData). is_unclear r.text) (sym said) ∙ sym clear in
    let says : replicate r.times (log_line l.log l.number r.text) ≡ lines_said l = ap (λ (r : RepeatedData). replicate r.times (log_line l.log l.number r.text)) said in
    record {
      found = subst (λ (more : List LogLine). IsReport more new.report) (ap (λ (more : List LogLine). all_said ls ++ more) says ∙ sym (said_behind ls l)) (taken (all_said ls) is.found);
      unclear = bumped b (count_by is_unclear_line ls) old.unclear new.unclear is.unclear counts ∙ ap (λ (n : ℕ). min n greatest) (sym (count_behind ls l b is_line));
      first = first_more b ls l old.first_unclear new.first_unclear is_line is.first first;
    }

-- a line that is taken once more, whatever its log is called
pub once_more : (new : LogReport) (n log first number : ℕ) (bytes : List ℕ) (before : List LogLine) → log ≡ first
    → IsReport (before ++ replicate n (log_line first number bytes) ++ log_line log number bytes ∷ []) new → IsReport (before ++ replicate (n + 1) (log_line first number bytes)) new
once_more new n log first number bytes before same is =
    let l : LogLine = log_line first number bytes in
    let grouped : before ++ replicate n l ++ log_line log number bytes ∷ [] ≡ before ++ replicate (n + 1) l =
    ap (λ (m : ℕ). before ++ replicate n l ++ log_line m number bytes ∷ []) same ∙ append_assoc before (replicate n l) (l ∷ []) ∙ ap (λ (more : List LogLine). before ++ more) (replicate_more n l) in
    subst (λ (ls : List LogLine). IsReport ls new) grouped is
