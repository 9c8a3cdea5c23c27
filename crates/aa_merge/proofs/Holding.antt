-- What is held of parts, once a part of a report is added.
use Rattle.std.proofs.Common.{◌≡◌, ℕ, List, [], ◌∷◌, ◌++◌, length, map, Bool, true, false, Option, Some, None, refl, sym, ap, ◌∙◌}
use Rattle.std.specs.Prelude.{option_map, is_some, slice_get}
use Rattle.std.specs.HashMap.{HashMap}
use Rattle.std.specs.declared.vec.Vec.{Vec}
use Rattle.aa_log.specs.Counted.{Counted}
use Rattle.aa_log.specs.declared.logging.Entry.{Entry}
use Rattle.aa_log.specs.declared.logging.LinePlace.{LinePlace}
use Rattle.aa_log.specs.declared.logging.SkippedLines.{SkippedLines}
use Rattle.aa_log.specs.declared.said.SaidReport.{SaidReport}
use Rattle.aa_merge.specs.Held.{skipped_row, unclear_row, unclear_data, passed_data, AreRows, HasMore, IsSaidAs}
use Rattle.aa_log.specs.Joined.{added}
use Rattle.aa_merge.specs.declared.part.Part.{Part}
use Rattle.aa_merge.specs.declared.part.PartUnclear.{PartUnclear}
use Rattle.aa_merge.specs.Parts.{Asking, Passed, Unclear, Report, both_unclear}
use Rattle.aa_merge.proofs.Placed.{behind_them, placed_still}
use Rattle.aa_merge.proofs.Rowing.{entries_still, skipped_still}

pub each_still : (paths more : List (List ℕ)) (each : Option (List SkippedLines)) (rows : Option (List (Counted Passed)))
    → option_map (map (skipped_row paths)) each ≡ option_map (map Some) rows
    → option_map (map (skipped_row (paths ++ more))) each ≡ option_map (map Some) rows
each_still paths more None None e = refl
each_still paths more None (Some rows) e = absurd (cc)
each_still paths more (Some each) None e = absurd (cc)
each_still paths more (Some each) (Some rows) e =
    (let same : map (skipped_row paths) each ≡ map Some rows = cc in ap Some (skipped_still paths more each rows same))

unclear_at : ℕ → LinePlace → List ℕ → Unclear
unclear_at count first path = record { count = count; path = path; line = first.line }

pub unclear_still : (paths more : List (List ℕ)) (count : ℕ) (first : Option LinePlace) (u : Option Unclear)
    → option_map (unclear_row paths count) first ≡ option_map Some u → option_map (unclear_row (paths ++ more) count) first ≡ option_map Some u
unfolding unclear_at
unclear_still paths more count None None e = refl
unclear_still paths more count None (Some u) e = absurd (cc)
unclear_still paths more count (Some first) None e = absurd (cc)
unclear_still paths more count (Some first) (Some u) e =
    (let same : unclear_row paths count first ≡ Some u = cc in ap Some (placed_still (unclear_at count) (λ (p : LinePlace). p.log) paths more first u same))

mapped_there : {X Y : Type 0} (o : Option X) (f : X → Y) → is_some (option_map f o) ≡ is_some o
mapped_there None f = refl
mapped_there (Some x) f = refl

both_there : {X Y Z : Type 0} (a : Option X) (b : Option Y) (f : X → Z) (g : Y → Z) → option_map f a ≡ option_map g b → is_some a ≡ is_some b
both_there None None f g e = refl
both_there None (Some b) f g e = absurd (cc)
both_there (Some a) None f g e = absurd (cc)
both_there (Some a) (Some b) f g e = refl

vec_lists : {X R Y : Type 0} (f : List X → R) (o : Option (Vec X Y)) → option_map f (option_map (λ v. v.items) o) ≡ option_map (λ v. f v.items) o
vec_lists f None = refl
vec_lists f (Some v) = refl

lists_vec : {X R Y : Type 0} (f : List X → R) (o : Option (Vec X Y)) → option_map (λ v. f v.items) o ≡ option_map f (option_map (λ v. v.items) o)
lists_vec f o = sym (vec_lists f o)

-- a report says the same where there are more paths
pub said_still : (r : Report) (paths all : List (List ℕ)) (s : SaidReport) → HasMore paths all → IsSaidAs r paths s → IsSaidAs r all s
said_still r paths all s more h = record {
  requests = rw (more.1) (entries_still paths more.0 s.report.entries.items r.requests h.requests);
  skipped = rw (more.1) (skipped_still paths more.0 s.report.skipped.items r.skipped h.skipped);
  each = lists_vec (map (skipped_row all)) s.report.each_skipped
      ∙ rw (more.1)
      (each_still paths more.0 (option_map (λ each. each.items) s.report.each_skipped) r.each
      (vec_lists (map (skipped_row paths)) s.report.each_skipped ∙ h.each));
  lines = h.lines;
  asking = h.asking;
  skipped_count = h.skipped_count;
  other = h.other;
  left_out = h.left_out;
  unclear = rw (more.1) (unclear_still paths more.0 s.unclear s.first_unclear r.unclear h.unclear);
}

-- and its requests are the same rows
pub requests_still : {Y S : Type 0} (rows : List (Counted Asking)) (paths all : List (List ℕ)) (es : List Entry) (numbers : HashMap (Vec ℕ Y) ℕ S)
    → HasMore paths all → AreRows rows paths es numbers → AreRows rows all es numbers
requests_still rows paths all es numbers more h = record {
  rows_are = rw (more.1) (entries_still paths more.0 es rows h.rows_are);
  words = h.words;
  numbered = h.numbered;
  within = h.within;
}

-- each line that asks nothing is listed in both or in neither
pub each_alike : (r : Report) (paths : List (List ℕ)) (s : SaidReport) → IsSaidAs r paths s → is_some s.report.each_skipped ≡ is_some r.each
each_alike r paths s h = both_there s.report.each_skipped r.each (λ each. map (skipped_row paths) each.items) (map Some) h.each

-- ---- lines that aren't understood

pub both_none : (u : Option Unclear) → u ≡ both_unclear u None
both_none None = refl
both_none (Some a) = refl

pub first_noted : (paths : List (List ℕ)) (u : PartUnclear) (log : ℕ) → log ≡ length paths
    → unclear_row (paths ++ u.path.items ∷ []) u.count (record { log = log; line = u.line }) ≡ Some (unclear_data u)
first_noted paths u log is = ap (option_map (λ path. record { count = u.count; path = path; line = u.line }))
    (ap (slice_get (paths ++ u.path.items ∷ [])) is ∙ behind_them paths u.path.items)

nothing_first : (paths : List (List ℕ)) (count : ℕ) (first : Option LinePlace) (u : Option Unclear)
    → option_map (unclear_row paths count) first ≡ option_map Some u → is_some first ≡ false → u ≡ None
nothing_first paths count None None e none = refl
nothing_first paths count None (Some u) e none = absurd (cc)
nothing_first paths count (Some first) u e none = absurd (cc)

-- where none was before, the part's are all
pub unclear_first : (paths : List (List ℕ)) (count : ℕ) (first : Option LinePlace) (u : Option Unclear) (more : Unclear)
    → option_map (unclear_row paths count) first ≡ option_map Some u → is_some first ≡ false
    → Some more ≡ both_unclear u (Some more)
unclear_first paths count first u more e none = ap (λ (o : Option Unclear). both_unclear o (Some more)) (sym (nothing_first paths count first u e none))

more_unclear : ℕ → Unclear → Unclear
more_unclear n a = record { count = added a.count n; path = a.path; line = a.line }

raised_unclear : (paths : List (List ℕ)) (count n : ℕ) (first : LinePlace) (a : Unclear) → unclear_row paths count first ≡ Some a
    → unclear_row paths (added count n) first ≡ Some (more_unclear n a)
unfolding unclear_at more_unclear
raised_unclear paths count n first a is =
    (elim (slice_get paths first.log) as
    (λ o. option_map (unclear_at count first) o ≡ Some a → option_map (unclear_at (added count n) first) o ≡ Some (more_unclear n a)) [
      | None ↦ λ none. absurd (cc)
      | Some path ↦ λ some. (let same : unclear_at count first path ≡ a = cc in ap (λ (x : Unclear). Some (more_unclear n x)) same)
    ]) is

-- where some were before, there are more of them
pub unclear_more : (paths : List (List ℕ)) (count : ℕ) (first : Option LinePlace) (u : Option Unclear) (b : Unclear)
    → option_map (unclear_row paths count) first ≡ option_map Some u → is_some first ≡ true
    → option_map (unclear_row paths (added count b.count)) first ≡ option_map Some (both_unclear u (Some b))
unfolding more_unclear
unclear_more paths count None u b e some = absurd (cc)
unclear_more paths count (Some first) None b e some = absurd (cc)
unclear_more paths count (Some first) (Some a) b e some =
    (let same : unclear_row paths count first ≡ Some a = cc in ap Some (raised_unclear paths count b.count first a same))

-- ---- parts

-- each line that asks nothing is listed in a part, by what lies in memory
pub part_each : (p : Part) (b : Bool) → b ≡ is_some (option_map (λ each. map passed_data each.items) p.each) → b ≡ is_some p.each
part_each p b e = e ∙ mapped_there p.each (λ each. map passed_data each.items)
