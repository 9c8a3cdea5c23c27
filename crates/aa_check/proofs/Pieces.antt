-- What is written piece by piece.
use Rattle.std.proofs.Common.{◌≡◌, ℕ, List, ◌++◌, Bool, not, refl, sym, ap, ◌∙◌}
use Rattle.std.specs.Prelude.{codes, decimal}
use Rattle.std.proofs.lemmas.List.{append_assoc}
use Rattle.aa_text.specs.Jsons.{key_text, member_text, list_text}
use Rattle.aa_check.specs.declared.report.CheckReport.{CheckReport}
use Rattle.aa_check.specs.Sarif.{start_line, region_text, notifications_member, invocations_text, all_notifications, results_member, sarif_head, sarif_report}

pub two_pieces : (old mid new a b text : List ℕ) → text ≡ a ++ b → mid ≡ old ++ a → new ≡ mid ++ b → new ≡ old ++ text
two_pieces old mid new a b text is first second =
    second ∙ ap (λ (l : List ℕ). l ++ b) first ∙ append_assoc old a b ∙ ap (λ (l : List ℕ). old ++ l) (sym is)

pub four_pieces : (old m1 m2 m3 new a b c d text : List ℕ) → text ≡ a ++ b ++ c ++ d → m1 ≡ old ++ a → m2 ≡ m1 ++ b → m3 ≡ m2 ++ c → new ≡ m3 ++ d → new ≡ old ++ text
four_pieces old m1 m2 m3 new a b c d text is first second third fourth =
    two_pieces old m3 new (a ++ b ++ c) d text is (two_pieces old m2 m3 (a ++ b) c (a ++ b ++ c) refl (two_pieces old m1 m2 a b (a ++ b) refl first second) third) fourth

-- line and column
pub region_pieces : (old m1 m2 m3 new : List ℕ) (line column : ℕ) → m1 ≡ old ++ codes "{" → m2 ≡ m1 ++ start_line line
    → m3 ≡ m2 ++ member_text (codes "startColumn") (decimal column) → new ≡ m3 ++ codes "}" → new ≡ old ++ region_text line column
unfolding region_text
region_pieces old m1 m2 m3 new line column first second third fourth =
    four_pieces old m1 m2 m3 new (codes "{") (start_line line) (member_text (codes "startColumn") (decimal column)) (codes "}") _ refl first second third fourth

-- what is warned of
pub notifications_pieces : (old mid new : List ℕ) (warnings : List (List ℕ)) → mid ≡ old ++ key_text (codes "toolExecutionNotifications") → new ≡ mid ++ list_text warnings → new ≡ old ++ notifications_member warnings
unfolding notifications_member
notifications_pieces old mid new warnings first second = two_pieces old mid new (key_text (codes "toolExecutionNotifications")) (list_text warnings) _ refl first second

-- the whole
pub report_pieces : (r : CheckReport) (old m1 m2 m3 new : List ℕ) (success : Bool) (warnings : List (List ℕ)) → success ≡ not r.is_unread → warnings ≡ all_notifications r
    → m1 ≡ old ++ sarif_head → m2 ≡ m1 ++ results_member r.files.items → m3 ≡ m2 ++ member_text (codes "invocations") (invocations_text success warnings) → new ≡ m3 ++ codes "}]}\n" → new ≡ old ++ sarif_report r
report_pieces r old m1 m2 m3 new success warnings success_is warnings_are first second third fourth =
    four_pieces old m1 m2 m3 new sarif_head (results_member r.files.items) (member_text (codes "invocations") (invocations_text (not r.is_unread) (all_notifications r))) (codes "}]}\n") (sarif_report r) refl first second
    (third ∙ ap (λ (s : Bool). m2 ++ member_text (codes "invocations") (invocations_text s warnings)) success_is
    ∙ ap (λ (w : List (List ℕ)). m2 ++ member_text (codes "invocations") (invocations_text (not r.is_unread) w)) warnings_are) fourth
