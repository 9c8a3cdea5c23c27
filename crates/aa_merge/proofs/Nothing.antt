-- What is held where nothing is read yet.
use Rattle.std.proofs.Common.{◌≡◌, ℕ, List, [], ◌∷◌, map, Option, Some, None, refl, ap}
use Rattle.std.specs.Prelude.{is_some, option_map}
use Rattle.aa_log.specs.Counted.{firsts}
use Rattle.std.specs.declared.vec.Vec.{Vec}
use Rattle.aa_log.specs.Found.{AreEach, IsReport, entry_data, skipped_data, requests_in, skipped_in}
use Rattle.aa_log.specs.declared.logging.LogReport.{LogReport}
use Rattle.aa_log.specs.declared.logging.SkippedLines.{SkippedLines}
use Rattle.aa_merge.specs.declared.part.Part.{Part}
use Rattle.aa_merge.specs.declared.part.PartSkipped.{PartSkipped}
use Rattle.aa_merge.specs.Held.{passed_data, skipped_row}

map_nothing : {X Y : Type 0} (f : X → Y) (xs : List X) → map f xs ≡ [] → xs ≡ []
map_nothing f [] e = refl
map_nothing f (x ∷ xs) e = absurd (cc)

pub no_entries : (r : LogReport) → IsReport [] r → r.entries.items ≡ []
unfolding firsts requests_in
no_entries r h = map_nothing entry_data r.entries.items h.found.counts

pub none_skipped : (r : LogReport) → IsReport [] r → r.skipped.items ≡ []
unfolding firsts skipped_in
none_skipped r h = map_nothing skipped_data r.skipped.items h.skipped

nothing_listed : {Y Z : Type 0} (paths : List (List ℕ)) (o : Option (Vec SkippedLines Y)) (p : Option (Vec PartSkipped Z))
    → AreEach [] (option_map (λ each. each.items) o) → is_some o ≡ is_some p
    → option_map (λ each. map (skipped_row paths) each.items) o ≡ option_map (map Some)
    (option_map (λ each. []) (option_map (λ each. map passed_data each.items) p))
nothing_listed paths None None h e = refl
nothing_listed paths None (Some p) h e = absurd (cc)
nothing_listed paths (Some each) None h e = absurd (cc)
nothing_listed paths (Some each) (Some p) h e = ap Some (ap (map (skipped_row paths)) (map_nothing skipped_data each.items h))

-- no line is listed yet
pub nothing_each : (paths : List (List ℕ)) (r : LogReport) (p : Part) → IsReport [] r → is_some r.each_skipped ≡ is_some p.each
    → option_map (λ each. map (skipped_row paths) each.items) r.each_skipped ≡ option_map (map Some)
    (option_map (λ each. []) (option_map (λ each. map passed_data each.items) p.each))
unfolding skipped_in
nothing_each paths r p h e = nothing_listed paths r.each_skipped p.each h.each e
