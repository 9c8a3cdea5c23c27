use Rattle.std.proofs.Common.{◌≡◌, ◌*◌, ◌≤◌, length}
use Rattle.aa_text.specs.Places.{place_in}
use Rattle.aa_text.proofs.Counting.{AreKeptTo}
use Rattle.aa_text.proofs.placed.PlacedText.new.Given as goal

abbrev pub invariant-loop-number : goal.invariant-loop-number
invariant-loop-number l =
    (length l.kept.items ≡ l.number) × (256 * l.number ≤ length l.text → l.place ≡ place_in l.text (256 * l.number)) × AreKeptTo l.text l.kept.items l.number
