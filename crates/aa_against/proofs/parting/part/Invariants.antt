use Rattle.std.proofs.Common.{◌≡◌, map, take}
use Rattle.aa_against.specs.Parted.{open_data, decided_among, open_among}
use Rattle.aa_against.proofs.parting.part.Given as goal

abbrev pub invariant-loop-entry : goal.invariant-loop-entry
invariant-loop-entry l = record {
  decided : map (λ e. e.now) l.parted.decided.items ≡ decided_among l.decided l.skipped (map (λ e. e.now) (take l.entry-index l.entries));
  opens : map open_data l.parted.opens.items ≡ open_among l.decided l.skipped (map (λ e. e.now) (take l.entry-index l.entries));
}
