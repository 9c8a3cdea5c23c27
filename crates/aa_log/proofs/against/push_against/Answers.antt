use Rattle.std.proofs.Common.{◌++◌, List, map, refl, sym, subst, Bor}
use Rattle.std.specs.Prelude.{ℕ}
use Rattle.aa_log.specs.declared.logging.Entry.{Entry}
use Rattle.aa_log.specs.Orders.{profile_of, IsInOrder}
use Rattle.aa_log.specs.Printed.{each_skipped_text}
use Rattle.aa_log.specs.Against.{changes_text, rows_text}
use Rattle.aa_log.proofs.against.push_against.Goals as goal

pub returns : goal.returns
returns c =
    let logs : List (List ℕ) = map (λ (log : Bor (List ℕ)). log.now) c.args.logs.now in
    let es : List Entry = map (λ (e : Bor Entry). e.now) c.as_slice-listed.result.now in (
      changes_text logs c.args.decided c.args.wants_all es ++ each_skipped_text logs c.args.report.now ++ rows_text c.in_ok-counts.counts,
      record {
        entries = es;
        ordered = subst (λ (l : List (Bor Entry)). IsInOrder profile_of c.args.report.now.entries.items (map (λ (e : Bor Entry). e.now) l)) (sym c.as_slice-listed.ensures.value) c.in_ok-entries.ensures;
        newly = c.in_ok-counts.ensures.newly;
        counted = c.in_ok-counts.ensures.counted;
        printed = refl;
      },
      c.in_ok-counts.ensures.text,
    )
