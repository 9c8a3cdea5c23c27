use Rattle.std.proofs.Common.{List, map, sym, ap, subst, ◌∙◌, Bor}
use Rattle.std.specs.Prelude.{ℕ}
use Rattle.aa_log.specs.declared.logging.Entry.{Entry}
use Rattle.aa_log.specs.declared.logging.SkippedLines.{SkippedLines}
use Rattle.aa_log.specs.Orders.{profile_of, reason_key, IsInOrder}
use Rattle.aa_against.specs.Parted.{open_data}
use Rattle.aa_against.specs.Command.{part_status}
use Rattle.aa_against.proofs.Saying.{json_part}
use Rattle.aa_against.proofs.command.push_as_json.Goals as goal

pub returns : goal.returns
returns c =
    let o = c.args.options.now in
    let s = c.args.said.now in
    let logs : List (List ℕ) = map (λ (log : Bor (List ℕ)). log.now) o.logs.now in
    let es : List Entry = map (λ (e : Bor Entry). e.now) c.as_slice.result.now in
    let rs : List SkippedLines = map (λ (x : Bor SkippedLines). x.now) c.as_slice-causes.result.now in
    let p = c.in_ok-parted.parted in
    json_part logs c.args.decided c.args.skipped.now o.wants_all es (map (λ (e : Bor Entry). e.now) p.decided.items) (map open_data p.opens.items) c.in_ok-counts.counts
    c.in_ok-parted.ensures.decided c.in_ok-parted.ensures.opens c.in_ok-counts.ensures.newly c.in_ok-counts.ensures.counted
    c.args.out.now.items c.push_json_part.new.out.items c.status_of.result (c.status_of.ensures ∙ ap (λ l. part_status c.in_ok-counts.counts (map open_data l)) c.as_slice-2.ensures.value)
    s rs
    (subst (λ (l : List (Bor Entry)). IsInOrder profile_of s.report.entries.items (map (λ (e : Bor Entry). e.now) l)) (sym c.as_slice.ensures.value) c.in_ok-entries.ensures)
    (subst (λ (l : List (Bor SkippedLines)). IsInOrder reason_key s.report.skipped.items (map (λ (x : Bor SkippedLines). x.now) l)) (sym c.as_slice-causes.ensures.value) c.in_ok-reasons.ensures)
    c.in_ok-counts.ensures.text
