use Rattle.std.proofs.Common.{◌≡◌, ◌∙◌, sym, ap, refl}
use Rattle.std.specs.Prelude.{is_some}
use Rattle.std.proofs.lemmas.Result.{on_ok_weaker}
use Rattle.aa_logs.specs.Asked.{cause_of}
use Rattle.aa_logs.specs.Outcomes.{Another, AsksNothing, AsksFor, record_data, outcome}
use Rattle.aa_logs.specs.Records.{line_in}
use Rattle.aa_logs.specs.LogLines.{LogLine, log_line}
use Rattle.aa_log.specs.declared.logging.LogReport.{LogReport}
use Rattle.aa_log.specs.Found.{left_in}
use Rattle.aa_log.proofs.Results.{on_ok_both, if_refused}
use Rattle.aa_log.proofs.Taking.{wanted_in, kept_in, same_in, taken_other, taken_left, taken_skipped, taken_asks, many_in}
use Rattle.aa_log.proofs.logging.LogReport.count_found.Goals as goal

pub returns-in-Other-clause-taken : goal.returns-in-Other-clause-taken
returns-in-Other-clause-taken c = λ before f.
    let l : LogLine = log_line c.args.self.now.log c.args.number c.args.line.now in
    let is : line_in c.args.line.now ≡ Another = sym c.requires ∙ ap outcome c.in-Other.is in
    taken_other before l c.args.self.now c.saturating_add-self.result c.saturating_add-self-in-Other.result is c.saturating_add-self.ensures c.saturating_add-self-in-Other.ensures f

pub returns-then-branch : goal.returns-then-branch
returns-then-branch c =
    let l : LogLine = log_line c.args.self.now.log c.args.number c.args.line.now in
    let left = c.in_ok-leaves_out.ensures in record {
      log = same_in (λ (x : LogReport). x.log) c.args.self.now c.leaves_out.new.self c.saturating_add-self.result c.in_ok-leaves_out.field-0 (λ count. refl) left.counted;
      choice = same_in (λ (x : LogReport). x.choice) c.args.self.now c.leaves_out.new.self c.saturating_add-self.result c.in_ok-leaves_out.field-0 (λ count. refl) left.counted;
      kept = same_in (λ (x : LogReport). is_some x.each_skipped) c.args.self.now c.leaves_out.new.self c.saturating_add-self.result c.in_ok-leaves_out.field-0 (λ count. refl) left.counted;
      taken = λ before f. taken_left before l c.args.self.now c.leaves_out.new.self c.saturating_add-self.result c.args.found c.in_ok-leaves_out.field-0
          c.in_default.not-Other c.requires c.saturating_add-self.ensures c.if-branch.true left.left left.counted f;
      room = tt;
    }

pub returns-in_ok-count_skipped-in-Skipped : goal.returns-in_ok-count_skipped-in-Skipped
returns-in_ok-count_skipped-in-Skipped c =
    let r : LogReport = c.args.self.now in
    let l : LogLine = log_line r.log c.args.number c.args.line.now in
    let left = c.in_ok-leaves_out.ensures in
    let mid : c.leaves_out.new.self ≡ record r { lines = c.saturating_add-self.result } = kept_in r c.leaves_out.new.self c.saturating_add-self.result c.in_ok-leaves_out.field-0 c.if-branch.false left.counted in
    let is : line_in c.args.line.now ≡ AsksNothing (cause_of c.in-Skipped.reason) = sym c.requires ∙ ap outcome c.in-Skipped.is in
    let e = c.in_ok-count_skipped-in-Skipped.ensures in record {
      log = ap (λ (x : LogReport). x.log) e.counted ∙ ap (λ (x : LogReport). x.log) mid;
      choice = ap (λ (x : LogReport). x.choice) e.counted ∙ ap (λ (x : LogReport). x.choice) mid;
      kept = e.kept ∙ ap (λ (x : LogReport). is_some x.each_skipped) mid;
      taken = λ before f. taken_skipped before l r c.leaves_out.new.self c.count_skipped.new.self c.saturating_add-self.result (cause_of c.in-Skipped.reason) is
          (wanted_in r.choice (left_in r.choice before) c.args.line.now r.left_out c.in_ok-leaves_out.field-0 f.left_out c.if-branch.false left.left) c.saturating_add-self.ensures mid e.counted e.reasons e.each refl f;
      room = tt;
    }

pub returns-in-Asks : goal.returns-in-Asks
returns-in-Asks c =
    let r : LogReport = c.args.self.now in
    let l : LogLine = log_line r.log c.args.number c.args.line.now in
    let left = c.in_ok-leaves_out.ensures in
    let mid : c.leaves_out.new.self ≡ record r { lines = c.saturating_add-self.result } = kept_in r c.leaves_out.new.self c.saturating_add-self.result c.in_ok-leaves_out.field-0 c.if-branch.false left.counted in
    let is : line_in c.args.line.now ≡ AsksFor (record_data c.in-Asks.record) = sym c.requires ∙ ap outcome c.in-Asks.is in
    let e = c.count_record.ensures in record {
      log = on_ok_weaker c.count_record.result (λ now. ap (λ (x : LogReport). x.log) now ∙ ap (λ (x : LogReport). x.log) mid) e.counted;
      choice = on_ok_weaker c.count_record.result (λ now. ap (λ (x : LogReport). x.choice) now ∙ ap (λ (x : LogReport). x.choice) mid) e.counted;
      kept = on_ok_weaker c.count_record.result (λ now. ap (λ (x : LogReport). is_some x.each_skipped) now ∙ ap (λ (x : LogReport). is_some x.each_skipped) mid) e.counted;
      taken = on_ok_both c.count_record.result _ _ _ (λ now found before f. taken_asks before l r c.leaves_out.new.self c.count_record.new.self c.saturating_add-self.result (record_data c.in-Asks.record) is
          (wanted_in r.choice (left_in r.choice before) c.args.line.now r.left_out c.in_ok-leaves_out.field-0 f.left_out c.if-branch.false left.left) c.saturating_add-self.ensures mid now found refl f) e.counted e.found;
      room = if_refused c.count_record.result _ _ (λ room before f. many_in before l r c.leaves_out.new.self c.saturating_add-self.result (record_data c.in-Asks.record) is
          (wanted_in r.choice (left_in r.choice before) c.args.line.now r.left_out c.in_ok-leaves_out.field-0 f.left_out c.if-branch.false left.left) mid room refl f) e.room;
    }
