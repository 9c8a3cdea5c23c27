use Rattle.std.proofs.Common.{ℕ, ◌++◌, sym, ap, ◌∙◌}
use Rattle.std.proofs.lemmas.Result.{on_ok_weaker}
use Rattle.aa_logs.proofs.Found.{count-map}
use Rattle.aa_against.specs.Parted.{open_data}
use Rattle.aa_against.specs.Texts.{became, open_line, open_row}
use Rattle.aa_against.proofs.printing.push_row.Goals as goal

pub returns : goal.returns
unfolding open_row
returns c =
    on_ok_weaker c.push_line.result (λ e. e ∙ ap (λ (n : ℕ). c.args.out.now.items ++ open_line c.args.then n) (c.count_of.ensures ∙ sym (count-map open_data (became c.args.then) c.args.opens.now))) c.push_line.ensures
