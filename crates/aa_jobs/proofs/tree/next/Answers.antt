use Rattle.std.proofs.Common.{◌≡◌, true, false, sym, ap}
use Rattle.json.specs.Json.{value}
use Rattle.json.specs.Value.{value_view}
use Rattle.aa_jobs.specs.declared.job_fault.JobFault.TheVariants.{NotJson}
use Rattle.aa_jobs.specs.Steps.{needed}
use Rattle.aa_jobs.specs.Trees.{in_range}
use Rattle.aa_jobs.proofs.Trees.{read_is}
use Rattle.aa_jobs.proofs.tree.next.Goals as goal

pub returns-then-is_in_range : goal.returns-then-is_in_range
returns-then-is_in_range c =
    let j = value_view c.in-Ok.tree in
    let fits : in_range j ≡ true = sym c.if-is_in_range.ensures in
    ap (needed NotJson) (read_is (value c.args.depth c.args.reader.now) j c.read.new.reader true c.in-Ok.ensures.ok fits)

pub returns : goal.returns
returns c =
    let j = value_view c.in-Ok.tree in
    let fits : in_range j ≡ false = sym c.if-is_in_range.ensures in
    ap (needed NotJson) (read_is (value c.args.depth c.args.reader.now) j c.read.new.reader false c.in-Ok.ensures.ok fits)
