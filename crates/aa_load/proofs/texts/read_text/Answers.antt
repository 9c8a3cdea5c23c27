use Rattle.std.proofs.Common.{subst}
use Rattle.aa_base.specs.declared.fault.Spot.{Spot}
use Rattle.aa_policies.specs.Policies.{IsFaultOfWords}
use Rattle.aa_policies.proofs.Rows.{exactly}
use Rattle.aa_load.specs.Spelled.{OfText, OfWords}
use Rattle.aa_load.proofs.texts.read_text.Goals as goal

pub returns-in-Err-clause-cause : goal.returns-in-Err-clause-cause
returns-in-Err-clause-cause c other = OfText (c.in-Err.ensures.refused other) c.in-Err.ensures.fault

pub returns-in-Err-parse-clause-cause : goal.returns-in-Err-parse-clause-cause
returns-in-Err-parse-clause-cause c other =
    let e = c.in-Err-parse.ensures in
    let w = c.in-Ok.ensures in
    let words = c.in-Ok.list.list.items in
    OfWords words w.split (subst (λ (at : Spot). IsFaultOfWords words at c.in-Err-parse.fault) w.end (record {
      none = e.refused other;
      twice = e.twice;
      undefined = e.undefined;
      at_path = e.at_path;
      duplicate = e.duplicate;
      too_large = e.too_large;
      unwritten = e.unwritten;
      unsupported = e.unsupported;
      kind = e.kinds;
      exact = λ fault is. exactly c.in-Err-parse.fault fault other (e.exact fault is);
    }))
