use Rattle.std.proofs.Common.{Option, sym, ap, ◌∙◌}
use Rattle.std.specs.Prelude.{option_map}
use Rattle.aa_job.specs.declared.shared.Meaning.{Meaning}
use Rattle.aa_job.specs.Shared.{found_source, meant}
use Rattle.aa_job.proofs.Sharing.{adds_kept, adds_new}
use Rattle.aa_job.proofs.shared.add_name.Goals as goal

pub returns-in-Some-clause-ok : goal.returns-in-Some-clause-ok
returns-in-Some-clause-ok c =
    adds_kept c.args.name.now (record { by = c.args.unit.now; source = found_source c.args.source }) (meant c.in-Some.known.now) c.args.meanings.now.entries
    (ap (λ (o : Option Meaning). option_map meant o) (sym c.in-Some.ensures.value)) (sym c.is_same.ensures ∙ c.if-is_same.true)

pub returns-in_ok-fault-in-Some-2-clause-refused : goal.returns-in_ok-fault-in-Some-2-clause-refused
returns-in_ok-fault-in-Some-2-clause-refused c = record {
  first = meant c.in-Some.known.now;
  is = ap (λ (o : Option Meaning). option_map meant o) (sym c.in-Some.ensures.value);
  other = sym c.is_same.ensures ∙ c.if-is_same.false;
  said = c.in_ok-fault-in-Some-2.ensures;
}

pub returns-in_ok-insert-in-None-clause-ok : goal.returns-in_ok-insert-in-None-clause-ok
returns-in_ok-insert-in-None-clause-ok c =
    adds_new c.args.name (record { unit = c.args.unit; source = c.args.source }) c.args.meanings.now.entries c.insert.new.self.entries (sym c.in-None.ensures.value) c.in_ok-insert-in-None.ensures.entries
