use Rattle.std.proofs.Common.{inl, rules}
use Rattle.std.proofs.lemmas.Result.{err_from_is_err_and}
use Rattle.aa_words.specs.declared.word.WordKind.TheVariants.{Open}
use Rattle.aa_words.specs.Splits.{word_data}
use Rattle.aa_rules.specs.Grammar.{Lacks}
use Rattle.aa_rules.specs.Reading.{rest_of}
use Rattle.aa_rules.specs.RuleFaults.{IsFaultBy}
use Rattle.aa_rules.proofs.Refusals.{told_on}
use Rattle.aa_policy.specs.HeadFaults.{OpeningFails, InFlags, NoBrace}
use Rattle.aa_policy.proofs.HeadProductions.{no_opening, no_brace}
use Rattle.aa_policy.proofs.heads.opening_of.Goals as goal

pub returns-in_default-clause-refused : goal.returns-in_default-clause-refused
returns-in_default-clause-refused c = λ flags rest a.
    let none : Lacks Open (rest_of c.args.words.now c.in_ok-flags.brace) = search rules in
    no_brace _ _ _ c.in_ok-flags.ensures.found none flags rest a

pub returns-in_err-flags-clause-refused : goal.returns-in_err-flags-clause-refused
returns-in_err-flags-clause-refused c =
    let q = err_from_is_err_and c.from_residual.result c.from_residual.ensures.1 in
    let none : Lacks Open (rest_of c.args.words.now c.args.at) = search rules in
    rw (q.1) (no_opening _ none c.in_err-flags.ensures.refused)

pub returns-clause-found : goal.returns-clause-found
returns-clause-found c = record {
  after = rest_of c.args.words.now c.in_ok-flags.brace;
  flags_stand = inl c.in_ok-flags.ensures.found;
  brace_stands = (word_data c.in-Some.field-0.now, c.in-Some.ensures.found);
}

pub returns-in_err-flags-clause-fails : goal.returns-in_err-flags-clause-fails
returns-in_err-flags-clause-fails c =
    let q = err_from_is_err_and c.from_residual.result c.from_residual.ensures.1 in
    let none : Lacks Open (rest_of c.args.words.now c.args.at) = search rules in
    let f = c.in_err-flags.ensures.fails in
    told_on c.from_residual.result _ _ (IsFaultBy OpeningFails (rest_of c.args.words.now c.args.at) c.args.end) q.1 q.2 (record { rest = f.rest; fails = InFlags none f.fails; at_is = f.at_is })

pub returns-in_default-clause-fails : goal.returns-in_default-clause-fails
returns-in_default-clause-fails c =
    let none : Lacks Open (rest_of c.args.words.now c.args.at) = search rules in
    let unbraced : Lacks Open (rest_of c.args.words.now c.in_ok-flags.brace) = search rules in
    record {
      rest = rest_of c.args.words.now c.in_ok-flags.brace;
      fails = NoBrace c.in_ok-flags.flags none c.in_ok-flags.ensures.found unbraced c.head_fault.ensures.stops;
      at_is = c.head_fault.ensures.at;
    }
