use Rattle.std.proofs.Common.{◌+◌, refl, rules, arith}
use Rattle.std.proofs.lemmas.List.{map_push}
use Rattle.aa_words.specs.declared.word.WordKind.TheVariants.{Value}
use Rattle.aa_words.specs.Splits.{word_data}
use Rattle.aa_rules.specs.Grammar.{Lacks}
use Rattle.aa_policy.specs.Preamble.{IsValue, NoValue}
use Rattle.aa_rules.specs.Reading.{rest_of}
use Rattle.aa_policy.proofs.Preambles.{value_reads}
use Rattle.aa_rules.proofs.Repetition.{reaches_next, reaches_end}
use Rattle.aa_policy.proofs.assignments.values_at.Goals as goal

pub values-preserved : goal.values-preserved
values-preserved c =
    let here : IsValue (rest_of c.args.words.now c.values.at) c.in-Some.word.now.text.now (rest_of c.args.words.now (c.values.at + 1)) =
    record { word = word_data c.in-Some.word.now; stands = c.in-Some.ensures.found; value_is = refl } in
    record {
      reach = rw (c.in_ok-push.ensures.items, map_push (λ v. v.now) c.values.values.items c.in-Some.word.now.text)
          (reaches_next IsValue NoValue value_reads _ _ (rest_of c.args.words.now c.values.at) c.in-Some.word.now.text.now _ here c.values.invariant.reach);
      behind = omega (arith, c.values.invariant.behind);
      within = omega (arith, c.in-Some.ensures.within);
    }

pub returns-clause-found : goal.returns-clause-found
returns-clause-found c =
    let none : Lacks Value (rest_of c.args.words.now c.values.at) = search rules in
    reaches_end IsValue NoValue _ _ (rest_of c.args.words.now c.values.at) _ (refl, none) c.values.invariant.reach
