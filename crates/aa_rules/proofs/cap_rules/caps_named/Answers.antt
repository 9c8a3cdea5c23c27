use Rattle.std.proofs.Common.{ℕ, ◌+◌, ◌<◌, ◌*◌, ◌%◌, ◌^◌, [], ◌∷◌, ◌++◌, Some, refl, sym, ap, ◌∙◌, arith, rules}
use Rattle.std.specs.Prelude.{bit_or}
use Rattle.std.proofs.lemmas.Nat.{one_shl}
use Rattle.aa_words.specs.declared.word.WordKind.TheVariants.{Name}
use Rattle.aa_words.specs.Splits.{word_data}
use Rattle.aa_rules.specs.CapRules.{NamesEnd, IsCapName, numbers_bits}
use Rattle.aa_rules.specs.Phrases.{Lacks}
use Rattle.aa_rules.specs.Reading.{rest_of}
use Rattle.aa_base.specs.Tables.{capability_names}
use Rattle.aa_rules.proofs.CapRules.{cap_names_read, bits_more, no_name, not_the_end}
use Rattle.aa_rules.proofs.Repetition.{reaches_start, reaches_next, reaches_end, reaches_none, here_next}
use Rattle.aa_rules.proofs.cap_rules.caps_named.Goals as goal

pub names-init : goal.names-init
unfolding numbers_bits
names-init c = record {
  reach = ([], reaches_start IsCapName NamesEnd (rest_of c.args.words.now c.args.start), refl, refl);
  behind = omega arith;
  within = c.requires.behind;
}

pub returns-in_default-from_name-clause-refused : goal.returns-in_default-from_name-clause-refused
returns-in_default-from_name-clause-refused c = λ ns rest m.
    let at = rest_of c.args.words.now c.names.at in
    let here = c.in-Some.ensures.found in
    reaches_none IsCapName NamesEnd _ _ at ns rest (no_name at _ _ here c.in_default-from_name.ensures) (not_the_end at _ _ here) c.names.invariant.reach.1 m

pub returns-in_default-from_name-clause-fails : goal.returns-in_default-from_name-clause-fails
returns-in_default-from_name-clause-fails c =
    let found = c.names.invariant.reach in
    record {
      rest = rest_of c.args.words.now c.names.at;
      fails = record {
        numbers = found.0;
        name = word_data c.in-Some.word.now;
        after = rest_of c.args.words.now (c.names.at + 1);
        before = found.3;
        stands = c.in-Some.ensures.found;
        unknown = sym c.in_default-from_name.ensures;
        kind_is = c.fault.ensures.kind;
      };
      at_is = c.fault.ensures.spot;
    }

pub overflow_shl-number : goal.overflow_shl-number
unfolding capability_names
overflow_shl-number c = omega (arith, c.number.ensures.in_table)

pub names-preserved : goal.names-preserved
unfolding capability_names
names-preserved c =
    let found = c.names.invariant.reach in
    let n = c.number.result in
    let below : n < 64 = omega (arith, c.number.ensures.in_table) in
    let name : IsCapName (rest_of c.args.words.now c.names.at) n (rest_of c.args.words.now (c.names.at + 1)) =
    record { name = word_data c.in-Some.word.now; stands = c.in-Some.ensures.found; in_table = sym c.in-Some-from_name.ensures ∙ ap Some (sym c.number.ensures.number) } in
    record {
      reach = (
        found.0 ++ n ∷ [],
        reaches_next IsCapName NamesEnd cap_names_read _ found.0 (rest_of c.args.words.now c.names.at) n _ name found.1,
        c.insert.ensures tt ∙ ap (λ (b : ℕ). bit_or b (1 * 2 ^ n % 2 ^ 64)) found.2 ∙ ap (bit_or (numbers_bits 0 found.0)) (one_shl n 64 below) ∙ sym (bits_more 0 n found.0),
        here_next IsCapName _ found.0 _ n _ name found.3,
      );
      behind = omega (arith, c.names.invariant.behind);
      within = omega (arith, c.in-Some.ensures.within);
    }

pub returns-clause-found : goal.returns-clause-found
returns-clause-found c =
    let found = c.names.invariant.reach in
    let none : Lacks Name (rest_of c.args.words.now c.names.at) = search rules in
    (found.0, reaches_end IsCapName NamesEnd _ found.0 (rest_of c.args.words.now c.names.at) _ (refl, none) found.1, found.2)
