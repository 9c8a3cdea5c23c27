use Rattle.std.proofs.Common.{codes, refl, ◌≡◌, ℕ, ◌+◌, subst, arith, rules}
use Rattle.aa_words.specs.declared.word.WordKind.TheVariants.{Comma}
use Rattle.aa_words.specs.Splits.{word_data}
use Rattle.aa_rules.specs.Grammar.{Lacks, Keyword, LacksKeyword}
use Rattle.aa_rules.specs.Reading.{rest_of}
use Rattle.aa_policy.specs.HeadFaults.{NoAbi, NoAbiName, NoAbiComma}
use Rattle.aa_policy.specs.Preamble.{NamesAbi, LacksAbiName}
use Rattle.aa_policy.proofs.preamble.abi_of.Goals as goal

pub returns-then-not-keyword_stands-clause-fails : goal.returns-then-not-keyword_stands-clause-fails
returns-then-not-keyword_stands-clause-fails c =
    let none : LacksKeyword (codes "abi") (rest_of c.args.words.now c.args.at) = search rules in
    record { rest = rest_of c.args.words.now c.args.at; fails = (NoAbi none refl, c.fault.ensures.kind); at_is = c.fault.ensures.spot }

pub returns-in_default-clause-fails : goal.returns-in_default-clause-fails
returns-in_default-clause-fails c =
    let keyword : Keyword (codes "abi") (rest_of c.args.words.now c.args.at) (rest_of c.args.words.now (c.args.at + 1)) = search rules in
    let none : LacksAbiName (rest_of c.args.words.now (c.args.at + 1)) = search rules in
    record { rest = rest_of c.args.words.now (c.args.at + 1); fails = (NoAbiName keyword none, c.fault-in_default.ensures.kind); at_is = c.fault-in_default.ensures.spot }

pub returns-in_default-word_of_kind-clause-fails : goal.returns-in_default-word_of_kind-clause-fails
returns-in_default-word_of_kind-clause-fails c =
    let keyword : Keyword (codes "abi") (rest_of c.args.words.now c.args.at) (rest_of c.args.words.now (c.args.at + 1)) = search rules in
    let behind : c.args.at + 1 + 1 ≡ c.args.at + 2 = omega arith in
    let named = subst (λ (n : ℕ). NamesAbi (rest_of c.args.words.now (c.args.at + 1)) (word_data c.in-Some.field-0.now) (rest_of c.args.words.now n)) behind c.in-Some.ensures.found in
    let none : Lacks Comma (rest_of c.args.words.now (c.args.at + 2)) = search rules in
    record {
      rest = rest_of c.args.words.now (c.args.at + 2);
      fails = (NoAbiComma _ _ keyword named none, c.fault-in_default-word_of_kind.ensures.kind);
      at_is = c.fault-in_default-word_of_kind.ensures.spot;
    }
