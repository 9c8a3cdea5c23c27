use Rattle.std.proofs.Common.{codes, refl, ◌+◌, rules}
use Rattle.aa_words.specs.declared.word.WordKind.TheVariants.{Equals, LeftParen}
use Rattle.aa_words.specs.Splits.{word_data}
use Rattle.aa_rules.specs.Grammar.{Lacks, Keyword, LacksKeyword}
use Rattle.aa_rules.specs.Reading.{rest_of}
use Rattle.aa_policy.specs.HeadFaults.{Unopened, NoKeyword, NoEquals, NoParen}
use Rattle.aa_policy.proofs.heads.flags_start.Goals as goal

pub returns-then-not-keyword_stands-clause-fails : goal.returns-then-not-keyword_stands-clause-fails
returns-then-not-keyword_stands-clause-fails c =
    let unopened : Lacks LeftParen (rest_of c.args.words.now c.args.at) = search rules in
    let none : LacksKeyword (codes "flags") (rest_of c.args.words.now c.args.at) = search rules in
    record { rest = rest_of c.args.words.now c.args.at; fails = Unopened (NoKeyword unopened none refl) c.head_fault.ensures.stops; at_is = c.head_fault.ensures.at }

pub returns-in_default-clause-fails : goal.returns-in_default-clause-fails
returns-in_default-clause-fails c =
    let keyword : Keyword (codes "flags") (rest_of c.args.words.now c.args.at) (rest_of c.args.words.now (c.args.at + 1)) = search rules in
    let none : Lacks Equals (rest_of c.args.words.now (c.args.at + 1)) = search rules in
    record { rest = rest_of c.args.words.now (c.args.at + 1); fails = Unopened (NoEquals keyword none) c.head_fault-in_default.ensures.stops; at_is = c.head_fault-in_default.ensures.at }

pub returns-in_default-word_of_kind-clause-fails : goal.returns-in_default-word_of_kind-clause-fails
returns-in_default-word_of_kind-clause-fails c =
    let keyword : Keyword (codes "flags") (rest_of c.args.words.now c.args.at) (rest_of c.args.words.now (c.args.at + 1)) = search rules in
    let none : Lacks LeftParen (rest_of c.args.words.now (c.args.at + 1 + 1)) = search rules in
    record {
      rest = rest_of c.args.words.now (c.args.at + 1 + 1);
      fails = Unopened (NoParen _ keyword (word_data c.in-Some.field-0.now, c.in-Some.ensures.found) none) c.head_fault-in_default-word_of_kind.ensures.stops;
      at_is = c.head_fault-in_default-word_of_kind.ensures.at;
    }
