use Rattle.std.proofs.Common.{◌+◌, ◌++◌, ◌∷◌, [], Bool, sym, ap, ◌∙◌, rules, arith}
use Rattle.std.specs.Prelude.{◌&&◌}
use Rattle.aa_words.specs.declared.word.WordKind.TheVariants.{RightParen}
use Rattle.aa_words.specs.Splits.{word_data}
use Rattle.aa_rules.specs.Grammar.{Lacks}
use Rattle.aa_policy.specs.declared.heads.HeadFlags.{HeadFlags}
use Rattle.aa_policy.specs.Heads.{Stands, Fits, LacksFitting, is_flag, flags_with}
use Rattle.aa_policy.specs.HeadFaults.{NoFlag, Contradicts, contradict, flag_fault}
use Rattle.aa_rules.specs.Reading.{rest_of}
use Rattle.aa_policy.proofs.HeadProductions.{flag_reads, said_more, contradicted, ends_more}
use Rattle.aa_rules.proofs.Repetition.{reaches_next, reaches_end, reaches_none, here_next}
use Rattle.aa_policy.proofs.heads.flag_list_of.Goals as goal

pub returns-in_default-clause-refused : goal.returns-in_default-clause-refused
returns-in_default-clause-refused c = λ flags rest a.
    let here = rest_of c.args.words.now c.flags.at in
    let unclosed : Lacks RightParen here = search rules in
    let none : LacksFitting is_flag here = search rules in
    reaches_none (Fits is_flag) (Stands RightParen) _ _ here a.between rest none (λ after e. unclosed e.0 after e.1) c.flags.invariant.reach.1 a.written

pub returns-then-contradict-clause-refused : goal.returns-then-contradict-clause-refused
returns-then-contradict-clause-refused c =
    let flag = word_data c.in-Some.word.now in
    let reach = reaches_next (Fits is_flag) (Stands RightParen) flag_reads _ _ (rest_of c.args.words.now c.flags.at) flag _ c.in-Some.ensures.found c.flags.invariant.reach.1 in
    let said = c.with_word-more.ensures ∙ ap (λ (f : HeadFlags). flags_with f flag) c.flags.invariant.reach.2 ∙ said_more c.flags.invariant.reach.0 flag in
    let both = ap (λ (f : HeadFlags). f.complain && f.enforce) (sym said) ∙ sym c.contradict.ensures ∙ c.if-contradict.true in
    contradicted _ _ _ reach both

pub returns-in_default-clause-fails : goal.returns-in_default-clause-fails
returns-in_default-clause-fails c =
    let here = rest_of c.args.words.now c.flags.at in
    let unclosed : Lacks RightParen here = search rules in
    let none : LacksFitting is_flag here = search rules in
    let reach = c.flags.invariant.reach in
    let kind = c.fault.ensures.kind ∙ c.flag_fault.ensures.kind ∙ ap (λ (b : Bool). flag_fault b here) reach.4 in
    record { rest = here; fails = NoFlag reach.0 reach.3 (ap contradict (sym reach.2) ∙ c.flags.invariant.agree) unclosed none kind; at_is = c.fault.ensures.spot }

pub returns-then-contradict-clause-fails : goal.returns-then-contradict-clause-fails
returns-then-contradict-clause-fails c =
    let flag = word_data c.in-Some.word.now in
    let reach = c.flags.invariant.reach in
    let said = c.with_word-more.ensures ∙ ap (λ (f : HeadFlags). flags_with f flag) reach.2 ∙ said_more reach.0 flag in
    let both = ap contradict (sym said) ∙ sym c.contradict.ensures ∙ c.if-contradict.true in
    record {
      rest = rest_of c.args.words.now c.flags.at;
      fails = Contradicts reach.0 flag _ reach.3 (ap contradict (sym reach.2) ∙ c.flags.invariant.agree) c.in-Some.ensures.found both c.fault-then-contradict.ensures.kind;
      at_is = c.fault-then-contradict.ensures.spot;
    }

pub flags-preserved : goal.flags-preserved
flags-preserved c =
    let flag = word_data c.in-Some.word.now in
    record {
      reach = (
        c.flags.invariant.reach.0 ++ flag ∷ [],
        reaches_next (Fits is_flag) (Stands RightParen) flag_reads _ _ (rest_of c.args.words.now c.flags.at) flag _ c.in-Some.ensures.found c.flags.invariant.reach.1,
        c.with_word-more.ensures ∙ ap (λ (f : HeadFlags). flags_with f flag) c.flags.invariant.reach.2 ∙ said_more c.flags.invariant.reach.0 flag,
        here_next (Fits is_flag) _ _ (rest_of c.args.words.now c.flags.at) flag _ c.in-Some.ensures.found c.flags.invariant.reach.3,
        c.is_name-behind_flag.ensures ∙ ends_more c.flags.invariant.reach.0 flag,
      );
      agree = sym c.contradict.ensures ∙ c.if-contradict.false;
      behind = omega (arith, c.flags.invariant.behind);
    }

pub returns-clause-found : goal.returns-clause-found
returns-clause-found c =
    let yes : Stands RightParen (rest_of c.args.words.now c.flags.at) (rest_of c.args.words.now (c.flags.at + 1)) = search rules in
    record {
      between = c.flags.invariant.reach.0;
      written = reaches_end (Fits is_flag) (Stands RightParen) _ _ (rest_of c.args.words.now c.flags.at) _ yes c.flags.invariant.reach.1;
      flags_are = c.flags.invariant.reach.2;
      agree = c.flags.invariant.agree;
    }
