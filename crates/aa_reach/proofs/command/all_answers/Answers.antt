use Rattle.std.proofs.Common.{Bool, List, Option, option_map, ap, subst}
use Rattle.std.specs.Prelude.{ℕ}
use Rattle.std.specs.List.{AllZip}
use Rattle.aa_model.specs.declared.label.Label.{Label}
use Rattle.aa_files.specs.Texts.{texts}
use Rattle.aa_reach.specs.Answers.{AreAnswers, IsOpenAnswer}
use Rattle.aa_reach.proofs.command.all_answers.Goals as goal

pub returns : goal.returns
returns c =
    let b = c.args.beside in
    let ps = b.course.going.policies.now in
    let sk = b.skipped.now in
    let a = c.args.asked.now in
    let k = c.args.limit in
    let told = c.in_ok-answers.answers.items in
    let others = c.in_ok-others.others.items in
    let labels = c.as_slice-labels.result.now in
    let sought = texts c.as_slice-sought.result.now in
    let targets = option_map (λ ts. ts.now) c.targets_in-targets.result in
    let enforced : AreAnswers c.args.options.now.unclean c.args.options.now.as_enforced ps sk k targets sought labels told =
    subst (λ (e : Bool). AreAnswers c.args.options.now.unclean e ps sk k targets sought labels told) c.requires.enforced c.in_ok-answers.ensures in
    let wanted : AreAnswers c.args.options.now.unclean c.args.options.now.as_enforced ps sk k (option_map (λ ts. ts.items) a.targets) sought labels told =
    subst (λ (ts : Option (List Label)). AreAnswers c.args.options.now.unclean c.args.options.now.as_enforced ps sk k ts sought labels told) c.targets_in-targets.ensures enforced in
    let open_ones : AreAnswers c.args.options.now.unclean c.args.options.now.as_enforced ps sk k (option_map (λ ts. ts.items) a.targets) (texts a.sought.items) labels told =
    subst
    (λ (ws : List (List ℕ)). AreAnswers c.args.options.now.unclean c.args.options.now.as_enforced ps sk k (option_map (λ ts. ts.items) a.targets) ws labels told)
    (ap texts c.as_slice-sought.ensures.value) wanted in
    record {
      told = told;
      others = others;
      are =
          subst
          (λ (ls : List Label). AreAnswers c.args.options.now.unclean c.args.options.now.as_enforced ps sk k (option_map (λ ts. ts.items) a.targets) (texts a.sought.items) ls told)
          c.as_slice-labels.ensures.value open_ones;
      left = subst (λ (ws : List (List ℕ)). AllZip (IsOpenAnswer sk) ws others) (ap texts c.as_slice.ensures.value) c.in_ok-others.ensures;
      all = c.in_ok-append.ensures.items;
    }
