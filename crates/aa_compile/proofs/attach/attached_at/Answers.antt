use Rattle.std.proofs.Common.{ap, ◌∙◌}
use Rattle.std.specs.List.{list_any}
use Rattle.aa_compile.specs.Gathered.{picked}
use Rattle.aa_compile.specs.Attached.{common, longest, profiles_of}
use Rattle.aa_compile.proofs.AttachLemmas.{literal_picked, profiles_picked}
use Rattle.aa_compile.proofs.attach.attached_at.Goals as goal

pub returns : goal.returns
returns c =
    let as' = c.args.attachments.now in
    let ns = c.args.numbers.now in
    c.only.ensures
    ∙ ap (λ b. common (profiles_of b c.longest_front-front.result as' ns)) (c.has_literal-literal.ensures ∙ literal_picked as' ns)
    ∙ ap (λ n. common (profiles_of (list_any (λ a. a.literal) (picked as' ns)) n as' ns)) c.longest_front-front.ensures
    ∙ ap common (profiles_picked (list_any (λ a. a.literal) (picked as' ns)) (longest (picked as' ns)) as' ns)
