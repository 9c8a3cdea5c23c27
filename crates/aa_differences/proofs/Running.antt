-- Policies that answer each request the same answer each list of requests the same.
use Rattle.std.proofs.Common.{List, [], ◌∷◌, All}
use Rattle.std.proofs.lemmas.List.Elements.{All-head, All-tail}
use Rattle.aa_model.specs.declared.policy.Policy.{Policy}
use Rattle.aa_model.specs.declared.label.Label.{Label}
use Rattle.aa_model.specs.declared.request.Request.{Request}
use Rattle.aa_mediate.specs.Reply.{reply}
use Rattle.aa_representatives.specs.Askable.{IsAskable}
use Rattle.aa_differences.specs.Same.{SameLabel, SamePolicies, SameAnswers, answers_to}

pub run_alike : (ps qs : List Policy) → SamePolicies ps qs → (l m : Label) → SameLabel ps qs l m → (rs : List Request) → All IsAskable rs → SameAnswers ps qs (answers_to ps l rs) (answers_to qs m rs)
run_alike ps qs same l m called [] asked = tt
run_alike ps qs same l m called (r ∷ rs) asked =
    let here = same l m called r (All-head IsAskable r rs asked) in
    (here, run_alike ps qs same (reply ps l r).label (reply qs m r).label here.label rs (All-tail IsAskable r rs asked))
