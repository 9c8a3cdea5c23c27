use Rattle.std.proofs.Common.{◌≡◌, ℕ, List, ◌++◌, codes, Option, option_map, OnOk, ap, subst, ◌∙◌, append_assoc, Bor}
use Rattle.aa_diagnostics.specs.Words.{left_out}
use Rattle.aa_diagnostics.specs.Sentences.{behind_colon, unsupported}
use Rattle.aa_diagnostics.proofs.sentence.push_unsupported.Goals as goal

pub returns : goal.returns
unfolding unsupported
returns c =
    let out = c.args.out.now.items in
    let said = codes "this part of the language is left out" in
    let found = option_map (λ (p : Bor (List ℕ)). p.now) c.part_at.result in
    let all : c.push_text.new.out.items ++ behind_colon found ≡ out ++ (said ++ behind_colon (left_out c.args.text.now c.args.byte)) =
    ap (λ (xs : List ℕ). xs ++ behind_colon found) c.in_ok-push_text.ensures ∙ append_assoc out said (behind_colon found) ∙ ap (λ (o : Option (List ℕ)). out ++ (said ++ behind_colon o)) c.part_at.ensures in
    subst (λ (xs : List ℕ). OnOk c.push_behind_colon.result (c.push_behind_colon.new.out.items ≡ xs)) all c.push_behind_colon.ensures
