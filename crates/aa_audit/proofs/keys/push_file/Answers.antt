use Rattle.std.proofs.Common.{◌≡◌, ℕ, List, ◌++◌, ap, ◌∙◌, append_assoc}
use Rattle.std.specs.Prelude.{codes}
use Rattle.std.specs.String.{string_bytes}
use Rattle.std.proofs.lemmas.Result.{IfOk-equal}
use Rattle.aa_base.specs.declared.perms.Perms.{Perms}
use Rattle.aa_base.specs.Values.{value, mask}
use Rattle.aa_audit.specs.Keys.{key, denied_key}
use Rattle.aa_audit.proofs.keys.push_file.Goals as goal

three_pieces : (out a b c : List ℕ) {x y : List ℕ} → x ≡ out ++ a → y ≡ x ++ b → y ++ c ≡ out ++ (a ++ b ++ c)
three_pieces out a b c p q = simp (q, p, append_assoc)

pub returns : goal.returns
returns c =
    let out = string_bytes c.args.out.now in
    let name = key (codes "name") (value c.args.request.now.path) in
    let requested = key (codes "requested_mask") (mask (c.args.request.now.mask.0)) in
    let denied = denied_key c.args.note.word (c.args.note.perms.0) in
    let so_far = three_pieces out name requested denied
    (c.in_ok-push_name.ensures ∙ ap (λ s. out ++ key (codes "name") (value s)) c.path.ensures.path)
    (c.in_ok-push_perms.ensures ∙ ap (λ (m : Perms). string_bytes c.push_name.new.out ++ key (codes "requested_mask") (mask (m.0))) c.mask.ensures.mask) in
    IfOk-equal c.push_denied.result (string_bytes c.push_denied.new.out) (string_bytes c.push_perms.new.out ++ denied) (out ++ (name ++ requested ++ denied)) c.push_denied.ensures so_far
