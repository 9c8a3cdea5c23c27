use Rattle.std.proofs.Common.{◌≡◌, map, ap, ◌∙◌, rules}
use Rattle.aa_files.specs.Texts.{slices}
use Rattle.aa_question.proofs.Members.{first_key, keys_are}
use Rattle.aa_question.proofs.values.unknown_in.Goals as goal

pub loop-key-init : goal.loop-key-init
loop-key-init c =
    let e : c.into_iter-key-iterator.result ≡ map (λ e. e.0) c.args.members.now.entries = search rules in
    ap (first_key (slices c.args.names.now)) e ∙ keys_are (slices c.args.names.now) c.args.members.now.entries
