use Rattle.aa_representatives.proofs.Replied.{files_reply_alike, execs_reply_alike, links_reply_alike, changes_reply_alike}
use Rattle.aa_representatives.proofs.laws.alike_paths_reply_alike.Goals as goal

pub returns : goal.returns
returns c = record {
  files = λ policies label s u alike. files_reply_alike policies s u label alike;
  execs = λ policies label s u alike. execs_reply_alike policies s u label alike;
  links = λ policies label s u v w alike other. links_reply_alike policies s u v w label alike other;
  changes = λ policies label s u alike same. changes_reply_alike policies s u label alike same;
}
