use Rattle.aa_words.proofs.Pieces.{piece_short}
use Rattle.aa_words.proofs.cut.next_piece.Goals as goal

pub returns-in_default-clause-none : goal.returns-in_default-clause-none
returns-in_default-clause-none c = piece_short c.args.place c.args.text.now c.in_default.len_below
