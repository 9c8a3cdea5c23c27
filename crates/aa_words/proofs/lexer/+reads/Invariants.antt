use Rattle.std.proofs.Common.{◌≡◌, ◌+◌, ◌*◌, ◌≤◌, ◌++◌, List, length}
use Rattle.aa_words.specs.Splits.{WordData, words_data, Reads}
use Rattle.aa_words.specs.Openings.{setting_data}
use Rattle.aa_words.specs.Stops.{ReadTo}
use Rattle.aa_words.proofs.lexer.+reads.Given as goal

abbrev pub invariant-read_source-loop-rest : goal.invariant-read_source-loop-rest
invariant-read_source-loop-rest l = record {
  read : (found : List WordData) × (words_data l.list.items ≡ words_data l.fn.list.items ++ found)
      × ReadTo (Reads l.reader.depth l.reader.sources.now) (setting_data l.reader) l.source l.fn.opened l.place l.at l.rest found l.count;
  shallow : l.place.parens ≤ l.at;
  left : l.at + length l.rest ≡ length l.source;
  small : length l.source ≤ 16777216;
  bytes : l.count.bytes ≤ 16777216;
  readings : l.count.readings ≤ 4096;
}

abbrev pub decreases-read_source-loop-rest : goal.decreases-read_source-loop-rest
decreases-read_source-loop-rest l = length l.rest

abbrev pub decreases-read_piece : goal.decreases-read_piece
decreases-read_piece l = 2 * l.reader.depth

abbrev pub decreases-read_source : goal.decreases-read_source
decreases-read_source l = 2 * l.reader.depth + 1
