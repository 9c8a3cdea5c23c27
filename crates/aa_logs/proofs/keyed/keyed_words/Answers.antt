use Rattle.std.proofs.Common.{◌≡◌, ◌<◌, length, rules, tests}
use Rattle.std.specs.Prelude.{option_map}
use Rattle.aa_logs.specs.Words.{word_data}
use Rattle.aa_logs.proofs.Pieces.{read_smaller, read_more, read_all}
use Rattle.aa_logs.proofs.keyed.keyed_words.Goals as goal

pub loop-rest-smaller : goal.loop-rest-smaller
loop-rest-smaller c =
    let long : 0 < length c.loop-rest.rest.now = search (rules, tests) in
    read_smaller c.loop-rest.rest.now c.first_piece-piece.result.bytes long c.first_piece-piece.ensures.bytes

pub loop-rest-preserved : goal.loop-rest-preserved
loop-rest-preserved c =
    let long : 0 < length c.loop-rest.rest.now = search (rules, tests) in
    read_more c.loop-rest.rest.now c.loop-rest.words c.push_any.new.self _
    (option_map word_data c.first_piece-piece.result.word) c.first_piece-piece.result.bytes long
    c.first_piece-piece.ensures.bytes c.first_piece-piece.ensures.word c.in_ok-push_any.ensures c.loop-rest.invariant

pub returns : goal.returns
returns c =
    let none : length c.loop-rest.rest.now ≡ 0 = search (rules, tests) in
    read_all c.loop-rest.rest.now c.loop-rest.words _ none c.loop-rest.invariant
