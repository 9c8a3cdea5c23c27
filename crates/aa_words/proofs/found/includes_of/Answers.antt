use Rattle.std.proofs.Common.{◌≡◌, ◌<◌, ◌≤◌, length, rules, tests, arith}
use Rattle.aa_words.proofs.Finds.{found_step}
use Rattle.aa_words.specs.FoundData.{includes_data}
use Rattle.aa_words.proofs.found.includes_of.Goals as goal

pub loop-rest-preserved : goal.loop-rest-preserved
loop-rest-preserved c =
    let long : 0 < length c.loop-rest.rest.now = search (rules, tests) in
    record {
      cut = found_step c.args.source.now c.loop-rest.place c.loop-rest.at c.loop-rest.rest.now c.in-Some.piece c.in-Some.len c.split_at.result.0.now c.split_at.result.1.now
          (includes_data c.loop-rest.found.items)
          (includes_data c.push_include.new.found.items) c.place_behind-place.result c.in-Some.ensures.some.0 c.in-Some.ensures.some.1 long
          c.split_at.ensures.front c.split_at.ensures.back c.in_ok-push_include.ensures c.place_behind-place.ensures.after c.loop-rest.invariant.cut;
      shallow = omega (arith, c.in-Some.ensures.within.0, c.place_behind-place.ensures.one_more, c.loop-rest.invariant.shallow);
      left = omega arith;
    }
