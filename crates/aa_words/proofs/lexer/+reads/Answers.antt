use Rattle.std.proofs.Common.{◌≡◌, ◌⊎◌, ◌++◌, ◌<◌, suc, List, [], length, rules, tests, arith, inl, inr, refl, sym, ap, ◌∙◌, append_assoc}
use Rattle.std.proofs.lemmas.List.{append-nil}
use Rattle.std.proofs.lemmas.Result.{err_from_is_err_and}
use Rattle.aa_base.specs.Kinds.{no_memory}
use Rattle.aa_words.specs.Splits.{WordData}
use Rattle.aa_words.specs.Stops.{Fails}
use Rattle.aa_words.proofs.Cuts.{read_start, read_step, read_end}
use Rattle.aa_words.proofs.Once.{fails_here, reads_here, include_stops, handed_on}
use Rattle.aa_words.proofs.lexer.+reads.Goals as goal

pub read_source-loop-rest-init : goal.read_source-loop-rest-init
read_source-loop-rest-init t c = record {
  read = ([], sym (append-nil _), read_start _ _ c.args.source.now c.args.opened);
  shallow = omega arith;
  left = omega arith;
  small = omega arith;
  bytes = omega arith;
  readings = omega arith;
}

pub read_source-returns-in_default-clause-err : goal.read_source-returns-in_default-clause-err
read_source-returns-in_default-clause-err t c =
    let long : 0 < length c.loop-rest.rest.now = search (rules, tests) in
    let read = c.loop-rest.invariant.read in
    inr (fails_here _ _ _ _ _ _ (record {
      place = c.loop-rest.place;
      at = c.loop-rest.at;
      rest = c.loop-rest.rest.now;
      found = read.0;
      count = c.loop-rest.count;
      read = read.2;
      more = long;
      stop = inl (c.in_default.ensures.none, c.fault_of.ensures);
    }))

pub read_source-returns-in_err-count-clause-err : goal.read_source-returns-in_err-count-clause-err
read_source-returns-in_err-count-clause-err t c =
    let long : 0 < length c.loop-rest.rest.now = search (rules, tests) in
    let read = c.loop-rest.invariant.read in
    let q = err_from_is_err_and c.from_residual.result c.from_residual.ensures.1 in
    handed_on c.from_residual.result _ _ (λ e. (e ≡ no_memory) ⊎ Fails (suc c.args.reader.depth) c.args.reader.sources.now c.args.reader.reading c.args.source.now c.args.opened e) q.1 q.2
    (include_stops _ _ _ _ _ _ _ c.loop-rest.rest.now read.0 _ c.in-Some.piece c.in-Some.len c.split_at.result.0.now _ c.in-Some.ensures.some.0 c.in-Some.ensures.some.1 c.split_at.ensures.front long read.2 c.in_err-count.ensures.err)

pub read_source-loop-rest-preserved : goal.read_source-loop-rest-preserved
read_source-loop-rest-preserved t c =
    let long : 0 < length c.loop-rest.rest.now = search (rules, tests) in
    let read = c.loop-rest.invariant.read in
    let given = c.in_ok-count.ensures.ok in
    record {
      read = (
        read.0 ++ given.0,
        given.1 ∙ ap (λ (w : List WordData). w ++ given.0) read.1 ∙ append_assoc _ read.0 given.0,
        read_step _ _ _ _ _ _ c.loop-rest.rest.now c.in-Some.piece c.in-Some.len c.split_at.result.0.now _ read.0 given.0 _ _ _ _ c.in-Some.ensures.some.0
            c.in-Some.ensures.some.1 long c.split_at.ensures.front c.split_at.ensures.back refl c.place_behind-place.ensures.after given.2 read.2,
      );
      shallow = omega (arith, c.in-Some.ensures.within.0);
      left = omega arith;
      small = omega arith;
      bytes = c.in_ok-count.ensures.within.0;
      readings = c.in_ok-count.ensures.within.1;
    }

pub read_source-returns-clause-ok : goal.read_source-returns-clause-ok
read_source-returns-clause-ok t c =
    let done : length c.loop-rest.rest.now < 1 = search (rules, tests) in
    let read = c.loop-rest.invariant.read in
    (read.0, read.1, reads_here _ _ _ _ _ _ _ (read_end _ _ _ _ _ _ _ _ _ done read.2))
