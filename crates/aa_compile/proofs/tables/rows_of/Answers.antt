use Rattle.std.proofs.Common.{◌≡◌, length, refl, inl, inr, ⊎_elim}
use Rattle.std.proofs.lemmas.Option.{slice_get_read}
use Rattle.aa_base.specs.Kinds.{no_memory}
use Rattle.aa_compile.specs.Checks.{Fails}
use Rattle.aa_compile.proofs.Counts.{files_few}
use Rattle.aa_compile.proofs.CheckLemmas.{right_more, passed_more}
use Rattle.aa_compile.proofs.tables.rows_of.Goals as goal

pub rows_of_profile-requires-clause-files : goal.rows_of_profile-requires-clause-files
rows_of_profile-requires-clause-files c = files_few c.args.profiles.now c.requires.limits c.loop-number.number c.index-profiles-number.result c.loop-number-test.true c.index-profiles-number.is

pub returns-in-Err-clause-fails : goal.returns-in-Err-clause-fails
returns-in-Err-clause-fails c =
    let at = slice_get_read c.args.profiles.now (length c.args.profiles.now) c.loop-number.number c.index-profiles-number.result refl c.loop-number-test.true c.index-profiles-number.is in
    ⊎_elim
    (λ (e : c.in-Err.fault ≡ no_memory). inl e)
    (λ (x : Fails c.args.profiles.now c.args.limit c.loop-number.number c.index-profiles-number.result c.in-Err.fault).
    inr (record { number = c.loop-number.number; profile = c.index-profiles-number.result; is = at; before = c.loop-number.invariant.passed; fails = x }))
    c.in-Err.ensures.fails

pub loop-number-preserved : goal.loop-number-preserved
loop-number-preserved c =
    let at = slice_get_read c.args.profiles.now (length c.args.profiles.now) c.loop-number.number c.index-profiles-number.result refl c.loop-number-test.true c.index-profiles-number.is in
    record {
      right = right_more c.args.profiles.now c.loop-number.number c.loop-number.rows.items c.push.new.self.items c.index-profiles-number.result c.in-Ok.profile_rows
          c.loop-number.invariant.right at c.in-Ok.ensures.right c.in_ok-push-in-Ok.ensures.items;
      passed = passed_more c.args.profiles.now c.args.limit c.loop-number.number c.index-profiles-number.result c.loop-number.invariant.passed at c.in-Ok.ensures.passes;
    }
