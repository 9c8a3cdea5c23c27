use Rattle.std.proofs.Common.{ap, sym, subst, arith, ◌∙◌, ◌++◌, ℕ, length, List, [], Option, option_to_list, Vec, inl}
use Rattle.std.specs.declared.alloc.Global.{Global}
use Rattle.std.proofs.lemmas.List.{length-map}
use Rattle.aa_files.specs.Texts.{texts}
use Rattle.aa_command.specs.Setting.{setting_of}
use Rattle.aa_check.specs.declared.report.FileReport.{FileReport}
use Rattle.aa_check.specs.Checked.{AreFound}
use Rattle.aa_check.proofs.Found.{found_many, few_all, held_all}
use Rattle.aa_check.proofs.checking.check.Goals as goal

pub report_of-requires-clause-few : goal.report_of-requires-clause-few
report_of-requires-clause-few g c =
    let s = setting_of (g.T.Tree.files c.args.tree.now) (g.T.Tree.taken c.args.tree.now) (g.T.Tree.input c.args.tree.now) c.args.settings.now in
    let many = found_many s [] (texts c.as_slice.result.now) c.in_ok-files-in-Ok.files.items c.in_ok-files-in-Ok.ensures in
    let paths = length-map c.as_slice.result.now (λ v. v.items) in
    let slice = ap length c.as_slice.ensures.value in
    let few = c.in-Ok.ensures.few in
    omega arith

pub report_of-requires-clause-each : goal.report_of-requires-clause-each
report_of-requires-clause-each g c = few_all
    (setting_of (g.T.Tree.files c.args.tree.now) (g.T.Tree.taken c.args.tree.now) (g.T.Tree.input c.args.tree.now) c.args.settings.now) []
    (texts c.as_slice.result.now) c.in_ok-files-in-Ok.files.items c.in_ok-files-in-Ok.ensures

pub report_of-requires-clause-held : goal.report_of-requires-clause-held
report_of-requires-clause-held g c = held_all
    (setting_of (g.T.Tree.files c.args.tree.now) (g.T.Tree.taken c.args.tree.now) (g.T.Tree.input c.args.tree.now) c.args.settings.now) []
    (texts c.as_slice.result.now) c.in_ok-files-in-Ok.files.items c.in_ok-files-in-Ok.ensures

pub returns-in_ok-files-in-Ok : goal.returns-in_ok-files-in-Ok
returns-in_ok-files-in-Ok g c =
    let s = setting_of (g.T.Tree.files c.args.tree.now) (g.T.Tree.taken c.args.tree.now) (g.T.Tree.input c.args.tree.now) c.args.settings.now in
    let roots = c.in-Ok.roots in
    let paths = texts roots.paths.items in
    let files = c.in_ok-files-in-Ok.files in
    record {
      each = inl (
        paths,
        texts roots.warnings.items,
        record {
          few = omega (arith, length-map roots.paths.items (λ v. v.items), c.in-Ok.ensures.few);
          paths_are = c.in-Ok.ensures.paths;
          warnings_are = c.in-Ok.ensures.warnings;
        },
        record {
          found = subst (λ (fs : List FileReport). AreFound s [] paths fs) (sym (ap (λ v. v.items) c.report_of.ensures.files))
              (subst (λ (ps : List (Vec ℕ Global)). AreFound s [] (texts ps) files.items) c.as_slice.ensures.value c.in_ok-files-in-Ok.ensures);
          warned = ap (λ v. texts v.items) c.report_of.ensures.warnings;
        },
      );
      counts = c.report_of.ensures.counts;
    }
