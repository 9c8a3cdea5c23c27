use Rattle.std.proofs.Common.{◌≡◌, ◌++◌, List, [], Result, Ok, Err, map, sym, ap, ◌∙◌, subst, inl}
use Rattle.std.specs.Result.{IfErr, IsErrAnd}
use Rattle.aa_compile.specs.Attached.{numbers_below}
use Rattle.aa_findings.specs.declared.fault.FindingsFault.{FindingsFault}
use Rattle.aa_findings.specs.declared.finding.Finding.{Finding}
use Rattle.aa_findings.specs.declared.rows.Row.{Row}
use Rattle.aa_findings.specs.Attached.{sharing, ties_of}
use Rattle.aa_findings.specs.Gathered.{of_rules}
use Rattle.aa_findings.specs.Found.{HasNoFindings}
use Rattle.aa_findings.proofs.Parents.{shown_there, exceeds_there, tie_shown}
use Rattle.aa_findings.proofs.found.findings_in.Goals as goal

handed_on : {T : Type 0} (r : Result T FindingsFault) (P Q : FindingsFault → Type 0) → IsErrAnd r P → ((e : FindingsFault) → P e → Q e) → IfErr r Q
handed_on (Ok t) P Q a h = tt
handed_on (Err e) P Q a h = h e a

pub returns-in_err-shared-clause-many : goal.returns-in_err-shared-clause-many
returns-in_err-shared-clause-many c =
    let profiles = c.args.compiled.now.profiles in
    let p = c.args.profile.now in
    let why = c.in_err-shared.field-0.0 in
    handed_on c.from_residual.result _ (λ (e : FindingsFault). HasNoFindings profiles p c.args.limit e) c.from_residual.ensures.1
    (λ e is. subst (λ (x : FindingsFault). HasNoFindings profiles p c.args.limit x) (sym is)
    (inl (exceeds_there profiles c.args.limit _ c.args.below.now c.requires.below p.parent why c.in_err-shared.ensures.many)))

pub returns-clause-found : goal.returns-clause-found
returns-clause-found c =
    let profiles = c.args.compiled.now.profiles in
    let p = c.args.profile.now in
    let n = c.args.number in
    let shared = c.in_ok-shared.shared.now in
    let ties = c.push_tie.new.found.items in
    let added : ties ≡ ties_of n (map sharing shared) =
    c.in_ok-push_tie.ensures ∙ ap (λ (l : List Finding). l ++ ties_of n (map sharing shared)) c.new-found.ensures.items in
    record {
      ties = ties;
      are_ties = tie_shown profiles (numbers_below p.parent 0 profiles) n shared [] ties
          (shown_there profiles c.args.limit _ c.args.below.now c.requires.below p.parent shared c.in_ok-shared.ensures.shown) added;
      rows = c.in_ok-rows.rows.items;
      are_rows = c.in_ok-rows.ensures.rows;
      are = c.in_ok-push_rules.ensures ∙ ap (λ (rows : List Row). ties ++ of_rules rows p) c.as_slice-2.ensures.value;
    }
