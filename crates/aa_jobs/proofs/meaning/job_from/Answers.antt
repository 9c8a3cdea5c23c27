use Rattle.std.proofs.Common.{◌≡◌, ◌∙◌, true, length, nat_le, Ok, refl, sym, ap, arith}
use Rattle.std.proofs.lemmas.Bool.Decides.{nat_tests}
use Rattle.std.proofs.lemmas.List.{length-map}
use Rattle.aa_jobs.specs.Steps.{each}
use Rattle.aa_jobs.specs.Limits.{keeps_limits}
use Rattle.aa_jobs.specs.Made.{event_in, made_sizes, task_in}
use Rattle.aa_jobs.specs.Raw.{raw_task, raw_job}
use Rattle.aa_jobs.proofs.Kept.{capacity_fits, limits_kept, meaning_is}
use Rattle.aa_jobs.proofs.meaning.job_from.Goals as goal

pub overflow_cast-result-2 : goal.overflow_cast-result-2
overflow_cast-result-2 c =
    let small : nat_le c.args.raw.capacity 1024 ≡ true = capacity_fits (made_sizes (raw_job c.args.raw)) c.requires in
    grind (arith, nat_tests)

pub invariant_of-result : goal.invariant_of-result
invariant_of-result c =
    let w = raw_job c.args.raw in
    let n : length c.as_slice-rows.result.now ≡ length w.tasks = ap length c.as_slice-rows.ensures.value ∙ sym (length-map c.args.raw.tasks.items raw_task) in
    let m : length c.as_slice-texts.result.now ≡ length w.policies = ap length c.as_slice-texts.ensures.value in
    let t : each (task_in (length w.policies)) w.tasks ≡ Ok c.in_ok-tasks.tasks.items = rw m at c.in_ok-tasks.ensures in
    let e : each (event_in (length w.tasks)) w.events ≡ Ok c.in_ok-events.events.items = rw (n, c.as_slice.ensures.value) at c.in_ok-events.ensures in
    let p : c.from_vec.result ≡ w.policies = c.from_vec.ensures in
    let i : c.from_vec-2.result ≡ w.includes = c.from_vec-2.ensures in
    let k : keeps_limits c.from_vec.result c.from_vec-2.result c.from_vec-3.result w.states w.capacity c.from_vec-4.result ≡ true = rw
    (p, i, c.from_vec-3.ensures, c.from_vec-4.ensures) (limits_kept w c.in_ok-tasks.tasks.items c.in_ok-events.events.items c.requires t e) in
    record { limits = k }

pub returns : goal.returns
returns c =
    let w = raw_job c.args.raw in
    let n : length c.as_slice-rows.result.now ≡ length w.tasks = ap length c.as_slice-rows.ensures.value ∙ sym (length-map c.args.raw.tasks.items raw_task) in
    let m : length c.as_slice-texts.result.now ≡ length w.policies = ap length c.as_slice-texts.ensures.value in
    let t : each (task_in (length w.policies)) w.tasks ≡ Ok c.in_ok-tasks.tasks.items = rw m at c.in_ok-tasks.ensures in
    let e : each (event_in (length w.tasks)) w.events ≡ Ok c.in_ok-events.events.items = rw (n, c.as_slice.ensures.value) at c.in_ok-events.ensures in
    let p : c.from_vec.result ≡ w.policies = c.from_vec.ensures in
    let i : c.from_vec-2.result ≡ w.includes = c.from_vec-2.ensures in
    meaning_is w _ (t ∙ ap Ok (sym c.from_vec-3.ensures)) (e ∙ ap Ok (sym c.from_vec-4.ensures)) (sym p) refl (sym i) refl refl
