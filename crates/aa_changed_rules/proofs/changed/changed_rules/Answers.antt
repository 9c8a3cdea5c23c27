use Rattle.aa_changed_rules.specs.Forms.{file_form, cap_form, net_form, change_form}
use Rattle.aa_changed_rules.proofs.News.{sliced, told_by}
use Rattle.aa_changed_rules.proofs.changed.changed_rules.Goals as goal

pub returns-clause-told : goal.returns-clause-told
returns-clause-told c =
    told_by c.args.profile.now c.args.other.now _ _ _ _
    (sliced file_form _ _ _ _ _ c.as_slice.ensures c.as_slice-2.ensures c.in_ok-changed_files.ensures)
    (sliced cap_form _ _ _ _ _ c.as_slice-3.ensures c.as_slice-4.ensures c.in_ok-changed_caps.ensures)
    (sliced net_form _ _ _ _ _ c.as_slice-5.ensures c.as_slice-6.ensures c.in_ok-changed_nets.ensures)
    (sliced change_form _ _ _ _ _ c.as_slice-7.ensures c.as_slice-8.ensures c.in_ok-changed_changes.ensures)
