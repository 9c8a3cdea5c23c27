use Rattle.aa_changed_rules.proofs.Leading.{attached_are_led_to}
use Rattle.aa_changed_rules.proofs.laws.attachments_are_led_to.Goals as goal

pub returns : goal.returns
returns c = attached_are_led_to
