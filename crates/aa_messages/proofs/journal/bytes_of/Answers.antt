use Rattle.std.proofs.Common.{◌∙◌, ap}
use Rattle.serde_json.specs.View.{items_view}
use Rattle.aa_messages.specs.Journal.{bytes_of}
use Rattle.aa_messages.proofs.Bytes.{behind, behind_none, byte_there, none_there, all_there}
use Rattle.aa_messages.proofs.journal.bytes_of.Goals as goal

pub loop-rest-init : goal.loop-rest-init
loop-rest-init c = ap (λ l. behind l (bytes_of (items_view c.args.values.now))) c.new-bytes.ensures.items ∙ behind_none (bytes_of (items_view c.args.values.now))

pub loop-rest-preserved : goal.loop-rest-preserved
loop-rest-preserved c =
    byte_there c.loop-rest.rest.now c.value-item.result c.in-Some.byte c.loop-rest.bytes.items c.push.new.self.items (bytes_of (items_view c.args.values.now))
    c.in-len1-up.len_at_least c.value-item.is c.in-Some.ensures c.in_ok-push-in-Some.ensures.items c.loop-rest.invariant

pub returns-in-None : goal.returns-in-None
returns-in-None c =
    none_there c.loop-rest.rest.now c.value-item.result c.loop-rest.bytes.items (bytes_of (items_view c.args.values.now))
    c.in-len1-up.len_at_least c.value-item.is c.in-None.ensures c.loop-rest.invariant

pub returns : goal.returns
returns c = all_there c.loop-rest.rest.now c.loop-rest.bytes.items (bytes_of (items_view c.args.values.now)) c.in_default.len_below c.loop-rest.invariant
