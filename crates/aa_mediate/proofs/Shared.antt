-- Threads may share a mediator: all that it refers to is plain data. A search that goes down through all of these types runs
-- out of steps, so each has a line.
use denote.Enum.Declared as E
use denote.Hole.FixLaws.{layer_row}
use denote.Hole.FixSend.{fix_sync, Syncs}
use denote.Param.Send.{Common, IsSync, sendable, view_sync}
use denote.Param.SendFields.{as_row_sync, declared_sync, variants_sync}
use denote.RattleType.{RattleType}
use denote.Ref.{NamedLft}
use denote.Struct.Declared as S
use denote.Struct.Field.{row_field}
use denote.Struct.Record as R
use Rattle.std.below.std_heap.specs.contracts.GlobalAllocator.TheImpl.{ghosts}
use Rattle.std.proofs.Common.{subst}
use Rattle.std.proofs.Crossing.{crosses, Vec-sync}
use Rattle.std.proofs.MapsCrossing.{crosses as maps}
use Rattle.std.specs.contracts.alloc.Global as heap
use Rattle.std.specs.contracts.vec.Vec as vector
use Rattle.aa_pattern.specs.contracts.item.ByteSet as byte_set
use Rattle.aa_pattern.specs.contracts.item.Item as item
use Rattle.aa_pattern.specs.contracts.item.Item.TheKnot.{ring, type-Item}
use Rattle.aa_pattern.specs.declared.item.Item.TheBlock.{member-Item, the_members}
use Rattle.aa_pattern.specs.contracts.pattern.Pattern as pattern
use Rattle.aa_model.specs.contracts.policy.PassedOver as passed_over
use Rattle.aa_model.specs.contracts.policy.Policy as policy
use Rattle.aa_model.specs.contracts.policy.Profile as profile
use Rattle.aa_model.specs.contracts.rule.CapRule as cap_rule
use Rattle.aa_model.specs.contracts.rule.ChangeRule as change_rule
use Rattle.aa_model.specs.contracts.rule.Exec as exec
use Rattle.aa_model.specs.contracts.rule.FileRule as file_rule
use Rattle.aa_model.specs.contracts.rule.NetRule as net_rule
use Rattle.aa_auto.specs.contracts.automaton.Automaton as automaton
use Rattle.aa_compile.specs.contracts.attach.AttachRows as attach_rows
use Rattle.aa_compile.specs.contracts.rows.FileRows as file_rows
use Rattle.aa_compile.specs.contracts.rows.Row as row
use Rattle.aa_compile.specs.contracts.compiling.Compiled as compiled
use Rattle.aa_compile.specs.contracts.compiling.Compiled.TheInside as inside
use Rattle.aa_compile.specs.contracts.tables.ProfileRows as profile_rows
use Rattle.aa_mediate.specs.contracts.mediator.Mediator as mediator

-- ---- items, which hold lists of items

abbrev vec : RattleType → RattleType
vec R = vector.the_row R heap.the_row ghosts

byte_set_sync : IsSync byte_set.the_row
byte_set_sync = search (sendable, crosses) depth 20

-- one layer of an item, whatever is shared in its place
layer_sync : (R : RattleType) → IsSync R → IsSync (E.row (E.declared (type-Item R)))
layer_sync R s =
    let choice = as_row_sync (row_field (vec (vec R))) (Vec-sync (vec R) (Vec-sync R s)) in
    variants_sync (type-Item R)
    ((search (as_row_sync, sendable, crosses) depth 20, tt), (tt, (tt, (tt, (tt, (tt, ((search (byte_set_sync, as_row_sync, sendable, crosses) depth 20, tt), ((choice, tt), tt))))))))

member_sync : (h : the_members → RattleType) → ((j : the_members) → IsSync (h j)) → IsSync (layer_row ring member-Item h)
member_sync h s = record { shared = λ x b o. (layer_sync (h member-Item) (s member-Item)).shared x b o }

each_member : (i : the_members) → Syncs ring i
each_member member-Item = record { sync = member_sync }

hole_sync : IsSync item.the_hole
hole_sync = fix_sync ring each_member member-Item

item_sync : IsSync item.the_row
item_sync = record { shared = λ x b o. subst (λ f. Common (f b o)) (item.shr_is x) (hole_sync.shared x b o) }

-- ---- a policy

pattern_sync : IsSync pattern.the_row
pattern_sync = search (item_sync, sendable, crosses) depth 20

exec_sync : IsSync exec.the_row
exec_sync = search (sendable, crosses) depth 20 fits 10000

file_rule_sync : IsSync file_rule.the_row
file_rule_sync = search (exec_sync, pattern_sync, sendable, crosses) depth 20 fits 10000

cap_rule_sync : IsSync cap_rule.the_row
cap_rule_sync = search (sendable, crosses) depth 20 fits 10000

net_rule_sync : IsSync net_rule.the_row
net_rule_sync = search (sendable, crosses) depth 20 fits 10000

change_rule_sync : IsSync change_rule.the_row
change_rule_sync = search (pattern_sync, sendable, crosses) depth 20 fits 10000

profile_sync : IsSync profile.the_row
profile_sync = search (pattern_sync, file_rule_sync, cap_rule_sync, net_rule_sync, change_rule_sync, sendable, crosses) depth 20 fits 10000

passed_over_sync : IsSync passed_over.the_row
passed_over_sync = search (sendable, crosses) depth 20 fits 10000

policy_sync : IsSync (policy.the_field).row
policy_sync = search (profile_sync, passed_over_sync, sendable, crosses) depth 20 fits 10000

-- ---- its tables

automaton_sync : IsSync automaton.the_row
automaton_sync = search (sendable, crosses) depth 20

attach_rows_sync : IsSync attach_rows.the_row
attach_rows_sync = search (automaton_sync, sendable, crosses) depth 20

tops_sync : IsSync (attach_rows.the_field).row
tops_sync = search (attach_rows_sync, sendable, crosses) depth 20

row_sync : IsSync row.the_row
row_sync = search (sendable, crosses) depth 30 fits 10000

file_rows_sync : IsSync file_rows.the_row
file_rows_sync = search (automaton_sync, row_sync, sendable, crosses) depth 30 fits 10000

profile_rows_sync : IsSync profile_rows.the_row
profile_rows_sync = search (attach_rows_sync, file_rows_sync, sendable, crosses) depth 30 fits 10000

pub compiled_sync : IsSync compiled.the_row
compiled_sync =
    let T = R.declared inside.struct inside.the_propositions in
    view_sync (S.row T) _ _ _ _ (declared_sync T (
      as_row_sync policy.the_field policy_sync,
      (
        search (as_row_sync, maps, sendable, crosses) depth 20 fits 10000,
        (as_row_sync attach_rows.the_field tops_sync, (search (as_row_sync, profile_rows_sync, sendable, crosses) depth 20, tt)),
      ),
    ))

pub mediator_sync : (l : NamedLft) → IsSync (mediator.the_row l)
mediator_sync l = search (compiled_sync, sendable, crosses) depth 30 fits 10000
