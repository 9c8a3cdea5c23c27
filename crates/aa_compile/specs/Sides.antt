-- What marks say together.
use Rattle.std.specs.Prelude.{List, Bool, false, not, ◌&&◌, ◌||◌, if◌then◌else◌, None, is_some}
use Rattle.std.specs.Option.{option_or}
use Rattle.aa_compile.specs.declared.sets.RuleSets.{RuleSets}
use Rattle.aa_compile.specs.declared.mark.Mark.{Mark}
use Rattle.aa_compile.specs.declared.side.Chosen.{Chosen}
use Rattle.aa_compile.specs.declared.side.Side.{Side}
use Rattle.aa_compile.specs.Gathered.{gather}
use Rattle.aa_compile.specs.Said.{said, both, nothing}

-- no rule says how to execute
abbrev pub no_choice : Chosen
no_choice = record { way = None; audited = false }

-- the first way, and whether one of both is reported
abbrev pub earlier : Chosen → Chosen → Chosen
earlier a b = record { way = option_or a.way b.way; audited = a.audited || b.audited }

-- how the rule of a pattern says to execute, where the test holds
abbrev pub choice_if : Bool → Mark → Chosen
choice_if test m = if test && is_some m.way then record { way = m.way; audited = m.audit } else no_choice

-- what the rule of a pattern says
abbrev pub mark_says : Mark → RuleSets
mark_says m = said (record { audit = m.audit; deny = m.deny; bits = m.perms.0 })

-- what no patterns say
abbrev pub none_said : Side
none_said = record { sets = nothing; literal = no_choice; any = no_choice }

-- what patterns say together
abbrev pub joined : Side → Side → Side
joined a b = record { sets = both a.sets b.sets; literal = earlier a.literal b.literal; any = earlier a.any b.any }

-- what one mark says of an object that the task's user owns, or not
abbrev pub one : Bool → Mark → Side
one owned m =
    if owned || not m.owner then record { sets = mark_says m; literal = choice_if (not m.deny && m.literal) m; any = choice_if (not m.deny) m }
    else none_said

-- what these patterns say together of what is owned, or isn't
abbrev pub side_by : Bool → List Mark → Side
side_by owned marks = gather joined none_said (one owned) marks
