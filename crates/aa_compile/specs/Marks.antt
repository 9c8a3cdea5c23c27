-- What a rule says, beside each of its patterns.
use Rattle.std.specs.Prelude.{List, [], ◌∷◌, ◌++◌, map, Option}
use Rattle.aa_pattern.specs.declared.pattern.Pattern.{Pattern}
use Rattle.aa_compile.specs.Patterns.{is_literal}
use Rattle.aa_model.specs.declared.rule.FileRule.{FileRule}
use Rattle.aa_compile.specs.declared.mark.Way.{Way}
use Rattle.aa_compile.specs.declared.mark.Mark.{Mark}

-- what is kept of a rule beside one of its patterns
abbrev pub mark_by : FileRule → Option Way → Pattern → Mark
mark_by r way p = record { audit = r.audit; deny = r.deny; owner = r.owner; perms = r.perms; way = way; literal = is_literal p }

-- a mark for each pattern of each rule
abbrev pub marks_by : List FileRule → List (Option Way) → List Mark
marks_by (r ∷ rs) (w ∷ ws) = map (mark_by r w) r.patterns ++ marks_by rs ws
marks_by _ _ = []
