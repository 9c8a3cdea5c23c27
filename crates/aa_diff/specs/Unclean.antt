-- Findings at paths that no kernel asks for.
-- Source: own.
use Rattle.std.specs.Prelude.{List, not, map, Bool}
use Rattle.aa_unclean_paths.specs.Requests.{does_request_count}
use Rattle.aa_diff.specs.declared.finding.Finding.{Finding}

-- a finding is told as one at unclean paths alone where its request doesn't count, as none of its requests does then
abbrev pub told_unclean : Bool → Finding → Finding
told_unclean unclean f = record f { unclean = not (does_request_count unclean f.request) }

-- so each
abbrev pub all_told_unclean : Bool → List Finding → List Finding
all_told_unclean unclean fs = map (told_unclean unclean) fs
