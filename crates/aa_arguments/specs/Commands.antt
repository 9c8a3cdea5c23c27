-- What a command line asks.
-- Source: own.
use Rattle.std.specs.Prelude.{ℕ, ◌≡◌, ◌<◌, ◌≤◌, ◌⊎◌, ⊤, List, [], ◌∷◌, codes, true, Option, Some, None, pos}
use Rattle.std.specs.Str.Parse.{IsNumeral, digits_value, without_leading_plus}
use Rattle.clap.specs.Words.{App, Row, Rule, Text, new_app, new_rule, with_rule, with_subcommand, subcommand_of, one_of}
use Rattle.clap.specs.Simple.{new_shape}
use Rattle.clap.specs.declared.builder.action.ArgAction.TheVariants.{Set}
use Rattle.clap.specs.declared.builder.value_parser.ValueParser.TheVariants.{Signed}
use Rattle.aa_arguments.specs.declared.command.Command.{Command}
use Rattle.aa_arguments.specs.declared.command.Command.TheVariants.{Check, Run, Replay}

-- so many workers may decide
abbrev pub IsWorkers : ℕ → Type 0
IsWorkers n = (0 < n) × (n ≤ 16)

-- where workers are asked for, so many may decide
abbrev pub IsAskable : Command → Type 0
IsAskable Check = ⊤
IsAskable (Run workers) = IsWorkers workers
IsAskable Replay = ⊤

-- ---- how the words are read

-- `--workers N`: a number of 1 to 16, which is 1 where it isn't given
abbrev pub workers_option : Rule
workers_option = record (new_rule (codes "workers")) { long = Some (codes "workers"); action = Some Set; value_names = 1; defaults = codes "1" ∷ []; parser = Some (Signed (pos 1) (pos 16)) }

-- the subcommand that decides, with its option
abbrev pub run_line : App
run_line = with_rule (new_app (codes "run")) workers_option

-- the program without its subcommands: it has a version, and one of them has to be named
abbrev pub bare_line : App
bare_line = record { top = record (new_shape (codes "aamediate")) { has_version = true; subcommand_required = true }; subs = [] }

-- the program and its three subcommands
abbrev pub program_line : App
program_line = with_subcommand (with_subcommand (with_subcommand bare_line (new_app (codes "check")).top) run_line.top) (new_app (codes "replay")).top

-- ---- what they ask

-- the number that a value is written as, in digits, before which a plus may stand
abbrev pub number_in : Text → ℕ
number_in text = digits_value 10 (without_leading_plus text)

-- so many workers are asked for: by a value that is written as a number of 1 to 16 that many, and by none one
abbrev pub AsksFor : Option Text → ℕ → Type 0
AsksFor None n = n ≡ 1
AsksFor (Some text) n = IsNumeral 10 (without_leading_plus text) → IsWorkers (number_in text) → n ≡ number_in text

-- what the subcommand of that name asks, where these are its values: `check`, `replay`, or to decide by as many workers as the option
-- of `run` says; `help` asks nothing of a job
abbrev pub IsAsked : Text × List Row → Command → Type 0
IsAsked named Check = named.0 ≡ codes "check"
IsAsked named (Run workers) = ((named.0 ≡ codes "run") × AsksFor (one_of (codes "workers") named.1) workers) ⊎ (named.0 ≡ codes "help")
IsAsked named Replay = named.0 ≡ codes "replay"

-- what the words of a command line ask, of which the first is the program's name
abbrev pub IsAskedBy : List Text → Command → Type 0
IsAskedBy words command = (named : Text × List Row) × (subcommand_of program_line words ≡ Some named) × IsAsked named command
