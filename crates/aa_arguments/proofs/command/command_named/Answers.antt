use Rattle.std.proofs.Common.{◌∙◌, refl, ap, codes, map, string_bytes, Some}
use Rattle.std.proofs.lemmas.Bool.{iff_false}
use Rattle.clap.specs.Words.{App, Text, app_of}
use Rattle.clap.proofs.CallerLemmas.{subcommand_required}
use Rattle.aa_arguments.proofs.Asking.{met, name_of, asked_run}
use Rattle.aa_arguments.proofs.command.command_named.Goals as goal

pub returns-then-is_named-clause-asked : goal.returns-then-is_named-clause-asked
returns-then-is_named-clause-asked c =
    let m = c.in_ok-matches.ensures in
    let got = met (app_of c.in_ok-command_line.field-0) (map string_bytes c.args.words.now) c.in_ok-matches.matches
    (codes "check") c.in_ok-command_line.ensures.app (λ simple. (m.matches simple).1) (c.is_named.ensures.0 c.if-is_named.true) in
    ((codes "check", got.0), got.2, refl)

pub returns-then-is_named-2-clause-asked : goal.returns-then-is_named-2-clause-asked
returns-then-is_named-2-clause-asked c =
    let m = c.in_ok-matches.ensures in
    let got = met (app_of c.in_ok-command_line.field-0) (map string_bytes c.args.words.now) c.in_ok-matches.matches
    (codes "replay") c.in_ok-command_line.ensures.app (λ simple. (m.matches simple).1) (c.is_named-2.ensures.0 c.if-is_named-2.true) in
    ((codes "replay", got.0), got.2, refl)

pub returns-clause-asked : goal.returns-clause-asked
returns-clause-asked c =
    let line = c.in_ok-command_line.ensures in
    let m = c.in_ok-matches.ensures in
    let words = map string_bytes c.args.words.now in
    let name = name_of c.in_ok-matches.matches (subcommand_required c.in_ok-command_line.field-0 c.in_ok-matches.matches m.parsed line.local (ap (λ (a : App). a.top.subcommand_required) line.app)) in
    let got = met (app_of c.in_ok-command_line.field-0) words c.in_ok-matches.matches name.0 line.app (λ simple. (m.matches simple).1) name.1 in
    let sub = c.subcommand_matches.ensures in
    asked_run words c.in_ok-matches.matches name.0 got.0 c.subcommand_matches.result c.workers_of.result got.1 got.2 name.1
    (λ e. iff_false c.is_named.ensures c.if-is_named.false (name.1 ∙ ap (λ (n : Text). Some n) e))
    (λ e. iff_false c.is_named-2.ensures c.if-is_named-2.false (name.1 ∙ ap (λ (n : Text). Some n) e))
    sub.found.1 sub.rows c.workers_of.ensures.asked
