-- Which subcommand words name.
use Rattle.std.proofs.Common.{◌≡◌, ◌⊎◌, ◌∙◌, inl, inr, ℕ, List, [], ◌∷◌, codes, Bool, true, false, cond, map, Option, Some, None, is_some, refl, sym, ap, subst}
use Rattle.std.specs.Prelude.{option_map, find, Box, IsSome, IfSome}
use Rattle.std.specs.Borrow.{Bor}
use Rattle.std.specs.Box.{box_value}
use Rattle.clap.specs.Words.{App, Row, Shape, Text, found_of, has_subcommand, is_simple, one_of, one_text, rows_of, subcommand_of, subcommand_rows, subcommand_rows_of, subcommand_name_of}
use Rattle.clap.specs.Simple.{argument_words, built, entered, label_of, names_of, rows_at}
use Rattle.clap.specs.Walk.{answers_to, stop_after}
use Rattle.clap.specs.declared.parser.matches.SubCommand.{SubCommand}
use Rattle.clap.specs.declared.parser.matches.ArgMatches.{ArgMatches}
use Rattle.clap.specs.declared.parser.matches.ArgMatches.TheViews.{out-ArgMatches, out-SubCommand}
use Rattle.clap.proofs.WalkLemmas.{one_text-rows}
use Rattle.aa_arguments.specs.declared.command.Command.TheVariants.{Run}
use Rattle.aa_arguments.specs.Commands.{program_line, AsksFor, IsAskedBy}

-- ---- the subcommand that a parse met

met_rows : {Z : Type 0} (o : Option (Box SubCommand Z)) (name : Text) → option_map (λ b. (out-SubCommand (box_value b)).name.now) o ≡ Some name
    → (rows : List Row) × (subcommand_rows o ≡ Some (name, rows))
met_rows None name e = cc
met_rows (Some b) name e =
    let rows = rows_of (found_of (out-SubCommand (box_value b)).matches) in
    let same : (out-SubCommand (box_value b)).name.now ≡ name = cc in
    (rows, ap (λ (n : Text). Some (n, rows)) same)

-- it is the one that the words name
pub met : (app : App) (words : List Text) (m : ArgMatches) (name : Text) → app ≡ program_line
    → (is_simple app ≡ true → subcommand_rows_of m ≡ subcommand_of app words) → subcommand_name_of m ≡ Some name
    → (rows : List Row) × (subcommand_rows_of m ≡ Some (name, rows)) × (subcommand_of program_line words ≡ Some (name, rows))
met app words m name is same here =
    let got = met_rows (out-ArgMatches m).subcommand name here in
    (got.0, got.1, sym (ap (λ (a : App). subcommand_of a words) is) ∙ (sym (same (ap is_simple is)) ∙ got.1))

-- one that is met has a name
pub name_of : (m : ArgMatches) → has_subcommand m ≡ true → (name : Text) × (subcommand_name_of m ≡ Some name)
name_of m has = by (out-ArgMatches m).subcommand has
  where
    by : {Z : Type 0} (o : Option (Box SubCommand Z)) → is_some o ≡ true → (name : Text) × (option_map (λ b. (out-SubCommand (box_value b)).name.now) o ≡ Some name)
    by None h = cc
    by (Some b) h = ((out-SubCommand (box_value b)).name.now, refl)

-- ---- the names of subcommands

abbrev Among : List Text → Text → Type 0
Among [] name = ⊥
Among (n ∷ ns) name = (name ≡ n) ⊎ Among ns name

found_among : (test : Shape → Bool) (words : List Text) (subs : List Shape) (named : Text × List Row) → option_map (λ s. rows_at s words) (find test subs) ≡ Some named
    → Among (map (λ (s : Shape). s.name) subs) named.0
found_among test words [] named e = cc
found_among test words (s ∷ subs) named e = by (test s) (found_among test words subs named) e
  where
    by : (b : Bool) → (option_map (λ s. rows_at s words) (find test subs) ≡ Some named → Among (map (λ (s : Shape). s.name) subs) named.0)
        → option_map (λ s. rows_at s words) (cond b (Some s) (find test subs)) ≡ Some named → Among (map (λ (s : Shape). s.name) (s ∷ subs)) named.0
    by true rest e =
        let same : rows_at s words ≡ named = cc in
        inl (sym (ap (λ (p : Text × List Row). p.0) same))
    by false rest e = inr (rest e)

among : (words : List Text) (named : Text × List Row) → subcommand_of program_line words ≡ Some named
    → Among (codes "check" ∷ codes "run" ∷ codes "replay" ∷ codes "help" ∷ []) named.0
among words named e = by (stop_after (built program_line).top.rules (names_of (built program_line)) (argument_words program_line words)) e
  where
    by : (stop : Option (Text × List Text)) → entered (built program_line) stop ≡ Some named → Among (codes "check" ∷ codes "run" ∷ codes "replay" ∷ codes "help" ∷ []) named.0
    by None e = cc
    by (Some p) e = found_among (λ (s : Shape). answers_to p.0 (label_of s)) p.1 (built program_line).subs named e

-- ---- the workers

workers_for : (rows : List Row) (sub : Option (Bor ArgMatches)) (workers : ℕ) → IsSome sub → IfSome sub (λ r. Some rows ≡ Some (rows_of (found_of r.now)))
    → IfSome (option_map (λ m. m.now) sub) (λ m. AsksFor (one_text (found_of m) (codes "workers")) workers) → AsksFor (one_of (codes "workers") rows) workers
workers_for rows None workers some same asks = cc
workers_for rows (Some r) workers some same asks =
    let e : rows_of (found_of r.now) ≡ rows = cc in
    subst (λ (l : List Row). AsksFor (one_of (codes "workers") l) workers) e (subst (λ (o : Option Text). AsksFor o workers) (one_text-rows (found_of r.now) (codes "workers")) asks)

-- a subcommand that is neither of the others asks for workers
pub asked_run : (words : List Text) (m : ArgMatches) (name : Text) (rows : List Row) (sub : Option (Bor ArgMatches)) (workers : ℕ) → subcommand_rows_of m ≡ Some (name, rows)
    → subcommand_of program_line words ≡ Some (name, rows) → subcommand_name_of m ≡ Some name → (name ≡ codes "check" → ⊥) → (name ≡ codes "replay" → ⊥)
    → (subcommand_name_of m ≡ Some (codes "run") → IsSome sub) → IfSome sub (λ r. option_map (λ p. p.1) (subcommand_rows_of m) ≡ Some (rows_of (found_of r.now)))
    → IfSome (option_map (λ m. m.now) sub) (λ m. AsksFor (one_text (found_of m) (codes "workers")) workers) → IsAskedBy words (Run workers)
asked_run words m name rows sub workers met is here no_check no_replay found same asks =
    elim (among words (name, rows) is) [
      | inl check ↦ absurd (no_check check)
      | inr more ↦ elim more [
        | inl run ↦ ((name, rows), is, inl (run, workers_for rows sub workers (found (here ∙ ap (λ (n : Text). Some n) run)) (moved sub same) asks))
        | inr others ↦ elim others [
          | inl replay ↦ absurd (no_replay replay)
          | inr last ↦ elim last [
            | inl help ↦ ((name, rows), is, inr help)
            | inr none ↦ absurd none
          ]
        ]
      ]
    ]
  where
    moved : (sub : Option (Bor ArgMatches)) → IfSome sub (λ r. option_map (λ p. p.1) (subcommand_rows_of m) ≡ Some (rows_of (found_of r.now)))
        → IfSome sub (λ r. Some rows ≡ Some (rows_of (found_of r.now)))
    moved None h = tt
    moved (Some r) h = sym (ap (option_map (λ (p : Text × List Row). p.1)) met) ∙ h
