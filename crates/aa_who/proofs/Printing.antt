-- What is printed of answers, and of words that have none.
use Rattle.std.proofs.Common.{◌≡◌, ℕ, List, [], ◌∷◌, map, refl, ap, subst, Bool, Vec, Result, Err}
use Rattle.std.specs.Prelude.{◌||◌, IfErr}
use Rattle.std.specs.List.{list_any}
use Rattle.std.specs.declared.alloc.Global.{Global}
use Rattle.aa_files.specs.Texts.{texts}
use Rattle.aa_load.specs.UnitPolicy.{limit_of}
use Rattle.aa_command.specs.declared.decided.Decided.{Decided}
use Rattle.aa_command.specs.Printed.{Printed, faults_alone}
use Rattle.aa_skipped.specs.declared.skipped.Skipped.{Skipped}
use Rattle.aa_who.specs.declared.fault.WhoFault.{WhoFault}
use Rattle.aa_who.specs.declared.fault.WhoFault.TheVariants.{Refused}
use Rattle.aa_who.specs.declared.answering.WordAnswer.{WordAnswer}
use Rattle.aa_who.specs.declared.command.WhoOptions.{WhoOptions}
use Rattle.aa_who.specs.Answers.{answered, SaysFirst}
use Rattle.aa_who.specs.Shown.{is_nobodys}
use Rattle.aa_who.specs.Command.{IsWhoOf, Unanswered}

pub any_nobodys : (answers : List WordAnswer) → list_any (λ (a : WordAnswer). is_nobodys (answered a)) answers ≡ list_any is_nobodys (map answered answers)
any_nobodys [] = refl
any_nobodys (a ∷ answers) = ap (λ (b : Bool). is_nobodys (answered a) || b) (any_nobodys answers)

pub unanswered_by : (states : ℕ) (o : WhoOptions) (skipped : List Skipped) (d : Decided) (r : Result (Vec WordAnswer Global) WhoFault) (line : Vec ℕ Global) (out : Printed)
    → r ≡ Err (Refused line) → IfErr r (SaysFirst d (limit_of states) o.unclean (texts o.words.now))
    → out ≡ faults_alone line.items 1 → IsWhoOf states o skipped d out
unanswered_by states o skipped d r line out e why is =
    Unanswered line.items
    (subst (λ (x : Result (Vec WordAnswer Global) WhoFault). IfErr x (SaysFirst d (limit_of states) o.unclean (texts o.words.now))) e why) is
