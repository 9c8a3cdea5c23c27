use Rattle.std.specs.Borrow.{Bor}
use Rattle.std.proofs.Common.{◌≡◌, take, false}
use Rattle.std.specs.List.{list_any}
use Rattle.aa_skipping.specs.declared.unread.Unread.{Unread}
use Rattle.aa_skipping.specs.Undecided.{undecided}
use Rattle.aa_reachability.proofs.beside.one_doubts.Given as goal

abbrev pub invariant-loop-unread : goal.invariant-loop-unread
invariant-loop-unread l =
    list_any (λ (u : Bor Unread). undecided l.compiled.profiles u.now l.label l.request) (take l.unread-index l.unreads) ≡ false
