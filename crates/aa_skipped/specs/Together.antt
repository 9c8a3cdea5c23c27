-- What is known of several files' profiles, each by itself and together.
-- Source: own.
use Rattle.std.specs.Prelude.{◌≡◌, ℕ, List, [], ◌∷◌, flat_map, Bool, true, false, is_some}
use Rattle.std.specs.List.{list_any, slice_get}
use Rattle.aa_model.specs.declared.policy.Policy.{Policy}
use Rattle.aa_model.specs.declared.policy.Profile.{Profile}
use Rattle.aa_model.specs.declared.label.Label.{Label}
use Rattle.aa_model.specs.declared.label.Label.TheVariants.{Unconfined, Confined}
use Rattle.aa_model.specs.declared.request.Request.{Request}
use Rattle.aa_mediate.specs.Reply.{reply}
use Rattle.aa_skipping.specs.declared.unread.Unread.{Unread}
use Rattle.aa_skipping.specs.Joined.{IsJoinedWith}
use Rattle.aa_skipping.specs.Undecided.{undecided}
use Rattle.aa_skipping.specs.Laws.{moved, moved_answer}

-- all of their profiles
abbrev pub together : List Unread → Unread
together unreads = record { heads = flat_map (λ u. u.heads) unreads; others = list_any (λ (u : Unread). u.others) unreads }

-- one of them alone could change the answer
abbrev pub one_decides : List Profile → Label → Request → List Unread → Bool
one_decides profiles label request unreads = list_any (λ (u : Unread). undecided profiles u label request) unreads

-- the profiles have the label's
abbrev pub has_label : List Profile → Label → Bool
has_label profiles (Unconfined k) = true
has_label profiles (Confined k n) = is_some (slice_get profiles n)

-- a request that none of some files alone could change is answered by the policy of all as by that of the files that are read
abbrev pub EachDecides : Type 0
EachDecides = (unreads : List Unread) (read joined : Policy) (place : ℕ → ℕ) → IsJoinedWith (together unreads) read.profiles joined.profiles place
    → (label : Label) (request : Request) → has_label read.profiles label ≡ true → one_decides read.profiles label request unreads ≡ false
    → reply (joined ∷ []) (moved place label) request ≡ moved_answer place (reply (read ∷ []) label request)
