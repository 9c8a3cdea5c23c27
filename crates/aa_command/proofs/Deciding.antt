-- What is printed for files, step by step.
use Rattle.std.proofs.Common.{◌≡◌, ℕ, List, map, Vec, Result, IfOk, subst}
use Rattle.std.proofs.lemmas.Result.{IfOk-weaker}
use Rattle.std.specs.declared.alloc.Global.{Global}
use Rattle.aa_files.specs.Texts.{texts}
use Rattle.aa_model.specs.declared.policy.Policy.{Policy}
use Rattle.aa_explain.specs.declared.places.ProfilePlaces.{ProfilePlaces}
use Rattle.aa_explain.specs.Places.{places_data}
use Rattle.aa_text.specs.declared.memory.NoMemory.{NoMemory}
use Rattle.aa_files.specs.declared.unit.Unit as unit
use Rattle.aa_command.specs.declared.decided.Decided.{Decided}
use Rattle.aa_command.specs.Setting.{Setting, AreRoots}
use Rattle.aa_command.specs.declared.output.Output.{Output}
use Rattle.aa_load.specs.declared.texts.Texts.{Texts}
use Rattle.aa_load.specs.Joining.{IsOnePolicy}
use Rattle.aa_command.specs.Printed.{Printed, printed}
use Rattle.aa_command.specs.Loads.{AreLoaded}
use Rattle.aa_command.specs.Policies.{IsDecidedBy, IsPrintedBy, Decides, IsPrintedAt, Read, behind_warnings, IsPrintedFor, Rooted}

-- the same policy, as its parts are lent
pub one_lent : (ts : List Texts) (limit : ℕ) (owners lent : List ℕ) (places lent' : List ProfilePlaces) (policies lent'' : List Policy)
    → lent ≡ owners → lent' ≡ places → lent'' ≡ policies → IsOnePolicy ts limit owners (map places_data places) policies → IsOnePolicy ts limit lent (map places_data lent') lent''
one_lent ts limit owners lent places lent' policies lent'' p q r one = rw (p, q, r) one

pub printed_by : (folders : List (List ℕ)) (states : ℕ) (us : List unit.Unit) (gives : Decided → Printed → Type 0) (d : Decided) (r : Result Output NoMemory) → IsDecidedBy states us d
    → IfOk r (λ (o : Output). gives d (printed o)) → IfOk r (λ (o : Output). IsPrintedBy folders states us gives (printed o))
printed_by folders states us gives d r is given = IfOk-weaker r (λ (o : Output). gives d (printed o)) (λ (o : Output). IsPrintedBy folders states us gives (printed o)) (λ o g. Decides d is g) given

pub printed_at : (s : Setting) (paths : List (List ℕ)) (us lent : List unit.Unit) (gives : Decided → Printed → Type 0) (r : Result Output NoMemory) → AreLoaded s paths us → lent ≡ us
    → IfOk r (λ (o : Output). IsPrintedBy s.folders s.states lent gives (printed o)) → IfOk r (λ (o : Output). IsPrintedAt s paths gives (printed o))
printed_at s paths us lent gives r are is given =
    IfOk-weaker r (λ (o : Output). IsPrintedBy s.folders s.states lent gives (printed o)) (λ (o : Output). IsPrintedAt s paths gives (printed o)) (λ o g.
    Read us are (subst (λ (l : List unit.Unit). IsPrintedBy s.folders s.states l gives (printed o)) is g)) given

pub printed_for : (s : Setting) (arguments : List (List ℕ)) (paths lent : List (Vec ℕ Global)) (warnings : List (List ℕ))
    (gives : Decided → Printed → Type 0) (own out : Printed) → AreRoots s arguments (texts paths) warnings → lent ≡ paths
    → IsPrintedAt s (texts lent) gives own → out ≡ behind_warnings warnings own → IsPrintedFor s arguments gives out
printed_for s arguments paths lent warnings gives own out are is given behind =
    Rooted (texts paths) warnings own are (subst (λ (l : List (Vec ℕ Global)). IsPrintedAt s (texts l) gives own) is given) behind
