-- Steps that give a value or the fault that ends the reading.
-- Source: own.
use Rattle.std.specs.Prelude.{ℕ, ◌≡◌, List, [], ◌∷◌, Bool, ⊤, Option, Some, None, Result, Ok, Err, if◌then◌else◌}
use Rattle.aa_jobs.specs.declared.job_fault.JobFault.{JobFault}
use Rattle.aa_jobs.specs.declared.job_fault.JobFault.TheVariants.{NoMemory, NotJson, BadShape, BadRequest, TooLarge}

infixl 10 ◌>>=◌
abbrev pub ◌>>=◌ : {A B : Type 0} → Result A JobFault → (A → Result B JobFault) → Result B JobFault
(Ok x) >>= f = f x
(Err e) >>= f = Err e

-- what a look-up found, or the fault
abbrev pub needed : {A : Type 0} → JobFault → Option A → Result A JobFault
needed e None = Err e
needed e (Some x) = Ok x

-- goes on where the test holds
abbrev pub only_if : Bool → JobFault → Result ⊤ JobFault
only_if holds e = if holds then Ok tt else Err e

-- the step at each element, to the first fault
unfoldable pub each : {A B : Type 0} → (A → Result B JobFault) → List A → Result (List B) JobFault
each f [] = Ok []
each f (x ∷ xs) = do
  y ← f x
  ys ← each f xs
  Ok (y ∷ ys)

-- the number of a fault
abbrev pub fault_number : JobFault → ℕ
fault_number NoMemory = 1
fault_number NotJson = 2
fault_number BadShape = 3
fault_number BadRequest = 4
fault_number TooLarge = 5

-- a call was refused for want of memory, or by the fault that the definition gives
abbrev pub Refuses : {Y : Type 0} → JobFault → Result Y JobFault → Type 0
Refuses NoMemory given = Unit {0}
Refuses NotJson given = given ≡ Err NotJson
Refuses BadShape given = given ≡ Err BadShape
Refuses BadRequest given = given ≡ Err BadRequest
Refuses TooLarge given = given ≡ Err TooLarge

-- what a call returned, seen by view, is what the definition gives, unless memory ran out
abbrev pub Gives : {X Y : Type 0} → (X → Y) → Result X JobFault → Result Y JobFault → Type 0
Gives view (Ok x) given = given ≡ Ok (view x)
Gives view (Err e) given = Refuses e given
