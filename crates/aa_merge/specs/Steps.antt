-- Steps that give a value or the fault that ends the reading.
-- Source: own.
use Rattle.std.specs.Prelude.{◌≡◌, List, [], ◌∷◌, Option, Some, None, Result, Ok, Err}
use Rattle.json.specs.declared.error.Error.{Error}
use Rattle.json.specs.declared.error.Error.TheVariants.{Invalid, OutOfMemory, TooLong, DuplicateKey}
use Rattle.aa_merge.specs.declared.fault.PartFault.{PartFault}
use Rattle.aa_merge.specs.declared.fault.PartFault.TheVariants.{NoMemory, NotJson, NotAReport, Answered, Unlike, TooMany}

infixl 10 ◌>>=◌
abbrev pub ◌>>=◌ : {A B : Type 0} → Result A PartFault → (A → Result B PartFault) → Result B PartFault
(Ok x) >>= f = f x
(Err e) >>= f = Err e

-- what a look-up found, or the fault
abbrev pub needed : {A : Type 0} → PartFault → Option A → Result A PartFault
needed e None = Err e
needed e (Some x) = Ok x

-- the step at each element, to the first fault
unfoldable pub each : {A B : Type 0} → (A → Result B PartFault) → List A → Result (List B) PartFault
each f [] = Ok []
each f (x ∷ xs) = do
  y ← f x
  ys ← each f xs
  Ok (y ∷ ys)

-- a call was refused for want of memory, or by the fault that the definition gives
abbrev pub Refuses : {Y : Type 0} → PartFault → Result Y PartFault → Type 0
Refuses NoMemory given = Unit {0}
Refuses NotJson given = given ≡ Err NotJson
Refuses (NotAReport m) given = given ≡ Err (NotAReport m)
Refuses Answered given = given ≡ Err Answered
Refuses (Unlike m) given = given ≡ Err (Unlike m)
Refuses TooMany given = given ≡ Err TooMany

-- what a call returned, seen by view, is what the definition gives, unless memory ran out
abbrev pub Gives : {X Y : Type 0} → (X → Y) → Result X PartFault → Result Y PartFault → Type 0
Gives view (Ok x) given = given ≡ Ok (view x)
Gives view (Err e) given = Refuses e given

-- what isn't JSON; nothing but want of memory comes besides
abbrev pub IsFaultOf : Error → PartFault → Type 0
IsFaultOf Invalid fault = fault ≡ NotJson
IsFaultOf OutOfMemory fault = fault ≡ NoMemory
IsFaultOf TooLong fault = fault ≡ NoMemory
IsFaultOf DuplicateKey fault = fault ≡ NoMemory
