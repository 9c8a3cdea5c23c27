-- What is read from tokens: the shape of the value that begins them, and the tokens that are left.
-- Source: own.
use Rattle.std.specs.Prelude.{ℕ, ◌≡◌, List, [], ◌∷◌, ◌++◌, false, Option, Some, None, Result, Ok, Err}
use Rattle.std.specs.Str.{bytes_eq}
use Rattle.json.specs.Token.{Token}
use Rattle.serde_json.specs.Data.{Data, Members}
use Rattle.serde_json.specs.Find.{get_member}
use Rattle.serde_json.specs.Read.{read}
use Rattle.aa_jobs.specs.declared.job_fault.JobFault.{JobFault}
use Rattle.aa_jobs.specs.declared.job_fault.JobFault.TheVariants.{NotJson, BadShape}
use Rattle.aa_jobs.specs.declared.shape.Part.{Part}
use Rattle.aa_jobs.specs.Shape.{has_only, job_shape}
use Rattle.aa_jobs.specs.Steps.{◌>>=◌, needed, Gives, Refuses}
use Rattle.aa_jobs.specs.Written.{WrittenJob}

-- what stands in the job that a text is
abbrev pub written_as : List ℕ → Result WrittenJob JobFault
written_as text = needed NotJson (read text) >>= job_shape

-- what stands behind a key that has to be there
abbrev pub shape_at : {A : Type 0} → (Data → Result A JobFault) → List ℕ → Members → Result A JobFault
shape_at f key ms = needed BadShape (get_member key ms) >>= f

-- a list, and one more behind it
abbrev pub followed : {A : Type 0} → Result (List A) JobFault → Result A JobFault → Result (List A) JobFault
followed front last = front >>= λ xs. last >>= λ x. Ok (xs ++ x ∷ [])

-- a value was read whose shape is given, and these tokens are left
abbrev pub Shaped : {X Y : Type 0} → (X → Y) → Result X JobFault → List Token → Option (Result Y JobFault × List Token) → Type 0
Shaped view inner rest None = ⊥
Shaped view inner rest (Some p) = (p.1 ≡ rest) × Gives view inner p.0

-- the same, or no value begins there
abbrev pub Reads : {X Y : Type 0} → (X → Y) → Result (Result X JobFault) JobFault → List Token → Option (Result Y JobFault × List Token) → Type 0
Reads view (Ok inner) rest given = Shaped view inner rest given
Reads view (Err e) rest given = Refuses e (needed NotJson given)

-- the same members, but for the value of that key
abbrev pub AgreeBut : List ℕ → Members → Members → Type 0
AgreeBut key one other = ((k : List ℕ) → bytes_eq k key ≡ false → get_member k one ≡ get_member k other) × ((part : Part) → has_only part one ≡ has_only part other)

-- an object was read: its members but for those of the key, and the shape of what stands behind the key
abbrev pub Apart : {X Y V : Type 0} → (V → Members) → List ℕ → (X → Y) → (Data → Result Y JobFault) → V × Result X JobFault → List Token → Option (Members × List Token) → Type 0
Apart rest_of key view f p rest None = ⊥
Apart rest_of key view f p rest (Some found) = (found.1 ≡ rest) × AgreeBut key (rest_of p.0) found.0 × Gives view p.1 (shape_at f key found.0)

-- the same, or no object ends there
abbrev pub ReadsApart : {X Y V : Type 0} → (V → Members) → List ℕ → (X → Y) → (Data → Result Y JobFault) → Result (V × Result X JobFault) JobFault → List Token → Option (Members × List Token) → Type 0
ReadsApart rest_of key view f (Ok p) rest given = Apart rest_of key view f p rest given
ReadsApart rest_of key view f (Err e) rest given = Refuses e (needed NotJson given)
