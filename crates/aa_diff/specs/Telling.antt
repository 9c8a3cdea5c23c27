-- What lines tell of the entries of a list of differences.
-- Source: own.
use Rattle.std.specs.Prelude.{ℕ, ◌≡◌, ◌≤◌, ◌↔◌, List, [], Contains, Bool, true}
use Rattle.std.specs.Int.{bit_at}
use Rattle.aa_files.specs.Texts.{texts}
use Rattle.aa_model.specs.declared.policy.Policy.{Policy}
use Rattle.aa_model.specs.declared.label.Label.{Label}
use Rattle.aa_model.specs.declared.request.Request.{Request}
use Rattle.aa_compile.specs.Said.{perms_of}
use Rattle.aa_mediate.specs.Reply.{reply}
use Rattle.aa_representatives.specs.Askable.{IsAskable}
use Rattle.aa_unclean_paths.specs.Requests.{is_at_unclean_path}
use Rattle.aa_command.specs.declared.decided.Decided.{Decided}
use Rattle.aa_differences.specs.declared.at_labels.Difference.{Difference}
use Rattle.aa_differences.specs.declared.comparison.UntoldLabels.{UntoldLabels}
use Rattle.aa_differences.specs.Same.{SameLabel}
use Rattle.aa_differences.specs.Differences.{IsDifference, AreTold, ListAllBut, ListAll}
use Rattle.aa_diff.specs.declared.options.Wanted.{Wanted}
use Rattle.aa_diff.specs.declared.signs.Sign.TheVariants.{Gain}
use Rattle.aa_diff.specs.declared.finding.Who.{Who}
use Rattle.aa_diff.specs.declared.finding.Who.TheVariants.{Anybody}
use Rattle.aa_diff.specs.declared.finding.Finding.{Finding}
use Rattle.aa_diff.specs.Signs.{gains, sign_of}
use Rattle.aa_diff.specs.Findings.{kind_number, finding_of}
use Rattle.aa_diff.specs.Gathered.{covers}
use Rattle.aa_diff.specs.Unclean.{all_told_unclean}
use Rattle.aa_diff.specs.Accepted.{findings_left}
use Rattle.aa_diff.specs.Report.{shown_of, lines_of}

-- each permission that is asked for is one of these
abbrev pub AreAmong : ℕ → ℕ → Type 0
AreAmong asked held = (k : ℕ) → bit_at asked k ≤ bit_at held k

-- a line holds of everybody's objects, or of the same
pub data HoldsOf (held who : Who) : Type 0 where
  OfAll : held ≡ Anybody → HoldsOf held who
  OfSame : held ≡ who → HoldsOf held who

-- a line's request is at an unclean path only where a finding's is
abbrev pub IsAsClean : Request → Request → Type 0
IsAsClean asked r = is_at_unclean_path asked ≡ true → is_at_unclean_path r ≡ true

-- a line tells of a finding: at its label, with its sign, of its kind, with its change and its rules, its permissions and its objects, at a clean
-- path where the finding is at one
pub record TellsOf (f g : Finding) : Type 0 where
  pub label : f.from ≡ g.from
  pub sign : f.sign ≡ g.sign
  pub kind : kind_number f.request ≡ kind_number g.request
  pub change : f.change ≡ g.change
  pub rules : f.rules ≡ g.rules
  pub letters : AreAmong g.letters.0 f.letters.0
  pub who : HoldsOf f.who g.who
  pub clean : IsAsClean f.request g.request

-- one of the lines tells of an entry
abbrev pub IsToldBy : Decided → Decided → List Finding → Difference → Type 0
IsToldBy d e fs x = (f : Finding) × Contains fs f × TellsOf f (finding_of d e x)

-- one of the lines tells of an entry, or of one by a single permission that tells of it
pub data IsTold (d e : Decided) (xs : List Difference) (fs : List Finding) (x : Difference) : Type 0 where
  Itself : IsToldBy d e fs x → IsTold d e xs fs x
  ByPart : (y : Difference) → Contains xs y → covers d.policies.now e.policies.now y x ≡ true → IsToldBy d e fs y → IsTold d e xs fs x

-- a finding but for the permissions, the objects and the count that lines gather
abbrev pub bare : Finding → Finding
bare f = record f { letters = perms_of 0; who = Anybody; more = 0 }

-- a line is that of an entry
abbrev pub IsOfEntry : Decided → Decided → List Difference → Finding → Type 0
IsOfEntry d e xs f = (x : Difference) × Contains xs x × (bare f ≡ bare (finding_of d e x))

-- the lines tell of all entries and of nothing else
pub record AreLinesOf (d e : Decided) (xs : List Difference) (fs : List Finding) : Type 0 where
  pub told : (x : Difference) → Contains xs x → IsTold d e xs fs x
  pub entries : (f : Finding) → Contains fs f → IsOfEntry d e xs f

-- one of the entries is a gain
abbrev pub OneGains : List Policy → List Policy → List Difference → Type 0
OneGains ps qs xs = (x : Difference) × Contains xs x × (sign_of ps qs x ≡ Gain)

-- one of the lines is
abbrev pub OneIsGain : List Finding → Type 0
OneIsGain fs = (f : Finding) × Contains fs f × (f.sign ≡ Gain)

-- the lines of a list tell of all of it and of nothing else; of all profiles, gains are shown exactly where an entry is one
pub record LinesTellEntries : Type 0 where
  pub lines : (d e : Decided) (xs : List Difference) → AreLinesOf d e xs (lines_of d e xs)
  pub gains : (d e : Decided) (xs : List Difference) (w : Wanted) → texts w.profiles.now ≡ []
      → OneIsGain (shown_of d.policies.now w (lines_of d e xs)) ↔ OneGains d.policies.now e.policies.now xs

-- a request that can be asked gains at labels that are called the same: the new policies grant there what the old ones don't
pub record IsGained (ps qs : List Policy) (l m : Label) (r : Request) : Type 0 where
  pub labels : SameLabel ps qs l m
  pub asked : IsAskable r
  pub gained : gains ps qs (reply ps l r) (reply qs m r) ≡ true

-- one request gains at a label of the old policies
abbrev pub OneRequestGainsAt : List Policy → List Policy → Label → Type 0
OneRequestGainsAt ps qs l = (m : Label) × (r : Request) × IsGained ps qs l m r

-- one request gains
abbrev pub OneRequestGains : List Policy → List Policy → Type 0
OneRequestGains ps qs = (l : Label) × OneRequestGainsAt ps qs l

-- one of the lines about a label is a gain
abbrev pub OneIsGainAt : Label → List Finding → Type 0
OneIsGainAt l fs = (f : Finding) × Contains fs f × (f.from ≡ l) × (f.sign ≡ Gain)

-- the lines that are printed of differences, where no file is skipped and no finding is accepted
abbrev pub lines_printed : Decided → Decided → Bool → Wanted → List Difference → List Finding
lines_printed d e unclean w xs = findings_left d.policies.now w [] (all_told_unclean unclean (lines_of d e xs))

-- a gain is printed at a label only where one request gains there
abbrev pub GainsAreGained : Type 0
GainsAreGained = (d e : Decided) (xs : List Difference) (unclean : Bool) (w : Wanted)
    → ((x : Difference) → Contains xs x → IsDifference d.policies.now e.policies.now x)
    → (l : Label) → OneIsGainAt l (lines_printed d e unclean w xs) → OneRequestGainsAt d.policies.now e.policies.now l

-- of all profiles, one is printed wherever a request gains, but at labels at which differences can't be told
abbrev pub GainsArePrinted : Type 0
GainsArePrinted = (d e : Decided) (xs : List Difference) (us : List UntoldLabels) (unclean : Bool) (w : Wanted)
    → ListAllBut d.policies.now e.policies.now us xs → texts w.profiles.now ≡ []
    → (l m : Label) (r : Request) → AreTold us l m → IsGained d.policies.now e.policies.now l m r → OneIsGainAt l (lines_printed d e unclean w xs)

-- so where all differences are listed, of all profiles a gain is printed exactly where one request gains
abbrev pub GainsAreTold : Type 0
GainsAreTold = (d e : Decided) (xs : List Difference) (unclean : Bool) (w : Wanted)
    → ((x : Difference) → Contains xs x → IsDifference d.policies.now e.policies.now x) → ListAll d.policies.now e.policies.now xs → texts w.profiles.now ≡ []
    → OneIsGain (lines_printed d e unclean w xs) ↔ OneRequestGains d.policies.now e.policies.now
