-- A side is refused, or its policy gives what is printed.
use Rattle.std.proofs.Common.{Result, Ok, Err, IfOk, ◌≡◌, ℕ, ◌<◌, ◌≤◌, ◌⊎◌, inl, inr, List, [], Bool, true, false, refl, ap, sym, ◌∙◌, subst, arith, ⊎_elim}
use Rattle.aa_files.specs.declared.unit.Unit as unit
use Rattle.aa_files.specs.declared.unit.UnitFault.{UnitFault}
use Rattle.aa_files.specs.declared.unit.UnitFault.TheVariants.{NoMemory, At, Ambiguous}
use Rattle.aa_load.specs.declared.fault.LoadingFault.{LoadingFault}
use Rattle.aa_load.specs.declared.fault.LoadingFault.TheVariants as fault
use Rattle.aa_command.specs.declared.decided.Decided.{Decided}
use Rattle.aa_command.specs.Setting.{Setting}
use Rattle.aa_text.specs.declared.memory.NoMemory.{NoMemory as NoMemoryLeft}
use Rattle.aa_command.specs.declared.output.Output.{Output}
use Rattle.aa_command.specs.Printed.{Printed, printed}
use Rattle.aa_command.specs.Refusals.{SaysUnitFault, SaysLoadingFault}
use Rattle.aa_command.specs.Policies.{Refused, Decides, Unread, Read, IsPrintedBy, IsPrintedFor, NoRoots, Rooted, behind_warnings}
use Rattle.aa_skipped.specs.declared.skipped.Skipped.{Skipped}
use Rattle.aa_skipped.specs.Telling.{behind_skipped}
use Rattle.aa_skipped.specs.Policies.{IsPrintedOf, NoRoots as NoRootsOf, Rooted as RootedOf}
use Rattle.aa_diff.specs.Sides.{IsRefused, behind, marked, IsMarked, IsGiven, IsOfSide, Refused as SideRefused, Compared}
use Rattle.aa_diff.specs.Sides.{IsRefusedBeside, IsGivenBeside, IsOfPart, PartRefused, PartCompared, IsSide}

-- what is printed of the files of arguments: that they are refused, or what their policy gives
pub split : (s : Setting) (arguments : List (List ℕ)) (gives : Decided → Printed → Type 0) (out : Printed) → IsPrintedFor s arguments gives out
    → IsRefused s arguments out ⊎ ((d : Decided) × IsGiven s arguments gives d out)
split s arguments gives out (NoRoots e root says) = inl (NoRoots e root says)
split s arguments gives out (Rooted paths warnings own roots (Unread e first says) is) = inl (Rooted paths warnings own roots (Unread e first says) is)
split s arguments gives out (Rooted paths warnings own roots (Read units loaded (Refused f none says)) is) =
    inl (Rooted paths warnings own roots (Read units loaded (Refused f none says)) is)
split s arguments gives out (Rooted paths warnings own roots (Read units loaded (Decides d decided given)) is) =
    inr (
      d,
      record {
        read = record { paths = paths; warnings = warnings; roots = roots; units = units; loaded = loaded; decided = decided };
        own = own;
        gives_it = given;
        is = is;
      },
    )

status_low : (out said : Printed) → out ≡ said → said.status < 128 → out.status < 128
status_low out said e low = subst (λ (n : ℕ). n < 128) (sym (ap (λ (p : Printed). p.status) e)) low

unit_low : (e : UnitFault) (out : Printed) → SaysUnitFault e out → out.status < 128
unit_low NoMemory out says = absurd says
unit_low (At path why) out says = status_low out _ says.says (omega arith)
unit_low (Ambiguous report) out says = status_low out _ says (omega arith)

loading_low : (folders : List (List ℕ)) (states : ℕ) (us : List unit.Unit) (f : LoadingFault) (out : Printed) → SaysLoadingFault folders states us f out → out.status < 128
loading_low folders states us fault.NoMemory out says = absurd says
loading_low folders states us (fault.OfTexts n e) out says = status_low out _ says.says.says (omega arith)
loading_low folders states us (fault.Repeated t) out says = status_low out _ says.says.says (omega arith)
loading_low folders states us (fault.TooLarge n) out says = status_low out _ says.says.says (omega arith)
loading_low folders states us (fault.Together e) out says = status_low out _ says.says.says (omega arith)

-- a refusal has a low status
pub refused_low : (s : Setting) (arguments : List (List ℕ)) (out : Printed) → IsRefused s arguments out → out.status < 128
refused_low s arguments out (NoRoots e root says) = unit_low e out says
refused_low s arguments out (Rooted paths warnings own roots (Unread e first says) is) =
    status_low out (behind_warnings warnings own) is (unit_low e own says)
refused_low s arguments out (Rooted paths warnings own roots (Read units loaded (Refused f none says)) is) =
    status_low out (behind_warnings warnings own) is (loading_low s.folders s.states units f own says)
refused_low s arguments out (Rooted paths warnings own roots (Read units loaded (Decides d decided given)) is) = absurd given

same_parts : (p q : Printed) → p.answers ≡ q.answers → p.faults ≡ q.faults → p.refusal ≡ q.refusal → p.status ≡ q.status → p ≡ q
same_parts p q a f r n =
    ap (λ (x : List ℕ). record { answers = x; faults = p.faults; refusal = p.refusal; status = p.status }) a
    ∙ ap (λ (x : List ℕ). record { answers = q.answers; faults = x; refusal = p.refusal; status = p.status }) f
    ∙ ap (λ (x : List ℕ). record { answers = q.answers; faults = q.faults; refusal = x; status = p.status }) r
    ∙ ap (λ (x : ℕ). record { answers = q.answers; faults = q.faults; refusal = q.refusal; status = x }) n

marked_once : (p q : Printed) → marked p ≡ marked q → p ≡ q
marked_once p q e =
    same_parts p q (ap (λ (x : Printed). x.answers) e) (ap (λ (x : Printed). x.faults) e) (ap (λ (x : Printed). x.refusal) e) (omega (arith, ap (λ (x : Printed). x.status) e))

-- what is printed of a side is a refusal, or what was given, marked
abbrev pub IsTwo : List ℕ → (Printed → Type 0) → Printed → Type 0
IsTwo side Of out = ((out.status < 128) × Of (behind side out)) ⊎ ((given : Printed) × (out ≡ marked given) × (given.status < 128) × Of given)

module _ (side : List ℕ) (Of : Printed → Type 0) (out told : Printed) (two : IsTwo side Of out)
    (given : 128 ≤ out.status → out ≡ marked told) (refused : out.status < 128 → told ≡ behind side out) where
  -- which it is is told by the status
  pub side_of : Of told × (told.status < 128)
  side_of =
      ⊎_elim
      (λ (r : (out.status < 128) × Of (behind side out)).
      (subst Of (sym (refused r.0)) r.1, subst (λ (n : ℕ). n < 128) (sym (ap (λ (p : Printed). p.status) (refused r.0))) r.0))
      (λ (g : (p : Printed) × (out ≡ marked p) × (p.status < 128) × Of p).
      let high : 128 ≤ out.status = subst (λ (n : ℕ). 128 ≤ n) (sym (ap (λ (p : Printed). p.status) g.1)) (omega arith) in
      let same : g.0 ≡ told = marked_once g.0 told (sym g.1 ∙ given high) in
      (subst Of same g.3, subst (λ (p : Printed). p.status < 128) same g.2))
      two

-- so of an output
module _ (side : List ℕ) (Of : Printed → Type 0) (r : Result Output NoMemoryLeft) (q : Printed)
    (given : IfOk r (λ (out : Output). 128 ≤ q.status → q ≡ marked (printed out))) (refused : IfOk r (λ (out : Output). q.status < 128 → printed out ≡ behind side q))
    (two : IsTwo side Of q) where
  pub sided : IfOk r (λ (out : Output). Of (printed out))
  sided = by r given refused
    where
      by : (x : Result Output NoMemoryLeft) → IfOk x (λ (out : Output). 128 ≤ q.status → q ≡ marked (printed out)) → IfOk x (λ (out : Output). q.status < 128 → printed out ≡ behind side q)
          → IfOk x (λ (out : Output). Of (printed out))
      by (Ok out) g h = (side_of side Of q (printed out) two g h).0
      by (Err e) g h = tt

  pub sided_low : IfOk r (λ (out : Output). out.status < 128)
  sided_low = by r given refused
    where
      by : (x : Result Output NoMemoryLeft) → IfOk x (λ (out : Output). 128 ≤ q.status → q ≡ marked (printed out)) → IfOk x (λ (out : Output). q.status < 128 → printed out ≡ behind side q)
          → IfOk x (λ (out : Output). out.status < 128)
      by (Ok out) g h = (side_of side Of q (printed out) two g h).1
      by (Err e) g h = tt

-- ---- all files of a side

module _ (side : List ℕ) (s : Setting) (arguments : List (List ℕ)) (gives : Decided → Printed → Type 0) where
  pub two_of : (out : Printed) → IsPrintedFor s arguments (IsMarked gives) out → IsTwo side (IsOfSide side s arguments gives) out
  two_of out printed =
      ⊎_elim
      (λ (refused : IsRefused s arguments out). inl (refused_low s arguments out refused, SideRefused out refused refl))
      (λ (h : (d : Decided) × IsGiven s arguments (IsMarked gives) d out).
      let own = behind_warnings h.1.read.warnings h.1.gives_it.given in
      inr (
        own,
        h.1.is ∙ ap (behind_warnings h.1.read.warnings) h.1.gives_it.is,
        h.1.gives_it.low,
        Compared h.0 (record { read = h.1.read; own = h.1.gives_it.given; gives_it = h.1.gives_it.gives_it; is = refl }),
      ))
      (split s arguments (IsMarked gives) out printed)

-- ---- those that aren't skipped

-- what is printed of them: that they are refused, or what their policy gives
part_split : (s : Setting) (arguments : List (List ℕ)) (gives : List Skipped → Decided → Printed → Type 0) (out : Printed) → IsPrintedOf s arguments gives out
    → (IsRefusedBeside s arguments out × (out.status < 128)) ⊎ IsGivenBeside s arguments gives out
part_split s arguments gives out (NoRootsOf e root says) = inl (NoRootsOf e root says, unit_low e out says)
part_split s arguments gives out (RootedOf paths warnings own roots at is) = by at.own at.by at.behind
  where
    by : (inner : Printed) → IsPrintedBy s.folders s.states at.units (gives at.skipped) inner → own ≡ behind_skipped at.skipped inner
        → (IsRefusedBeside s arguments out × (out.status < 128)) ⊎ IsGivenBeside s arguments gives out
    by inner (Refused f none says) behind_is =
        inl (
          RootedOf paths warnings own roots (record {
            good = at.good;
            refused = at.refused;
            sorted = at.sorted;
            units = at.units;
            skipped = at.skipped;
            parted = at.parted;
            own = inner;
            by = Refused f none says;
            behind = behind_is;
          }) is,
          status_low out (behind_warnings warnings own) is (status_low own (behind_skipped at.skipped inner) behind_is (loading_low s.folders s.states at.units f inner says)),
        )
    by inner (Decides d decided given) behind_is =
        inr (record {
          skipped = at.skipped;
          decided = d;
          read = record {
            paths = paths;
            warnings = warnings;
            roots = roots;
            good = at.good;
            refused = at.refused;
            sorted = at.sorted;
            units = at.units;
            parted = at.parted;
            decided = decided;
          };
          own = inner;
          gives_it = given;
          is = is ∙ ap (behind_warnings warnings) behind_is;
        })

module _ (side : List ℕ) (s : Setting) (arguments : List (List ℕ)) (gives : List Skipped → Decided → Printed → Type 0) where
  pub part_two : (out : Printed) → IsPrintedOf s arguments (λ ks d p. IsMarked (gives ks) d p) out → IsTwo side (IsOfPart side s arguments gives) out
  part_two out printed =
      ⊎_elim
      (λ (refused : IsRefusedBeside s arguments out × (out.status < 128)). inl (refused.1, PartRefused out refused.0 refl))
      (λ (h : IsGivenBeside s arguments (λ ks d p. IsMarked (gives ks) d p) out).
      let own = behind_warnings h.read.warnings (behind_skipped h.skipped h.gives_it.given) in
      inr (
        own,
        h.is ∙ ap (λ (p : Printed). behind_warnings h.read.warnings (behind_skipped h.skipped p)) h.gives_it.is,
        h.gives_it.low,
        PartCompared (record { skipped = h.skipped; decided = h.decided; read = h.read; own = h.gives_it.given; gives_it = h.gives_it.gives_it; is = refl }),
      ))
      (part_split s arguments (λ ks d p. IsMarked (gives ks) d p) out printed)

-- ---- either

module _ (side : List ℕ) (s : Setting) (arguments : List (List ℕ)) (gives : List Skipped → Decided → Printed → Type 0) (skips : Bool) where
  pub all_side : skips ≡ false → (out : Printed) → IsOfSide side s arguments (gives []) out → IsSide skips side s arguments gives out
  all_side e out is = subst (λ (b : Bool). IsSide b side s arguments gives out) (sym e) is

  pub part_side : skips ≡ true → (out : Printed) → IsOfPart side s arguments gives out → IsSide skips side s arguments gives out
  part_side e out is = subst (λ (b : Bool). IsSide b side s arguments gives out) (sym e) is
