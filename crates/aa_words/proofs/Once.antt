-- A text has one list of words, and none where its reading stops.
use Rattle.std.proofs.Common.{◌≡◌, ◌≢◌, IfErr, ℕ, zero, suc, ◌+◌, ◌<◌, ◌⊎◌, inl, inr, Bool, true, false, List, [], ◌∷◌}
use Rattle.std.proofs.Common.{◌++◌, length, take, Option, Some, None, Result, Ok, Err, refl, sym, ap, subst, ◌∙◌, arith, append_assoc}
use Rattle.std.proofs.lemmas.List.{length-append}
use Rattle.aa_base.specs.declared.fault.PolicyFault.{PolicyFault}
use Rattle.aa_base.specs.declared.fault.PolicyKind.TheVariants.{NoMemory}
use Rattle.aa_base.specs.Kinds.{IsRefusal, no_memory}
use Rattle.aa_words.specs.declared.piece.Piece.{Piece}
use Rattle.aa_words.specs.declared.piece.Piece.TheVariants.{Include}
use Rattle.aa_words.specs.declared.piece.Place.{Place}
use Rattle.aa_words.specs.declared.reading.Reading.{Reading}
use Rattle.aa_words.specs.declared.reading.Count.{Count}
use Rattle.aa_words.specs.Splits.{start, extent, WordData, Part, spelled, IsPart, AreParts, piece_at, place_after, Opening, Setting, include_opens, is_include, IncludeGives, PieceGives, Gives, ReadsBy, Reads}
use Rattle.aa_words.specs.Stops.{LeadTo, ReadTo, IncludeFails, StopsBy, Fails, fault_at}
use Rattle.aa_words.proofs.Pieces.{some, none_some, part_long, IsFirst, first_part, AreSame, same_part}

include_is : (k : Piece) → Some k ≡ Some Include → k ≡ Include
include_is k e = cc

no_parts : (p : Part) (ps : List Part) (place : Place) → [] ≡ spelled (p ∷ ps) → IsPart place p (spelled ps) → ⊥
no_parts p ps place e part = omega (arith, ap length e, length-append p.text (spelled ps), part_long place p (spelled ps) part)

same_parts : (place : Place) (ps qs : List Part) → AreParts place ps → AreParts place qs → spelled ps ≡ spelled qs → ps ≡ qs
same_parts place [] [] first second e = refl
same_parts place [] (q ∷ qs) first second e = absurd (no_parts q qs place e second.0)
same_parts place (p ∷ ps) [] first second e = absurd (no_parts p ps place (sym e) first.0)
same_parts place (p ∷ ps) (q ∷ qs) first second e =
    let same : AreSame p q (spelled ps) (spelled qs) = same_part place p q (spelled ps) (spelled qs) first.0 second.0 e in
    let behind : AreParts (place_after place p.kind p.text) qs = subst (λ (x : Part). AreParts (place_after place x.kind x.text) qs) (sym same.part) second.1 in
    ap (λ (x : Part). x ∷ ps) same.part ∙ ap (λ (xs : List Part). q ∷ xs) (same_parts (place_after place p.kind p.text) ps qs first.1 behind same.behind)

-- all pieces of a text, where it is cut up to a place: those before it, and those behind
pub record Behind (ps qs : List Part) (place : Place) (rest : List ℕ) : Type 0 where
  pub others : List Part
  pub all : qs ≡ ps ++ others
  pub parts : AreParts place others
  pub bytes : rest ≡ spelled others

split_parts : (from place : Place) (ps qs : List Part) (rest : List ℕ) → LeadTo from ps rest place → AreParts from qs → spelled ps ++ rest ≡ spelled qs → Behind ps qs place rest
split_parts from place [] qs rest leads parts e = record { others = qs; all = refl; parts = subst (λ (q : Place). AreParts q qs) leads parts; bytes = e }
split_parts from place (p ∷ ps) [] rest leads parts e = absurd (omega (arith, ap length e, length-append (spelled (p ∷ ps)) rest, length-append p.text (spelled ps), part_long from p (spelled ps ++ rest) leads.0))
split_parts from place (p ∷ ps) (q ∷ qs) rest leads parts e =
    let same : AreSame p q (spelled ps ++ rest) (spelled qs) = same_part from p q (spelled ps ++ rest) (spelled qs) leads.0 parts.0 (sym (append_assoc p.text (spelled ps) rest) ∙ e) in
    let next : AreParts (place_after from p.kind p.text) qs = subst (λ (x : Part). AreParts (place_after from x.kind x.text) qs) (sym same.part) parts.1 in
    let behind : Behind ps qs place rest = split_parts (place_after from p.kind p.text) place ps qs rest leads.1 next same.behind in
    record { others = behind.others; all = ap (λ (x : Part). x ∷ qs) (sym same.part) ∙ ap (λ (xs : List Part). p ∷ xs) behind.all; parts = behind.parts; bytes = behind.bytes }

-- the same words, and so much was read
pub record Agree (ws vs : List WordData) (m k : Count) : Type 0 where
  pub words : ws ≡ vs
  pub count : m ≡ k

abbrev pub IsUnique : (Reading → List ℕ → Count → List WordData → Count → Type 0) → Type 0
IsUnique deeper = (r : Reading) (text : List ℕ) (n : Count) (ws vs : List WordData) (m k : Count) → deeper r text n ws m → deeper r text n vs k → Agree ws vs m k

module _ (deeper : Reading → List ℕ → Count → List WordData → Count → Type 0) (one : IsUnique deeper) (s : Setting) where
  include_once : (n : Count) (o : Result (Option Opening) PolicyFault) (ws vs : List WordData) (m k : Count) → IncludeGives deeper n o ws m → IncludeGives deeper n o vs k → Agree ws vs m k
  include_once n (Ok None) ws vs m k a b = record { words = a.0 ∙ sym b.0; count = a.1 ∙ sym b.1 }
  include_once n (Ok (Some o)) ws vs m k a b = one o.reading o.text o.count ws vs m k a b
  include_once n (Err fault) ws vs m k a b = absurd a

  piece_once : (at : ℕ) (kind : Piece) (text : List ℕ) (n : Count) (b : Bool) (ws vs : List WordData) (m k : Count) → PieceGives deeper s at kind text n b ws m → PieceGives deeper s at kind text n b vs k → Agree ws vs m k
  piece_once at kind text n true ws vs m k a b = include_once n (include_opens s at text n) ws vs m k a b
  piece_once at kind text n false ws vs m k a b = record { words = a.0 ∙ sym b.0; count = a.1 ∙ sym b.1 }

  pub gives_once : (at : ℕ) (ps : List Part) (n : Count) (ws vs : List WordData) (m k : Count) → Gives deeper s at ps n ws m → Gives deeper s at ps n vs k → Agree ws vs m k
  gives_once at [] n ws vs m k a b = record { words = a.0 ∙ sym b.0; count = a.1 ∙ sym b.1 }
  gives_once at (p ∷ ps) n ws vs m k a b =
      let first : Agree a.0 b.0 a.1 b.1 = piece_once at p.kind p.text n (is_include p.kind) a.0 b.0 a.1 b.1 a.3 b.3 in
      let behind : Gives deeper s (at + length p.text) ps a.1 b.2 k = subst (λ (c : Count). Gives deeper s (at + length p.text) ps c b.2 k) (sym first.count) b.4 in
      let rest : Agree a.2 b.2 m k = gives_once (at + length p.text) ps a.1 a.2 b.2 m k a.4 behind in
      record { words = a.5 ∙ ap (λ (w : List WordData). w ++ a.2) first.words ∙ ap (λ (w : List WordData). b.0 ++ w) rest.words ∙ sym b.5; count = rest.count }

  pub reads_by_once : (text : List ℕ) (n : Count) (ws vs : List WordData) (m k : Count) → ReadsBy deeper s text n ws m → ReadsBy deeper s text n vs k → Agree ws vs m k
  reads_by_once text n ws vs m k a b =
      let same : a.0 ≡ b.0 = same_parts start a.0 b.0 a.2 b.2 (sym a.1 ∙ b.1) in
      gives_once 0 a.0 n ws vs m k a.3 (subst (λ (ps : List Part). Gives deeper s 0 ps n vs k) (sym same) b.3)

  -- the words of the pieces before a place, and those of the pieces behind
  pub record Halves (at : ℕ) (ps others : List Part) (n : Count) (ws : List WordData) (m : Count) : Type 0 where
    pub front : List WordData
    pub back : List WordData
    pub count : Count
    pub before : Gives deeper s at ps n front count
    pub behind : Gives deeper s (at + length (spelled ps)) others count back m

  halves : (at : ℕ) (ps others : List Part) (n : Count) (ws : List WordData) (m : Count) → Gives deeper s at (ps ++ others) n ws m → Halves at ps others n ws m
  halves at [] others n ws m g = record { front = []; back = ws; count = n; before = (refl, refl); behind = subst (λ (i : ℕ). Gives deeper s i others n ws m) (omega arith) g }
  halves at (p ∷ ps) others n ws m g =
      let h : Halves (at + length p.text) ps others g.1 g.2 m = halves (at + length p.text) ps others g.1 g.2 m g.4 in
      let place : at + length p.text + length (spelled ps) ≡ at + length (spelled (p ∷ ps)) = omega (arith, length-append p.text (spelled ps)) in
      record { front = g.0 ++ h.front; back = h.back; count = h.count; before = (g.0, g.1, h.front, g.3, h.before, refl); behind = subst (λ (i : ℕ). Gives deeper s i others h.count h.back m) place h.behind }

  module _ (fails : Reading → List ℕ → Count → PolicyFault → Type 0)
      (none : (r : Reading) (text : List ℕ) (n : Count) (ws : List WordData) (m : Count) (fault : PolicyFault) → fails r text n fault
      → deeper r text n ws m → ⊥) where
    include_none : (n : Count) (o : Result (Option Opening) PolicyFault) (ws : List WordData) (m : Count) (fault : PolicyFault) → IncludeFails fails o fault → IncludeGives deeper n o ws m → ⊥
    include_none n (Ok None) ws m fault f g = f
    include_none n (Ok (Some o)) ws m fault f g = none o.reading o.text o.count ws m fault f g
    include_none n (Err own) ws m fault f g = g

    stop_none : (place : Place) (at : ℕ) (rest : List ℕ) (n m : Count) (ws : List WordData) (fault : PolicyFault) (others : List Part)
        → AreParts place others → rest ≡ spelled others → 0 < length rest → Gives deeper s at others n ws m
        → ((piece_at place rest ≡ None) × (fault ≡ fault_at s.reading place at rest)) ⊎ ((piece_at place rest ≡ Some Include) × IncludeFails fails (include_opens s at (take (extent Include rest) rest) n) fault) → ⊥
    stop_none place at rest n m ws fault [] parts e more g stop = omega (arith, ap length e)
    stop_none place at rest n m ws fault (p ∷ ps) parts e more g (inl stop) = none_some p.kind (sym stop.0 ∙ (first_part place p (spelled ps) rest parts.0 e).stands)
    stop_none place at rest n m ws fault (p ∷ ps) parts e more g (inr stop) =
        let first : IsFirst place p (spelled ps) rest = first_part place p (spelled ps) rest parts.0 e in
        let kind : p.kind ≡ Include = include_is p.kind (sym first.stands ∙ stop.0) in
        let text : p.text ≡ take (extent Include rest) rest = first.text ∙ ap (λ (k : Piece). take (extent k rest) rest) kind in
        let given : PieceGives deeper s at p.kind p.text n true g.0 g.1 = subst (λ (b : Bool). PieceGives deeper s at p.kind p.text n b g.0 g.1) (ap is_include kind) g.3 in
        let opened : IncludeGives deeper n (include_opens s at (take (extent Include rest) rest) n) g.0 g.1 = subst (λ (t : List ℕ). IncludeGives deeper n (include_opens s at t n) g.0 g.1) text given in
        include_none n (include_opens s at (take (extent Include rest) rest) n) g.0 g.1 fault stop.1 opened

    pub stops_none : (text : List ℕ) (n : Count) (ws : List WordData) (m : Count) (fault : PolicyFault) → StopsBy deeper fails s text n fault → ReadsBy deeper s text n ws m → ⊥
    stops_none text n ws m fault stop reads =
        let read = stop.read in
        let behind : Behind read.parts reads.0 stop.place stop.rest = split_parts start stop.place read.parts reads.0 stop.rest read.leads reads.2 (sym read.whole ∙ reads.1) in
        let all : Gives deeper s 0 (read.parts ++ behind.others) n ws m = subst (λ (ps : List Part). Gives deeper s 0 ps n ws m) behind.all reads.3 in
        let h : Halves 0 read.parts behind.others n ws m = halves 0 read.parts behind.others n ws m all in
        let agree : Agree h.front stop.found h.count stop.count = gives_once 0 read.parts n h.front stop.found h.count stop.count h.before read.gives in
        let counted : Gives deeper s (0 + length (spelled read.parts)) behind.others stop.count h.back m = subst (λ (c : Count). Gives deeper s (0 + length (spelled read.parts)) behind.others c h.back m) agree.count h.behind in
        let placed : Gives deeper s stop.at behind.others stop.count h.back m = subst (λ (i : ℕ). Gives deeper s i behind.others stop.count h.back m) (omega (arith, read.place_is)) counted in
        stop_none stop.place stop.at stop.rest stop.count m h.back fault behind.others behind.parts behind.bytes stop.more placed stop.stop

-- a reading gives one list of words
pub reads_once : (d : ℕ) (sources : List (List ℕ × List ℕ)) → IsUnique (Reads d sources)
unfolding Reads
reads_once zero sources r text n ws vs m k a b = absurd a
reads_once (suc d) sources r text n ws vs m k a b = reads_by_once (Reads d sources) (reads_once d sources) (record { sources = sources; depth = d; reading = r }) text n ws vs m k a b

-- a reading that stops gives no words
pub fails_none : (d : ℕ) (sources : List (List ℕ × List ℕ)) (r : Reading) (text : List ℕ) (n : Count) (ws : List WordData) (m : Count)
    (fault : PolicyFault) → Fails d sources r text n fault → Reads d sources r text n ws m → ⊥
unfolding Reads Fails
fails_none zero sources r text n ws m fault f g = f
fails_none (suc d) sources r text n ws m fault f g =
    stops_none (Reads d sources) (reads_once d sources) (record { sources = sources; depth = d; reading = r }) (Fails d sources) (fails_none d sources) text n ws m fault f g

-- where a reading stops, and what it gives, as the code comes to it

pub fails_here : (d : ℕ) (sources : List (List ℕ × List ℕ)) (r : Reading) (text : List ℕ) (n : Count) (fault : PolicyFault)
    → StopsBy (Reads d sources) (Fails d sources) (record { sources = sources; depth = d; reading = r }) text n fault → Fails (suc d) sources r text n fault
unfolding Fails
fails_here d sources r text n fault stop = stop

pub reads_here : (d : ℕ) (sources : List (List ℕ × List ℕ)) (r : Reading) (text : List ℕ) (n m : Count) (ws : List WordData)
    → ReadsBy (Reads d sources) (record { sources = sources; depth = d; reading = r }) text n ws m → Reads (suc d) sources r text n ws m
unfolding Reads
reads_here d sources r text n m ws reads = reads

include_kind : (k : Piece) → is_include k ≡ true → k ≡ Include
include_kind Include e = refl
include_kind _ e = absurd cc

pub include_stops : (d : ℕ) (sources : List (List ℕ × List ℕ)) (r : Reading) (text : List ℕ) (n : Count) (place : Place) (at : ℕ) (rest : List ℕ)
    (found : List WordData) (k : Count) (kind : Piece) (len : ℕ) (front : List ℕ) (fault : PolicyFault)
    → piece_at place rest ≡ Some kind → len ≡ extent kind rest → front ≡ take len rest → 0 < length rest → ReadTo (Reads d sources) (record { sources = sources; depth = d; reading = r }) text n place at rest found k
    → (fault ≡ no_memory) ⊎ ((is_include kind ≡ true) × IncludeFails (Fails d sources) (include_opens (record { sources = sources; depth = d; reading = r }) at front k) fault)
    → (fault ≡ no_memory) ⊎ Fails (suc d) sources r text n fault
include_stops d sources r text n place at rest found k kind len front fault stands len-is front-is more read (inl memory) = inl memory
include_stops d sources r text n place at rest found k kind len front fault stands len-is front-is more read (inr fails) =
    let s : Setting = record { sources = sources; depth = d; reading = r } in
    let same : kind ≡ Include = include_kind kind fails.0 in
    let text_is : front ≡ take (extent Include rest) rest = front-is ∙ ap (λ (i : ℕ). take i rest) (len-is ∙ ap (λ (x : Piece). extent x rest) same) in
    let own : IncludeFails (Fails d sources) (include_opens s at (take (extent Include rest) rest) k) fault = subst (λ (t : List ℕ). IncludeFails (Fails d sources) (include_opens s at t k) fault) text_is fails.1 in
    inr (fails_here d sources r text n fault (record {
      place = place;
      at = at;
      rest = rest;
      found = found;
      count = k;
      read = read;
      more = more;
      stop = inr (stands ∙ ap (λ (x : Piece). some x) same, own);
    }))

-- a fault that a call hands on
pub handed_on : {T : Type 0} (r : Result T PolicyFault) (e f : PolicyFault) (P : PolicyFault → Type 0) → r ≡ Err e → e ≡ f → P f → IfErr r P
handed_on {T} r e f P eq same h = subst (λ (x : Result T PolicyFault). IfErr x P) (sym eq) (subst P (sym same) h)

-- refused for another cause than memory, a reading gives no words
pub refused_none : {T : Type 0} (r : Result T PolicyFault) (e f : PolicyFault) (d : ℕ) (sources : List (List ℕ × List ℕ)) (q : Reading)
    (text : List ℕ) (n : Count) (ws : List WordData) (m : Count) → r ≡ Err e → e ≡ f → IsRefusal r
    → (f ≡ no_memory) ⊎ Fails d sources q text n f → Reads d sources q text n ws m → ⊥
refused_none {T} r e f d sources q text n ws m eq same h (inl memory) reads =
    let P : Result T PolicyFault → Type 0 = λ x. IsRefusal x in
    let other : f.kind ≢ NoMemory = subst (λ (x : PolicyFault). x.kind ≢ NoMemory) same (subst P eq h) in
    other (ap (λ (x : PolicyFault). x.kind) memory)
refused_none r e f d sources q text n ws m eq same h (inr fails) reads = fails_none d sources q text n ws m f fails reads
