-- What texts name, one text after another.
use Rattle.std.proofs.Common.{◌≡◌, ◌+◌, ◌<◌, ℕ, List, Vec, Bool, true, false, true≢false, [], ◌∷◌, ◌++◌, length, take, get_or}
use Rattle.std.proofs.Common.{refl, sym, ap, ◌∙◌, subst, arith, Result, Ok, Err}
use Rattle.std.specs.Prelude.{◌&&◌, flat_map, Contains, IfErr, if◌then◌else◌}
use Rattle.std.specs.Result.{IsErrAnd}
use Rattle.std.specs.declared.alloc.Global.{Global}
use Rattle.std.proofs.lemmas.List.{take_more, map-append, append-nil, get_or-map, length-map}
use Rattle.std.proofs.lemmas.List.Elements.{All-append, All-cons, All-nil}
use Rattle.std.proofs.lemmas.Grind.{flat_map-append}
use Rattle.aa_compile.specs.FileRules.{is_nil}
use Rattle.aa_files.specs.Texts.{texts}
use Rattle.aa_model.specs.declared.policy.Policy.{Policy}
use Rattle.aa_model.specs.declared.label.Label.{Label}
use Rattle.aa_skipped.specs.declared.skipped.Skipped.{Skipped}
use Rattle.aa_ask.specs.Asked.{no_profile}
use Rattle.aa_reach.specs.declared.fault.NameFault.{NameFault}
use Rattle.aa_reach.specs.declared.fault.NameFault.TheVariants.{NoMemory, Refused}
use Rattle.aa_reach.specs.Heads.{one_may_hold}
use Rattle.aa_reach.specs.Names.{labels_named, open_named, NamesNone, IsNamed, AreNamed, SaysNone, SaysOne}

-- ---- what one text names

none_of : {X : Type 0} (xs : List X) → length xs ≡ 0 → xs ≡ []
none_of [] e = refl
none_of (x ∷ xs) e = absurd (omega (arith, e))

closed : (labels : List Label) (held : Bool) (text : List ℕ) → 0 < length labels → [] ≡ (if is_nil labels && held then text ∷ [] else [])
closed [] held text some = absurd (omega (arith, some))
closed (l ∷ labels) held text some = refl

-- it names labels
pub names_read : (ps : List Policy) (skipped : List Skipped) (text : List ℕ) (labels : List Label) (opens : List (List ℕ))
    → labels ≡ labels_named ps text
    → 0 < length labels → opens ≡ [] → IsNamed ps skipped text labels opens
names_read ps skipped text labels opens e some none = record {
  named = e;
  left =
      none
      ∙ subst (λ (ls : List Label). [] ≡ (if is_nil ls && one_may_hold text skipped then text ∷ [] else [])) e
      (closed labels (one_may_hold text skipped) text some);
  some = λ it. absurd (omega (arith, some, ap length (e ∙ it.read)));
}

-- it names none, and is left open
pub names_held : (ps : List Policy) (skipped : List Skipped) (text : List ℕ) (labels now : List Label) (opens : List (List ℕ))
    → labels ≡ labels_named ps text
    → length labels ≡ 0 → one_may_hold text skipped ≡ true → now ≡ [] → opens ≡ text ∷ [] → IsNamed ps skipped text now opens
names_held ps skipped text labels now opens e none held is left =
    let read : labels_named ps text ≡ [] = sym e ∙ none_of labels none in
    record {
      named = is ∙ sym read;
      left =
          left
          ∙ sym (ap (λ (ls : List Label). if is_nil ls && one_may_hold text skipped then text ∷ [] else []) read
          ∙ ap (λ (b : Bool). if b then text ∷ [] else []) held);
      some = λ it. absurd (true≢false (sym held ∙ it.held));
    }

-- it names none
pub says_none : (ps : List Policy) (skipped : List Skipped) (text : List ℕ) (labels : List Label) (line : Vec ℕ Global) → labels ≡ labels_named ps text
    → length labels ≡ 0 → one_may_hold text skipped ≡ false → line.items ≡ no_profile text → SaysNone ps skipped text (Refused line)
says_none ps skipped text labels line e none held is = (record { read = sym e ∙ none_of labels none; held = held }, is)

-- ---- texts one after another

-- the text of that number stands behind those before it
pub one_more : (words : List (Vec ℕ Global)) (i : ℕ) (word : Vec ℕ Global) → i < length words → word ≡ get_or words i word
    → texts (take (i + 1) words) ≡ texts (take i words) ++ word.items ∷ []
one_more words i word lt item =
    ap texts (take_more words i word lt ∙ ap (λ (x : Vec ℕ Global). take i words ++ x ∷ []) (sym item))
    ∙ map-append (λ (v : Vec ℕ Global). v.items) (take i words) (word ∷ [])

one_list : {X : Type 0} (f : List ℕ → List X) (words : List (List ℕ)) (text : List ℕ) (before now more : List X)
    → now ≡ before ++ more → more ≡ f text → before ≡ flat_map f words → now ≡ flat_map f (words ++ text ∷ [])
one_list {X} f words text before now more e is are =
    e ∙ ap (λ (ls : List X). before ++ ls) is ∙ ap (λ (ls : List X). ls ++ f text) are
    ∙ ap (λ (ls : List X). flat_map f words ++ ls) (sym (append-nil (f text)))
    ∙ sym (flat_map-append f words (text ∷ []))

module _ (ps : List Policy) (skipped : List Skipped) where
  -- one text more names what it names behind what those before it do
  named_by : (words : List (List ℕ)) (text : List ℕ) (before now more : List Label) (left opens others : List (List ℕ))
      → now ≡ before ++ more → opens ≡ left ++ others → IsNamed ps skipped text more others → AreNamed ps skipped words before left
      → AreNamed ps skipped (words ++ text ∷ []) now opens
  named_by words text before now more left opens others e f is are = record {
    all = one_list (labels_named ps) words text before now more e is.named are.all;
    left = one_list (open_named ps skipped) words text left opens others f is.left are.left;
    some =
        let NamesOne = λ (t : List ℕ). NamesNone ps skipped t → ⊥ in
        All-append NamesOne words (text ∷ []) are.some (All-cons NamesOne text [] is.some (All-nil NamesOne));
  }

  pub named_more : (words : List (Vec ℕ Global)) (i : ℕ) (word : Vec ℕ Global) (text : List ℕ) (before now more : List Label)
      (left opens others : List (Vec ℕ Global)) → i < length words → word ≡ get_or words i word → text ≡ word.items
      → now ≡ before ++ more → opens ≡ left ++ others → IsNamed ps skipped text more (texts others)
      → AreNamed ps skipped (texts (take i words)) before (texts left) → AreNamed ps skipped (texts (take (i + 1) words)) now (texts opens)
  named_more words i word text before now more left opens others lt item is_text e f is are =
      subst (λ (ts : List (List ℕ)). AreNamed ps skipped ts now (texts opens))
      (ap (λ (t : List ℕ). texts (take i words) ++ t ∷ []) is_text ∙ sym (one_more words i word lt item))
      (named_by (texts (take i words)) text before now more (texts left) (texts opens) (texts others) e
      (ap texts f ∙ map-append (λ (v : Vec ℕ Global). v.items) left others) is are)

-- ---- refusals

-- what is said of one of the texts is said of all
pub says_one : (ps : List Policy) (skipped : List Skipped) (words : List (Vec ℕ Global)) (i : ℕ) (word : Vec ℕ Global) (text : List ℕ) (e : NameFault)
    → i < length words → word ≡ get_or words i word → text ≡ word.items → SaysNone ps skipped text e → SaysOne ps skipped (texts words) e
says_one ps skipped words i word text NoMemory lt item is says = tt
says_one ps skipped words i word text (Refused line) lt item is says =
    let items = λ (v : Vec ℕ Global). v.items in
    let within : i < length (texts words) = omega (arith, lt, length-map words items) in
    let at : Contains (texts words) word.items = (i, within, get_or-map items words i word word.items lt ∙ ap items (sym item)) in
    (text, subst (λ (t : List ℕ). Contains (texts words) t) (sym is) at, says)

pub handed_on : {T : Type 0} (r : Result T NameFault) (P Q : NameFault → Type 0) → IsErrAnd r P → ((y : NameFault) → P y → Q y) → IfErr r Q
handed_on (Ok t) P Q a h = tt
handed_on (Err e) P Q a h = h e a
