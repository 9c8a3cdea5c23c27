-- Words that are answered one after another.
use Rattle.std.proofs.Common.{◌≡◌, ℕ, zero, suc, ◌+◌, ◌<◌, ◌≤◌, List, [], ◌∷◌, ◌++◌, length, map, Bool}
use Rattle.std.proofs.Common.{take, drop, get_or, Vec, Result, Ok, Err, ap, sym, subst, ◌∙◌, arith}
use Rattle.std.specs.Prelude.{IfErr}
use Rattle.std.specs.Result.{IsErrAnd}
use Rattle.std.specs.declared.alloc.Global.{Global}
use Rattle.std.proofs.lemmas.List.{take_more, take_all, map-append}
use Rattle.std.proofs.lemmas.Slice.Zip.{all_zipped_more}
use Rattle.aa_files.specs.Texts.{texts}
use Rattle.aa_command.specs.declared.decided.Decided.{Decided}
use Rattle.aa_who.specs.declared.answering.WordAnswer.{WordAnswer}
use Rattle.aa_who.specs.declared.fault.WhoFault.{WhoFault}
use Rattle.aa_who.specs.declared.fault.WhoFault.TheVariants.{NoMemory, Refused}
use Rattle.aa_quantifiers.specs.declared.word.Word.{Word}
use Rattle.aa_who.specs.Words.{IsRead}
use Rattle.aa_who.specs.Counts.{SaysNoPath}
use Rattle.aa_who.specs.Answers.{Unasked, answered, IsAnswerTo, AreAnswers, IsNoAnswer, SaysNoAnswer, SaysFirst}

-- the word of that number stands behind those before it
one_more : (words : List (Vec ℕ Global)) (i : ℕ) (word : Vec ℕ Global) → i < length words → word ≡ get_or words i word
    → texts (take (i + 1) words) ≡ texts (take i words) ++ word.items ∷ []
one_more words i word lt item =
    ap texts (take_more words i word lt ∙ ap (λ (x : Vec ℕ Global). take i words ++ x ∷ []) (sym item)) ∙ map-append (λ (v : Vec ℕ Global). v.items) (take i words) (word ∷ [])

one_answer : (before now : List WordAnswer) (a : WordAnswer) → now ≡ before ++ a ∷ [] → map answered now ≡ map answered before ++ answered a ∷ []
one_answer before now a more = ap (λ (x : List WordAnswer). map answered x) more ∙ map-append answered before (a ∷ [])

pub answers_next : (d : Decided) (limit : ℕ) (unclean : Bool) (words : List (Vec ℕ Global)) (i : ℕ) (word : Vec ℕ Global) (text : List ℕ)
    (before now : List WordAnswer) (a : WordAnswer) → i < length words → word ≡ get_or words i word → text ≡ word.items
    → now ≡ before ++ a ∷ [] → IsAnswerTo d limit unclean text (answered a)
    → AreAnswers d limit unclean (texts (take i words)) (map answered before) → AreAnswers d limit unclean (texts (take (i + 1) words)) (map answered now)
answers_next d limit unclean words i word text before now a lt item is_text more is are =
    rw (one_more words i word lt item, one_answer before now a more)
    (all_zipped_more (IsAnswerTo d limit unclean) (texts (take i words)) (map answered before) word.items (answered a) are
    (subst (λ (t : List ℕ). IsAnswerTo d limit unclean t (answered a)) is_text is))

pub answers_all : (d : Decided) (limit : ℕ) (unclean : Bool) (words : List (Vec ℕ Global)) (i : ℕ) (answers : List WordAnswer) → length words ≤ i
    → AreAnswers d limit unclean (texts (take i words)) (map answered answers) → AreAnswers d limit unclean (texts words) (map answered answers)
answers_all d limit unclean words i answers le are =
    subst (λ (ws : List (Vec ℕ Global)). AreAnswers d limit unclean (texts ws) (map answered answers)) (take_all i words le) are

-- the words are those before one, the one, and those behind it
parted : (words : List (Vec ℕ Global)) (i : ℕ) (word : Vec ℕ Global) → i < length words → word ≡ get_or words i word
    → texts words ≡ texts (take i words) ++ word.items ∷ texts (drop (suc i) words)
parted [] i word lt item = absurd (omega (arith, lt))
parted (w ∷ ws) zero word lt item = ap (λ (v : Vec ℕ Global). v.items ∷ texts ws) (sym item)
parted (w ∷ ws) (suc i) word lt item = ap (λ (l : List (List ℕ)). w.items ∷ l) (parted ws i word (omega (arith, lt)) item)

-- what is said of a word is said of the first that isn't answered
pub said_first : (d : Decided) (limit : ℕ) (unclean : Bool) (words : List (Vec ℕ Global)) (i : ℕ) (word : Vec ℕ Global) (text : List ℕ)
    (answers : List WordAnswer) (e : WhoFault) → i < length words → word ≡ get_or words i word → text ≡ word.items
    → AreAnswers d limit unclean (texts (take i words)) (map answered answers) → SaysNoAnswer text e
    → SaysFirst d limit unclean (texts words) e
said_first d limit unclean words i word text answers NoMemory lt item is_text before why = tt
said_first d limit unclean words i word text answers (Refused line) lt item is_text before why = record {
  earlier = texts (take i words);
  text = word.items;
  later = texts (drop (suc i) words);
  among = parted words i word lt item;
  answers = map answered answers;
  before = before;
  why = subst (λ (t : List ℕ). IsNoAnswer t line.items) is_text why;
}

pub handed_on : {T : Type 0} (r : Result T WhoFault) (P Q : WhoFault → Type 0) → IsErrAnd r P → ((y : WhoFault) → P y → Q y) → IfErr r Q
handed_on (Ok t) P Q a h = tt
handed_on (Err e) P Q a h = h e a

-- a word that is read, and asks nothing, isn't answered
pub asks_nothing : {T : Type 0} (r : Result T WhoFault) (text : List ℕ) (w : Word) → IsRead text w → IfErr r (SaysNoPath w text) → IfErr r (SaysNoAnswer text)
asks_nothing (Ok t) text w read h = tt
asks_nothing (Err NoMemory) text w read h = tt
asks_nothing (Err (Refused line)) text w read h = Unasked w read h.0 h.1
